-- The three forms of records.
use Rattle.std.specs.Prelude.{◌≡◌, ℕ, ◌≤◌, Bool, true, false, if◌then◌else◌, List, [], length, codes, nat_le}
use Rattle.octets.specs.declared.checks.CheckOctets.{CheckOctets}
use Rattle.octets.specs.Checks.{right, check_octets}
use Rattle.octets.specs.Fields.{Whole}
use Rattle.frame.specs.Messages.{LspPdu, covered_part}
use Rattle.frame.specs.Trip.{LspFits}
use Rattle.record.specs.declared.body.Body.{Body}
use Rattle.record.specs.declared.form.Form.{Form}
use Rattle.record.specs.declared.form.Form.TheVariants.{Live, Purge, Placeholder}
use Rattle.record.specs.declared.record.Record.{Record}
use Rattle.record.specs.declared.state.State.{State}
use Rattle.record.specs.declared.state.State.TheVariants.{Live as live, Purge as purge, Placeholder as placeholder}
use Rattle.record.specs.Bodies.{body_octets, pdu}
pub use Rattle.record.specs.States.{no_check}
use Rattle.record.specs.States.{number_in, lifetime_in, check_in, flags_in, body_in, wait_in}
use Rattle.record.specs.Ports.{has_port}
use Rattle.record.specs.Flags.{may_send}

-- what a record holds
abbrev pub number_of : Record → ℕ
number_of x = number_in x.state

abbrev pub lifetime_of : Record → ℕ
lifetime_of x = lifetime_in x.state

abbrev pub check_of : Record → CheckOctets
check_of x = check_in x.state

abbrev pub flags_of : Record → ℕ
flags_of x = flags_in x.state

abbrev pub body_of : Record → Body
body_of x = body_in x.state

abbrev pub wait_of : Record → ℕ
wait_of x = wait_in x.state

-- what a record says as an LSP
abbrev pub record_said : Record → LspPdu
record_said x = pdu x.id (number_of x) (lifetime_of x) (check_of x) (flags_of x) (body_of x)

abbrev pub is_live : Record → Bool
is_live x = nat_le 1 (lifetime_of x)

abbrev pub form_in : State → Form
form_in (live number lifetime check flags body) = Live
form_in (purge number flags wait) = Purge
form_in (placeholder wait) = Placeholder

abbrev pub form_of : Record → Form
form_of x = form_in x.state

-- the form by number and lifetime: number 0 is a placeholder's, lifetime 0 a purge's
abbrev pub form_by : ℕ → ℕ → Form
form_by number lifetime = if nat_le 1 lifetime then Live else if nat_le 1 number then Purge else Placeholder

-- a form as text: L, P or H
abbrev pub form_letter : Form → List ℕ
form_letter Live = codes "L"
form_letter Purge = codes "P"
form_letter Placeholder = codes "H"

-- nothing is left of an LSP but its number and flag octet, for a wait of 1 to 60
pub record Bare (x : Record) : Type 0 where
  pub lifetime : lifetime_of x ≡ 0
  pub check : check_of x ≡ no_check
  pub body : body_octets (body_of x) ≡ []
  pub wait : (1 ≤ wait_of x) × (wait_of x ≤ 60)

-- what each form has
abbrev pub HasForm : Form → Record → Type 0
HasForm Live x =
    (1 ≤ number_of x) × (1 ≤ lifetime_of x) × (lifetime_of x ≤ 1200) × (wait_of x ≡ 0) × (right 13 (covered_part (record_said x)) ≡ true)
HasForm Purge x = (1 ≤ number_of x) × Bare x
HasForm Placeholder x = (number_of x ≡ 0) × (flags_of x ≡ 0) × Bare x × ((k : ℕ) → has_port x.srm k ≡ false)

-- what holds of every record: its form, which its number and its lifetime alone tell, that it may be sent where it has a number,
-- a body of whole fields, and that all but placeholders can be said as LSPs
pub record WellFormed (x : Record) : Type 0 where
  pub form : HasForm (form_of x) x
  pub told : form_of x ≡ form_by (number_of x) (lifetime_of x)
  pub sent : may_send x ≡ nat_le 1 (number_of x)
  pub whole : Whole (body_octets (body_of x))
  pub short : length (body_octets (body_of x)) ≤ 100
  pub fits : 1 ≤ number_of x → LspFits (record_said x)

-- no flag is set
pub record Unflagged (x : Record) : Type 0 where
  pub srm : (k : ℕ) → has_port x.srm k ≡ false
  pub ssn : (k : ℕ) → has_port x.ssn k ≡ false

-- a record as it is made from what an LSP says
pub record Made (m : LspPdu) (key : List ℕ) (x : Record) : Type 0 where
  pub said : record_said x ≡ m
  pub id : x.id ≡ key
  pub wait : wait_of x ≡ 0
  pub none : Unflagged x

-- an issue: flag octet 01, lifetime 1,200, computed check octets
abbrev pub unchecked_issue : List ℕ → ℕ → Body → LspPdu
unchecked_issue id number body = pdu id number 1200 no_check 1 body

abbrev pub issued : List ℕ → ℕ → Body → LspPdu
issued id number body = pdu id number 1200 (check_octets 13 (covered_part (unchecked_issue id number body))) 1 body

-- a purge or a placeholder as it is made: nothing left, wait 60
pub record Emptied (key : List ℕ) (n flag : ℕ) (x : Record) : Type 0 where
  pub id : x.id ≡ key
  pub number : number_of x ≡ n
  pub lifetime : lifetime_of x ≡ 0
  pub check : check_of x ≡ no_check
  pub flags : flags_of x ≡ flag
  pub body : body_octets (body_of x) ≡ []
  pub wait : wait_of x ≡ 60
  pub none : Unflagged x

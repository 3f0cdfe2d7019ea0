-- Records as the network's rules see them: their three forms, which of two is newer, and their flags.
-- An identifier is the number that its eight octets write, so that order, ranges and 'end + 1' are plain arithmetic; octets matter in frames alone.
use Rattle.std.specs.Prelude.{◌≡◌, ℕ, ◌+◌, ◌*◌, ◌/◌, ◌%◌, ◌≤◌, Bool, cond, ◌&&◌, ◌⊎◌, List, [], Some, None, Option, ◌==◌, nat_le, nat_lt}
use Rattle.octets.specs.declared.checks.CheckOctets.{CheckOctets}
use Rattle.record.specs.declared.form.Recency.{Recency}
use Rattle.record.specs.Forms.{no_check}
use Rattle.record.specs.Order.{recency}
use Rattle.model.specs.Flags.{Flags, no_flags, join}

pub record HeldRecord : Type 0 where
  pub id : ℕ
  pub number : ℕ
  pub lifetime : ℕ
  pub check : CheckOctets
  pub flag_octet : ℕ
  pub body : List ℕ
  pub wait : ℕ
  pub srm : Flags
  pub ssn : Flags

-- the last number
abbrev pub last_number : ℕ
last_number = 4294967295

-- live: number at least 1, lifetime 1 to 1,200, wait 0
pub record Live (x : HeldRecord) : Type 0 where
  pub numbered : (1 ≤ x.number) × (x.number ≤ last_number)
  pub lifetime : (1 ≤ x.lifetime) × (x.lifetime ≤ 1200)
  pub wait : x.wait ≡ 0

-- what a purge and a placeholder share: lifetime and check octets 0, body empty, wait 1 to 60
pub record Empty (x : HeldRecord) : Type 0 where
  pub lifetime : x.lifetime ≡ 0
  pub check : x.check ≡ no_check
  pub body : x.body ≡ []
  pub wait : (1 ≤ x.wait) × (x.wait ≤ 60)

-- a purge: number at least 1
pub record Purge (x : HeldRecord) : Type 0 where
  pub empty : Empty x
  pub numbered : (1 ≤ x.number) × (x.number ≤ last_number)

-- a placeholder: number and flag octet 0, and it never has SRM
pub record Placeholder (x : HeldRecord) : Type 0 where
  pub empty : Empty x
  pub number : x.number ≡ 0
  pub flag_octet : x.flag_octet ≡ 0
  pub unsent : x.srm ≡ no_flags

abbrev pub HasForm : HeldRecord → Type 0
HasForm x = Live x ⊎ (Purge x ⊎ Placeholder x)

-- the forms as tests: a live record alone has a lifetime, a placeholder alone has number 0
abbrev pub is_live : HeldRecord → Bool
is_live x = nat_le 1 x.lifetime

abbrev pub is_placeholder : HeldRecord → Bool
is_placeholder x = x.number == 0

-- a purge as it is made: wait 60, no flags
abbrev pub purge : ℕ → ℕ → ℕ → HeldRecord
purge i n flag =
    record {
      id = i;
      number = n;
      lifetime = 0;
      check = no_check;
      flag_octet = flag;
      body = [];
      wait = 60;
      srm = no_flags;
      ssn = no_flags;
    }

-- the purge of a record's number, which keeps its flag octet
abbrev pub purge_of : HeldRecord → HeldRecord
purge_of x = purge x.id x.number x.flag_octet

-- a placeholder as it is made
abbrev pub placeholder : ℕ → HeldRecord
placeholder i = purge i 0 0

-- how a number and a lifetime that are heard stand to a record that is held; lifetime 0 is a purge's
abbrev pub order : ℕ → ℕ → HeldRecord → Recency
order n l x = recency n (nat_le 1 l) x.number (is_live x)

-- flags and wait changed, all else kept
abbrev pub marked : HeldRecord → Flags → Flags → ℕ → HeldRecord
marked x srm ssn w =
    record {
      id = x.id;
      number = x.number;
      lifetime = x.lifetime;
      check = x.check;
      flag_octet = x.flag_octet;
      body = x.body;
      wait = w;
      srm = srm;
      ssn = ssn;
    }

abbrev pub with_srm : Flags → HeldRecord → HeldRecord
with_srm fs x = marked x fs x.ssn x.wait

abbrev pub with_ssn : Flags → HeldRecord → HeldRecord
with_ssn fs x = marked x x.srm fs x.wait

-- flooded: SRM set on all ports in service
abbrev pub flooded : Flags → HeldRecord → HeldRecord
flooded serving x = with_srm (join x.srm serving) x

-- stored over another, a record keeps the flags of that one
abbrev pub stored_over : Option HeldRecord → HeldRecord → HeldRecord
stored_over None x = x
stored_over (Some y) x = marked x y.srm y.ssn x.wait

-- the identifier that slot k of a system owns: system identifier, 00, k
abbrev pub slot_id : ℕ → ℕ → ℕ
slot_id system k = system * 65536 + k

-- the slot of a system that owns an identifier
abbrev pub owning_slot : ℕ → ℕ → Option ℕ
owning_slot system i = cond (i / 256 == system * 256 && nat_lt (i % 256) 4) (Some (i % 256)) None

-- the system identifier in an identifier
abbrev pub system_in : ℕ → ℕ
system_in i = i / 65536

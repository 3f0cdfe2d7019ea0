-- What a record's state holds, by its form: 0, the check octets 0 0 and the empty body where the form has none.
use Rattle.std.specs.Prelude.{ℕ, Bool, true, false, ◌&&◌, ◌||◌, List, ◌==◌, nat_le}
use Rattle.octets.specs.declared.checks.CheckOctets.{CheckOctets}
use Rattle.octets.specs.Checks.{right}
use Rattle.frame.specs.Messages.{LspPdu, covered_part}
use Rattle.record.specs.declared.body.Body.{Body}
use Rattle.record.specs.declared.port.Ports.{Ports}
use Rattle.record.specs.declared.state.State.{State}
use Rattle.record.specs.declared.state.State.TheVariants.{Live, Purge, Placeholder}
use Rattle.record.specs.Bodies.{empty_body, pdu}

abbrev pub no_check : CheckOctets
no_check = record { x = 0; y = 0 }

abbrev pub number_in : State → ℕ
number_in (Live number lifetime check flags body) = number
number_in (Purge number flags wait) = number
number_in (Placeholder wait) = 0

abbrev pub lifetime_in : State → ℕ
lifetime_in (Live number lifetime check flags body) = lifetime
lifetime_in (Purge number flags wait) = 0
lifetime_in (Placeholder wait) = 0

abbrev pub check_in : State → CheckOctets
check_in (Live number lifetime check flags body) = check
check_in (Purge number flags wait) = no_check
check_in (Placeholder wait) = no_check

abbrev pub flags_in : State → ℕ
flags_in (Live number lifetime check flags body) = flags
flags_in (Purge number flags wait) = flags
flags_in (Placeholder wait) = 0

abbrev pub body_in : State → Body
body_in (Live number lifetime check flags body) = body
body_in (Purge number flags wait) = empty_body
body_in (Placeholder wait) = empty_body

abbrev pub wait_in : State → ℕ
wait_in (Live number lifetime check flags body) = 0
wait_in (Purge number flags wait) = wait
wait_in (Placeholder wait) = wait

-- live: the number is at least 1, the lifetime is 1 to 1,200, and the check octets are right
unfoldable pub live_form : LspPdu → Bool
live_form m = nat_le 1 m.number && (nat_le 1 m.lifetime && (nat_le m.lifetime 1200 && right 13 (covered_part m)))

-- a wait of 1 to 60
unfoldable pub waits : ℕ → Bool
waits wait = nat_le 1 wait && nat_le wait 60

-- what a state has, beside an identifier
abbrev pub formed : List ℕ → State → Bool
formed id (Live number lifetime check flags body) = live_form (pdu id number lifetime check flags body)
formed id (Purge number flags wait) = nat_le 1 number && waits wait
formed id (Placeholder wait) = waits wait

-- a placeholder is never to be sent
abbrev pub may_be_sent : State → Bool
may_be_sent (Live number lifetime check flags body) = true
may_be_sent (Purge number flags wait) = true
may_be_sent (Placeholder wait) = false

abbrev pub quiet : State → Ports → Bool
quiet state srm = may_be_sent state || srm.bits == 0

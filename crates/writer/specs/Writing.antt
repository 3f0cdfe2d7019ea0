-- Writing a message into a buffer's front.
use Rattle.std.specs.Prelude.{◌≡◌, ℕ, ◌^◌, ◌<◌, true, if◌then◌else◌, List, ◌∷◌, ◌++◌, length, drop, is_ok, Ok, Option, Result, nat_lt}
use Rattle.fault.specs.declared.FrameFault.{FrameFault}
use Rattle.fault.specs.declared.FrameFault.TheVariants.{Size}
use Rattle.fault.specs.Order.{fails, first_fault, unless}
use Rattle.octets.specs.declared.checks.CheckOctets.{CheckOctets}
use Rattle.frame.specs.Messages.{LspPdu, Pdu, encode}
use Rattle.frame.specs.Reading.{faults, decode}

-- a buffer under 275 octets is refused, and so is what reading the written frame would refuse
abbrev pub write_fault : ℕ → Pdu → Option FrameFault
write_fault room m = first_fault (fails (nat_lt room 275) Size ∷ faults (encode m))

-- the octets w in the front of a buffer, and what stood behind them
abbrev pub in_front : List ℕ → List ℕ → List ℕ
in_front w old = w ++ drop (length w) old

-- what writing a message answers and leaves
pub record Writes (m : Pdu) (old new : List ℕ) (answer : Result ℕ FrameFault) : Type 0 where
  pub is : answer ≡ unless (write_fault (length old) m) (length (encode m))
  pub after : new ≡ (if is_ok answer then in_front (encode m) old else old)
  -- what was written reads back as it was
  pub back : is_ok answer ≡ true → decode (encode m) ≡ Ok m

-- an LSP's numbers fit their octets
pub record Sized (m : LspPdu) : Type 0 where
  pub lifetime : m.lifetime < 65536
  pub id : m.id < 256 ^ 8
  pub number : m.number < 256 ^ 4

-- an LSP with these check octets
abbrev pub with_check_octets : CheckOctets → LspPdu → LspPdu
with_check_octets c m = record { lifetime = m.lifetime; id = m.id; number = m.number; check = c; flags = m.flags; body = m.body }

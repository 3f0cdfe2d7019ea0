-- Fields: a code octet, a length octet, then that many octets. A body is whole fields.
use Rattle.std.specs.Prelude.{◌≡◌, ℕ, zero, suc, ◌+◌, Bool, true, cond, ◌&&◌, List, [], ◌∷◌, ◌++◌, length, take, drop, Some, None, Option, nat_le, nat_lt, slice_index}
use Rattle.fault.specs.declared.FrameFault.{FrameFault}
use Rattle.fault.specs.declared.FrameFault.TheVariants.{Field, Body}
use Rattle.fault.specs.Order.{fails, first_fault}

-- a field stands whole at the front
abbrev pub stands : List ℕ → Bool
stands p = nat_le 2 (length p) && nat_le (2 + slice_index p 1) (length p)

-- the value of the first field, and the octets after it
abbrev pub value_part : List ℕ → List ℕ
value_part p = take (slice_index p 1) (drop 2 p)

abbrev pub after : List ℕ → List ℕ
after p = drop (2 + slice_index p 1) p

-- a field that is read off the front of a part: its code, its value, and what remains
pub record Front (p : List ℕ) (code : ℕ) (value rest : List ℕ) : Type 0 where
  pub whole : stands p ≡ true
  pub code_is : code ≡ slice_index p 0
  pub value_is : value ≡ value_part p
  pub rest_is : rest ≡ after p
  pub value_length : length value ≡ slice_index p 1
  pub rest_length : length rest + (2 + slice_index p 1) ≡ length p

-- whole fields
pub data Whole : List ℕ → Type 0 where
  none : Whole []
  field : (code : ℕ) (value rest : List ℕ) → Whole rest → Whole (code ∷ length value ∷ (value ++ rest))

-- the first broken field of octets whose first stands at a place; no more than `fuel` fields
abbrev pub broken_within : ℕ → ℕ → List ℕ → Option FrameFault
broken_within fuel at [] = None
broken_within zero at (x ∷ xs) = Some (Field at)
broken_within (suc fuel) at (x ∷ xs) =
    cond (stands (x ∷ xs)) (broken_within fuel (at + (2 + slice_index (x ∷ xs) 1)) (after (x ∷ xs))) (Some (Field at))

abbrev pub broken_field : ℕ → List ℕ → Option FrameFault
broken_field at body = broken_within (length body) at body

-- a body's faults, its first octet at a place: over 100 octets, or a broken field
abbrev pub body_faults : ℕ → List ℕ → List (Option FrameFault)
body_faults at body = fails (nat_lt 100 (length body)) (Body at) ∷ broken_field at body ∷ []

abbrev pub body_fault : ℕ → List ℕ → Option FrameFault
body_fault at body = first_fault (body_faults at body)

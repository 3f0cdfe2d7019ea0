-- The check octets of a part b1 to bL. They stand at places p and p + 1, counted from 1.
-- The sums are not reduced at each octet: modulo 255 that is the same.
use Rattle.std.specs.Prelude.{◌≡◌, ℕ, ◌+◌, ◌-◌, ◌*◌, ◌%◌, Bool, true, cond, not, ◌&&◌, List, [], ◌∷◌, ◌++◌, length, take, drop, ◌==◌, nat_le, slice_index}
use Rattle.octets.specs.Octets.{Octets}
use Rattle.octets.specs.declared.checks.CheckOctets.{CheckOctets}
use Rattle.octets.specs.declared.checks.Sums.{Sums}

-- the sum of all bi
abbrev pub plain : List ℕ → ℕ
plain [] = 0
plain (b ∷ bs) = b + plain bs

-- the sum of (L − i + 1) × bi: the first octet as often as there are octets, the last once
abbrev pub weighted : List ℕ → ℕ
weighted [] = 0
weighted (b ∷ bs) = (length bs + 1) * b + weighted bs

-- C0 and C1
abbrev pub c0_of : List ℕ → ℕ
c0_of part = plain part % 255

abbrev pub c1_of : List ℕ → ℕ
c1_of part = weighted part % 255

abbrev pub sums_of : List ℕ → Sums
sums_of part = record { c0 = c0_of part; c1 = c1_of part }

-- the sums, running on over a part
abbrev pub sums_then : Sums → List ℕ → Sums
sums_then s part = record { c0 = (s.c0 + plain part) % 255; c1 = (s.c1 + length part * s.c0 + weighted part) % 255 }

-- 0 is written as 255
abbrev pub written : ℕ → ℕ
written n = cond (n == 0) 255 n

-- X = k × C0 − C1 and Y = C1 − (k + 1) × C0 modulo 255, where k = L − p octets stand behind the first check octet
abbrev pub made_octets : ℕ → ℕ → ℕ → CheckOctets
made_octets k c0 c1 =
    record {
      x = written ((k * c0 + (255 - c1)) % 255);
      y = written ((c1 + (255 - ((k + 1) * c0) % 255)) % 255);
    }

-- a part has the places p and p + 1
abbrev pub has_places : ℕ → List ℕ → Bool
has_places p part = nat_le 1 p && nat_le (p + 1) (length part)

-- a part with these check octets in place of its own
abbrev pub with_check : ℕ → CheckOctets → List ℕ → List ℕ
with_check p c part = take (p - 1) part ++ c.x ∷ c.y ∷ drop (p + 1) part

-- a part with its check octets taken as 0
abbrev pub unchecked : ℕ → List ℕ → List ℕ
unchecked p part = with_check p (record { x = 0; y = 0 }) part

-- the check octets of a part, its own taken as 0
abbrev pub check_octets : ℕ → List ℕ → CheckOctets
check_octets p part = made_octets (length part - p) (c0_of (unchecked p part)) (c1_of (unchecked p part))

-- the check octets that a part has
abbrev pub own_check : ℕ → List ℕ → CheckOctets
own_check p part = record { x = slice_index part (p - 1); y = slice_index part p }

-- both sums are 0, and neither check octet is
abbrev pub right : ℕ → List ℕ → Bool
right p part =
    has_places p part
    && (c0_of part == 0 && (c1_of part == 0 && (not ((own_check p part).x == 0) && not ((own_check p part).y == 0))))

-- computed check octets make a part right
abbrev pub ComputedRight : Type 0
ComputedRight = (p : ℕ) (part : List ℕ) → has_places p part ≡ true → right p (with_check p (check_octets p part) part) ≡ true

-- a part that is right has exactly the computed check octets
abbrev pub RightComputed : Type 0
RightComputed = (p : ℕ) (part : List ℕ) → Octets part → right p part ≡ true → own_check p part ≡ check_octets p part

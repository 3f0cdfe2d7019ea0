-- Octets, and the numbers that they write, the most significant octet first.
use Rattle.std.specs.Prelude.{ℕ, zero, suc, ◌+◌, ◌*◌, ◌/◌, ◌%◌, ◌<◌, List, [], ◌∷◌, ◌++◌, take, drop}
use Rattle.std.specs.List.{AllByRecursion}

-- each is an octet
abbrev pub Octets : List ℕ → Type 0
Octets xs = AllByRecursion (λ x. x < 256) xs

-- octets as one number, after those that made a
abbrev pub onward : ℕ → List ℕ → ℕ
onward a [] = a
onward a (x ∷ xs) = onward (a * 256 + x) xs

-- octets as one number
abbrev pub value : List ℕ → ℕ
value xs = onward 0 xs

-- a number in n octets
abbrev pub octets : ℕ → ℕ → List ℕ
octets zero v = []
octets (suc n) v = octets n (v / 256) ++ (v % 256) ∷ []

-- n elements from an offset on
abbrev pub part : {A : Type 0} → ℕ → ℕ → List A → List A
part at n xs = take n (drop at xs)

-- the number in the n octets from an offset on
abbrev pub field : ℕ → ℕ → List ℕ → ℕ
field at n f = value (part at n f)

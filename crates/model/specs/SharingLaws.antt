-- The PSNPs of a turn, said without a procedure: together they report exactly the records with SSN at the port, in order;
-- each but the last has 15 entries, and the last has 1 to 15.
use Rattle.std.specs.Prelude.{◌≡◌, ℕ, ◌≤◌, List, [], ◌∷◌, ◌++◌, length}
use Rattle.model.specs.Databases.{Database}
use Rattle.model.specs.Sharing.{reported_on, psnp_parts}

-- a list cut into parts of exactly n, the last of 1 to n
pub data Cut {A : Type 0} (n : ℕ) : List A → List (List A) → Type 0 where
  none : Cut n [] []
  last : {xs : List A} → 1 ≤ length xs → length xs ≤ n → Cut n xs (xs ∷ [])
  more : {part xs : List A} {parts : List (List A)} → length part ≡ n → 1 ≤ length xs → Cut n xs parts → Cut n (part ++ xs) (part ∷ parts)

abbrev pub PsnpsOf15 : Type 0
PsnpsOf15 = (p : ℕ) (d : Database) → Cut 15 (reported_on p d) (psnp_parts p d)

-- A router's database: its records, with strictly rising identifiers.
use Rattle.std.specs.Prelude.{ℕ, Bool, cond, List, [], ◌∷◌, is_some, Some, None, Option, ◌==◌, nat_lt}
use Rattle.model.specs.Records.{HeldRecord}

abbrev pub Database : Type 0
Database = List HeldRecord

-- the record of an identifier, or none
abbrev pub find : ℕ → Database → Option HeldRecord
find i [] = None
find i (x ∷ xs) = cond (x.id == i) (Some x) (find i xs)

abbrev pub holds : ℕ → Database → Bool
holds i xs = is_some (find i xs)

-- a record replaces the one of its identifier, or is inserted
abbrev pub placed : HeldRecord → Database → Database
placed x [] = x ∷ []
placed x (y ∷ ys) = cond (x.id == y.id) (x ∷ ys) (cond (nat_lt x.id y.id) (x ∷ y ∷ ys) (y ∷ placed x ys))

-- the record of an identifier is deleted
abbrev pub without : ℕ → Database → Database
without i [] = []
without i (x ∷ xs) = cond (x.id == i) xs (x ∷ without i xs)

-- the record of an identifier is changed
abbrev pub amended : (HeldRecord → HeldRecord) → ℕ → Database → Database
amended f i [] = []
amended f i (x ∷ xs) = cond (x.id == i) (f x ∷ xs) (x ∷ amended f i xs)

-- Lists of records by rising identifier. Of a record only the identifier matters here.
use Rattle.std.specs.Prelude.{ℕ, suc, Bool, true, cond, ◌&&◌, List, [], ◌∷◌, Some, None, Option, ◌==◌, nat_lt, slice_get, slice_index_or}
use Rattle.octets.specs.Octets.{value}
use Rattle.record.specs.declared.record.Record.{Record}

-- an identifier as one number
abbrev pub key_of : Record → ℕ
key_of x = value x.id

abbrev pub above : ℕ → List Record → Bool
above k [] = true
above k (y ∷ ys) = nat_lt k (key_of y)

-- whether the identifiers rise strictly
abbrev pub rises : List Record → Bool
rises [] = true
rises (x ∷ xs) = above (key_of x) xs && rises xs

-- the record of an identifier
abbrev pub lookup : ℕ → List Record → Option Record
lookup k [] = None
lookup k (x ∷ xs) = cond (key_of x == k) (Some x) (lookup k xs)

-- the records with one more, or with one in the place of that of its identifier
abbrev pub placed : Record → List Record → List Record
placed r [] = r ∷ []
placed r (x ∷ xs) = cond (key_of x == key_of r) (r ∷ xs) (cond (nat_lt (key_of r) (key_of x)) (r ∷ x ∷ xs) (x ∷ placed r xs))

-- the records without that of an identifier
abbrev pub without : ℕ → List Record → List Record
without k [] = []
without k (x ∷ xs) = cond (key_of x == k) xs (x ∷ without k xs)

-- where the record of an identifier stands, or how many records there are
abbrev pub place_of : ℕ → List Record → ℕ
place_of k [] = 0
place_of k (x ∷ xs) = cond (key_of x == k) 0 (suc (place_of k xs))

-- the n-th record, from 0
abbrev pub nth : List Record → ℕ → Option Record
nth = slice_get

-- a list for each router
abbrev pub Lists : Type 0
Lists = List (List Record)

abbrev pub of_router : Lists → ℕ → List Record
of_router t r = slice_index_or t r []

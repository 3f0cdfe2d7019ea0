-- How identifiers and check octets are shown, in upper-case hexadecimal.
use Rattle.std.specs.Prelude.{ℕ, ◌+◌, ◌/◌, ◌%◌, cond, List, [], ◌∷◌, ◌++◌, nat_lt, slice_index}
use Rattle.octets.specs.declared.checks.CheckOctets.{CheckOctets}

-- a digit: 0 to 9, then A to F
abbrev pub digit : ℕ → ℕ
digit d = cond (nat_lt d 10) (48 + d) (55 + d)

-- an octet in two digits
abbrev pub octet_text : ℕ → List ℕ
octet_text n = digit (n / 16) ∷ digit (n % 16) ∷ []

-- check octets: F606
abbrev pub check_text : CheckOctets → List ℕ
check_text c = octet_text c.x ++ octet_text c.y

-- two octets of a list, from an offset on
abbrev pub pair_text : List ℕ → ℕ → List ℕ
pair_text xs at = octet_text (slice_index xs at) ++ octet_text (slice_index xs (at + 1))

-- a source: 0000.0000.0001.00, with dots (46)
abbrev pub source_text : List ℕ → List ℕ
source_text xs = pair_text xs 0 ++ 46 ∷ (pair_text xs 2 ++ 46 ∷ (pair_text xs 4 ++ 46 ∷ octet_text (slice_index xs 6)))

-- an LSP's identifier: 0000.0000.0001.00-00, with a dash (45)
abbrev pub id_text : List ℕ → List ℕ
id_text xs = source_text xs ++ 45 ∷ octet_text (slice_index xs 7)

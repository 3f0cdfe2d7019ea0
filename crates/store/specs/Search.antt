-- What a search by identifier finds among records, by what the calls of a store do there.
use Rattle.std.specs.Prelude.{◌≡◌, ℕ, ◌<◌, ◌≤◌, true, List, length, is_some, Some, None, slice_index_or, slice_set, insert, remove}
use Rattle.record.specs.declared.record.Record.{Record}
use Rattle.store.specs.Lists.{key_of, lookup, placed, without}

-- the record of an identifier stands at a place
pub record IsAt (xs : List Record) (k i : ℕ) : Type 0 where
  pub in_range : i < length xs
  pub there : is_some (lookup k xs) ≡ true
  pub found : (d : Record) → lookup k xs ≡ Some (slice_index_or xs i d)
  pub replaced : (r : Record) → key_of r ≡ k → placed r xs ≡ slice_set xs i r
  pub removed : without k xs ≡ remove xs i

-- no record has an identifier, and one that has it belongs at a place
pub record IsGap (xs : List Record) (k i : ℕ) : Type 0 where
  pub in_range : i ≤ length xs
  pub missing : lookup k xs ≡ None
  pub inserted : (r : Record) → key_of r ≡ k → placed r xs ≡ insert xs i r
  pub kept : without k xs ≡ xs

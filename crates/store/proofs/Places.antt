-- What a search by identifier finds among records in their order.
use Rattle.std.proofs.Common.{◌≡◌, ℕ, zero, suc, ◌<◌, ◌≤◌, true, List, [], ◌∷◌, length, get_or, set, is_some, Some, None, Result, Ok, Err, MatchResult, sym, ap, refl, arith}
use Rattle.std.specs.List.{insert, remove}
use Rattle.std.specs.List.Sorted.{IsSearchInRange, IsBinarySearchResult, IsNonDecreasingBy}
use Rattle.std.specs.Ordering.{nat_cmp, ordering_index}
use Rattle.std.proofs.lemmas.Bool.Decides.{nat_tests}
use Rattle.std.proofs.lemmas.Bool.{and_parts, ltb-true}
use Rattle.std.proofs.lemmas.Cmp.{ranked}
use Rattle.std.proofs.lemmas.Grind.{common_steps}
use Rattle.record.specs.declared.record.Record.{Record}
use Rattle.store.specs.Lists.{key_of, above, rises, lookup, placed, without}
use Rattle.store.specs.Search.{IsAt, IsGap}
use Rattle.store.proofs.Placing.{rises_tail, rises-placed}
use Rattle.store.proofs.Removing.{rises-without}

-- later identifiers are larger
above_all : (k : ℕ) (xs : List Record) (i : ℕ) (d : Record) → above k xs ≡ true → rises xs ≡ true → i < length xs → k < key_of (get_or xs i d)
above_all k [] i d a h l = absurd (omega arith)
above_all k (x ∷ xs) zero d a h l = ltb-true _ _ a
above_all k (x ∷ xs) (suc i) d a h l =
    let q = ltb-true k (key_of x) a in
    omega (arith, above_all (key_of x) xs i d (and_parts _ _ h).0 (rises_tail x xs h) (omega arith))

rising : (xs : List Record) (i j : ℕ) (d : Record) → rises xs ≡ true → i < j → j < length xs → key_of (get_or xs i d) < key_of (get_or xs j d)
rising [] i j d h l m = absurd (omega arith)
rising (x ∷ xs) i zero d h l m = absurd (omega arith)
rising (x ∷ xs) zero (suc j) d h l m = above_all (key_of x) xs j d (and_parts _ _ h).0 (rises_tail x xs h) (omega arith)
rising (x ∷ xs) (suc i) (suc j) d h l m = rising xs i j d (rises_tail x xs h) (omega arith) (omega arith)

-- an identifier k stands at i
record Here (xs : List Record) (k i : ℕ) : Type 0 where
  pub in_range : i < length xs
  pub same : (d : Record) → key_of (get_or xs i d) ≡ k

here_tail : {k i : ℕ} {x : Record} {xs : List Record} → Here (x ∷ xs) k (suc i) → Here xs k i
here_tail p = record { in_range = omega (arith, p.in_range); same = p.same }

first_below : (k : ℕ) (x : Record) (xs : List Record) (i : ℕ) → rises (x ∷ xs) ≡ true → Here (x ∷ xs) k (suc i) → key_of x < k
first_below k x xs i h p = omega (arith, rising (x ∷ xs) 0 (suc i) x h (omega arith) p.in_range, p.same x)

found : (k : ℕ) (xs : List Record) (i : ℕ) → rises xs ≡ true → Here xs k i → (d : Record) → lookup k xs ≡ Some (get_or xs i d)
found k [] i h p d = absurd (omega (arith, p.in_range))
found k (x ∷ xs) zero h p d = grind (arith, nat_tests, p.same x)
found k (x ∷ xs) (suc i) h p d = grind (arith, nat_tests, first_below k x xs i h p, found k xs i (rises_tail x xs h) (here_tail p) d)

there : (k : ℕ) (xs : List Record) (i : ℕ) → rises xs ≡ true → Here xs k i → is_some (lookup k xs) ≡ true
there k [] i h p = absurd (omega (arith, p.in_range))
there k (x ∷ xs) i h p = ap is_some (found k (x ∷ xs) i h p x)

replaced : (k : ℕ) (xs : List Record) (i : ℕ) → rises xs ≡ true → Here xs k i → (r : Record) → key_of r ≡ k → placed r xs ≡ set xs i r
replaced k [] i h p r e = absurd (omega (arith, p.in_range))
replaced k (x ∷ xs) zero h p r e = grind (arith, nat_tests, p.same x)
replaced k (x ∷ xs) (suc i) h p r e = grind (arith, nat_tests, first_below k x xs i h p, replaced k xs i (rises_tail x xs h) (here_tail p) r e)

removed : (k : ℕ) (xs : List Record) (i : ℕ) → rises xs ≡ true → Here xs k i → without k xs ≡ remove xs i
removed k [] i h p = absurd (omega (arith, p.in_range))
removed k (x ∷ xs) zero h p = grind (arith, nat_tests, p.same x)
removed k (x ∷ xs) (suc i) h p = grind (arith, nat_tests, first_below k x xs i h p, removed k xs i (rises_tail x xs h) (here_tail p))

-- an identifier k belongs at i
record Between (xs : List Record) (k i : ℕ) : Type 0 where
  pub in_range : i ≤ length xs
  pub before : (j : ℕ) (d : Record) → j < i → key_of (get_or xs j d) < k
  pub behind : (j : ℕ) (d : Record) → i ≤ j → j < length xs → k < key_of (get_or xs j d)

between_tail : {k i : ℕ} {x : Record} {xs : List Record} → Between (x ∷ xs) k (suc i) → Between xs k i
between_tail p = record {
  in_range = omega (arith, p.in_range);
  before = λ j d l. p.before (suc j) d (omega arith);
  behind = λ j d l m. p.behind (suc j) d (omega arith) (omega arith);
}

all_behind : {k : ℕ} {x : Record} {xs : List Record} → Between (x ∷ xs) k 0 → Between xs k 0
all_behind p = record {
  in_range = omega arith;
  before = λ j d l. absurd (omega arith);
  behind = λ j d l m. p.behind (suc j) d (omega arith) (omega arith);
}

missing : (k : ℕ) (xs : List Record) (i : ℕ) → Between xs k i → lookup k xs ≡ None
missing k [] i p = refl
missing k (x ∷ xs) zero p = grind (arith, nat_tests, p.behind 0 x, missing k xs zero (all_behind p))
missing k (x ∷ xs) (suc i) p = grind (arith, nat_tests, p.before 0 x, missing k xs i (between_tail p))

inserted : (k : ℕ) (xs : List Record) (i : ℕ) → Between xs k i → (r : Record) → key_of r ≡ k → placed r xs ≡ insert xs i r
inserted k [] zero p r e = refl
inserted k [] (suc i) p r e = absurd (omega (arith, p.in_range))
inserted k (x ∷ xs) zero p r e = grind (arith, nat_tests, p.behind 0 x)
inserted k (x ∷ xs) (suc i) p r e = grind (arith, nat_tests, p.before 0 x, inserted k xs i (between_tail p) r e)

kept : (k : ℕ) (xs : List Record) → lookup k xs ≡ None → without k xs ≡ xs
kept k [] h = refl
kept k (x ∷ xs) h = grind (arith, nat_tests, kept k xs)

module _ (k : ℕ) (xs : List Record) (h : rises xs ≡ true) where
  at : (i : ℕ) → Here xs k i → IsAt xs k i
  at i p = record { in_range = p.in_range; there = there k xs i h p; found = found k xs i h p; replaced = replaced k xs i h p; removed = removed k xs i h p }

  gap : (i : ℕ) → Between xs k i → IsGap xs k i
  gap i p = let m = missing k xs i p in record { in_range = p.in_range; missing = m; inserted = inserted k xs i p; kept = kept k xs m }

  -- the comparisons with an identifier rise along the list
  comparisons_rise : IsNonDecreasingBy (λ x. ordering_index (nat_cmp (key_of x) k)) xs
  comparisons_rise i j d le l = grind (arith, nat_tests, rising xs i j d h, λ (same : i ≡ j). ap (λ (n : ℕ). key_of (get_or xs n d)) same)

  pub searched : (r : Result ℕ ℕ) → IsSearchInRange r (length xs) → IsBinarySearchResult (λ x. nat_cmp (key_of x) k) xs r → MatchResult r (IsAt xs k) (IsGap xs k)
  searched (Ok i) l equal = at i (record { in_range = l; same = λ d. ranked _ k _ (sym (equal d)) })
  searched (Err i) l parted = gap i (record {
    in_range = l;
    before = λ j d lt. ranked _ k _ (sym ((parted comparisons_rise).0 j d (omega arith) lt));
    behind = λ j d le m. ranked _ k _ (sym ((parted comparisons_rise).1 j d le m));
  })

pub ruleset row_steps = (common_steps, rises-placed, rises-without)

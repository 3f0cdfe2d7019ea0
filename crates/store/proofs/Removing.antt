-- Search in a list of records, and removal from it.
use Rattle.std.specs.Prelude.{◌≡◌, ℕ, zero, suc, ◌+◌, ◌-◌, ◌<◌, ◌≤◌, Bool, true, false, cond, List, [], ◌∷◌, length, get_or, take, drop, Some, None, ◌==◌, slice_index_or, slice_set, refl}
use Rattle.std.proofs.Common.{sym, ◌∙◌, ap, arith}
use Rattle.std.specs.List.{remove}
use Rattle.std.proofs.lemmas.Bool.Decides.{nat_tests}
use Rattle.std.proofs.lemmas.Bool.{and_parts, cond-true, cond-false, ltb-true}
use Rattle.std.proofs.lemmas.List.{drop_more, drop_all, take_all, take_more, take_more_set, drop-set-lt}
use Rattle.std.proofs.lemmas.List.Edits.{length-remove, get_or-remove_above}
use Rattle.record.specs.declared.record.Record.{Record}
use Rattle.store.specs.Lists.{key_of, rises, above, lookup, without, place_of, nth}
use Rattle.store.proofs.Placing.{above_lower}

-- the search so far
module _ (k : ℕ) (xs : List Record) (i : ℕ) (J : place_of k xs ≡ i + place_of k (drop i xs)) where
  pub seek_here : (x : Record) → i < length xs → x ≡ slice_index_or xs i x → (key_of x == k) ≡ true → i ≡ place_of k xs
  seek_here x l e t =
      let d : drop i xs ≡ x ∷ drop (i + 1) xs = (let p = drop_more xs i x l in cc) in
      let p : place_of k (drop i xs) ≡ 0 = ap (place_of k) d ∙ cond-true _ _ _ t in
      omega arith

  pub seek_more : (x : Record) → i < length xs → x ≡ slice_index_or xs i x → (key_of x == k) ≡ false → place_of k xs ≡ (i + 1) + place_of k (drop (i + 1) xs)
  seek_more x l e t =
      let d : drop i xs ≡ x ∷ drop (i + 1) xs = (let p = drop_more xs i x l in cc) in
      let p : place_of k (drop i xs) ≡ suc (place_of k (drop (i + 1) xs)) = ap (place_of k) d ∙ cond-false _ _ _ t in
      omega arith

  pub seek_none : length xs ≡ i → length xs ≡ place_of k xs
  seek_none e = let p : place_of k (drop i xs) ≡ 0 = ap (place_of k) (drop_all i xs (omega arith)) in omega arith

-- a record stands at the place of its identifier
pub found_at : (k : ℕ) (xs : List Record) (d : Record) → place_of k xs < length xs → lookup k xs ≡ Some (slice_index_or xs (place_of k xs) d)
found_at k [] d l = absurd (omega arith)
found_at k (x ∷ xs) d l = go (key_of x == k) refl (λ h. found_at k xs d h)
  where
    go :
        (b : Bool) → (key_of x == k) ≡ b →
        (place_of k xs < length xs → lookup k xs ≡ Some (slice_index_or xs (place_of k xs) d)) →
        cond b (Some x) (lookup k xs) ≡ Some (slice_index_or (x ∷ xs) (cond b 0 (suc (place_of k xs))) d)
    go true p i = refl
    go false p i =
        let s : place_of k (x ∷ xs) ≡ suc (place_of k xs) = cond-false _ _ _ p in
        i (omega arith)

pub found_none : (k : ℕ) (xs : List Record) → length xs ≤ place_of k xs → lookup k xs ≡ None
found_none k [] l = refl
found_none k (x ∷ xs) l = go (key_of x == k) refl (λ h. found_none k xs h)
  where
    go :
        (b : Bool) → (key_of x == k) ≡ b → (length xs ≤ place_of k xs → lookup k xs ≡ None) →
        cond b (Some x) (lookup k xs) ≡ None
    go true p i = let s : place_of k (x ∷ xs) ≡ 0 = cond-true _ _ _ p in absurd (omega arith)
    go false p i = let s : place_of k (x ∷ xs) ≡ suc (place_of k xs) = cond-false _ _ _ p in i (omega arith)

-- without the record at that place
pub without_at : (k : ℕ) (xs : List Record) → place_of k xs < length xs → without k xs ≡ remove xs (place_of k xs)
without_at k [] l = absurd (omega arith)
without_at k (x ∷ xs) l = go (key_of x == k) refl (λ h. without_at k xs h)
  where
    go :
        (b : Bool) → (key_of x == k) ≡ b →
        (place_of k xs < length xs → without k xs ≡ remove xs (place_of k xs)) →
        cond b xs (x ∷ without k xs) ≡ remove (x ∷ xs) (cond b 0 (suc (place_of k xs)))
    go true p i = refl
    go false p i =
        let s : place_of k (x ∷ xs) ≡ suc (place_of k xs) = cond-false _ _ _ p in
        ap (λ (z : List Record). x ∷ z) (i (omega arith))

pub without-none : (k : ℕ) (xs : List Record) → length xs ≤ place_of k xs → without k xs ≡ xs
without-none k [] l = refl
without-none k (x ∷ xs) l = go (key_of x == k) refl (λ h. without-none k xs h)
  where
    go :
        (b : Bool) → (key_of x == k) ≡ b → (length xs ≤ place_of k xs → without k xs ≡ xs) →
        cond b xs (x ∷ without k xs) ≡ x ∷ xs
    go true p i = let s : place_of k (x ∷ xs) ≡ 0 = cond-true _ _ _ p in absurd (omega arith)
    go false p i =
        let s : place_of k (x ∷ xs) ≡ suc (place_of k xs) = cond-false _ _ _ p in
        ap (λ (z : List Record). x ∷ z) (i (omega arith))

above_tail : (j : ℕ) (x : Record) (xs : List Record) → above j (x ∷ xs) ≡ true → rises (x ∷ xs) ≡ true → above j xs ≡ true
above_tail j x xs a h = above_lower j (key_of x) xs (ltb-true _ _ a) (and_parts _ _ h).0

above-without : (j k : ℕ) (xs : List Record) → above j xs ≡ true → rises xs ≡ true → above j (without k xs) ≡ true
above-without j k [] a h = refl
above-without j k (x ∷ []) a h = grind (arith, nat_tests)
above-without j k (x ∷ y ∷ xs) a h = grind (arith, nat_tests)

pub rises-without : (k : ℕ) (xs : List Record) → rises xs ≡ true → rises (without k xs) ≡ true
rises-without k [] h = refl
rises-without k (x ∷ xs) h = grind (arith, nat_tests, above-without (key_of x) k xs, rises-without k xs)

-- one turn of the pass that closes a gap; y stands at i + 1
module _
    (xs cur : List Record)
    (at i : ℕ)
    (y : Record)
    (l : i + 1 < length xs)
    (n : length cur ≡ length xs)
    (A : at ≤ i)
    (J : take i cur ≡ take i (remove xs at))
    (K : drop i cur ≡ drop i xs)
    (Y : y ≡ slice_index_or cur (i + 1) y)
  where
    long : length (remove xs at) + 1 ≡ length xs
    long = length-remove xs at (omega arith)

    rest : drop (i + 1) cur ≡ drop (i + 1) xs
    rest = let p = drop_more cur i y (omega arith) in let q = drop_more xs i y (omega arith) in cc

    same : get_or cur (i + 1) y ≡ slice_index_or xs (i + 1) y
    same = let p = drop_more cur (i + 1) y (omega arith) in let q = drop_more xs (i + 1) y (omega arith) in let r = rest in cc

    pub closed_more : take (i + 1) (slice_set cur i y) ≡ take (i + 1) (remove xs at)
    closed_more =
        let p = take_more_set cur i y (omega arith) in
        let q = take_more (remove xs at) i y (omega (arith, long)) in
        let r = get_or-remove_above xs at y i A (omega arith) in
        let s = same in
        cc

    pub closed_rest : drop (i + 1) (slice_set cur i y) ≡ drop (i + 1) xs
    closed_rest = drop-set-lt (i + 1) cur i y (omega arith) ∙ rest

-- the gap is closed
pub closed_all :
    (xs cur : List Record) (at i n : ℕ) → at < length xs → length cur ≡ length xs → i ≡ n → n ≡ length xs - 1 →
    take i cur ≡ take i (remove xs at) → take n cur ≡ remove xs at
closed_all xs cur at i n l m e f J =
    ap (λ (k : ℕ). take k cur) (sym e) ∙ J ∙ take_all i (remove xs at) (omega (arith, length-remove xs at l))

pub nth-at : (xs : List Record) (i : ℕ) (d : Record) → i < length xs → nth xs i ≡ Some (slice_index_or xs i d)
nth-at [] i d l = absurd (omega arith)
nth-at (x ∷ xs) zero d l = refl
nth-at (x ∷ xs) (suc i) d l = nth-at xs i d (omega arith)

pub nth_past : (xs : List Record) (i : ℕ) → length xs ≤ i → nth xs i ≡ None
nth_past [] i l = refl
nth_past (x ∷ xs) zero l = absurd (omega arith)
nth_past (x ∷ xs) (suc i) l = nth_past xs i (omega arith)

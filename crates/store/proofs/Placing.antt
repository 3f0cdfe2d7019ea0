-- Insertion into a list of records by rising identifier.
use Rattle.std.specs.Prelude.{◌≡◌, ℕ, zero, suc, ◌+◌, ◌<◌, ◌≤◌, Bool, true, false, cond, List, [], ◌∷◌, ◌++◌, length, take, drop, set, is_some, ◌==◌, nat_eq, nat_lt, slice_index_or, slice_set, refl}
use Rattle.std.proofs.Common.{sym, ◌∙◌, ap, append_assoc, inl, inr, arith, add-one}
use Rattle.std.proofs.lemmas.Bool.Decides.{nat_tests}
use Rattle.std.proofs.lemmas.Bool.{cases_Bool, and_parts, false≢true, cond-true, cond-false, ltb-true, lt-ltb, ne_eqb}
use Rattle.std.proofs.lemmas.List.{drop_more, take_more, take_more_set, drop-set-lt, set_split, take_all, drop_all, set-get_or}
use Rattle.record.specs.declared.record.Record.{Record}
use Rattle.store.specs.Lists.{key_of, rises, above, placed, lookup}

pub rises_tail : (x : Record) (xs : List Record) → rises (x ∷ xs) ≡ true → rises xs ≡ true
rises_tail x xs h = (and_parts _ _ h).1

pub rises-drop : (i : ℕ) (xs : List Record) → rises xs ≡ true → rises (drop i xs) ≡ true
rises-drop zero xs h = h
rises-drop (suc i) [] h = refl
rises-drop (suc i) (x ∷ xs) h = rises-drop i xs (rises_tail x xs h)

placed_first : (x : Record) (xs : List Record) → rises (x ∷ xs) ≡ true → placed x xs ≡ x ∷ xs
placed_first x [] h = refl
placed_first x (y ∷ ys) h =
    let l : key_of x < key_of y = ltb-true _ _ (and_parts _ _ h).0 in
    cond-false _ _ _ (ne_eqb (key_of y) (key_of x) (omega arith)) ∙ cond-true _ _ _ (lt-ltb _ _ l)

placed_same : (r x : Record) (xs : List Record) → (key_of x == key_of r) ≡ true → placed r (x ∷ xs) ≡ r ∷ xs
placed_same r x xs e = cond-true _ _ _ e

placed-before : (r x : Record) (xs : List Record) → nat_lt (key_of r) (key_of x) ≡ true → placed r (x ∷ xs) ≡ r ∷ x ∷ xs
placed-before r x xs h =
    let l = ltb-true (key_of r) (key_of x) h in
    cond-false _ _ _ (ne_eqb (key_of x) (key_of r) (omega arith)) ∙ cond-true _ _ _ h

placed-after :
    (r x : Record) (xs : List Record) → (key_of x == key_of r) ≡ false → nat_lt (key_of r) (key_of x) ≡ false →
    placed r (x ∷ xs) ≡ x ∷ placed r xs
placed-after r x xs d l = cond-false _ _ _ d ∙ cond-false _ _ _ l

-- one turn of the pass that puts a record into its place; x stands at i
module _
    (xs cur : List Record)
    (i : ℕ)
    (x carry item : Record)
    (l : i < length xs)
    (n : length cur ≡ length xs)
    (J : take i cur ++ placed carry (drop i xs) ≡ placed item xs)
    (K : drop i cur ≡ drop i xs)
    (X : x ≡ slice_index_or cur i x)
  where
    inside : i < length cur
    inside = omega arith

    split : drop i xs ≡ x ∷ drop (i + 1) xs
    split = let p = drop_more cur i x inside in let q = drop_more xs i x l in cc

    pub rest : drop (i + 1) cur ≡ drop (i + 1) xs
    rest = let p = drop_more cur i x inside in let q = drop_more xs i x l in cc

    at_split : take i cur ++ placed carry (x ∷ drop (i + 1) xs) ≡ placed item xs
    at_split = ap (λ (z : List Record). take i cur ++ placed carry z) (sym split) ∙ J

    taken : take (i + 1) cur ≡ take i cur ++ x ∷ []
    taken = let p = take_more cur i x inside in cc

    pub passed :
        (key_of x == key_of carry) ≡ false → nat_lt (key_of carry) (key_of x) ≡ false →
        take (i + 1) cur ++ placed carry (drop (i + 1) xs) ≡ placed item xs
    passed d h =
        ap (λ (z : List Record). z ++ placed carry (drop (i + 1) xs)) taken
        ∙ (append_assoc (take i cur) (x ∷ []) (placed carry (drop (i + 1) xs))
        ∙ (ap (λ (z : List Record). take i cur ++ z) (sym (placed-after carry x (drop (i + 1) xs) d h)) ∙ at_split))

    pub swapped :
        rises xs ≡ true → nat_lt (key_of carry) (key_of x) ≡ true →
        take (i + 1) (slice_set cur i carry) ++ placed x (drop (i + 1) xs) ≡ placed item xs
    swapped r h =
        let f : placed x (drop (i + 1) xs) ≡ x ∷ drop (i + 1) xs =
        placed_first x (drop (i + 1) xs) (ap rises (sym split) ∙ rises-drop i xs r) in
        ap (λ (z : List Record). z ++ placed x (drop (i + 1) xs)) (take_more_set cur i carry inside)
        ∙ (append_assoc (take i cur) (carry ∷ []) (placed x (drop (i + 1) xs))
        ∙ (ap (λ (z : List Record). take i cur ++ carry ∷ z) f
        ∙ (ap (λ (z : List Record). take i cur ++ z) (sym (placed-before carry x (drop (i + 1) xs) h)) ∙ at_split)))

    pub swapped_rest : drop (i + 1) (slice_set cur i carry) ≡ drop (i + 1) xs
    swapped_rest = drop-set-lt (i + 1) cur i carry (omega arith) ∙ rest

    -- the record that comes first stays, and the other goes on
    pub settled :
        (s g : Record) → s ≡ cond (nat_lt (key_of carry) (key_of x)) carry x → g ≡ cond (nat_lt (key_of carry) (key_of x)) x carry →
        rises xs ≡ true → (key_of x == key_of carry) ≡ false →
        (take (i + 1) (slice_set cur i s) ++ placed g (drop (i + 1) xs) ≡ placed item xs) × (drop (i + 1) (slice_set cur i s) ≡ drop (i + 1) xs)
    settled s g p q r d =
        elim (cases_Bool (nat_lt (key_of carry) (key_of x))) [
          | inl t ↦
              (let a : s ≡ carry = p ∙ cond-true _ _ _ t in
              let b : g ≡ x = q ∙ cond-true _ _ _ t in
              rw (a, b) (swapped r t, swapped_rest))
          | inr t ↦
              (let a : s ≡ x = p ∙ cond-false _ _ _ t in
              let b : g ≡ carry = q ∙ cond-false _ _ _ t in
              let e : set cur i x ≡ cur = ap (λ (y : Record). set cur i y) X ∙ set-get_or cur i x in
              rw (a, b, e) (passed d t, rest))
        ]

    pub replaced : nat_eq (key_of x) (key_of carry) ≡ true → slice_set cur i carry ≡ placed item xs
    replaced e =
        set_split cur i carry inside
        ∙ (ap (λ (j : ℕ). take i cur ++ carry ∷ drop j cur) (sym (add-one i))
        ∙ (ap (λ (z : List Record). take i cur ++ carry ∷ z) rest
        ∙ (ap (λ (z : List Record). take i cur ++ z) (sym (placed_same carry x (drop (i + 1) xs) e)) ∙ at_split)))

pub passed_all :
    (xs cur : List Record) (i : ℕ) (carry item : Record) →
    length xs ≤ i →
    length cur ≡ length xs →
    take i cur ++ placed carry (drop i xs) ≡ placed item xs →
    cur ++ carry ∷ [] ≡ placed item xs
passed_all xs cur i carry item l n J =
    ap (λ (z : List Record). z ++ carry ∷ []) (sym (take_all i cur (omega arith)))
    ∙ (ap (λ (z : List Record). take i cur ++ placed carry z) (sym (drop_all i xs l)) ∙ J)

above-placed : (k : ℕ) (r : Record) (xs : List Record) → k < key_of r → above k xs ≡ true → above k (placed r xs) ≡ true
above-placed k r [] l h = grind (arith, nat_tests)
above-placed k r (x ∷ xs) l h = grind (arith, nat_tests)

pub rises-placed : (r : Record) (xs : List Record) → rises xs ≡ true → rises (placed r xs) ≡ true
rises-placed r [] h = refl
rises-placed r (x ∷ xs) h = grind (arith, nat_tests, above-placed (key_of x) r xs, rises-placed r xs)

pub above_lower : (k j : ℕ) (ys : List Record) → k < j → above j ys ≡ true → above k ys ≡ true
above_lower k j [] l a = refl
above_lower k j (y ∷ ys) l a = let m = ltb-true _ _ a in lt-ltb _ _ (omega arith)

below_none : (k : ℕ) (xs : List Record) → above k xs ≡ true → rises xs ≡ true → is_some (lookup k xs) ≡ false
below_none k [] a h = refl
below_none k (x ∷ xs) a h =
    let l = ltb-true _ _ a in
    ap is_some (cond-false _ _ _ (ne_eqb (key_of x) k (omega arith)))
    ∙ below_none k xs (above_lower k (key_of x) xs l (and_parts _ _ h).0) (rises_tail x xs h)

pub length-placed :
    (r : Record) (xs : List Record) → rises xs ≡ true → is_some (lookup (key_of r) xs) ≡ true → length (placed r xs) ≡ length xs
length-placed r [] h f = absurd (false≢true f)
length-placed r (x ∷ xs) h f =
    go (key_of x == key_of r) refl (nat_lt (key_of r) (key_of x)) refl (length-placed r xs (rises_tail x xs h))
  where
    go :
        (b : Bool) →
        (key_of x == key_of r) ≡ b →
        (t : Bool) →
        nat_lt (key_of r) (key_of x) ≡ t →
        (is_some (lookup (key_of r) xs) ≡ true → length (placed r xs) ≡ length xs) →
        length (cond b (r ∷ xs) (cond t (r ∷ x ∷ xs) (x ∷ placed r xs))) ≡ length (x ∷ xs)
    go true p t q i = refl
    go false p true q i = absurd (false≢true (sym (below_none (key_of r) (x ∷ xs) q h) ∙ f))
    go false p false q i = ap suc (i (sym (ap is_some (cond-false _ _ _ p)) ∙ f))

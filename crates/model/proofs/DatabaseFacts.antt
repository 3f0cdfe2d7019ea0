-- The laws of databases, by induction on the list.
use Rattle.std.proofs.Common.{◌≡◌, ℕ, ◌+◌, ◌<◌, ◌≤◌, ◌≢◌, [], ◌∷◌, Some, None, Option, sym, refl, ap, ◌∙◌, subst, ⊎_elim, arith}
use Rattle.std.proofs.lemmas.Bool.{cases_eq, cases_lt, eq-eqb, ne_eqb, lt-ltb, le-ltb}
use Rattle.model.specs.Records.{HeldRecord}
use Rattle.model.specs.Databases.{Database, find, placed, without, amended}
use Rattle.model.specs.DatabaseLaws.{RisingFrom, changed, KeepsId, DatabaseLaws}

-- finding at the front, and behind it
find-front : (i : ℕ) (x : HeldRecord) (d : Database) → x.id ≡ i → find i (x ∷ d) ≡ Some x
find-front i x d e = rw (eq-eqb x.id i e) refl

find_behind : (i : ℕ) (x : HeldRecord) (d : Database) → x.id ≢ i → find i (x ∷ d) ≡ find i d
find_behind i x d e = rw (ne_eqb x.id i e) refl

none_some : {A B : Type 0} {x : A} → ◌≡◌ {A = Option A} None (Some x) → B
none_some h = let z : ◌≡◌ {A = ℕ} 0 1 = cc in absurd (omega arith)

found : (i : ℕ) (d : Database) (x : HeldRecord) → find i d ≡ Some x → x.id ≡ i
found i [] x h = none_some h
found i (y ∷ ys) x h =
    ⊎_elim
    (λ (e : y.id ≡ i). let p : Some y ≡ Some x = sym (find-front i y ys e) ∙ h in let q : y ≡ x = cc in ap (λ (z : HeldRecord). z.id) (sym q) ∙ e)
    (λ (e : y.id ≡ i → ⊥). found i ys x (sym (find_behind i y ys e) ∙ h))
    (cases_eq y.id i)

-- where a record is placed
placed_same : (x y : HeldRecord) (d : Database) → x.id ≡ y.id → placed x (y ∷ d) ≡ x ∷ d
placed_same x y d e = rw (eq-eqb x.id y.id e) refl

placed-before : (x y : HeldRecord) (d : Database) → x.id < y.id → placed x (y ∷ d) ≡ x ∷ y ∷ d
placed-before x y d e = let n : x.id ≢ y.id = λ q. omega arith in rw (ne_eqb x.id y.id n, lt-ltb x.id y.id e) refl

placed_behind : (x y : HeldRecord) (d : Database) → y.id < x.id → placed x (y ∷ d) ≡ y ∷ placed x d
placed_behind x y d e =
    let n : x.id ≢ y.id = λ q. omega arith in
    let l : y.id ≤ x.id = omega arith in
    rw (ne_eqb x.id y.id n, le-ltb x.id y.id l) refl

-- the three ways in which two identifiers stand
ways : {B : Type 0} (i j : ℕ) → (i ≡ j → B) → (i < j → B) → (j < i → B) → B
ways i j same less more =
    ⊎_elim same (λ (n : i ≡ j → ⊥). ⊎_elim less (λ (l : j ≤ i). more (let k : i ≢ j = n in omega arith)) (cases_lt i j)) (cases_eq i j)

placed_here : (x : HeldRecord) (d : Database) → find x.id (placed x d) ≡ Some x
placed_here x [] = find-front x.id x [] refl
placed_here x (y ∷ ys) =
    ways x.id y.id
    (λ e. rw (placed_same x y ys e) (find-front x.id x ys refl))
    (λ l. rw (placed-before x y ys l) (find-front x.id x (y ∷ ys) refl))
    (λ l. rw (placed_behind x y ys l) (find_behind x.id y (placed x ys) (λ q. omega arith) ∙ placed_here x ys))

placed_else : (x : HeldRecord) (i : ℕ) (d : Database) → i ≢ x.id → find i (placed x d) ≡ find i d
placed_else x i [] n = find_behind i x [] (λ q. n (sym q))
placed_else x i (y ∷ ys) n =
    ways x.id y.id
    (λ e. rw (placed_same x y ys e) (find_behind i x ys (λ q. n (sym q)) ∙ sym (find_behind i y ys (λ q. n (sym (e ∙ q))))))
    (λ l. rw (placed-before x y ys l) (find_behind i x (y ∷ ys) (λ q. n (sym q))))
    (λ l. rw (placed_behind x y ys l)
    (⊎_elim
    (λ (e : y.id ≡ i). find-front i y (placed x ys) e ∙ sym (find-front i y ys e))
    (λ (e : y.id ≡ i → ⊥). find_behind i y (placed x ys) e ∙ (placed_else x i ys n ∙ sym (find_behind i y ys e)))
    (cases_eq y.id i)))

lower : (a b : ℕ) (d : Database) → b ≤ a → RisingFrom a d → RisingFrom b d
lower a b [] l h = tt
lower a b (x ∷ xs) l h = (let k : a ≤ x.id = h.0 in omega arith, h.1)

placed_rises : (low : ℕ) (x : HeldRecord) (d : Database) → low ≤ x.id → RisingFrom low d → RisingFrom low (placed x d)
placed_rises low x [] l h = (l, tt)
placed_rises low x (y ∷ ys) l h =
    ways x.id y.id
    (λ e. rw (placed_same x y ys e) (l, subst (λ i. RisingFrom (i + 1) ys) (sym e) h.1))
    (λ k. rw (placed-before x y ys k) (l, (omega arith, h.1)))
    (λ k. rw (placed_behind x y ys k) (h.0, placed_rises (y.id + 1) x ys (omega arith) h.1))

-- nothing is found below the first identifier
unfound : (low i : ℕ) (d : Database) → i < low → RisingFrom low d → find i d ≡ None
unfound low i [] l h = refl
unfound low i (x ∷ xs) l h =
    let k : low ≤ x.id = h.0 in
    find_behind i x xs (λ q. omega arith) ∙ unfound (x.id + 1) i xs (omega arith) h.1

deleted_front : (i : ℕ) (x : HeldRecord) (d : Database) → x.id ≡ i → without i (x ∷ d) ≡ d
deleted_front i x d e = rw (eq-eqb x.id i e) refl

deleted_behind : (i : ℕ) (x : HeldRecord) (d : Database) → x.id ≢ i → without i (x ∷ d) ≡ x ∷ without i d
deleted_behind i x d e = rw (ne_eqb x.id i e) refl

deleted_here : (low i : ℕ) (d : Database) → RisingFrom low d → find i (without i d) ≡ None
deleted_here low i [] h = refl
deleted_here low i (x ∷ xs) h =
    ⊎_elim
    (λ (e : x.id ≡ i). rw (deleted_front i x xs e) (unfound (x.id + 1) i xs (omega arith) h.1))
    (λ (e : x.id ≡ i → ⊥). rw (deleted_behind i x xs e) (find_behind i x (without i xs) e ∙ deleted_here (x.id + 1) i xs h.1))
    (cases_eq x.id i)

deleted_else : (i j : ℕ) (d : Database) → i ≢ j → find i (without j d) ≡ find i d
deleted_else i j [] n = refl
deleted_else i j (x ∷ xs) n =
    ⊎_elim
    (λ (e : x.id ≡ j). rw (deleted_front j x xs e) (sym (find_behind i x xs (λ q. n (sym q ∙ e)))))
    (λ (e : x.id ≡ j → ⊥). rw (deleted_behind j x xs e)
    (⊎_elim
    (λ (q : x.id ≡ i). find-front i x (without j xs) q ∙ sym (find-front i x xs q))
    (λ (q : x.id ≡ i → ⊥). find_behind i x (without j xs) q ∙ (deleted_else i j xs n ∙ sym (find_behind i x xs q)))
    (cases_eq x.id i)))
    (cases_eq x.id j)

deleted_rises : (low i : ℕ) (d : Database) → RisingFrom low d → RisingFrom low (without i d)
deleted_rises low i [] h = tt
deleted_rises low i (x ∷ xs) h =
    ⊎_elim
    (λ (e : x.id ≡ i). rw (deleted_front i x xs e) (let k : low ≤ x.id = h.0 in lower (x.id + 1) low xs (omega arith) h.1))
    (λ (e : x.id ≡ i → ⊥). rw (deleted_behind i x xs e) (h.0, deleted_rises (x.id + 1) i xs h.1))
    (cases_eq x.id i)

module _ (f : HeldRecord → HeldRecord) (same : KeepsId f) where
  changed-front : (i : ℕ) (x : HeldRecord) (d : Database) → x.id ≡ i → amended f i (x ∷ d) ≡ f x ∷ d
  changed-front i x d e = rw (eq-eqb x.id i e) refl

  changed_behind : (i : ℕ) (x : HeldRecord) (d : Database) → x.id ≢ i → amended f i (x ∷ d) ≡ x ∷ amended f i d
  changed_behind i x d e = rw (ne_eqb x.id i e) refl

  changed_here : (i : ℕ) (d : Database) → find i (amended f i d) ≡ changed f (find i d)
  changed_here i [] = refl
  changed_here i (x ∷ xs) =
      ⊎_elim
      (λ (e : x.id ≡ i). rw (changed-front i x xs e, find-front i x xs e) (find-front i (f x) xs (same x ∙ e)))
      (λ (e : x.id ≡ i → ⊥). rw (changed_behind i x xs e, find_behind i x xs e) (find_behind i x (amended f i xs) e ∙ changed_here i xs))
      (cases_eq x.id i)

  changed_else : (i j : ℕ) (d : Database) → i ≢ j → find i (amended f j d) ≡ find i d
  changed_else i j [] n = refl
  changed_else i j (x ∷ xs) n =
      ⊎_elim
      (λ (e : x.id ≡ j). rw (changed-front j x xs e)
      (find_behind i (f x) xs (λ q. n (sym q ∙ (same x ∙ e))) ∙ sym (find_behind i x xs (λ q. n (sym q ∙ e)))))
      (λ (e : x.id ≡ j → ⊥). rw (changed_behind j x xs e)
      (⊎_elim
      (λ (q : x.id ≡ i). find-front i x (amended f j xs) q ∙ sym (find-front i x xs q))
      (λ (q : x.id ≡ i → ⊥). find_behind i x (amended f j xs) q ∙ (changed_else i j xs n ∙ sym (find_behind i x xs q)))
      (cases_eq x.id i)))
      (cases_eq x.id j)

  changed_rises : (low i : ℕ) (d : Database) → RisingFrom low d → RisingFrom low (amended f i d)
  changed_rises low i [] h = tt
  changed_rises low i (x ∷ xs) h =
      ⊎_elim
      (λ (e : x.id ≡ i). rw (changed-front i x xs e) (subst (λ k. low ≤ k) (sym (same x)) h.0, subst (λ k. RisingFrom (k + 1) xs) (sym (same x)) h.1))
      (λ (e : x.id ≡ i → ⊥). rw (changed_behind i x xs e) (h.0, changed_rises (x.id + 1) i xs h.1))
      (cases_eq x.id i)

pub database_laws_lem : DatabaseLaws
database_laws_lem =
    record {
      found = found;
      placed_here = placed_here;
      placed_else = placed_else;
      placed_rises = λ x d h. placed_rises 0 x d (omega arith) h;
      deleted_here = λ i d h. deleted_here 0 i d h;
      deleted_else = deleted_else;
      deleted_rises = λ i d h. deleted_rises 0 i d h;
      changed_here = λ f i d s. changed_here f s i d;
      changed_else = λ f i j d s n. changed_else f s i j d n;
      changed_rises = λ f i d s h. changed_rises f s 0 i d h;
    }

-- The first broken field of a body.
use Rattle.std.proofs.Common.{◌≡◌, ℕ, zero, suc, ◌+◌, ◌<◌, ◌≤◌, Bool, true, false, cond, ltb, List, [], ◌∷◌, ◌++◌, length, get_or, take, drop, Some, None, Ok, Err, Option, Result, sym, refl, ap, ◌∙◌, subst, arith}
use Rattle.std.proofs.lemmas.List.{length-drop, length-append, length-take-le, take-append-drop, drop_at}
use Rattle.std.proofs.lemmas.Bool.Decides.{nat_tests}
use Rattle.fault.specs.declared.FrameFault.{FrameFault}
use Rattle.fault.specs.declared.FrameFault.TheVariants.{Field, Body}
use Rattle.fault.specs.Refusals.{frame_place}
use Rattle.fault.specs.Order.{frame_rank, ranked, sooner, unless}
use Rattle.fault.proofs.Laws.{unless_ok, Rising, foremost, none_of, rising_first, between_fails, ranked_self}
use Rattle.octets.specs.Fields.{stands, after, Front, Whole, none, field, broken_within, broken_field, body_faults, body_fault}

after_short : (xs : List ℕ) (n : ℕ) → length xs ≤ suc n → length (after xs) ≤ n
after_short xs n h = simp length-drop (omega arith)

-- any bound that is long enough gives the same answer
enough : (n m at : ℕ) (xs : List ℕ) → length xs ≤ n → length xs ≤ m → broken_within n at xs ≡ broken_within m at xs
enough n m at [] h k = refl
enough zero m at (x ∷ xs) h k = absurd (omega arith)
enough (suc n) zero at (x ∷ xs) h k = absurd (omega arith)
enough (suc n) (suc m) at (x ∷ xs) h k =
    ap
    (λ (w : Option FrameFault). cond (stands (x ∷ xs)) w (Some (Field at)))
    (enough n m (at + (2 + get_or (x ∷ xs) 1 0)) (after (x ∷ xs)) (after_short (x ∷ xs) n h) (after_short (x ∷ xs) m k))

-- past a field that stands
pub broken_more : (at : ℕ) (xs : List ℕ) → stands xs ≡ true → broken_field at xs ≡ broken_field (at + (2 + get_or xs 1 0)) (after xs)
broken_more at [] h = cc
broken_more at (x ∷ xs) h =
    rw h
    (enough (length xs) (length (after (x ∷ xs))) (at + (2 + get_or (x ∷ xs) 1 0)) (after (x ∷ xs)) (after_short (x ∷ xs) (length xs) (omega arith))
    (omega arith))

-- at a field that does not stand
pub broken_here : (at : ℕ) (xs : List ℕ) → 0 < length xs → stands xs ≡ false → broken_field at xs ≡ Some (Field at)
broken_here at [] l h = absurd (omega arith)
broken_here at (x ∷ xs) l h = rw h refl

-- at the end
pub broken_end : (at : ℕ) (xs : List ℕ) → length xs ≡ 0 → broken_field at xs ≡ None
broken_end at [] l = refl
broken_end at (x ∷ xs) l = absurd (omega arith)

-- past a field that was read
pub broken_past : (at : ℕ) (p : List ℕ) {code : ℕ} {value rest : List ℕ} → Front p code value rest →
    broken_field (at + (2 + length value)) rest ≡ broken_field at p
broken_past at p f = rw (f.rest_is, f.value_length) (sym (broken_more at p f.whole))

two_on : (n code l : ℕ) (ys : List ℕ) → n ≡ 2 + l → drop n (code ∷ l ∷ ys) ≡ drop l ys
two_on n code l ys e = let p : n ≡ suc (suc l) = omega arith in ap (λ (k : ℕ). drop k (code ∷ l ∷ ys)) p

within_whole : (n at : ℕ) (xs : List ℕ) → broken_within n at xs ≡ None → Whole xs
within_whole n at [] h = none
within_whole zero at (x ∷ xs) h = let z : ◌≡◌ {A = ℕ} 0 1 = cc in absurd (omega arith)
within_whole (suc n) at (x ∷ []) h = let z : ◌≡◌ {A = ℕ} 0 1 = cc in absurd (omega arith)
within_whole (suc n) at (x ∷ l ∷ ys) h = go (stands (x ∷ l ∷ ys)) refl h (within_whole n (at + (2 + l)) (after (x ∷ l ∷ ys)))
  where
    go : (b : Bool) → stands (x ∷ l ∷ ys) ≡ b →
        cond b (broken_within n (at + (2 + l)) (after (x ∷ l ∷ ys))) (Some (Field at)) ≡ None →
        (broken_within n (at + (2 + l)) (after (x ∷ l ∷ ys)) ≡ None → Whole (after (x ∷ l ∷ ys))) → Whole (x ∷ l ∷ ys)
    go false e k ih = let z : ◌≡◌ {A = ℕ} 0 1 = cc in absurd (omega arith)
    go true e k ih =
        let w : Whole (drop l ys) = subst Whole (two_on (2 + l) x l ys refl) (ih k) in
        let m : l ≤ length ys = grind (arith, nat_tests) in
        let f : Whole (x ∷ length (take l ys) ∷ (take l ys ++ drop l ys)) = field x (take l ys) (drop l ys) w in
        rw (length-take-le l ys m, take-append-drop l ys) at f

-- no field is broken exactly where the fields are whole
pub none_whole : (at : ℕ) (body : List ℕ) → broken_field at body ≡ None → Whole body
none_whole at body h = within_whole (length body) at body h

pub whole_none : (at : ℕ) {body : List ℕ} → Whole body → broken_field at body ≡ None
whole_none at none = refl
whole_none at (field code value rest w) =
    let xs : List ℕ = code ∷ length value ∷ (value ++ rest) in
    let s : stands xs ≡ true = rw length-append (grind (arith, nat_tests)) in
    let e : after xs ≡ rest = two_on (2 + length value) code (length value) (value ++ rest) refl ∙ drop_at value rest (length value) refl in
    broken_more at xs s ∙ ap (broken_field (at + (2 + length value))) e ∙ whole_none (at + (2 + length value)) w

within_place : (n at : ℕ) (xs : List ℕ) (e : FrameFault) → broken_within n at xs ≡ Some e → (q : ℕ) × (e ≡ Field q) × (at ≤ q)
within_place n at [] e h = let z : ◌≡◌ {A = ℕ} 0 1 = cc in absurd (omega arith)
within_place zero at (x ∷ xs) e h = (at, cc, omega arith)
within_place (suc n) at (x ∷ xs) e h =
    go (stands (x ∷ xs)) h (within_place n (at + (2 + get_or (x ∷ xs) 1 0)) (after (x ∷ xs)) e)
  where
    go : (b : Bool) → cond b (broken_within n (at + (2 + get_or (x ∷ xs) 1 0)) (after (x ∷ xs))) (Some (Field at)) ≡ Some e →
        (broken_within n (at + (2 + get_or (x ∷ xs) 1 0)) (after (x ∷ xs)) ≡ Some e → (q : ℕ) × (e ≡ Field q) × (at + (2 + get_or (x ∷ xs) 1 0) ≤ q)) →
        (q : ℕ) × (e ≡ Field q) × (at ≤ q)
    go false k ih = (at, cc, omega arith)
    go true k ih = let r = ih k in (r.0, r.1, omega arith)

-- a broken field stands at the body's place or after it
pub broken_place : (at : ℕ) (body : List ℕ) (e : FrameFault) → broken_field at body ≡ Some e → (q : ℕ) × (e ≡ Field q) × (at ≤ q)
broken_place at body e h = within_place (length body) at body e h

-- a body's refusals rise from the place of the body
pub body_rising : (at : ℕ) (body : List ℕ) → Rising frame_rank frame_place (Body at) (body_faults at body)
body_rising at body =
    (Body at, between_fails frame_rank frame_place (Body at) (Body at) (ltb 100 (length body)) (ranked_self 50 at), go (broken_field at body) refl)
  where
    go : (r : Option FrameFault) → broken_field at body ≡ r → Rising frame_rank frame_place (Body at) (r ∷ [])
    go None e = (Body at, ranked_self 50 at, tt)
    go (Some x) e =
        let p = broken_place at body x e in
        let f : ranked 50 at 50 p.0 ≡ true = grind (arith, nat_tests) in
        (x, (rw p.1 f, ranked_self (frame_rank x) (frame_place x)), tt)

pub body_first : (at : ℕ) (body : List ℕ) → body_fault at body ≡ foremost frame_rank frame_place (body_faults at body)
body_first at body = rising_first frame_rank frame_place (Body at) (body_faults at body) (body_rising at body)

-- over 100 octets
pub body_long : (at : ℕ) (body : List ℕ) → 100 < length body → body_fault at body ≡ Some (Body at)
body_long at body h =
    let t : ltb 100 (length body) ≡ true = grind (arith, nat_tests) in
    body_first at body ∙ rw t refl

-- at most 100 octets: the broken field decides
pub body_short : (at : ℕ) (body : List ℕ) → length body ≤ 100 → body_fault at body ≡ broken_field at body
body_short at body h =
    let t : ltb 100 (length body) ≡ false = grind (arith, nat_tests) in
    rw t (go (broken_field at body))
  where
    go : (r : Option FrameFault) → sooner frame_rank frame_place r None ≡ r
    go None = refl
    go (Some x) = refl

-- a body that is not refused is whole fields
pub body_whole : (at : ℕ) (body : List ℕ) → body_fault at body ≡ None → Whole body
body_whole at body h = none_whole at body (none_of frame_rank frame_place (body_faults at body) h).1.0

-- whole fields of at most 100 octets are not refused
pub body_fits : (at : ℕ) (body : List ℕ) → Whole body → length body ≤ 100 → body_fault at body ≡ None
body_fits at body w l = body_short at body l ∙ whole_none at w

-- the check of a body answers by its refusal
module _ (at : ℕ) (body : List ℕ) (r : Result (Unit {0}) FrameFault) (h : r ≡ unless (body_fault at body) tt) where
  pub checked_whole : r ≡ Ok tt → Whole body
  checked_whole e = body_whole at body (unless_ok (body_fault at body) tt tt (sym h ∙ e))

  pub checked_fits : Whole body → length body ≤ 100 → r ≡ Ok tt
  checked_fits w l = h ∙ ap (λ (o : Option FrameFault). unless o tt) (body_fits at body w l)

-- what it answers over 100 octets, and else by the broken field
pub checked_long : (at n : ℕ) (body : List ℕ) → n ≡ at → 100 < length body → ◌≡◌ {A = Result (Unit {0}) FrameFault} (Err (Body n)) (unless (body_fault at body) tt)
checked_long at n body e l =
    ap (λ (k : ℕ). Err (Body k)) e ∙ sym (ap (λ (o : Option FrameFault). unless o tt) (body_long at body l))

pub checked_short : (at : ℕ) (body : List ℕ) (o : Option FrameFault) → length body ≤ 100 → broken_field at body ≡ o →
    ◌≡◌ {A = Result (Unit {0}) FrameFault} (unless o tt) (unless (body_fault at body) tt)
checked_short at body o l e = sym (ap (λ (r : Option FrameFault). unless r tt) (body_short at body l ∙ e))

pub after_less : (xs : List ℕ) → stands xs ≡ true → length (after xs) + 2 ≤ length xs
after_less xs h = let l : 2 + get_or xs 1 0 ≤ length xs = grind (arith, nat_tests) in simp length-drop (omega arith)

pub none_anywhere : (at at' : ℕ) (body : List ℕ) → broken_field at body ≡ None → broken_field at' body ≡ None
none_anywhere at at' body h = whole_none at' (none_whole at body h)

-- A frame that waits at another end, the refusal of a put, and a put that every other end misses.
use Rattle.std.proofs.Common.{◌≡◌, ℕ, zero, suc, ◌+◌, ◌-◌, ◌<◌, ◌≤◌, Bool, true, false, cond, not, ◌||◌, eqb, ltb, leb, ◌≢◌, List, [], ◌∷◌, length, get_or, is_some, Some, None, ◌↔◌, IsTrue, Option, sym, refl, ap, ◌∙◌, ⊎_elim, add-one, arith}
use Rattle.std.proofs.lemmas.Bool.{cases_eq, cond-true, cond-false, false≢true, or_parts, or_left, or_right, and_parts, not-true, ne_eqb, eqb-false, ltb-true, ltb-false}
use Rattle.std.proofs.lemmas.Bool.Decides.{nat_tests}
use Rattle.fault.specs.declared.FrameFault.TheVariants.{Size}
use Rattle.fault.specs.declared.CallFault.TheVariants.{Unknown, Waiting}
use Rattle.fault.specs.declared.CallFault.TheVariants as refusal
use Rattle.fault.specs.Order.{fails, first_refusal}
use Rattle.plant.specs.Air.{Air, Frame, line, ends_of, waiting}
use Rattle.plant.specs.Calls.{Put, waits_elsewhere, Blocked, put_refusal, put_causes, take_refusal, take_causes, count, others, none}

module _ (xs : List (Option Frame)) (e : ℕ) where
  pub busy_at : (n k : ℕ) → k < n → k ≢ e → is_some (get_or xs k None) ≡ true → waits_elsewhere xs e n ≡ true
  busy_at zero k l d h = absurd (omega arith)
  busy_at (suc n) k l d h =
      ⊎_elim
      (λ (p : k ≡ n).
      or_left (cond (eqb n e) false (is_some (get_or xs n None))) (waits_elsewhere xs e n)
      (rw (← p) (cond-false (eqb k e) false (is_some (get_or xs k None)) (ne_eqb k e d) ∙ h)))
      (λ (q : k ≡ n → ⊥). or_right (cond (eqb n e) false (is_some (get_or xs n None))) (waits_elsewhere xs e n) (busy_at n k (omega arith) d h))
      (cases_eq k n)

  pub idle_more :
      (n : ℕ) →
      waits_elsewhere xs e n ≡ false →
      (n ≢ e → is_some (get_or xs n None) ≡ false) →
      waits_elsewhere xs e (n + 1) ≡ false
  idle_more n h i = rw add-one (go (eqb n e) refl)
    where
      go : (b : Bool) → eqb n e ≡ b → waits_elsewhere xs e (suc n) ≡ false
      go true p = rw p h
      go false p = rw (p, i (eqb-false n e p)) h

  pub idle_at : (n k : ℕ) → waits_elsewhere xs e n ≡ false → k < n → k ≢ e → get_or xs k None ≡ None
  idle_at n k h l d = go (get_or xs k None) refl
    where
      go : (o : Option Frame) → get_or xs k None ≡ o → get_or xs k None ≡ None
      go None p = p
      go (Some x) p = absurd (false≢true (sym h ∙ busy_at n k l d (ap is_some p)))

  abbrev Found : ℕ → Type 0
  Found m = (k : ℕ) × (k < m) × (k ≢ e) × (get_or xs k None ≢ None)

  pub busy_end : (n : ℕ) → waits_elsewhere xs e n ≡ true → Found n
  busy_end zero h = absurd (false≢true h)
  busy_end (suc n) h = go (λ q. busy_end n q) (eqb n e) (get_or xs n None) refl refl
    where
      go : (waits_elsewhere xs e n ≡ true → Found n) → (b : Bool) (o : Option Frame) → eqb n e ≡ b → get_or xs n None ≡ o → Found (suc n)
      go lower true o p q = let w = lower (rw p at h) in (w.0, omega (arith, w.1), w.2, w.3)
      go lower false None p q = let w = lower (rw (p, q) at h) in (w.0, omega (arith, w.1), w.2, w.3)
      go lower false (Some x) p q = (n, omega arith, eqb-false n e p, λ r. let z : ◌≡◌ {A = ℕ} 0 1 = cc in omega arith)

pub some_there : (o : Option Frame) → o ≢ None → is_some o ≡ true
some_there None h = absurd (h refl)
some_there (Some x) h = refl

pub decides_blocked : (a : Air) (c e : ℕ) → IsTrue (waits_elsewhere (line a c).ends e (ends_of a c)) ↔ Blocked a c e
decides_blocked a c e = (
  busy_end (line a c).ends e (ends_of a c),
  λ w. busy_at (line a c).ends e (ends_of a c) w.0 w.1 w.2 (some_there (waiting a c w.0) w.3),
)

-- a put's refusal is the first of its causes
pub put_first : (a : Air) (c e : ℕ) (f : Frame) → put_refusal a c e f ≡ first_refusal (put_causes a c e f)
put_first a c e f =
    go (ltb (length f) 1 || ltb 275 (length f)) (ltb e (ends_of a c)) (leb (ends_of a c) e) (waits_elsewhere (line a c).ends e (ends_of a c)) other
  where
    other : ltb e (ends_of a c) ≡ not (leb (ends_of a c) e)
    other = grind (arith, nat_tests)

    go :
        (b k l w : Bool) →
        k ≡ not l →
        cond b (Some (refusal.Frame Size)) (cond k (cond w (Some Waiting) None) (Some Unknown))
        ≡ first_refusal (fails b (refusal.Frame Size) ∷ fails l Unknown ∷ fails w Waiting ∷ [])
    go true k true true p = refl
    go true k true false p = refl
    go true k false true p = refl
    go true k false false p = refl
    go false k true true p = rw p refl
    go false k true false p = rw p refl
    go false k false true p = rw p refl
    go false k false false p = rw p refl

pub take_first : (a : Air) (c e room : ℕ) → take_refusal a c e room ≡ first_refusal (take_causes a c e room)
take_first a c e room = go (ltb room 275) (ltb e (ends_of a c)) (leb (ends_of a c) e) other
  where
    other : ltb e (ends_of a c) ≡ not (leb (ends_of a c) e)
    other = grind (arith, nat_tests)

    go :
        (b k l : Bool) →
        k ≡ not l →
        cond b (Some (refusal.Frame Size)) (cond k None (Some Unknown))
        ≡ first_refusal (fails b (refusal.Frame Size) ∷ fails l Unknown ∷ [])
    go true k true p = refl
    go true k false p = refl
    go false k true p = rw p refl
    go false k false p = rw p refl

-- what holds where a put is allowed
pub record Allowed (a : Air) (c e : ℕ) (f : Frame) : Type 0 where
  pub some : 1 ≤ length f
  pub few : length f ≤ 275
  pub known : e < ends_of a c
  pub free : waits_elsewhere (line a c).ends e (ends_of a c) ≡ false

pub allowed : (a : Air) (c e : ℕ) (f : Frame) → put_refusal a c e f ≡ None → Allowed a c e f
allowed a c e f h = go _ _ _ refl refl refl h
  where
    go :
        (b k w : Bool) →
        (ltb (length f) 1 || ltb 275 (length f)) ≡ b →
        ltb e (ends_of a c) ≡ k →
        waits_elsewhere (line a c).ends e (ends_of a c) ≡ w →
        cond b (Some (refusal.Frame Size)) (cond k (cond w (Some Waiting) None) (Some Unknown)) ≡ None →
        Allowed a c e f
    go true k w p q r i = let z : ◌≡◌ {A = ℕ} 0 1 = cc in absurd (omega arith)
    go false false w p q r i = let z : ◌≡◌ {A = ℕ} 0 1 = cc in absurd (omega arith)
    go false true true p q r i = let z : ◌≡◌ {A = ℕ} 0 1 = cc in absurd (omega arith)
    go false true false p q r i =
        let s = or_parts (ltb (length f) 1) (ltb 275 (length f)) p in
        record {
          some = omega (arith, ltb-false (length f) 1 s.0);
          few = omega (arith, ltb-false 275 (length f) s.1);
          known = ltb-true e (ends_of a c) q;
          free = r;
        }

-- all ends but one of them are one fewer
module _ (n e : ℕ) where
  before_it : (m : ℕ) → m ≤ n → m ≤ e → count (others n e) m ≡ m
  before_it zero l h = refl
  before_it (suc m) l h =
      let i = before_it m (omega arith) (omega arith) in
      let t : others n e m ≡ true = grind (arith, nat_tests) in
      rw (t, i) (omega arith)

  past_it : (m : ℕ) → m ≤ n → e < m → count (others n e) m + 1 ≡ m
  past_it zero l h = absurd (omega arith)
  past_it (suc m) l h =
      ⊎_elim
      (λ (q : m ≡ e).
      let i = before_it m (omega arith) (omega arith) in
      let t : others n e m ≡ false = grind (arith, nat_tests) in
      rw (t, i) (omega arith))
      (λ (q : m ≡ e → ⊥).
      let i = past_it m (omega arith) (omega arith) in
      let t : others n e m ≡ true = grind (arith, nat_tests) in
      rw t (omega arith))
      (cases_eq m e)

pub count-others : (n e : ℕ) → e < n → count (others n e) n ≡ n - 1
count-others n e h = omega (arith, past_it n e n (omega arith) h)

pub count_none : (n : ℕ) → count none n ≡ 0
count_none zero = refl
count_none (suc n) = rw (count_none n) refl

pub others-only : (n e k : ℕ) → others n e k ≡ true → (k < n) × (k ≢ e)
others-only n e k h =
    let p = and_parts (ltb k n) (not (eqb k e)) h in
    (ltb-true k n p.0, eqb-false k e (not-true (eqb k e) p.1))

-- a put that all other ends missed
pub all_missed :
    (a : Air) (c e : ℕ) (f : Frame) →
    put_refusal a c e f ≡ None →
    Put a a c e f (others (ends_of a c) e)
all_missed a c e f h =
    let p = allowed a c e f h in
    record {
      allowed = h;
      alike = refl;
      elsewhere = λ _ _. refl;
      here = refl;
      there =
          λ k l d.
          let t : others (ends_of a c) e k ≡ true = grind (arith, nat_tests) in
          idle_at (line a c).ends e (ends_of a c) k p.free l d ∙ sym (cond-true (others (ends_of a c) e k) None (Some f) t);
      only = others-only (ends_of a c) e;
    }

-- where a put answers 0 none missed
pub none_missed : (missed : ℕ → Bool) (n : ℕ) → count missed n ≡ 0 → (k : ℕ) → k < n → missed k ≡ false
none_missed missed zero h k l = absurd (omega arith)
none_missed missed (suc n) h k l =
    ⊎_elim
    (λ (q : k ≡ n). ap missed q ∙ last (missed n) (omega arith))
    (λ (q : k ≡ n → ⊥). none_missed missed n (omega arith) k (omega arith))
    (cases_eq k n)
  where
    last : (b : Bool) → ◌≡◌ {A = ℕ} (cond b 1 0) 0 → b ≡ false
    last true e = absurd (omega arith)
    last false e = refl

-- A frame that is put on a plant of one circuit waits at each other end.
use Rattle.std.proofs.Common.{◌≡◌, ℕ, zero, suc, ◌+◌, ◌<◌, ◌≤◌, ◌≢◌, List, [], ◌∷◌, length, get_or, take, set, Some, None, Option, refl, sym, ap, ◌∙◌, ⊎_elim, arith, add-one}
use Rattle.std.specs.Prelude.{slice_index_or, slice_set}
use Rattle.std.proofs.lemmas.List.{get_or-set_same, get_or-set_other, get_or-take, length-set}
use Rattle.std.proofs.lemmas.Bool.{eq-eqb, ne_eqb, cases_eq, false≢true}
use Rattle.plant.specs.declared.Kind.{Kind}
use Rattle.plant.specs.Air.{Frame, line}
use Rattle.plant.specs.Calls.{waits_elsewhere, put_refusal, none}
use Rattle.plant.proofs.Blocked.{allowed}
use Rattle.wires.specs.Wires.{alone, spread, Delivered}

-- one end more
pub spread_own : (xs : List (Option Frame)) (n e : ℕ) (f : Frame) → n ≡ e → spread xs (n + 1) e f ≡ spread xs n e f
spread_own xs n e f h = rw (add-one n, eq-eqb n e h)

pub spread_more : (xs : List (Option Frame)) (n e : ℕ) (f : Frame) → n ≢ e → spread xs (n + 1) e f ≡ slice_set (spread xs n e f) n (Some f)
spread_more xs n e f h = rw (add-one n, ne_eqb n e h)

pub length-spread : (xs : List (Option Frame)) (n e : ℕ) (f : Frame) → length (spread xs n e f) ≡ length xs
length-spread xs zero e f = refl
length-spread xs (suc n) e f =
    ⊎_elim
    (λ (q : n ≡ e). rw (eq-eqb n e q) (length-spread xs n e f))
    (λ (q : n ≡ e → ⊥). rw (ne_eqb n e q) (length-set (spread xs n e f) n (Some f) ∙ length-spread xs n e f))
    (cases_eq n e)

-- what each other end then holds
pub spread_at :
    (xs : List (Option Frame)) (n e : ℕ) (f : Frame) (j : ℕ) →
    j < n →
    j ≢ e →
    n ≤ length xs →
    slice_index_or (spread xs n e f) j None ≡ Some f
spread_at xs zero e f j h ne l = absurd (omega arith)
spread_at xs (suc n) e f j h ne l =
    ⊎_elim
    (λ (q : n ≡ e). rw (eq-eqb n e q) (spread_at xs n e f j (omega arith) ne (omega arith)))
    (λ (q : n ≡ e → ⊥).
    rw (ne_eqb n e q)
    (⊎_elim
    (λ (r : j ≡ n). rw r (get_or-set_same (spread xs n e f) n (Some f) None (omega (arith, length-spread xs n e f))))
    (λ (r : j ≡ n → ⊥). get_or-set_other (spread xs n e f) n j (Some f) None r ∙ spread_at xs n e f j (omega arith) ne (omega arith))
    (cases_eq j n)))
    (cases_eq n e)

-- and the end that sent it
pub spread_here : (xs : List (Option Frame)) (n e : ℕ) (f : Frame) → slice_index_or (spread xs n e f) e None ≡ slice_index_or xs e None
spread_here xs zero e f = refl
spread_here xs (suc n) e f =
    ⊎_elim
    (λ (q : n ≡ e). rw (eq-eqb n e q) (spread_here xs n e f))
    (λ (q : n ≡ e → ⊥).
    let r : e ≢ n = λ p. q (sym p) in
    rw (ne_eqb n e q) (get_or-set_other (spread xs n e f) n e (Some f) None r ∙ spread_here xs n e f))
    (cases_eq n e)

-- the first n ends, by themselves
pub take_of_set : (xs : List (Option Frame)) (n e : ℕ) (x : Option Frame) → take n (set xs e x) ≡ set (take n xs) e x
take_of_set [] zero e x = refl
take_of_set [] (suc n) e x = refl
take_of_set (y ∷ xs) zero zero x = refl
take_of_set (y ∷ xs) zero (suc e) x = refl
take_of_set (y ∷ xs) (suc n) zero x = refl
take_of_set (y ∷ xs) (suc n) (suc e) x = ap (λ ys. y ∷ ys) (take_of_set xs n e x)

pub take_of_spread : (xs : List (Option Frame)) (n m e : ℕ) (f : Frame) → take n (spread xs m e f) ≡ spread (take n xs) m e f
take_of_spread xs n zero e f = refl
take_of_spread xs n (suc m) e f =
    ⊎_elim
    (λ (q : m ≡ e). rw (eq-eqb m e q) (take_of_spread xs n m e f))
    (λ (q : m ≡ e → ⊥).
    rw (ne_eqb m e q) (take_of_set (spread xs m e f) n m (Some f) ∙ ap (λ ys. set ys m (Some f)) (take_of_spread xs n m e f)))
    (cases_eq m e)

-- they tell whether a frame waits at one of them
pub elsewhere_front : (xs : List (Option Frame)) (n e m : ℕ) → m ≤ n → waits_elsewhere (take n xs) e m ≡ waits_elsewhere xs e m
elsewhere_front xs n e zero h = refl
elsewhere_front xs n e (suc m) h =
    rw (get_or-take n xs m None (omega arith), elsewhere_front xs n e m (omega arith)) refl

module _ (k : Kind) (xs : List (Option Frame)) where
  elsewhere : (ys : List (Option Frame)) (d : ℕ) → d ≢ 0 → line (alone k ys) d ≡ line (alone k xs) d
  elsewhere ys zero h = absurd (h refl)
  elsewhere ys (suc d) h = refl

  -- a frame that then waits at each other end
  pub alone_put :
      (ys : List (Option Frame)) (c e : ℕ) (f : Frame) →
      put_refusal (alone k xs) c e f ≡ None →
      length ys ≡ length xs →
      slice_index_or ys e None ≡ slice_index_or xs e None →
      ((j : ℕ) → j < length xs → j ≢ e → slice_index_or ys j None ≡ Some f) →
      Delivered (alone k xs) (alone k ys) c e f none
  alone_put ys zero e f h l i t = record {
    put = record {
      allowed = h;
      alike = ap (λ n. (k, n) ∷ []) l;
      elsewhere = elsewhere ys;
      here = i;
      there = t;
      only = λ j q. absurd (false≢true q);
    };
    whole = λ _. refl;
  }
  alone_put ys (suc c) e f h l i t =
      let p = allowed (alone k xs) (suc c) e f h in absurd (omega (arith, p.known))

  pub alone-spread :
      (ys : List (Option Frame)) (c e : ℕ) (f : Frame) →
      put_refusal (alone k xs) c e f ≡ None →
      ys ≡ spread xs (length xs) e f →
      Delivered (alone k xs) (alone k ys) c e f none
  alone-spread ys c e f p q =
      alone_put ys c e f p
      (ap length q ∙ length-spread xs (length xs) e f)
      (ap (λ zs. get_or zs e None) q ∙ spread_here xs (length xs) e f)
      (λ j l d. ap (λ zs. get_or zs j None) q ∙ spread_at xs (length xs) e f j l d (omega arith))

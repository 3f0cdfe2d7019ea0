-- Two plants in one.
use Rattle.std.specs.Prelude.{◌≡◌, ℕ, zero, suc, ◌+◌, ◌-◌, ◌<◌, ◌≤◌, min, Bool, ◌≢◌, List, [], ◌∷◌, ◌++◌, length, take, set, Some, None, Option, slice_set, refl}
use Rattle.std.proofs.Common.{sym, ap, ◌∙◌, ⊎_elim, arith}
use Rattle.std.proofs.lemmas.List.{get_or_append_left, get_or-append_right, get_or-take, get_or_past, length-append, length-take, length-set, map-append, take-map, take_all, set-append_left, set-append_right}
use Rattle.std.proofs.lemmas.Bool.{cases_lt}
use Rattle.plant.specs.declared.Kind.TheVariants.{PointToPoint}
use Rattle.plant.specs.Air.{Air, Frame, Line, Lawful, EndsFit, line, ends_of, waiting, shape}
use Rattle.plant.specs.Calls.{Put, Take, PutOver, TakeOver}
use Rattle.plant.proofs.Lines.{same_circuits}
use Rattle.std.proofs.lemmas.Bool.Decides.{nat_tests}
use Rattle.spans.specs.Pairs.{joined, PairPut, PairTake, AtFirst, AtSecond, AtNeither}

-- the circuit that is not there
abbrev absent : Line
absent = record { kind = PointToPoint; ends = [] }

take_of_set : {X : Type 0} (xs : List X) (n i : ℕ) (x : X) → take n (slice_set xs i x) ≡ slice_set (take n xs) i x
take_of_set [] zero i x = refl
take_of_set [] (suc n) i x = refl
take_of_set (y ∷ xs) zero zero x = refl
take_of_set (y ∷ xs) zero (suc i) x = refl
take_of_set (y ∷ xs) (suc n) zero x = refl
take_of_set (y ∷ xs) (suc n) (suc i) x = ap (λ ys. y ∷ ys) (take_of_set xs n i x)

module _ (a b : Air) where
  pub length-joined : length (joined a b) ≡ length a + min (12 - length a) (length b)
  length-joined = length-append a (take (12 - length a) b) ∙ ap (λ n. length a + n) (length-take (12 - length a) b)

  pub line_first : (c : ℕ) → c < length a → line (joined a b) c ≡ line a c
  line_first c h = get_or_append_left a (take (12 - length a) b) absent c h

  pub line_second : (c : ℕ) → length a ≤ c → c < 12 → line (joined a b) c ≡ line b (c - length a)
  line_second c h l =
      get_or-append_right a (take (12 - length a) b) (length a) c absent refl h
      ∙ get_or-take (12 - length a) b (c - length a) absent (omega arith)

  module _ (few : length a ≤ 12) where
    pub joined_few : length (joined a b) ≤ 12
    joined_few = omega (arith, length-joined)

    pub line_neither : (c : ℕ) → 12 ≤ c → line (joined a b) c ≡ absent
    line_neither c h = get_or_past (joined a b) c absent (omega (arith, joined_few))

    pub at_neither : (c : ℕ) → 12 ≤ c → AtNeither a b c
    at_neither c h = record {
      above = omega (arith, joined_few);
      gone = ap (λ (l : Line). length l.ends) (line_neither c h);
    }

  pub at_first : (c : ℕ) → c < length a → AtFirst a b c
  at_first c h = record { below = h; there = omega (arith, length-joined); same = line_first c h }

  pub at_second : (c d : ℕ) → length a ≤ c → c < 12 → d ≡ c - length a → AtSecond a b c d
  at_second c d h l e = record {
    above = h;
    few = l;
    number = e;
    known = let n = length-joined in grind (arith, nat_tests);
    same = line_second c h l ∙ ap (line b) (sym e);
  }

  pub joined_all : length a + length b ≤ 12 → joined a b ≡ a ++ b
  joined_all h = ap (λ x. a ++ x) (take_all (12 - length a) b (omega arith))

  pub joined_circuits : length a ≤ 12 → 12 < length a + length b → 12 ≡ length (joined a b)
  joined_circuits l h = omega (arith, length-joined)

  pub joined_lawful : Lawful a → Lawful b → Lawful (joined a b)
  joined_lawful p q = record {
    some = omega (arith, length-joined, p.some);
    few = joined_few p.few;
    ends = fit;
    frames = sized;
  }
    where
      fit : (c : ℕ) → c < length (joined a b) → EndsFit (line (joined a b) c).kind (ends_of (joined a b) c)
      fit c l =
          ⊎_elim
          (λ (h : c < length a). rw (line_first c h) (p.ends c h))
          (λ (h : length a ≤ c).
          let k : c < 12 = omega (arith, joined_few p.few) in
          rw (line_second c h k) (q.ends (c - length a) (omega (arith, length-joined))))
          (cases_lt c (length a))

      sized : (c e : ℕ) (f : Frame) → waiting (joined a b) c e ≡ Some f → (1 ≤ length f) × (length f ≤ 275)
      sized c e f w =
          ⊎_elim
          (λ (h : c < length a). p.frames c e f (rw (line_first c h) at w))
          (λ (h : length a ≤ c).
          ⊎_elim
          (λ (k : c < 12). q.frames (c - length a) e f (rw (line_second c h k) at w))
          (λ (k : 12 ≤ c).
          let v = rw (line_neither p.few c k) at w in
          let z : ◌≡◌ {A = ℕ} 0 1 = cc in absurd (omega arith))
          (cases_lt c 12))
          (cases_lt c (length a))

shape-joined : (a b : Air) → shape (joined a b) ≡ shape a ++ take (12 - length a) (shape b)
shape-joined a b =
    map-append (λ (l : Line). (l.kind, length l.ends)) a (take (12 - length a) b)
    ∙ ap (λ x. shape a ++ x) (sym (take-map (λ (l : Line). (l.kind, length l.ends)) (12 - length a) b))

-- a put on the first of two plants
pub put_first :
    (a a' b : Air) (c e : ℕ) (f : Frame) (missed : ℕ → Bool) →
    length a ≤ 12 →
    c < length a →
    Put a a' c e f missed →
    Put (joined a b) (joined a' b) c e f missed
put_first a a' b c e f missed few h p =
    let n = same_circuits a a' p.alike in
    let old = line_first a b c h in
    let new = line_first a' b c (omega arith) in
    record {
      allowed = rw old p.allowed;
      alike = shape-joined a' b ∙ (rw (n, p.alike) refl ∙ sym (shape-joined a b));
      elsewhere = λ d ne.
          ⊎_elim
          (λ (l : d < length a). line_first a' b d (omega arith) ∙ (p.elsewhere d ne ∙ sym (line_first a b d l)))
          (λ (l : length a ≤ d).
          ⊎_elim
          (λ (k : d < 12). line_second a' b d (omega arith) k ∙ (ap (λ m. line b (d - m)) n ∙ sym (line_second a b d l k)))
          (λ (k : 12 ≤ d). line_neither a' b (omega arith) d k ∙ sym (line_neither a b few d k))
          (cases_lt d 12))
          (cases_lt d (length a));
      here = rw (old, new) p.here;
      there = λ k l ne. rw new (p.there k (rw old at l) ne);
      only = λ k t. rw old (p.only k t);
    }

-- and on the second
pub put_second :
    (a b b' : Air) (c d e : ℕ) (f : Frame) (missed : ℕ → Bool) →
    length a ≤ 12 →
    length a ≤ c →
    c < 12 →
    d ≡ c - length a →
    Put b b' d e f missed →
    Put (joined a b) (joined a b') c e f missed
put_second a b b' c d e f missed few h l q p =
    let old = line_second a b c h l ∙ ap (line b) (sym q) in
    let new = line_second a b' c h l ∙ ap (line b') (sym q) in
    record {
      allowed = rw old p.allowed;
      alike = shape-joined a b' ∙ (rw p.alike refl ∙ sym (shape-joined a b));
      elsewhere = λ i ne.
          ⊎_elim
          (λ (m : i < length a). line_first a b' i m ∙ sym (line_first a b i m))
          (λ (m : length a ≤ i).
          ⊎_elim
          (λ (k : i < 12).
          let o : i - length a ≢ d = λ r. ne (omega arith) in
          line_second a b' i m k ∙ (p.elsewhere (i - length a) o ∙ sym (line_second a b i m k)))
          (λ (k : 12 ≤ i). line_neither a b' few i k ∙ sym (line_neither a b few i k))
          (cases_lt i 12))
          (cases_lt i (length a));
      here = rw (old, new) p.here;
      there = λ k m ne. rw new (p.there k (rw old at m) ne);
      only = λ k t. rw old (p.only k t);
    }

-- a take from the first
pub take_first :
    (a a' b : Air) (c e : ℕ) (got : Option Frame) →
    c < length a →
    Take a a' c e got →
    Take (joined a b) (joined a' b) c e got
take_first a a' b c e got h p =
    let old = line_first a b c h in
    record {
      known = rw old p.known;
      waited = rw old p.waited;
      after =
          let l : Line = record { kind = (line a c).kind; ends = slice_set (line a c).ends e None } in
          rw (old, p.after)
          (ap (λ n. slice_set a c l ++ take (12 - n) b) (length-set a c l)
          ∙ sym (set-append_left a (take (12 - length a) b) c l h));
    }

-- and from the second
pub take_second :
    (a b b' : Air) (c d e : ℕ) (got : Option Frame) →
    length a ≤ c →
    c < 12 →
    d ≡ c - length a →
    Take b b' d e got →
    Take (joined a b) (joined a b') c e got
take_second a b b' c d e got h k q p =
    let old = line_second a b c h k ∙ ap (line b) (sym q) in
    record {
      known = rw old p.known;
      waited = rw old p.waited;
      after =
          let l : Line = record { kind = (line b d).kind; ends = slice_set (line b d).ends e None } in
          rw (old, p.after)
          (ap (λ x. a ++ x) (take_of_set b (12 - length a) d l ∙ ap (λ i. set (take (12 - length a) b) i l) q)
          ∙ sym (set-append_right a (take (12 - length a) b) (length a) c l refl h));
    }

-- a put on a pair, and a take from it
module _ {P Q : Type 0} (air : P → Air) (air' : Q → Air) where
  pub pair_put_means :
      (on_P : PutOver P) (on_Q : PutOver Q) →
      ((p : P) → Lawful (air p)) →
      ((p p' : P) (c e : ℕ) (f : Frame) (missed : ℕ → Bool) → on_P p p' c e f missed → Put (air p) (air p') c e f missed) →
      ((q q' : Q) (c e : ℕ) (f : Frame) (missed : ℕ → Bool) → on_Q q q' c e f missed → Put (air' q) (air' q') c e f missed) →
      (p p' : P) (q q' : Q) (c e : ℕ) (f : Frame) (missed : ℕ → Bool) →
      PairPut air on_P on_Q p p' q q' c e f missed →
      Put (joined (air p) (air' q)) (joined (air p') (air' q')) c e f missed
  pair_put_means on_P on_Q lawful means means' p p' q q' c e f missed (PairPut.of_first h w s) =
      rw s (put_first (air p) (air p') (air' q) c e f missed (lawful p).few h (means p p' c e f missed w))
  pair_put_means on_P on_Q lawful means means' p p' q q' c e f missed (PairPut.of_second h l w s) =
      let d = c - length (air p) in
      rw s (put_second (air p) (air' q) (air' q') c d e f missed (lawful p).few h l refl (means' q q' d e f missed w))

  pub pair_take_means :
      (on_P : TakeOver P) (on_Q : TakeOver Q) →
      ((p p' : P) (c e : ℕ) (got : Option Frame) → on_P p p' c e got → Take (air p) (air p') c e got) →
      ((q q' : Q) (c e : ℕ) (got : Option Frame) → on_Q q q' c e got → Take (air' q) (air' q') c e got) →
      (p p' : P) (q q' : Q) (c e : ℕ) (got : Option Frame) →
      PairTake air on_P on_Q p p' q q' c e got →
      Take (joined (air p) (air' q)) (joined (air p') (air' q')) c e got
  pair_take_means on_P on_Q means means' p p' q q' c e got (PairTake.from_first h w s) =
      rw s (take_first (air p) (air p') (air' q) c e got h (means p p' c e got w))
  pair_take_means on_P on_Q means means' p p' q q' c e got (PairTake.from_second h l w s) =
      let d = c - length (air p) in
      rw s (take_second (air p) (air' q) (air' q') c d e got h l refl (means' q q' d e got w))

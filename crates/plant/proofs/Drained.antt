-- Ends that take one after another.
use Rattle.std.proofs.Common.{◌≡◌, ℕ, ◌+◌, ◌<◌, ◌≤◌, ◌≢◌, List, [], length, get_or, set, None, Ok, Err, Option, Result, sym, refl, ap, ◌∙◌, ⊎_elim, arith}
use Rattle.std.proofs.lemmas.List.{get_or-set_same, get_or-set_other, length-set, map-set, set-get_or}
use Rattle.std.proofs.lemmas.Bool.{cases_eq, cases_lt, lt-ltb, le-ltb}
use Rattle.fault.specs.declared.CallFault.{CallFault}
use Rattle.plant.specs.declared.Kind.TheVariants.{PointToPoint}
use Rattle.plant.specs.Air.{Air, Frame, Line, line, ends_of, waiting, shape}
use Rattle.plant.specs.Calls.{Take, Takes, TakeOver, take_refusal, cleared, Drains}
use Rattle.plant.proofs.Lines.{known_circuit, no_end, shape_at, same_ends}

-- what a take leaves
module _ (a : Air) (c e : ℕ) (h : e < ends_of a c) where
  there : c < length a
  there = known_circuit a c e h

  pub cleared-line : line (cleared a c e) c ≡ record { kind = (line a c).kind; ends = set (line a c).ends e None }
  cleared-line = get_or-set_same a c (record { kind = (line a c).kind; ends = set (line a c).ends e None }) (record { kind = PointToPoint; ends = [] }) there

  pub cleared_other : (d : ℕ) → d ≢ c → line (cleared a c e) d ≡ line a d
  cleared_other d ne = get_or-set_other a c d (record { kind = (line a c).kind; ends = set (line a c).ends e None }) (record { kind = PointToPoint; ends = [] }) ne

  pub cleared_here : waiting (cleared a c e) c e ≡ None
  cleared_here = ap (λ (l : Line). get_or l.ends e None) cleared-line ∙ get_or-set_same (line a c).ends e None None h

  pub cleared_there : (k : ℕ) → k ≢ e → waiting (cleared a c e) c k ≡ waiting a c k
  cleared_there k ne = ap (λ (l : Line). get_or l.ends k None) cleared-line ∙ get_or-set_other (line a c).ends e k None None ne

  pub cleared-shape : shape (cleared a c e) ≡ shape a
  cleared-shape =
      map-set (λ (l : Line). (l.kind, length l.ends)) a c (record { kind = (line a c).kind; ends = set (line a c).ends e None })
      ∙ (ap (λ n. set (shape a) c ((line a c).kind, n)) (length-set (line a c).ends e None)
      ∙ (ap (set (shape a) c) (sym (shape_at a c)) ∙ set-get_or (shape a) c (PointToPoint, 0)))

-- the first n ends have taken
pub record TakenUpto (a b : Air) (c n : ℕ) : Type 0 where
  pub below : (k : ℕ) → k < n → waiting b c k ≡ None
  pub alike : shape b ≡ shape a
  pub elsewhere : (d : ℕ) → d ≢ c → line b d ≡ line a d

take_more : (a b d : Air) (c n : ℕ) (got : Option Frame) → TakenUpto a b c n → Take b d c n got → TakenUpto a d c (n + 1)
take_more a b d c n got h t =
    let k = t.known in
    rw t.after (record {
      below = λ j l. ⊎_elim (λ (q : j ≡ n). rw q (cleared_here b c n k)) (λ (q : j ≡ n → ⊥). cleared_there b c n k j q ∙ h.below j (omega arith)) (cases_eq j n);
      alike = cleared-shape b c n k ∙ h.alike;
      elsewhere = λ i ne. cleared_other b c n k i ne ∙ h.elsewhere i ne;
    })

-- one end more takes, with room enough
pub taken_more :
    {P : Type 0} (air : P → Air) (over : TakeOver P) →
    ((p q : P) (c e : ℕ) (got : Option Frame) → over p q c e got → Take (air p) (air q) c e got) →
    (a : Air) (p q : P) (c n : ℕ) (was after : List ℕ) (r : Result (Option ℕ) CallFault) →
    TakenUpto a (air p) c n →
    n < ends_of a c →
    275 ≤ length was →
    Takes air over p q c n was after r →
    TakenUpto a (air q) c (n + 1)
taken_more air over law a p q c n was after (Ok r) h l m t =
    take_more a (air p) (air q) c n (waiting (air p) c n) h (law p q c n (waiting (air p) c n) t.happened)
taken_more air over law a p q c n was after (Err x) h l m t =
    let k : n < ends_of (air p) c = omega (arith, same_ends a (air p) h.alike c) in
    let e : take_refusal (air p) c n (length was) ≡ None = rw (le-ltb (length was) 275 m, lt-ltb n (ends_of (air p) c) k) refl in
    let z : ◌≡◌ {A = ℕ} 0 1 = cc t.0 in
    absurd (omega arith)

pub taken_all : (a b : Air) (c n : ℕ) → n ≡ ends_of a c → TakenUpto a b c n → Drains a b c
taken_all a b c n e h = record {
  drained =
      λ k. ⊎_elim
      (λ (l : k < n). h.below k l)
      (λ (l : n ≤ k). no_end b c k (omega (arith, same_ends a b h.alike c)))
      (cases_lt k n);
  alike = h.alike;
  elsewhere = h.elsewhere;
}

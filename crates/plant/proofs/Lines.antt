-- Circuits and ends that are not there, and plants of one shape.
use Rattle.std.proofs.Common.{◌≡◌, ℕ, zero, suc, ◌<◌, ◌≤◌, Bool, true, false, cond, [], ◌∷◌, length, get_or, None, Ok, Err, Result, sym, refl, ap, ◌∙◌, ⊎_elim, arith}
use Rattle.std.proofs.lemmas.List.{get_or_past, length-map}
use Rattle.std.proofs.lemmas.Bool.{cases_lt}
use Rattle.plant.specs.declared.Kind.{Kind}
use Rattle.plant.specs.declared.Kind.TheVariants.{PointToPoint}
use Rattle.plant.specs.Air.{Air, Line, line, ends_of, waiting, shape}

pub no_ends : (a : Air) (c : ℕ) → length a ≤ c → ends_of a c ≡ 0
no_ends a c h = ap (λ (l : Line). length l.ends) (get_or_past a c (record { kind = PointToPoint; ends = [] }) h)

pub no_end : (a : Air) (c e : ℕ) → ends_of a c ≤ e → waiting a c e ≡ None
no_end a c e h = get_or_past (line a c).ends e None h

-- an end that is there is on a circuit that is there
pub known_circuit : (a : Air) (c e : ℕ) → e < ends_of a c → c < length a
known_circuit a c e h = ⊎_elim (λ l. l) (λ l. absurd (omega (arith, no_ends a c l))) (cases_lt c (length a))

-- a refused question
module _ {A B : Type 0} (x : B) (y : Result A B) where
  pub refused : (b : Bool) (v : A) → Err x ≡ cond b (Ok v) y → b ≡ false
  refused true v h = let z : ◌≡◌ {A = ℕ} 0 1 = cc in absurd (omega arith)
  refused false v h = refl

pub shape_at : (a : Air) (c : ℕ) → get_or (shape a) c (PointToPoint, 0) ≡ ((line a c).kind, ends_of a c)
shape_at [] c = refl
shape_at (l ∷ a) zero = refl
shape_at (l ∷ a) (suc c) = shape_at a c

module _ (a b : Air) (h : shape b ≡ shape a) where
  at_one : (c : ℕ) → ◌≡◌ {A = Kind × ℕ} ((line b c).kind, ends_of b c) ((line a c).kind, ends_of a c)
  at_one c = sym (shape_at b c) ∙ (ap (λ s. get_or s c (PointToPoint, 0)) h ∙ shape_at a c)

  pub same_circuits : length b ≡ length a
  same_circuits =
      sym (length-map b (λ (l : Line). (l.kind, length l.ends)))
      ∙ (ap length h ∙ length-map a (λ (l : Line). (l.kind, length l.ends)))

  pub same_kind : (c : ℕ) → (line b c).kind ≡ (line a c).kind
  same_kind c = ap (λ (s : Kind × ℕ). s.0) (at_one c)

  pub same_ends : (c : ℕ) → ends_of b c ≡ ends_of a c
  same_ends c = ap (λ (s : Kind × ℕ). s.1) (at_one c)

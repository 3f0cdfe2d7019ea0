-- A missed sum only grows through the turns of a tick, so where it ends at 0 no put had one that missed.
use Rattle.std.proofs.Common.{◌≡◌, ℕ, zero, suc, ◌+◌, ◌<◌, Bool, true, false, cond, List, [], ◌∷◌, sym, refl, ap, ◌∙◌, subst, arith}
use native.Mathlib.Decide.{dec_lt}
use Rattle.plant.specs.Air.{Air, Frame, ends_of}
use Rattle.plant.specs.Calls.{PutOver, TakeOver, count}
use Rattle.model.specs.Plants.{PlantLaws}
use Rattle.model.specs.Lists.{Passes}
use Rattle.model.specs.State.{State, Port}
use Rattle.model.specs.Loop.{Loop, Along}
use Rattle.model.specs.Turns.{Progress, Sends, AtPort, RouterTurn, SendsAll}
use Rattle.model.specs.Steps.{InPortTurn, InRouterTurn}
use Rattle.model.specs.Clean.{CleanPut, ZeroMissedIsClean}

-- a set of which none of the first n is counted has none of them
none-counted : (missed : ℕ → Bool) (n : ℕ) → count missed n ≡ 0 → (k : ℕ) → k < n → missed k ≡ false
none-counted missed zero e k h = absurd (omega arith)
none-counted missed (suc n) e k h =
    elim (missed n) as (λ b. missed n ≡ b → missed k ≡ false) [
      | true ↦ λ m. (let z : count missed n + 1 ≡ 0 = subst (λ b. count missed n + cond b 1 0 ≡ 0) m e in absurd (omega arith))
      | false ↦ λ m. elim (dec_lt k n) [ yes l ↦ none-counted missed n (omega arith) k l | no g ↦ (let p : k ≡ n = omega arith in subst (λ j. missed j ≡ false) (sym p) m) ]
    ] refl

-- along a loop a measure that never falls ends at 0 only where it was 0 throughout
module _ {S : Type 0} {step : ℕ → S → S → Type 0} (μ : S → ℕ) (W : (k : ℕ) (u t : S) → step k u t → Type 0) (each : (k : ℕ) (u t : S) (v : step k u t) → μ t ≡ 0 → W k u t v × (μ u ≡ 0)) where
  along_zero : {n : ℕ} {s t : S} (l : Loop step n s t) → μ t ≡ 0 → Along W l × (μ s ≡ 0)
  along_zero Loop.none e = (tt, e)
  along_zero (Loop.more {k} {u = u} {t = t} h v) e =
      let w : W k u t v × (μ u ≡ 0) = each k u t v e in
      let i : Along W h × (μ _ ≡ 0) = along_zero h w.1 in
      ((i.0, w.0), i.1)

no_step : {P A : Type 0} (f : A → State P → State P) (xs : List A) (s : State P) → Passes (λ u v. Unit {0}) f xs s
no_step f [] s = tt
no_step f (x ∷ xs) s = (tt, no_step f xs (f x s))

module _ {P : Type 0} (air : P → Air) (put : PutOver P) (take : TakeOver P) (laws : PlantLaws air put take) where
  clean_put : (a : Port) (f : Frame) (g h : Progress P) (v : Sends air put take a f g h) → h.missed ≡ 0 → CleanPut air put take a f g h v × (g.missed ≡ 0)
  clean_put a f g h (Sends.sent {q = q} {n = n} p l takes e) z =
      let total : g.missed + n ≡ 0 = sym (ap (λ x. x.missed) e) ∙ z in
      let zero_n : n ≡ 0 = omega arith in
      let zero_g : g.missed ≡ 0 = omega arith in
      let c : count p.missed (ends_of (air g.state.plant) a.circuit) ≡ 0 = sym p.counted ∙ zero_n in (
        λ k there.
            elim (p.missed k) as (λ b. p.missed k ≡ b → p.missed k ≡ false) [
              | true ↦ λ m. none-counted p.missed _ c k ((laws.put_means _ _ _ _ _ _ p.happened).only k m).0
              | false ↦ λ m. m
            ] refl,
        zero_g,
      )
  clean_put a f g h (Sends.refused p e) z = (tt, sym (ap (λ x. x.missed) e) ∙ z)

  clean_sends : (a : Port) (fs : List Frame) (g h : Progress P) (l : SendsAll air put take a fs g h) → h.missed ≡ 0 → Along (λ k. CleanPut air put take a _) l × (g.missed ≡ 0)
  clean_sends a fs g h l z = along_zero (λ x. x.missed) (λ k. CleanPut air put take a _) (λ k u t v e. clean_put a _ u t v e) l z

  clean_port_turn : (r p : ℕ) (g h : Progress P) (v : AtPort air put take r p g h) →
      h.missed ≡ 0 → InPortTurn air put take (λ u w. Unit {0}) (CleanPut air put take) r p g h v × (g.missed ≡ 0)
  clean_port_turn r p g h (AtPort.out_of_service o) z = (tt, z)
  clean_port_turn r p g h (AtPort.turn o t) z =
      let c = clean_sends _ _ _ _ t.csnps_sent z in
      let b = clean_sends _ _ _ _ t.psnps_sent c.1 in
      let a = clean_sends _ _ _ _ t.lsps_sent b.1 in
      ((a.0, tt, b.0, tt, c.0), a.1)

  clean_router_turn : (r : ℕ) (g h : Progress P) (v : RouterTurn air put take r g h) →
      h.missed ≡ 0 → InRouterTurn air put take (λ u w. Unit {0}) (CleanPut air put take) r g h v × (g.missed ≡ 0)
  clean_router_turn r g h v z = along_zero (λ x. x.missed) _ (λ p u t w e. clean_port_turn r p u t w e) v z

  pub zero_missed_is_clean : ZeroMissedIsClean air put take
  zero_missed_is_clean s t f k =
      (tt, no_step _ _ _, no_step _ _ _, (along_zero (λ x. x.missed) _ (λ r u w v e. clean_router_turn r u w v e) k.1.2 refl).0)

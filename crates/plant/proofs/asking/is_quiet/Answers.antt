use Rattle.std.proofs.Common.{ℕ, length, refl, ⊎_elim, arith, below_more}
use Rattle.std.proofs.lemmas.Bool.{cases_lt}
use Rattle.plant.specs.Air.{Drained}
use Rattle.plant.proofs.Lines.{no_end, no_ends}
use Rattle.plant.proofs.asking.is_quiet.Goals as goal

pub loop-c-preserved : goal.loop-c-preserved
loop-c-preserved g c =
    below_more (λ (d : ℕ). Drained (g.P.Plant.air c.args.plant.now) d) c.loop-c.c c.loop-c.invariant
    (c.is_drained.ensures.0 c.if-not-is_drained.false)

pub returns : goal.returns
returns g c =
    let a = g.P.Plant.air c.args.plant.now in (
      λ _ d k. ⊎_elim (λ l. c.loop-c.invariant d (omega arith) k) (λ l. no_end a d k (omega (arith, no_ends a d l))) (cases_lt d (length a)),
      λ _. refl,
    )

use Rattle.std.proofs.Common.{refl, ⊎_elim, arith}
use Rattle.std.proofs.lemmas.Bool.{cases_lt}
use Rattle.plant.specs.Air.{ends_of}
use Rattle.plant.proofs.Lines.{no_end}
use Rattle.plant.proofs.asking.is_drained.Goals as goal

pub returns : goal.returns
returns g c =
    let a = g.P.Plant.air c.args.plant.now in
    let n = c.args.circuit.0 in (
      λ _ k. ⊎_elim (λ l. c.loop-k.invariant k (omega arith)) (λ l. no_end a n k l) (cases_lt k (ends_of a n)),
      λ _. refl,
    )

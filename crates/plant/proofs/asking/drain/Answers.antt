use Rattle.std.proofs.Common.{arith}
use Rattle.plant.proofs.Drained.{taken_more, taken_all}
use Rattle.plant.proofs.asking.drain.Goals as goal

pub loop-k-preserved : goal.loop-k-preserved
loop-k-preserved g c =
    taken_more g.P.Plant.air g.P.Plant.take_over g.met.P.Plant.take_means (g.P.Plant.air c.args.plant.now) _ _ c.args.circuit.0 c.loop-k.k _ _ c.take.result
    c.loop-k.invariant (omega arith) (omega arith) (rw c.end.ensures at c.take.ensures.takes)

pub returns : goal.returns
returns g c =
    taken_all (g.P.Plant.air c.args.plant.now) _ c.args.circuit.0 c.loop-k.k (omega arith) c.loop-k.invariant

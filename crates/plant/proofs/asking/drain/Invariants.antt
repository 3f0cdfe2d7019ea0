use Rattle.plant.proofs.Drained.{TakenUpto}
use Rattle.plant.proofs.asking.drain.Given as goal

abbrev pub invariant-loop-k : goal.invariant-loop-k
invariant-loop-k g l = TakenUpto (g.P.Plant.air l.initial.plant) (g.P.Plant.air l.plant) l.circuit.0 l.k

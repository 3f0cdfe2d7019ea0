use Rattle.std.proofs.Common.{◌≡◌, ℕ, ◌<◌, None}
use Rattle.plant.specs.Air.{waiting}
use Rattle.plant.proofs.asking.is_drained.Given as goal

abbrev pub invariant-loop-k : goal.invariant-loop-k
invariant-loop-k g l = (k : ℕ) → k < l.k → waiting (g.P.Plant.air l.plant) l.circuit.0 k ≡ None

use Rattle.std.proofs.Common.{◌≡◌, false}
use Rattle.plant.specs.Air.{line}
use Rattle.plant.specs.Calls.{waits_elsewhere}
use Rattle.plant.proofs.asking.is_blocked.Given as goal

abbrev pub invariant-loop-k : goal.invariant-loop-k
invariant-loop-k g l = waits_elsewhere (line (g.P.Plant.air l.plant) l.end.circuit.0).ends l.end.number l.k ≡ false

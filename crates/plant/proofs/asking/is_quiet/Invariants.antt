use Rattle.std.proofs.Common.{ℕ, ◌<◌}
use Rattle.plant.specs.Air.{Drained}
use Rattle.plant.proofs.asking.is_quiet.Given as goal

abbrev pub invariant-loop-c : goal.invariant-loop-c
invariant-loop-c g l = (d : ℕ) → d < l.c → Drained (g.P.Plant.air l.plant) d

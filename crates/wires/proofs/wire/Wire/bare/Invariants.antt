use Rattle.std.proofs.Common.{◌≡◌, map, replicate, None}
use Rattle.wires.specs.Held.{held}
use Rattle.wires.proofs.wire.Wire.bare.Given as goal

abbrev pub invariant-loop : goal.invariant-loop
invariant-loop g l = map held l.inboxes.items ≡ replicate l.counter None

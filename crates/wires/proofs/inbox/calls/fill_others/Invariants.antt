use Rattle.std.proofs.Common.{◌≡◌, map}
use Rattle.wires.specs.Held.{held}
use Rattle.wires.specs.Wires.{spread}
use Rattle.wires.proofs.inbox.calls.fill_others.Given as goal

abbrev pub invariant-loop-k : goal.invariant-loop-k
invariant-loop-k l = map held l.inboxes ≡ spread (map held l.initial.inboxes) l.k l.end l.frame.octets.now

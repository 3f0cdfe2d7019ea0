-- What waits in an inbox.
use Rattle.std.specs.Prelude.{cond, take, Some, None, Option, ◌==◌}
use Rattle.plant.specs.Air.{Frame}
use Rattle.wires.specs.declared.inbox.Inbox.{Inbox}

abbrev pub held : Inbox → Option Frame
held b = cond (b.len == 0) None (Some (take b.len b.octets))

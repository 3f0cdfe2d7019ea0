use Rattle.std.proofs.Common.{map, set, ap, ◌∙◌}
use Rattle.std.proofs.lemmas.List.{map-set}
use Rattle.wires.specs.Held.{held}
use Rattle.wires.proofs.Inboxes.{refill-set}
use Rattle.wires.proofs.wire.Wire.release.Goals as goal

pub returns-clause-after : goal.returns-clause-after
returns-clause-after g c =
    let xs = c.args.self.now.inboxes.items in
    let e = c.args.end in
    rw c.deref_mut.ensures.value
    (ap (map held) (refill-set xs e c.release.new.inbox)
    ∙ (map-set held xs e c.release.new.inbox ∙ ap (set (map held xs) e) c.release.ensures.after))

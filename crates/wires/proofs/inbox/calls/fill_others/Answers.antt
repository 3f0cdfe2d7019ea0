use Rattle.std.proofs.Common.{map, set, Some, sym, ap, ◌∙◌}
use Rattle.std.proofs.lemmas.List.{map-set, set-get_or}
use Rattle.wires.specs.Held.{held}
use Rattle.wires.proofs.Spread.{spread_own, spread_more}
use Rattle.wires.proofs.inbox.calls.fill_others.Goals as goal
use Rattle.wires.proofs.inbox.calls.fill_others.Goals.{then-k-end, else-k-end}

pub loop-k-preserved : goal.loop-k-preserved
loop-k-preserved c =
    let k = c.loop-k.k in
    let xs = map held c.args.inboxes.now in
    let f = c.args.frame.octets.now in
    elim c.if-k-end.branch [
      | then-k-end w ↦
          ap (map held) w.inboxes-is
          ∙ (map-set held c.loop-k.inboxes k w.fill.new.self
          ∙ (ap (set (map held c.loop-k.inboxes) k) w.fill.ensures
          ∙ (ap (λ ys. set ys k (Some f)) c.loop-k.invariant ∙ sym (spread_more xs k c.args.end f w.if-k-end.true))))
      | else-k-end w ↦ ap (map held) (w.inboxes-is ∙ set-get_or c.loop-k.inboxes k _) ∙ (c.loop-k.invariant ∙ sym (spread_own xs k c.args.end f w.if-k-end.false))
    ]

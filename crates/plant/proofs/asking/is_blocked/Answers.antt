use Rattle.std.proofs.Common.{sym, arith}
use Rattle.plant.specs.Air.{line, ends_of}
use Rattle.plant.proofs.Blocked.{busy_at, idle_more}
use Rattle.plant.proofs.asking.is_blocked.Goals as goal
use Rattle.plant.proofs.asking.is_blocked.Goals.{else-k-end-via-then-k-end+else-is_waiting, else-k-end-via-else-k-end}

pub returns-then-is_waiting : goal.returns-then-is_waiting
returns-then-is_waiting g c =
    let a = g.P.Plant.air c.args.plant.now in
    let n = c.args.end.circuit.0 in
    sym (busy_at (line a n).ends c.args.end.number (ends_of a n) c.loop-k.k (omega arith) c.if-k-end.true (rw c.end.ensures at (sym c.if-is_waiting.ensures)))

pub loop-k-preserved : goal.loop-k-preserved
loop-k-preserved g c =
    let a = g.P.Plant.air c.args.plant.now in
    idle_more (line a c.args.end.circuit.0).ends c.args.end.number c.loop-k.k c.loop-k.invariant
    (λ d. elim c.else-k-end.branch [
      | else-k-end-via-then-k-end+else-is_waiting w ↦ rw w.end.ensures at (sym w.if-is_waiting.ensures)
      | else-k-end-via-else-k-end w ↦ absurd (d w.if-k-end.false)
    ])

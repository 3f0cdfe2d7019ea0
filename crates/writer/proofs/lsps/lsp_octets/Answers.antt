use Rattle.std.proofs.Common.{arith, rules}
use Rattle.writer.proofs.Pieces.{by_value}
use Rattle.writer.proofs.Writes.{wrote_then}
use Rattle.writer.proofs.lsps.lsp_octets.Goals as goal

pub returns-clause-wrote : goal.returns-clause-wrote
returns-clause-wrote c =
    let w1 = c.headed-frame.ensures.wrote in
    let w2 = c.put_entry.ensures.wrote in
    let w3 = c.put.ensures.wrote in
    wrote_then (omega arith) w1
    (wrote_then (omega (arith, w1.place, w1.len)) w2
    (wrote_then (omega (arith, w1.place, w1.len, w2.place, w2.len)) w3 c.put-2.ensures.wrote))

pub returns-clause-sized : goal.returns-clause-sized
returns-clause-sized c =
    record { lifetime = omega arith; id = (by_value c.args.m.now.id 8 (omega arith) (search rules)).1; number = omega arith }

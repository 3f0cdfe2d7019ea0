use Rattle.std.proofs.Common.{◌∙◌, arith, rules}
use Rattle.writer.proofs.Pieces.{four_octets, by_value}
use Rattle.writer.proofs.Writes.{wrote_then, wrote_as}
use Rattle.writer.proofs.frame_octets.FrameOctets.put_entry.Goals as goal

pub returns-clause-wrote : goal.returns-clause-wrote
returns-clause-wrote c =
    let e = c.args.e in
    let w1 = wrote_as c.to_be_bytes.ensures c.put.ensures.wrote in
    let w2 = wrote_as (by_value e.id 8 (omega arith) (search rules)).0 c.put-2.ensures.wrote in
    let w3 = wrote_as (c.to_be_bytes-2.ensures ∙ four_octets e.number) c.put-3.ensures.wrote in
    wrote_then (omega arith) w1
    (wrote_then (omega (arith, w1.place, w1.len)) w2
    (wrote_then (omega (arith, w1.place, w1.len, w2.place, w2.len)) w3 c.put-4.ensures.wrote))

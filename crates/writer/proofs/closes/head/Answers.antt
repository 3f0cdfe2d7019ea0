use Rattle.std.proofs.Common.{sym, ap, arith, rules}
use Rattle.octets.specs.Octets.{value}
use Rattle.writer.specs.declared.scope.Scope.{Scope}
use Rattle.writer.specs.Summaries.{head_octets}
use Rattle.writer.proofs.Pieces.{by_value}
use Rattle.writer.proofs.Writes.{wrote_then, wrote_as}
use Rattle.writer.proofs.closes.head.Goals as goal

pub returns-in-Csnp-clause-wrote : goal.returns-in-Csnp-clause-wrote
returns-in-Csnp-clause-wrote c =
    let r = c.in-Csnp.range in
    let w1 = c.headed-frame.ensures.wrote in
    let w2 = wrote_as (by_value c.args.source 7 (omega arith) (search rules)).0 c.put.ensures.wrote in
    let w3 = wrote_as (by_value r.start 8 (omega arith) (search rules)).0 c.put-in-Csnp.ensures.wrote in
    let w4 = wrote_as (by_value r.end 8 (omega arith) (search rules)).0 c.put-in-Csnp-2.ensures.wrote in
    wrote_as (ap (λ (s : Scope). head_octets s (value c.args.source) c.args.behind) (sym c.in-Csnp.is))
    (wrote_then (omega arith) w1
    (wrote_then (omega (arith, w1.place, w1.len)) w2
    (wrote_then (omega (arith, w1.place, w1.len, w2.place, w2.len)) w3 w4)))

pub returns-in-Psnp-clause-wrote : goal.returns-in-Psnp-clause-wrote
returns-in-Psnp-clause-wrote c =
    let w1 = c.headed-frame-in-Psnp.ensures.wrote in
    let w2 = wrote_as (by_value c.args.source 7 (omega arith) (search rules)).0 c.put-in-Psnp.ensures.wrote in
    wrote_as (ap (λ (s : Scope). head_octets s (value c.args.source) c.args.behind) (sym c.in-Psnp.is)) (wrote_then (omega arith) w1 w2)

use Rattle.std.proofs.Common.{ap, ◌∙◌}
use Rattle.writer.specs.Listing.{rises}
use Rattle.writer.proofs.Entering.{rises_push, taken_right}
use Rattle.writer.proofs.summary.Listing.push.Goals as goal

pub invariant_of-self-clause-right : goal.invariant_of-self-clause-right
invariant_of-self-clause-right c =
    let e = c.args.e in
    let s = c.args.self.now in
    let p = taken_right s.entries.items e c.requires.may c.requires.under.0 c.requires.under.1 in
    ap (rises 0) c.push.ensures.items ∙ rises_push 0 s.entries.items e s.right p.1 p.0

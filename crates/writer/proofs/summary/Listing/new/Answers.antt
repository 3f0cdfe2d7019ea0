use Rattle.std.proofs.Common.{ap, length, arith, rules}
use Rattle.writer.specs.Listing.{rises}
use Rattle.writer.proofs.Pieces.{by_value}
use Rattle.writer.proofs.summary.Listing.new.Goals as goal

pub invariant_of-result : goal.invariant_of-result
invariant_of-result c =
    record {
      sized = (by_value c.args.source 7 (omega arith) (search rules)).1;
      few = omega (arith, ap length c.new.ensures);
      right = ap (rises 0) c.new.ensures;
    }

use Rattle.std.proofs.Common.{arith, rules}
use Rattle.writer.proofs.Pieces.{by_value}
use Rattle.record.proofs.FormLaws.{quiet_none}
use Rattle.record.proofs.makes.unflagged.Goals as goal

pub invariant_of-result : goal.invariant_of-result
invariant_of-result c =
    record {
      sized = (by_value c.args.id 8 (omega arith) (search rules)).1;
      numbered = c.requires.numbered;
      form = c.requires.form;
      unsent = quiet_none c.args.state c.none.result c.none.ensures.is;
    }

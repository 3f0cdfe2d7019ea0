use Rattle.std.proofs.Common.{arith, rules}
use Rattle.writer.proofs.Pieces.{by_value}
use Rattle.writer.proofs.summary.OpenSummary.check_range.Goals as goal

pub returns-then-is_empty-clause-under : goal.returns-then-is_empty-clause-under
returns-then-is_empty-clause-under c = (by_value c.args.range.end 8 (omega arith) (search rules)).1

pub returns-clause-under : goal.returns-clause-under
returns-clause-under c = (by_value c.args.range.end 8 (omega arith) (search rules)).1

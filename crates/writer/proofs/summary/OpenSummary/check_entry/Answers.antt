use Rattle.std.proofs.Common.{arith, rules}
use Rattle.writer.proofs.Pieces.{by_value}
use Rattle.writer.proofs.summary.OpenSummary.check_entry.Goals as goal

pub returns-then-is_not_over-clause-under : goal.returns-then-is_not_over-clause-under
returns-then-is_not_over-clause-under c = ((by_value c.args.e.id 8 (omega arith) (search rules)).1, omega arith)

pub returns-clause-under : goal.returns-clause-under
returns-clause-under c = ((by_value c.args.e.id 8 (omega arith) (search rules)).1, omega arith)

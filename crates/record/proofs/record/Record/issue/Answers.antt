use Rattle.std.proofs.Common.{arith}
use Rattle.record.proofs.FormLaws.{lived}
use Rattle.record.proofs.record.Record.issue.Goals as goal

pub unflagged-requires-clause-form : goal.unflagged-requires-clause-form
unflagged-requires-clause-form c =
    lived _ (record { number = omega arith; lifetime = omega arith; short = omega arith; sums = rw c.as_slice.ensures.is at c.computed_check.ensures.right })

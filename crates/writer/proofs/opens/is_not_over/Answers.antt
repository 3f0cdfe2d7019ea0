use Rattle.std.proofs.Common.{rules}
use Rattle.writer.proofs.Entering.{not_over}
use Rattle.writer.proofs.opens.is_not_over.Goals as goal

pub returns : goal.returns
returns c = not_over c.args.entries.now c.args.id c.last.result _ c.last.ensures.value (search rules)

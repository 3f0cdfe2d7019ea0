use Rattle.std.proofs.Common.{rules}
use Rattle.octets.proofs.Orders.{octets_from}
use Rattle.octets.proofs.CheckLaws.{right_computed}
use Rattle.octets.proofs.checks.are_right.Goals as goal

pub returns-then-part-p-ne0-clause-own : goal.returns-then-part-p-ne0-clause-own
returns-then-part-p-ne0-clause-own c e = right_computed c.args.p c.args.part.now (octets_from c.args.part.now (search rules)) (search (rules, e))

pub returns-then-part-p-ne0-clause-always : goal.returns-then-part-p-ne0-clause-always
returns-then-part-p-ne0-clause-always c = right_computed

pub returns-else-part-p-ne0-clause-always : goal.returns-else-part-p-ne0-clause-always
returns-else-part-p-ne0-clause-always c = right_computed

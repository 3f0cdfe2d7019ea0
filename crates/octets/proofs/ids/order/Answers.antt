use Rattle.std.proofs.Common.{arith, rules}
use Rattle.octets.proofs.Orders.{equal_ids}
use Rattle.octets.proofs.ids.order.Goals as goal

pub returns-clause-same : goal.returns-clause-same
returns-clause-same c = equal_ids c.args.a c.args.b (search rules) (search rules) (omega arith)

use Rattle.std.proofs.Common.{arith}
use Rattle.octets.proofs.Orders.{octets_from}
use Rattle.frame.proofs.Trips.{reads}
use Rattle.frame.proofs.reader.read_message.Goals as goal

pub returns : goal.returns
returns c = record { reads = reads c.args.f.now _ (octets_from c.args.f.now (λ k. omega (arith, c.type_inv.f k))) c.read_by_kind.ensures.reads; parts = c.read_by_kind.ensures.parts }

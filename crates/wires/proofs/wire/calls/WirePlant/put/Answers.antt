use Rattle.std.proofs.Common.{sym, rules}
use Rattle.plant.specs.Air.{ends_of}
use Rattle.plant.specs.Calls.{none}
use Rattle.plant.proofs.Blocked.{count_none}
use Rattle.wires.specs.Wires.{kind_of, wire_air, wire_ends}
use Rattle.wires.proofs.Spread.{alone-spread}
use Rattle.wires.proofs.wire.calls.WirePlant.put.Goals as goal

pub returns-clause-puts : goal.returns-clause-puts
returns-clause-puts g c =
    let s = c.args.self.now in
    record {
      missed = none;
      happened = alone-spread (kind_of g.row.N) (wire_ends s) _ c.args.end.circuit.0 c.args.end.number c.args.frame.now (search rules) (search rules);
      counted = sym (count_none (ends_of (wire_air s) c.args.end.circuit.0));
    }

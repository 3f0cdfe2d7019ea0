use Rattle.std.proofs.Common.{ap, arith}
use Rattle.spans.specs.declared.fader.Fade.{Fade}
use Rattle.spans.proofs.Circuits.{patterns_stay, accepted-counted, accepted_past}
use Rattle.spans.proofs.fader.Fader.count.Goals as goal

pub returns-then-circuit-lt12-clause-patterns : goal.returns-then-circuit-lt12-clause-patterns
returns-then-circuit-lt12-clause-patterns g c =
    patterns_stay c.args.self.now.circuits c.args.circuit.0 c.count.new.self (omega arith) (ap (λ (f : Fade). f.pattern) c.count.ensures)

pub returns-then-circuit-lt12-clause-accepted : goal.returns-then-circuit-lt12-clause-accepted
returns-then-circuit-lt12-clause-accepted g c =
    accepted-counted c.args.self.now.circuits c.args.circuit.0 c.count.new.self (omega arith) (ap (λ (f : Fade). f.accepted) c.count.ensures)

pub returns-else-circuit-lt12-clause-accepted : goal.returns-else-circuit-lt12-clause-accepted
returns-else-circuit-lt12-clause-accepted g c = accepted_past c.args.self.now.circuits c.args.circuit.0 (omega arith)

use Rattle.std.proofs.Common.{arith, refl}
use Rattle.std.proofs.lemmas.Bool.{le-ltb, lt-ltb}
use Rattle.spans.specs.Fades.{fades_next}
use Rattle.spans.proofs.Circuits.{pattern_at, accepted_at}
use Rattle.spans.proofs.fader.Fader.fades.Goals as goal

pub returns-then-circuit-lt12 : goal.returns-then-circuit-lt12
unfolding fades_next
returns-then-circuit-lt12 g c =
    let fs = c.args.self.now.circuits in
    let n = c.args.circuit.0 in
    rw (lt-ltb n 12 c.if-circuit-lt12.true, pattern_at fs n (omega arith), accepted_at fs n (omega arith)) c.fades.ensures

pub returns-else-circuit-lt12 : goal.returns-else-circuit-lt12
unfolding fades_next
returns-else-circuit-lt12 g c = rw (le-ltb c.args.circuit.0 12 c.if-circuit-lt12.false) refl

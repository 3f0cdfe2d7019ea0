use Rattle.std.proofs.Common.{refl, rules}
use borrow.Author.Tests.{tests}
use Rattle.spans.proofs.Fading.{by_number}
use Rattle.spans.proofs.Circuits.{fresh, blank}
use Rattle.spans.proofs.fader.Fader.new.Goals as goal

pub returns-clause-made : goal.returns-clause-made
returns-clause-made g c =
    let both = fresh c.args.patterns c.map.result 12 (search rules) c.map.ensures.items.long
    (λ i k. let w = c.map.ensures.items.at i 0 blank k in let h = w.2 in search (rules, tests)) in
    (refl, both.0, both.1)

pub returns-clause-fades : goal.returns-clause-fades
returns-clause-fades g c = by_number g.P.Plant.air g.P.Plant.put_over g.P.Plant.take_over c.args.patterns

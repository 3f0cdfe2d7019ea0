use Rattle.std.proofs.Common.{◌≡◌, ◌-◌, sym, refl, ap, ◌∙◌, arith, rules}
use Rattle.plant.specs.Air.{ends_of}
use Rattle.plant.specs.Calls.{others}
use Rattle.plant.proofs.Blocked.{count-others}
use Rattle.plant.proofs.asking.may_put.Goals as goal

pub returns : goal.returns
returns g c =
    let a = g.P.Plant.air c.args.plant.now in
    let n = c.args.end.circuit.0 in
    let e = c.args.end.number in
    let same : c.in_ok-ends.ends ≡ ends_of a n = search (rules, c.ends.ensures) in
    record {
      allowed = search rules;
      missed = others (ends_of a n) e;
      all = refl;
      counted = ap (λ m. m - 1) same ∙ sym (count-others (ends_of a n) e (omega (arith, same)));
    }

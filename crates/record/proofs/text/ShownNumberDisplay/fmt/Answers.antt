use Rattle.std.proofs.Common.{◌≡◌, ◌/◌, arith, rules}
use Rattle.record.proofs.text.ShownNumberDisplay.fmt.Goals as goal

pub returns-clause-writes : goal.returns-clause-writes
returns-clause-writes g c =
    let n = c.args.self.now.0 in
    let third : n / 256 / 256 / 256 ≡ n / 16777216 = grind arith in
    let second : n / 256 / 256 ≡ n / 65536 = grind arith in
    rw (third, second) (search rules)

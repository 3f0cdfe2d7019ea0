use Rattle.std.proofs.Common.{◌≡◌, ℕ, ◌+◌, ◌*◌, ◌%◌, length, get_or, drop, ap, ◌∙◌, arith}
use Rattle.std.proofs.lemmas.List.{drop_more, drop_all}
use Rattle.octets.specs.Checks.{weighted}
use Rattle.octets.proofs.CheckLaws.{weighted_step, running}
use Rattle.octets.proofs.checks.run_on.Goals as goal

pub loop-b-init : goal.loop-b-init
loop-b-init c = (c.from-c0.result % 255, c.from-c1.result % 255, omega arith, omega arith, omega arith, omega arith)

pub loop-b-preserved : goal.loop-b-preserved
loop-b-preserved c =
    let p = c.args.part.now in
    let i = c.loop-b.b-index in
    let b = get_or p i 0 in
    let x = c.loop-b.invariant.0 in
    let y = c.loop-b.invariant.1 in
    let d = drop_more p i 0 (omega arith) in
    let e = rw d at c.loop-b.invariant.4 in
    let f = rw d at c.loop-b.invariant.5 in
    (x + b, y + (x + b), omega arith, omega arith, omega arith, f ∙ weighted_step b (drop (i + 1) p) x y)

pub returns : goal.returns
returns c =
    let p = c.args.part.now in
    let s = c.args.from in
    let d = drop_all c.loop-b.b-index p (omega arith) in
    let e = rw d at c.loop-b.invariant.4 in
    let f = rw d at c.loop-b.invariant.5 in
    let n : length p * (c.from-c0.result % 255) ≡ length p * (s.c0 % 255) = ap (λ (z : ℕ). length p * (z % 255)) c.from-c0.ensures in
    record { plain = omega arith; weighted = omega (arith, running s.c0 s.c1 (length p) (weighted p)) }

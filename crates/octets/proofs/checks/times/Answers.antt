use Rattle.std.proofs.Common.{ℕ, ◌*◌, ◌%◌, ap, ◌∙◌}
use Rattle.octets.proofs.CheckLaws.{times_reduced}
use Rattle.octets.proofs.checks.times.Goals as goal

pub returns : goal.returns
returns c = ap (λ (z : ℕ). (c.args.k % 255 * z) % 255) c.from.ensures ∙ times_reduced c.args.k c.args.c

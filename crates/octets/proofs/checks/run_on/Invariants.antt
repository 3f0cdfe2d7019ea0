use Rattle.std.proofs.Common.{◌≡◌, ℕ, ◌+◌, ◌*◌, ◌%◌, length, drop}
use Rattle.octets.specs.Checks.{plain, weighted}
use Rattle.octets.proofs.checks.run_on.Given as goal

-- x and y are the sums so far, not reduced
abbrev pub invariant-loop-b : goal.invariant-loop-b
invariant-loop-b l =
    (x : ℕ)
    × (y : ℕ)
    × (l.c0 ≡ x % 255)
    × (l.c1 ≡ y % 255)
    × (l.initial.c0 + plain l.part ≡ x + plain (drop l.b-index l.part))
    × (l.initial.c1 + length l.part * l.initial.c0 + weighted l.part
    ≡ y + length (drop l.b-index l.part) * x + weighted (drop l.b-index l.part))

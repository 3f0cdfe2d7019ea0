-- Ranks order records as numbers and lifetimes do.
use mathlib.Core.Path.{◌≡◌}
use mathlib.Core.Bool.{true, false}
use Prim.Native.Nat.{ℕ, ◌≤◌, ◌<◌}
use native.Mathlib.Omega.{arith}
use Rattle.flooding.specs.Ranks.{newer, rank_of, Ranks}

up : (n l m k : ℕ) → newer n l m k ≡ true → rank_of m k < rank_of n l
up n l m k e = grind arith

down : (n l m k : ℕ) → newer n l m k ≡ false → rank_of n l ≤ rank_of m k
down n l m k e = grind arith

pub ranks : Ranks
ranks n l m k = (up n l m k, down n l m k)

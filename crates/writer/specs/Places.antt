-- Octets written into a buffer.
use Rattle.std.specs.Prelude.{◌≡◌, ℕ, ◌+◌, List, ◌++◌, length, take, drop}

-- a buffer with w written at a place
abbrev pub placed : List ℕ → ℕ → List ℕ → List ℕ
placed buf at w = take at buf ++ (w ++ drop (at + length w) buf)

-- what a write of w at a place leaves, and the place after it
pub record Wrote (old : List ℕ) (at : ℕ) (w : List ℕ) (new : List ℕ) (next : ℕ) : Type 0 where
  pub after : new ≡ placed old at w
  pub place : next ≡ at + length w
  pub len : length new ≡ length old

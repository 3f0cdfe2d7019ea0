-- Number and lifetime as one rank: which of two records is newer is which rank is larger.
use Rattle.std.specs.Prelude.{◌≡◌, Bool, true, false, cond, ℕ, ◌+◌, ◌≤◌, ◌<◌, nat_eq, nat_lt}

-- number n with lifetime l is newer than number m with lifetime k: it is larger, or they are equal and above 0, and only the first is a purge
abbrev pub newer : ℕ → ℕ → ℕ → ℕ → Bool
newer n l m k = cond (nat_lt m n) true (cond (nat_eq m n) (cond (nat_lt 0 n) (cond (nat_eq l 0) (nat_lt 0 k) false) false) false)

-- 0 for a placeholder, 2 n for a live record, 2 n + 1 for a purge
abbrev pub rank_of : ℕ → ℕ → ℕ
rank_of n l = n + n + cond (nat_lt 0 n) (cond (nat_eq l 0) 1 0) 0

-- newer is of larger rank; so where neither is newer, the ranks are equal
abbrev pub Ranks : Type 0
Ranks = (n l m k : ℕ) → (newer n l m k ≡ true → rank_of m k < rank_of n l) × (newer n l m k ≡ false → rank_of n l ≤ rank_of m k)

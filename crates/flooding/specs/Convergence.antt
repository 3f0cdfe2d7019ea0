-- Convergence, as one identifier sees it.
use Rattle.std.specs.Prelude.{◌≡◌, ℕ, ◌+◌, ◌*◌, ◌≤◌, ◌<◌}
use Rattle.flooding.specs.Copies.{Topology, Copy, held}
use Rattle.flooding.specs.Hops.{WellFormed, Within, Joined}
use Rattle.flooding.specs.CopyRuns.{View, Run, Stretch}

-- a live record of number n with the owner's lifetime and content; k is the owner's copy
pub record Alike (n : ℕ) (k y : Copy) : Type 0 where
  pub number : y.rank ≡ n + n
  pub live : 1 ≤ y.lifetime
  pub lifetime : y.lifetime ≡ k.lifetime
  pub content : y.content ≡ k.content

-- the owner holds the live record of number n at both ends of a stretch; k is its copy at the end
pub record HeldAtEnds (Q : Topology) (v w : View) (n : ℕ) (k : Copy) : Type 0 where
  pub numbered : 1 ≤ n
  pub first : Copy
  pub at_start : v.holdings Q.owner ≡ held first
  pub number_at_start : first.rank ≡ n + n
  pub at_end : w.holdings Q.owner ≡ held k
  pub number_at_end : k.rank ≡ n + n

-- Circuits in service join the N routers, and of the 20 × (N + B) ticks of a stretch at most B missed a frame. What its owner holds live under
-- one number at both ends of the stretch, each of the N routers holds live at its end, alike.
abbrev pub Converges : Type 0
Converges =
    (Q : Topology) (N B : ℕ) (v w : View) (missing : ℕ) → Joined Q N → Run v → Stretch Q v w (20 * (N + B)) missing → missing ≤ B →
    (n : ℕ) (k : Copy) → HeldAtEnds Q v w n k → (x : ℕ) → x < N → (y : Copy) × (w.holdings x ≡ held y) × Alike n k y

-- The same by hops, and for windows of any length W from 15 on: after W × (h + B) ticks it holds of every router that is at most h circuits from
-- the owner.
abbrev pub ConvergesByHops : Type 0
ConvergesByHops =
    (Q : Topology) (W h B : ℕ) (v w : View) (missing : ℕ) → 15 ≤ W → WellFormed Q → Run v → Stretch Q v w (W * (h + B)) missing → missing ≤ B →
    (n : ℕ) (k : Copy) → HeldAtEnds Q v w n k → (x : ℕ) → Within Q Q.owner h x → (y : Copy) × (w.holdings x ≡ held y) × Alike n k y

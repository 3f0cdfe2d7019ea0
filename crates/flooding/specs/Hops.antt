-- Windows and hops: how far the record has come after so many ticks. The window's length W is a parameter: all that is asked of it is that
-- a window in which no frame is missed carries the record over each circuit.
use Rattle.std.specs.Prelude.{◌≡◌, ◌⊎◌, ◌≢◌, true, false, ℕ, suc, ◌+◌, ◌*◌, ◌≤◌, ◌<◌}
use Rattle.flooding.specs.Copies.{Topology, Live}
use Rattle.flooding.specs.Stretches.{HeldStretch, InStep, count_of}

-- a point-to-point circuit joins two routers, and a broadcast circuit's designated router is attached to it
pub record WellFormed (P : Topology) : Type 0 where
  pub two_ends : (c u v : ℕ) → P.point_to_point c ≡ true → P.attached u c ≡ true → P.attached v c ≡ true → u ≢ v →
      (r : ℕ) → P.attached r c ≡ true → (r ≡ u) ⊎ (r ≡ v)
  pub designated : (c u : ℕ) → P.point_to_point c ≡ false → P.attached u c ≡ true → P.attached (P.designated c) c ≡ true

-- v is at most h circuits from u
pub data Within (P : Topology) (u : ℕ) : ℕ → ℕ → Type 0 where
  here : {h : ℕ} → Within P u h u
  hop : {h w v : ℕ} (c : ℕ) → P.attached w c ≡ true → P.attached v c ≡ true → Within P u h w → Within P u (suc h) v

-- v is joined to u by circuits in service, if need be through others
pub data Way (P : Topology) (u : ℕ) : ℕ → Type 0 where
  self : Way P u u
  through : {w v : ℕ} (c : ℕ) → P.attached w c ≡ true → P.attached v c ≡ true → Way P u w → Way P u v

-- circuits in service join the routers below N
pub record Joined (P : Topology) (N : ℕ) : Type 0 where
  pub well_formed : WellFormed P
  pub owner : P.owner < N
  pub routers : (x c : ℕ) → P.attached x c ≡ true → x < N
  pub way : (x y : ℕ) → x < N → y < N → Way P x y

-- no tick of the window of W ticks after the first a missed a frame
abbrev pub Clean : {Q : Topology} {n T M : ℕ} → HeldStretch Q n T M → ℕ → ℕ → Type 0
Clean X W a = (k : ℕ) → a ≤ k → k < a + W → X.missed k ≡ false

-- in each clean window of W ticks every holder's neighbours become holders
abbrev pub Carries : {Q : Topology} {n T M : ℕ} → HeldStretch Q n T M → ℕ → Type 0
Carries {Q} {n} {T} {M} X W =
    (a : ℕ) → a + W ≤ M → Clean X W a →
    (c u v : ℕ) → Q.attached u c ≡ true → Q.attached v c ≡ true → Live n (X.holdings a u) → Live n (X.holdings (a + W) v)

-- windows of 15 ticks or more do
abbrev pub WindowsCarry : Type 0
WindowsCarry =
    (Q : Topology) (n T M W : ℕ) → 1 ≤ n → 15 ≤ W → WellFormed Q → (X : HeldStretch Q n T M) → InStep Q n (X.holdings 0) → Carries X W

-- by hops: where windows of W ticks carry, and at most B ticks missed a frame, after W × (h + B) ticks every router that is at most h circuits
-- from the owner holds live n
abbrev pub ReachedByHops : Type 0
ReachedByHops =
    (Q : Topology) (n T M W h B : ℕ) → (X : HeldStretch Q n T M) → InStep Q n (X.holdings 0) → Carries X W →
    W * (h + B) ≤ M → count_of X.missed M ≤ B → (x : ℕ) → Within Q Q.owner h x → Live n (X.holdings M x)

-- no router is N circuits or more from another: after W × (N + B) ticks all N hold live n
abbrev pub ReachedByAll : Type 0
ReachedByAll =
    (Q : Topology) (n T M W N B : ℕ) → Joined Q N → (X : HeldStretch Q n T M) → InStep Q n (X.holdings 0) → Carries X W →
    W * (N + B) ≤ M → count_of X.missed M ≤ B → (x : ℕ) → x < N → Live n (X.holdings M x)

-- the instance of 20 ticks
abbrev pub ConvergesWhileHeld : Type 0
ConvergesWhileHeld =
    (Q : Topology) (n T N B : ℕ) → 1 ≤ n → Joined Q N → (X : HeldStretch Q n T (20 * (N + B))) → InStep Q n (X.holdings 0) →
    count_of X.missed (20 * (N + B)) ≤ B → (x : ℕ) → x < N → Live n (X.holdings (20 * (N + B)) x)

-- Ways: a router that is joined to another is fewer than N circuits from it, N the number of routers.
use mathlib.Core.Path.{◌≡◌, refl, sym, subst}
use mathlib.Core.Bool.{Bool, true, false, cond}
use mathlib.Core.List.{List, [], ◌∷◌}
use Prim.Native.Nat.{ℕ, zero, suc, ◌≤◌, ◌<◌}
use native.Mathlib.Omega.{arith}
use lib.Dec.{eqb}
use Rattle.flooding.specs.Copies.{Topology}
use Rattle.flooding.specs.Stretches.{count_of}
use Rattle.flooding.specs.Hops.{Within, here, hop, Way, self, through}
use Rattle.flooding.proofs.Counting.{count_most, count_grows}
use Rattle.flooding.proofs.Tests.{Outcome, outcome, is_true, is_false, clash, eqb_is, eqb_same}

pub member : List ℕ → ℕ → Bool
member [] x = false
member (y ∷ l) x = cond (eqb x y) true (member l x)

-- a way of h circuits that visits each of these routers once, the last first
pub data Path (P : Topology) (u : ℕ) : ℕ → List ℕ → ℕ → Type 0 where
  start : Path P u u (u ∷ []) 0
  step : {w v h : ℕ} {l : List ℕ} (c : ℕ) → P.attached w c ≡ true → P.attached v c ≡ true → member l v ≡ false → Path P u w l h →
      Path P u v (v ∷ l) (suc h)

pub record To (P : Topology) (u v : ℕ) : Type 0 where
  pub visited : List ℕ
  pub hops : ℕ
  pub path : Path P u v visited hops

-- the part of a way up to a router that it visits
cut : {P : Topology} {u w h : ℕ} {l : List ℕ} (v : ℕ) → Path P u w l h → member l v ≡ true → To P u v
unfolding member
cut {P} {u} v start m = elim (outcome (eqb v u)) [
  | is_true e ↦ let q : u ≡ v = sym (eqb_is v u e) in subst (λ (y : ℕ). To P u y) q (record { visited = u ∷ []; hops = 0; path = start })
  | is_false e ↦ let z : false ≡ true = rw e at m in clash z refl
]
cut {P} {u} v (step {v = y} {h = h} {l = l} c a b n p) m = elim (outcome (eqb v y)) [
  | is_true e ↦
      let q : y ≡ v = sym (eqb_is v y e) in
      subst (λ (z : ℕ). To P u z) q (record { visited = y ∷ l; hops = suc h; path = step c a b n p })
  | is_false e ↦ cut v p (rw e at m)
]

to : {P : Topology} {u v : ℕ} → Way P u v → To P u v
to {P} {u} self = record { visited = u ∷ []; hops = 0; path = start }
to {P} {u} (through {v = v} c a b y) =
    let q = to y in
    elim (outcome (member q.visited v)) [
      | is_true e ↦ cut v q.path e
      | is_false e ↦ record { visited = v ∷ q.visited; hops = suc q.hops; path = step c a b e q.path }
    ]

-- it visits one router more than it has circuits
visits : {P : Topology} {u v h : ℕ} {l : List ℕ} (N : ℕ) → ((x c : ℕ) → P.attached x c ≡ true → x < N) → u < N → Path P u v l h → h < count_of (member l) N
unfolding member
visits {u = u} N below i start =
    let e : member (u ∷ []) u ≡ true = rw (eqb_same u) in
    omega (arith, count_grows (member []) (member (u ∷ [])) N (λ x z. clash z refl) u i refl e)
visits N below i (step {v = v} {l = l} c a b n p) =
    let e : member (v ∷ l) v ≡ true = rw (eqb_same v) in
    omega (arith, visits N below i p, count_grows (member l) (member (v ∷ l)) N (λ x z. more x z (outcome (eqb x v))) v (below v c b) n e)
  where
    more : (x : ℕ) → member l x ≡ true → Outcome (eqb x v) → member (v ∷ l) x ≡ true
    more x z (is_true e) = rw e
    more x z (is_false e) = rw e z

path_within : {P : Topology} {u v h : ℕ} {l : List ℕ} → Path P u v l h → Within P u h v
path_within start = here
path_within (step c a b n p) = hop c a b (path_within p)

within_up : {P : Topology} {u v h : ℕ} (k : ℕ) → h ≤ k → Within P u h v → Within P u k v
within_up k i here = here
within_up zero i (hop c a b y) = absurd (omega arith)
within_up (suc k) i (hop c a b y) = hop c a b (within_up k (omega arith) y)

pub way_within : {P : Topology} {u v : ℕ} (N : ℕ) → ((x c : ℕ) → P.attached x c ≡ true → x < N) → u < N → Way P u v → Within P u N v
way_within N below i y =
    let q = to y in
    let z = visits N below i q.path in
    within_up N (omega (arith, count_most (member q.visited) N)) (path_within q.path)

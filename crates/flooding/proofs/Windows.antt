-- Windows: one of 15 ticks or more in which no frame is missed carries the record over each circuit; from that, by hops, how far it has come.
use mathlib.Core.Path.{◌≡◌, sym, ◌∙◌, ap, subst}
use mathlib.Core.Logic.{◌≢◌, ◌⊎◌, inl, inr}
use mathlib.Core.Bool.{Bool, true, false}
use Prim.Native.Nat.{ℕ, zero, suc, ◌+◌, ◌*◌, ◌-◌, ◌%◌, ◌≤◌, ◌<◌}
use native.Mathlib.Omega.{arith}
use native.Mathlib.Nat.{add-zero, add-suc, mul-suc}
use native.Mathlib.Decide.{ℕ_discrete}
use Rattle.flooding.specs.Copies.{Topology, Live}
use Rattle.flooding.specs.Stretches.{HeldStretch, Step, InStep, count_of}
use Rattle.flooding.specs.Hops.{Within, here, hop, Carries, WindowsCarry, ReachedByHops, ReachedByAll, ConvergesWhileHeld}
use Rattle.flooding.proofs.OneCircuit.{Holds, PendingInStep}
use Rattle.flooding.proofs.Broadcast.{BehindOrPendingInStep, SomePendingInStep}
use Rattle.flooding.proofs.CallsBetween.{step_in_step, step_live, pending_step, lsp_step, csnp_step_pending, csnp_step_behind, behind_step, psnp_step}
use Rattle.flooding.proofs.Counting.{count_up, count_flat}
use Rattle.flooding.proofs.Ways.{way_within}
use Rattle.flooding.proofs.Tests.{outcome, is_true, is_false, clash}

-- from step to step
pub along : (Q : ℕ → Type 0) (a d : ℕ) → ((k : ℕ) → a ≤ k → k < a + d → Q k → Q (suc k)) → Q a → Q (a + d)
along Q a zero h q = rw add-zero q
along Q a (suc d) h q = rw add-suc (h (a + d) (omega arith) (omega arith) (along Q a d (λ k i j. h k i (omega arith)) q))

-- the same, to a named end
pub up_to : (Q : ℕ → Type 0) (a b : ℕ) → a ≤ b → ((k : ℕ) → a ≤ k → k < b → Q k → Q (suc k)) → Q a → Q b
up_to Q a b h f q = let e : a + (b - a) ≡ b = omega arith in subst Q e (along Q a (b - a) (λ k i j. f k i (omega arith)) q)

module _ (P : Topology) (n T M : ℕ) (X : HeldStretch P n T M) (G : InStep P n (X.holdings 0)) where
  pub in_step_at : (k : ℕ) → k ≤ M → InStep P n (X.holdings k)
  in_step_at k h = up_to (λ (j : ℕ). InStep P n (X.holdings j)) 0 k (omega arith) (λ j a b g. step_in_step P n (X.tick j (omega arith)) g) G

  pub live_on : (x a b : ℕ) → a ≤ b → b ≤ M → Live n (X.holdings a x) → Live n (X.holdings b x)
  live_on x a b h i l = up_to (λ (j : ℕ). Live n (X.holdings j x)) a b h (λ j c d l. step_live P n (X.tick j (omega arith)) (in_step_at j (omega arith)) x l) l

  module _ (one : 1 ≤ n) (W : ℕ) (long : 15 ≤ W) (a : ℕ) (fits : a + W ≤ M) (clean : (k : ℕ) → a ≤ k → k < a + W → X.missed k ≡ false) where
    tick_at : (k : ℕ) → a ≤ k → k < a + W → Step P n false (T + suc k) (X.holdings k) (X.holdings (suc k))
    tick_at k h i = subst (λ (b : Bool). Step P n b (T + suc k) (X.holdings k) (X.holdings (suc k))) (clean k h i) (X.tick k (omega arith))

    -- the first tick of the window with a clock that 10 divides
    csnp_tick : ℕ
    csnp_tick = a + (9 - (T + a) % 10)

    csnp_tick_is : ((T + suc csnp_tick) % 10 ≡ 0) × (a ≤ csnp_tick) × (csnp_tick < a + 10)
    unfolding csnp_tick
    csnp_tick_is = (omega arith, omega arith, omega arith)

    pub point_to_point_hop : (c u v : ℕ) → P.point_to_point c ≡ true → P.attached u c ≡ true → P.attached v c ≡ true → u ≢ v →
        ((r : ℕ) → P.attached r c ≡ true → (r ≡ u) ⊎ (r ≡ v)) → Live n (X.holdings a u) → Live n (X.holdings (a + W) v)
    point_to_point_hop c u v cab onu onv ne two l =
        let t = csnp_tick_is in
        let e : P.point_to_point c ≡ true → (r : ℕ) → P.attached r c ≡ true → (r ≡ u) ⊎ (r ≡ v) = λ _. two in
        let q₀ : Holds P n u (X.holdings csnp_tick) = (in_step_at csnp_tick (omega arith), live_on u a csnp_tick (omega arith) (omega arith) l) in
        let q₁ : PendingInStep P n c u v (X.holdings (suc csnp_tick)) =
        csnp_step_pending P n c u v onu onv one e (tick_at csnp_tick (omega arith) (omega arith)) t.0 (λ z. clash cab z) ne q₀ in
        let q₂ : PendingInStep P n c u v (X.holdings (csnp_tick + 5)) =
        up_to (λ (j : ℕ). PendingInStep P n c u v (X.holdings j)) (suc csnp_tick) (csnp_tick + 5) (omega arith)
        (λ j f g q. pending_step P n c u v onu onv one e (tick_at j (omega arith) (omega arith)) q) q₁ in
        let q₃ : Holds P n v (X.holdings (suc (csnp_tick + 5))) =
        lsp_step P n c u v onu onv one e (tick_at (csnp_tick + 5) (omega arith) (omega arith)) (λ _. omega arith) q₂ in
        live_on v (suc (csnp_tick + 5)) (a + W) (omega arith) (omega arith) q₃.1

    last_step : (c v k : ℕ) → P.point_to_point c ≡ false → P.attached v c ≡ true → a ≤ k → k < a + W → SomePendingInStep P n c v (X.holdings k) → Live n (X.holdings (suc k) v)
    last_step c v k broadcast onv i j (g, inl l) = step_live P n (tick_at k i j) g v l
    last_step c v k broadcast onv i j (g, inr (x, onx, l, m)) =
        (lsp_step P n c x v onx onv one (λ z. clash z broadcast) (tick_at k i j) (λ z. clash z broadcast) (g, inr (l, m))).1

    pub broadcast_hop : (c u v : ℕ) → P.point_to_point c ≡ false → P.attached u c ≡ true → P.attached v c ≡ true → P.attached (P.designated c) c ≡ true → u ≢ v →
        Live n (X.holdings a u) → Live n (X.holdings (a + W) v)
    broadcast_hop c u v broadcast onu onv onc ne l =
        let t = csnp_tick_is in
        let q₀ : Holds P n u (X.holdings csnp_tick) = (in_step_at csnp_tick (omega arith), live_on u a csnp_tick (omega arith) (omega arith) l) in
        elim (ℕ_discrete v (P.designated c)) [
          | yes i ↦
              let q₁ : PendingInStep P n c u v (X.holdings (suc csnp_tick)) =
              csnp_step_pending P n c u v onu onv one (λ z. clash z broadcast) (tick_at csnp_tick (omega arith) (omega arith)) t.0 (λ _. i) ne q₀ in
              let q₂ : Holds P n v (X.holdings (suc (suc csnp_tick))) =
              lsp_step P n c u v onu onv one (λ z. clash z broadcast) (tick_at (suc csnp_tick) (omega arith) (omega arith)) (λ z. clash z broadcast) q₁ in
              live_on v (suc (suc csnp_tick)) (a + W) (omega arith) (omega arith) q₂.1
          | no i ↦
              let q₁ : BehindOrPendingInStep P n c v 0 (X.holdings (suc csnp_tick)) =
              csnp_step_behind P n c v broadcast onv onc one (tick_at csnp_tick (omega arith) (omega arith)) u t.0 i onu q₀ in
              let q₂ : BehindOrPendingInStep P n c v 1 (X.holdings (suc (suc csnp_tick))) =
              behind_step P n c v broadcast onv onc one (tick_at (suc csnp_tick) (omega arith) (omega arith)) 0 (omega arith) q₁ in
              let q₃ : SomePendingInStep P n c v (X.holdings (suc (suc (suc csnp_tick)))) =
              psnp_step P n c v broadcast onv onc one (tick_at (suc (suc csnp_tick)) (omega arith) (omega arith)) 1 (omega arith) (omega arith) i q₂ in
              let q₄ = last_step c v (suc (suc (suc csnp_tick))) broadcast onv (omega arith) (omega arith) q₃ in
              live_on v (suc (suc (suc (suc csnp_tick)))) (a + W) (omega arith) (omega arith) q₄
        ]

pub windows_carry : WindowsCarry
windows_carry Q n T M W one long F X G a fits clean c u v onu onv l = elim (ℕ_discrete u v) [
  | yes e ↦ subst (λ (y : ℕ). Live n (X.holdings (a + W) y)) e (live_on Q n T M X G u a (a + W) (omega arith) fits l)
  | no ne ↦ elim (outcome (Q.point_to_point c)) [
    | is_true i ↦ point_to_point_hop Q n T M X G one W long a fits clean c u v i onu onv ne (F.two_ends c u v i onu onv ne) l
    | is_false i ↦ broadcast_hop Q n T M X G one W long a fits clean c u v i onu onv (F.designated c u i onu) ne l
  ]
]

-- by hops, over windows of any length W that carry
module _ (Q : Topology) (n T M W : ℕ) (X : HeldStretch Q n T M) (G : InStep Q n (X.holdings 0)) (carries : Carries X W) where
  -- the ticks of the first w windows
  ticks : ℕ → ℕ
  ticks w = W * w

  ticks_more : (w : ℕ) → ticks (suc w) ≡ ticks w + W
  unfolding ticks
  ticks_more w = mul-suc W w

  -- each window won a hop or had a tick that missed a frame
  reach : (w j x : ℕ) → ticks w ≤ M → Within Q Q.owner j x → j + count_of X.missed (ticks w) ≤ w → Live n (X.holdings (ticks w) x)
  reach w j x fits here few = live_on Q n T M X G Q.owner 0 (ticks w) (omega arith) fits G.owner_holds
  reach zero (suc j) x fits (hop c a b y) few = absurd (omega arith)
  reach (suc w) (suc j) x fits (hop {w = z} c a b y) few =
      let e = ticks_more w in
      let u : count_of X.missed (ticks w) ≤ count_of X.missed (ticks (suc w)) = rw e (count_up X.missed (ticks w) W) in
      elim (ℕ_discrete (count_of X.missed (ticks (suc w))) (count_of X.missed (ticks w))) [
        | no d ↦ live_on Q n T M X G x (ticks w) (ticks (suc w)) (omega arith) fits (reach w (suc j) x (omega arith) (hop c a b y) (omega arith))
        | yes d ↦
            let f : count_of X.missed (ticks w + W) ≡ count_of X.missed (ticks w) = ap (count_of X.missed) (sym e) ∙ d in
            let l : Live n (X.holdings (ticks w) z) = reach w j z (omega arith) y (omega arith) in
            subst (λ (k : ℕ). Live n (X.holdings k x)) (sym e) (carries (ticks w) (omega arith) (count_flat X.missed (ticks w) W f) c z x a b l)
      ]

  pub reached : (h B : ℕ) → W * (h + B) ≤ M → count_of X.missed M ≤ B → (x : ℕ) → Within Q Q.owner h x → Live n (X.holdings M x)
  unfolding ticks
  reached h B fits few x y =
      let e : W * (h + B) + (M - W * (h + B)) ≡ M = omega arith in
      let u : count_of X.missed (W * (h + B)) ≤ count_of X.missed M =
      subst (λ (k : ℕ). count_of X.missed (W * (h + B)) ≤ count_of X.missed k) e (count_up X.missed (W * (h + B)) (M - W * (h + B))) in
      live_on Q n T M X G x (W * (h + B)) M fits (omega arith) (reach (h + B) h x fits y (omega arith))

pub reached_by_hops : ReachedByHops
reached_by_hops Q n T M W h B X G carries fits few x y = reached Q n T M W X G carries h B fits few x y

pub reached_by_all : ReachedByAll
reached_by_all Q n T M W N B J X G carries fits few x i =
    reached_by_hops Q n T M W N B X G carries fits few x (way_within N J.routers J.owner (J.way Q.owner x J.owner i))

pub converges_while_held : ConvergesWhileHeld
converges_while_held Q n T N B one J X G few x i =
    reached_by_all Q n T (20 * (N + B)) 20 N B J X G (windows_carry Q n T (20 * (N + B)) 20 one (omega arith) J.well_formed X G) (omega arith) few x i

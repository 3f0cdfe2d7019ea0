-- From puts to turns to ticks: what every put keeps, the turns keep; what one phase of a router's turn brings about, the turns bring about; ageing
-- leaves all in step.
use mathlib.Core.Path.{◌≡◌, sym, ◌∙◌, subst}
use mathlib.Core.Bool.{Bool}
use mathlib.Core.List.{List}
use Prim.Native.Nat.{ℕ, suc, ◌≤◌}
use native.Mathlib.Omega.{arith}
use Rattle.flooding.specs.Copies.{Topology, Held, Holdings, Live}
use Rattle.flooding.specs.Rules.{Kind, lsp, psnp, csnp, Put}
use Rattle.flooding.specs.CopyTicks.{Srm, Ages, Phase, not_due, sent, Turn, turn, Turns, done, then, Among, first, later, Tick, none_ages, live_ages, expires, wait_falls, deleted}
use Rattle.flooding.specs.Stretches.{Conforming, InStep}
use Rattle.flooding.proofs.OneCopy
use Rattle.flooding.proofs.OnePut.{put_in_step, put_live}

module _ (P : Topology) (b : Bool) (Q : Holdings → Type 0) (keep : (r c : ℕ) (g : Kind) (s s' : Holdings) → Put P b r c g s s' → Q s → Q s') where
  pub phase_keeps : {t r c : ℕ} {g : Kind} {s s' : Holdings} → Phase P b t r c g s s' → Q s → Q s'
  phase_keeps (not_due e) q = q
  phase_keeps {t} {r} {c} {g} {s} {s'} (sent e p) q = keep r c g s s' p q

  pub turn_keeps : {t r c : ℕ} {s s' : Holdings} → Turn P b t r c s s' → Q s → Q s'
  turn_keeps (turn x y z) q = phase_keeps z (phase_keeps y (phase_keeps x q))

  pub turns_keep : {t : ℕ} {l : List (ℕ × ℕ)} {s s' : Holdings} → Turns P b t l s s' → Q s → Q s'
  turns_keep done q = q
  turns_keep (then x y) q = turns_keep y (turn_keeps x q)

module _ (P : Topology) (b : Bool) (Q R : Holdings → Type 0)
    (keepQ : (r c : ℕ) (g : Kind) (s s' : Holdings) → Put P b r c g s s' → Q s → Q s')
    (keepR : (r c : ℕ) (g : Kind) (s s' : Holdings) → Put P b r c g s s' → R s → R s')
    (t r c : ℕ) where
  pub turn_makes : (g : Kind) {s s' : Holdings} → ((a d : Holdings) → Phase P b t r c g a d → Q a → R d) → Turn P b t r c s s' → Q s → R s'
  turn_makes lsp hit (turn x y z) q = phase_keeps P b R keepR z (phase_keeps P b R keepR y (hit _ _ x q))
  turn_makes psnp hit (turn x y z) q = phase_keeps P b R keepR z (hit _ _ y (phase_keeps P b Q keepQ x q))
  turn_makes csnp hit (turn x y z) q = hit _ _ z (phase_keeps P b Q keepQ y (phase_keeps P b Q keepQ x q))

  pub turns_make : {l : List (ℕ × ℕ)} {s s' : Holdings} → ((a d : Holdings) → Turn P b t r c a d → Q a → R d) → Among r c l → Turns P b t l s s' → Q s → R s'
  turns_make hit first (then x y) q = turns_keep P b R keepR y (hit _ _ x q)
  turns_make hit (later i) (then x y) q = turns_make hit i y (turn_keeps P b Q keepQ x q)

-- the lifetime of n after ageing
age_left : (P : Topology) (n L x : ℕ) {h h' : Held} → 1 ≤ L → Ages P x h h' → Conforming n L h → Live n h → Live n h' → (m : ℕ) × (L ≡ suc m) × (1 ≤ m)
age_left P n L x p none_ages f v w = absurd v
age_left P n L x p (live_ages {k' = k} a b d e i u) f v w = (k.lifetime, sym (f.lifetime_in_step v) ∙ a, b)
age_left P n L x p (expires {k = k} {k' = k'} a b d e i j) f v w = absurd (omega arith)
age_left P n L x p (wait_falls {k = k} a b d e i j) f v w = let z = f.lifetime_in_step v in absurd (omega arith)
age_left P n L x p (deleted a b) f v w = absurd w

-- what is known of ageing where all are in step
pub record Aged (P : Topology) (n : ℕ) (s s' : Holdings) : Type 0 where
  pub left : ℕ
  pub positive : 1 ≤ left
  pub was : (x : ℕ) → Conforming n (suc left) (s x)
  pub in_step : InStep P n s'
  pub ages : (x : ℕ) → Ages P x (s x) (s' x)

module _ (P : Topology) (n : ℕ) where
  pub age_in_step : {s a : Holdings} → ((x : ℕ) → Ages P x (s x) (a x)) → Live n (a P.owner) → InStep P n s → Aged P n s a
  age_in_step {s} {a} h k G = go (age_left P n G.left P.owner G.positive (h P.owner) (G.conforming P.owner) G.owner_holds k)
    where
      go : (m : ℕ) × (G.left ≡ suc m) × (1 ≤ m) → Aged P n s a
      go (m, e, p) =
          let f : (x : ℕ) → Conforming n (suc m) (s x) = λ x. subst (λ (L : ℕ). Conforming n L (s x)) e (G.conforming x) in
          record {
            left = m;
            positive = p;
            was = f;
            ages = h;
            in_step = record { left = m; positive = p; conforming = λ x. OneCopy.ages_conforms n m p (h x) (f x); owner_holds = k };
          }

  pub aged_live : {s a : Holdings} → Aged P n s a → (x : ℕ) → Live n (s x) → Live n (a x)
  aged_live o x v = OneCopy.ages_live n o.left o.positive (o.ages x) (o.was x) v

  pub aged_srm : {s a : Holdings} → Aged P n s a → (c x : ℕ) → Live n (s x) → Srm c (s x) → Srm c (a x)
  aged_srm o c x v k = OneCopy.ages_srm n o.left c o.positive (o.ages x) (o.was x) v k

  pub tick_aged : {b : Bool} {t : ℕ} {s s' : Holdings} → (k : Tick P n b t s s') → InStep P n s → Aged P n s k.aged
  tick_aged k G = age_in_step k.ages k.owner_keeps G

  -- a tick, whether it misses frames or not, leaves all in step and every holder a holder
  pub tick_in_step : {b : Bool} {t : ℕ} {s s' : Holdings} → Tick P n b t s s' → InStep P n s → InStep P n s'
  tick_in_step {b} k G = turns_keep P b (InStep P n) (λ r c g s s' p q. put_in_step P n p q) k.turns (tick_aged k G).in_step

  pub tick_live : {b : Bool} {t : ℕ} {s s' : Holdings} → Tick P n b t s s' → InStep P n s → (x : ℕ) → Live n (s x) → Live n (s' x)
  tick_live {b} k G x v =
      (turns_keep P b (λ s. InStep P n s × Live n (s x)) (λ r c g s s' p q. (put_in_step P n p q.0, put_live P n p q.0 x q.1)) k.turns
      ((tick_aged k G).in_step, aged_live (tick_aged k G) x v)).1

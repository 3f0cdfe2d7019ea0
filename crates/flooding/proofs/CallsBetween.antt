-- Calls before a tick, over a topology that keeps the circuits of Q in service: what a tick does over a circuit, such a step does.
use mathlib.Core.Path.{◌≡◌, sym, ◌∙◌, ap, subst}
use mathlib.Core.Logic.{◌≢◌, ◌⊎◌, inl, inr}
use mathlib.Core.Bool.{Bool, true, false}
use Prim.Native.Nat.{ℕ, suc, ◌%◌, ◌≤◌, ◌<◌}
use Rattle.flooding.specs.Copies.{Topology, Held, Holdings, Live}
use Rattle.flooding.specs.CopyTicks.{Srm}
use Rattle.flooding.specs.Stretches.{Conforming, InStep, LeftAlone, none_kept, held_kept, Step}
use Rattle.flooding.proofs.OnePut.{Pending}
use Rattle.flooding.proofs.PutsToTicks.{tick_in_step, tick_live}
use Rattle.flooding.proofs.FallenBehind.{IsBehind}
use Rattle.flooding.proofs.OneCircuit.{Holds, PendingInStep, pending_tick, lsp_tick, csnp_tick_pending}
use Rattle.flooding.proofs.Broadcast.{SomePending, BehindOrPendingInStep, SomePendingInStep, csnp_tick_behind, behind_tick, psnp_tick}

left_alone_conforms : {Q : Topology} {x : ℕ} (n L : ℕ) {h h' : Held} → LeftAlone Q x h h' → Conforming n L h → Conforming n L h'
left_alone_conforms n L none_kept f = tt
left_alone_conforms n L (held_kept a b d e u) f = record { not_newer = rw a f.not_newer; lifetime_in_step = λ q. b ∙ f.lifetime_in_step (sym a ∙ q); form = rw (a, b) f.form }

pub left_alone_live : {Q : Topology} {x : ℕ} (n : ℕ) {h h' : Held} → LeftAlone Q x h h' → Live n h → Live n h'
left_alone_live n none_kept l = l
left_alone_live n (held_kept a b d e u) l = a ∙ l

left_alone_srm : {Q : Topology} {x : ℕ} (c : ℕ) {h h' : Held} → Q.attached x c ≡ true → LeftAlone Q x h h' → Srm c h → Srm c h'
left_alone_srm c o none_kept l = l
left_alone_srm c o (held_kept a b d e u) l = (e c o).0 ∙ l

left_alone_behind : {Q : Topology} {x : ℕ} (n c s : ℕ) {h h' : Held} → Q.attached x c ≡ true → LeftAlone Q x h h' → IsBehind n c s h → IsBehind n c s h'
left_alone_behind n c s o none_kept y = y
left_alone_behind n c s o (held_kept {k = k} {k' = k'} a b d e u) y = record { older = rw a y.older; flag = go y.flag; wait = rw d y.wait }
  where
    go : (k.ssn c ≡ true) ⊎ (k.srm c ≡ true) → (k'.ssn c ≡ true) ⊎ (k'.srm c ≡ true)
    go (inl z) = inl ((e c o).1 ∙ z)
    go (inr z) = inr ((e c o).0 ∙ z)

module _ (Q : Topology) (n : ℕ) {b : Bool} {t : ℕ} {s s' : Holdings} (k : Step Q n b t s s') where
  in_step_in : InStep Q n s → InStep k.topology n k.before_tick
  in_step_in G = record {
    left = G.left;
    positive = G.positive;
    conforming = λ x. left_alone_conforms n G.left (k.left_alone x) (G.conforming x);
    owner_holds = subst (λ (y : ℕ). Live n (k.before_tick y)) (sym k.keeps_circuits.owner) (left_alone_live n (k.left_alone Q.owner) G.owner_holds);
  }

  in_step_out : InStep k.topology n s' → InStep Q n s'
  in_step_out G = record { left = G.left; positive = G.positive; conforming = G.conforming; owner_holds = subst (λ (y : ℕ). Live n (s' y)) k.keeps_circuits.owner G.owner_holds }

  pub step_in_step : InStep Q n s → InStep Q n s'
  step_in_step G = in_step_out (tick_in_step k.topology n k.tick (in_step_in G))

  pub step_live : InStep Q n s → (x : ℕ) → Live n (s x) → Live n (s' x)
  step_live G x l = tick_live k.topology n k.tick (in_step_in G) x (left_alone_live n (k.left_alone x) l)

module _ (Q : Topology) (n c u v : ℕ) (onu : Q.attached u c ≡ true) (onv : Q.attached v c ≡ true) (one : 1 ≤ n)
    (ends : Q.point_to_point c ≡ true → (r : ℕ) → Q.attached r c ≡ true → (r ≡ u) ⊎ (r ≡ v)) where
  module _ {t : ℕ} {s s' : Holdings} (k : Step Q n false t s s') where
    on_in : (x : ℕ) → Q.attached x c ≡ true → k.topology.attached x c ≡ true
    on_in x o = k.keeps_circuits.attached c u onu x ∙ o

    point_to_point_in : k.topology.point_to_point c ≡ Q.point_to_point c
    point_to_point_in = k.keeps_circuits.point_to_point c u onu

    ends_in : k.topology.point_to_point c ≡ true → (r : ℕ) → k.topology.attached r c ≡ true → (r ≡ u) ⊎ (r ≡ v)
    ends_in z r o = ends (sym point_to_point_in ∙ z) r (sym (k.keeps_circuits.attached c u onu r) ∙ o)

    pending_in : Pending n c u v s → Pending n c u v k.before_tick
    pending_in (inl l) = inl (left_alone_live n (k.left_alone v) l)
    pending_in (inr (l, m)) = inr (left_alone_live n (k.left_alone u) l, left_alone_srm c onu (k.left_alone u) m)

    pub pending_step : PendingInStep Q n c u v s → PendingInStep Q n c u v s'
    pending_step (G, e) =
        let q = pending_tick k.topology n c u v (on_in u onu) (on_in v onv) one ends_in k.tick (in_step_in Q n k G, pending_in e) in
        (in_step_out Q n k q.0, q.1)

    pub lsp_step : (Q.point_to_point c ≡ true → t % 5 ≡ 0) → PendingInStep Q n c u v s → Holds Q n v s'
    lsp_step due (G, e) =
        let q = lsp_tick k.topology n c u v (on_in u onu) (on_in v onv) one ends_in (λ z. due (sym point_to_point_in ∙ z)) k.tick (in_step_in Q n k G, pending_in e) in
        (in_step_out Q n k q.0, q.1)

    pub csnp_step_pending : t % 10 ≡ 0 → (Q.point_to_point c ≡ false → v ≡ Q.designated c) → u ≢ v → Holds Q n u s → PendingInStep Q n c u v s'
    csnp_step_pending due ch ne (G, l) =
        let q = csnp_tick_pending k.topology n c u v (on_in u onu) (on_in v onv) one ends_in due (λ z. ch (sym point_to_point_in ∙ z) ∙ sym (k.keeps_circuits.designated c u onu)) ne k.tick
        (in_step_in Q n k G, left_alone_live n (k.left_alone u) l) in
        (in_step_out Q n k q.0, q.1)

module _ (Q : Topology) (n c v : ℕ) (broadcast : Q.point_to_point c ≡ false) (onv : Q.attached v c ≡ true) (onc : Q.attached (Q.designated c) c ≡ true) (one : 1 ≤ n) where
  module _ {t : ℕ} {s s' : Holdings} (k : Step Q n false t s s') where
    here_in : (x : ℕ) → Q.attached x c ≡ true → k.topology.attached x c ≡ true
    here_in x o = k.keeps_circuits.attached c v onv x ∙ o

    broadcast_in : k.topology.point_to_point c ≡ false
    broadcast_in = k.keeps_circuits.point_to_point c v onv ∙ broadcast

    designated_is : k.topology.designated c ≡ Q.designated c
    designated_is = k.keeps_circuits.designated c v onv

    designated_in : k.topology.attached (k.topology.designated c) c ≡ true
    designated_in = ap (λ (y : ℕ). k.topology.attached y c) designated_is ∙ here_in (Q.designated c) onc

    some_pending_in : SomePending Q n c v s → SomePending k.topology n c v k.before_tick
    some_pending_in (inl l) = inl (left_alone_live n (k.left_alone v) l)
    some_pending_in (inr (x, o, l, m)) = inr (x, here_in x o, left_alone_live n (k.left_alone x) l, left_alone_srm c o (k.left_alone x) m)

    some_pending_out : SomePending k.topology n c v s' → SomePending Q n c v s'
    some_pending_out (inl l) = inl l
    some_pending_out (inr (x, o, l, m)) = inr (x, sym (k.keeps_circuits.attached c v onv x) ∙ o, l, m)

    behind_or_pending_in : (e : ℕ) → BehindOrPendingInStep Q n c v e s → BehindOrPendingInStep k.topology n c v e k.before_tick
    behind_or_pending_in e (G, inl h) = (in_step_in Q n k G, inl (some_pending_in h))
    behind_or_pending_in e (G, inr (l, y)) =
        (in_step_in Q n k G, inr (subst (λ (y : ℕ). Live n (k.before_tick y)) (sym designated_is) (left_alone_live n (k.left_alone (Q.designated c)) l), left_alone_behind n c e onv (k.left_alone v) y))

    behind_or_pending_out : (e : ℕ) → BehindOrPendingInStep k.topology n c v e s' → BehindOrPendingInStep Q n c v e s'
    behind_or_pending_out e (G, inl h) = (in_step_out Q n k G, inl (some_pending_out h))
    behind_or_pending_out e (G, inr (l, y)) = (in_step_out Q n k G, inr (subst (λ (y : ℕ). Live n (s' y)) designated_is l, y))

    pub csnp_step_behind : (u : ℕ) → t % 10 ≡ 0 → v ≢ Q.designated c → Q.attached u c ≡ true → Holds Q n u s → BehindOrPendingInStep Q n c v 0 s'
    csnp_step_behind u due ne onu (G, l) =
        behind_or_pending_out 0 (csnp_tick_behind k.topology n c v broadcast_in (here_in v onv) designated_in one u due (λ q. ne (q ∙ designated_is)) (here_in u onu) k.tick (in_step_in Q n k G, left_alone_live n (k.left_alone u) l))

    pub behind_step : (e : ℕ) → e < 50 → BehindOrPendingInStep Q n c v e s → BehindOrPendingInStep Q n c v (suc e) s'
    behind_step e m h = behind_or_pending_out (suc e) (behind_tick k.topology n c v broadcast_in (here_in v onv) designated_in one e m k.tick (behind_or_pending_in e h))

    pub psnp_step : (e : ℕ) → e < 50 → t % 2 ≡ 0 → v ≢ Q.designated c → BehindOrPendingInStep Q n c v e s → SomePendingInStep Q n c v s'
    psnp_step e m due ne h =
        let q = psnp_tick k.topology n c v broadcast_in (here_in v onv) designated_in one e m due (λ q. ne (q ∙ designated_is)) k.tick (behind_or_pending_in e h) in
        (in_step_out Q n k q.0, some_pending_out q.1)

-- The invariant holds in every view that a run comes to: calls and whole ticks keep it.
use mathlib.Core.Path.{◌≡◌, refl, ap, sym, ◌∙◌, subst}
use mathlib.Core.Logic.{inl, inr}
use mathlib.Core.Bool.{Bool}
use Prim.Native.Nat.{◌≤◌, ◌+◌, ℕ, suc}
use native.Mathlib.Omega.{arith}
use Rattle.flooding.specs.Copies.{Topology, Held, none, held, Holdings, Mention, copy, entry, unlisted, Live, NotLive, Copy}
use Rattle.flooding.specs.Stretches.{LeftAlone, none_kept, held_kept}
use Rattle.flooding.specs.CopyRuns.{Slot, View, FullTick, OtherCall, Call, other, issue, withdraw, Ticks, opened, called, ticked, Run}
use Rattle.flooding.specs.Consistency.{Allowed, NotNewer, Consistent, ConsistentView, RunsAreConsistent, LiveIssue, Issued, NewerLsp, SentIsAllowed, CopiesInStep, NoNumberBeyond, NoPurgeOfLast, ActiveOwnerHolds}
use Rattle.flooding.proofs.PutsToTicks.{turns_keep}
use Rattle.flooding.proofs.CallsBetween.{left_alone_live}
use Rattle.flooding.proofs.OneCopy
use Rattle.flooding.proofs.Invariant.{number_bound, sends_allowed_mention, consistent_in_step, consistent_put, consistent_age, consistent_issue, consistent_withdrawal}
use Rattle.flooding.proofs.Tests.{clash}

left_alone_allowed : {Q : Topology} {x : ℕ} (S : Slot) (clock : ℕ) {h h' : Held} → LeftAlone Q x h h' → Allowed S clock h → Allowed S clock h'
left_alone_allowed S clock none_kept l = tt
left_alone_allowed S clock (held_kept a b d e u) l = rw (a, b, u) l

left_alone_not_newer : {Q : Topology} {x : ℕ} (n : ℕ) {h h' : Held} → LeftAlone Q x h h' → NotNewer n h → NotNewer n h'
left_alone_not_newer n none_kept l = tt
left_alone_not_newer n (held_kept a b d e u) l = rw a l

left_alone_not_live : {Q : Topology} {x : ℕ} {h h' : Held} → LeftAlone Q x h h' → NotLive h → NotLive h'
left_alone_not_live none_kept l = tt
left_alone_not_live (held_kept a b d e u) l = b ∙ l

consistent_other_call : {Q P P' : Topology} {clock : ℕ} {S : Slot} {s s' : Holdings} → OtherCall Q P P' s s' → Consistent P clock S s → Consistent P' clock S s'
consistent_other_call {Q} {P} {P'} {clock} {S} {s} {s'} o Z = record {
  allowed = λ x. left_alone_allowed S clock (o.left_alone x) (Z.allowed x);
  owner_holds = λ a.
      subst (λ (y : ℕ). Live S.last (s' y)) (sym o.owner) (left_alone_live S.last (o.left_alone P.owner) (Z.owner_holds (sym o.active ∙ a)));
  not_newer = λ a x. left_alone_not_newer S.last (o.left_alone x) (Z.not_newer (sym o.active ∙ a) x);
  numbered = λ a. Z.numbered (sym o.active ∙ a);
  not_live = λ a.
      subst (λ (y : ℕ). NotLive (s' y)) (sym o.owner) (left_alone_not_live (o.left_alone P.owner) (Z.not_live (sym o.active ∙ a)));
}

-- a call
pub consistent_call : {Q : Topology} {v w : View} → Call Q v w → ConsistentView v → ConsistentView w
consistent_call (other e f o) Z = rw (e, f) (consistent_other_call o Z)
consistent_call (issue e i) Z = rw e (consistent_issue i Z)
consistent_call (withdraw e f i) Z = rw (e, f) (consistent_withdrawal i Z)

-- a whole tick, and the states after its ageing and after its reissue
module _ {P P' : Topology} {clock : ℕ} {S S' : Slot} {b : Bool} {s s' : Holdings} (f : FullTick P P' clock S S' b s s') (Z : Consistent P clock S s) where
  pub aged_consistent : Consistent P' (suc clock) S f.aged
  aged_consistent = consistent_age P clock S P' f.owner f.ages f.stays_active f.turns_inactive Z

  pub reissued_consistent : Consistent P' (suc clock) S' f.reissued
  reissued_consistent = elim f.reissue [
    | inl e ↦
        subst (λ (y : Holdings). Consistent P' (suc clock) S' y) (sym e.1)
        (subst (λ (y : Slot). Consistent P' (suc clock) y f.aged) (sym e.0) aged_consistent)
    | inr i ↦ consistent_issue i aged_consistent
  ]

  pub ticked_consistent : Consistent P' (suc clock) S' s'
  ticked_consistent = turns_keep P' b (Consistent P' (suc clock) S') (λ r c g z z' p q. consistent_put P' (suc clock) S' p q) f.turns reissued_consistent

pub consistent_tick : {b : Bool} {v w : View} → Ticks b v w → ConsistentView v → ConsistentView w
consistent_tick (e, f) Z = rw e (ticked_consistent f Z)

pub runs_are_consistent : RunsAreConsistent
runs_are_consistent v (opened a e f h) = record {
  allowed = λ x. rw (h x) tt;
  owner_holds = λ z. clash z a;
  not_newer = λ z. clash z a;
  numbered = λ z. clash z a;
  not_live = λ z. rw (h v.topology.owner) tt;
}
runs_are_consistent w (called {v = v} r c) = consistent_call c (runs_are_consistent v r)
runs_are_consistent w (ticked {v = v} r k) = consistent_tick k (runs_are_consistent v r)

pub issued : Issued
issued v r x k e p = go (subst (λ (h : Held). Allowed v.slot v.clock h) e ((runs_are_consistent v r).allowed x))
  where
    go : Allowed v.slot v.clock (held k) → LiveIssue v.slot v.clock k.rank k.lifetime k.content
    go (inl z) = z
    go (inr z) = let y = z.0 in absurd (omega arith)

-- no slot issues again because of what it hears
not_newer_lsp : (n L : ℕ) (w : Mention) (h : Held) → OneCopy.SaysNoNewer n L w → Live n h → NewerLsp w h → ⊥
not_newer_lsp n L (copy R l C) h f v q = OneCopy.not_newer_than_live n L R h f.0 q v
not_newer_lsp n L (entry R) h f v q = q
not_newer_lsp n L unlisted h f v q = q

pub sent_is_allowed : SentIsAllowed
sent_is_allowed P clock S s Z r c g w h q = (
  sends_allowed_mention P clock S q (Z.allowed r),
  λ a.
      let G = consistent_in_step P clock S Z a in
      not_newer_lsp S.last G.left w (s P.owner) (OneCopy.sends_no_newer S.last G.left q (G.conforming r)) G.owner_holds,
)

-- what the slot says of a live copy of number n
pub copy_of_issue : (S : Slot) (clock n : ℕ) (k : Copy) → 1 ≤ n → Allowed S clock (held k) → k.rank ≡ n + n →
    (1 ≤ k.lifetime) × (k.lifetime + clock ≡ S.ends n) × (k.content ≡ S.content n)
copy_of_issue S clock n k one (inl (m, q, i, j, z, y, u)) r = let e : m ≡ n = omega arith in (z, y ∙ ap S.ends e, u ∙ ap S.content e)
copy_of_issue S clock n k one (inr (z, inl y)) r = absurd (omega arith)
copy_of_issue S clock n k one (inr (z, inr (m, y, j, i))) r = absurd (omega arith)

copy_allowed : (v : View) → Run v → (x : ℕ) (k : Copy) → v.holdings x ≡ held k → Allowed v.slot v.clock (held k)
copy_allowed v r x k e = subst (λ (h : Held). Allowed v.slot v.clock h) e ((runs_are_consistent v r).allowed x)

pub copies_in_step : CopiesInStep
copies_in_step v r x y k j e f l q =
    let (m, a, b, c, d, g, h) = issued v r x k e l in
    let z = copy_of_issue v.slot v.clock m j b (copy_allowed v r y j f) (sym q ∙ a) in
    let i = z.1 in
    (omega arith, z.2 ∙ sym h)

pub no_number_beyond : NoNumberBeyond
no_number_beyond v r x k e = number_bound v.topology v.clock v.slot k.rank k.lifetime k.content (copy_allowed v r x k e)

pub no_purge_of_last : NoPurgeOfLast
no_purge_of_last v r a x k e = subst (λ (h : Held). NotNewer v.slot.last h) e ((runs_are_consistent v r).not_newer a x)

pub active_owner_holds : ActiveOwnerHolds
active_owner_holds v r a = go (v.holdings v.topology.owner) refl (Z.owner_holds a)
  where
    Z : ConsistentView v
    Z = runs_are_consistent v r

    go : (h : Held) → v.holdings v.topology.owner ≡ h → Live v.slot.last h →
        (k : Copy) × (h ≡ held k) × (k.rank ≡ v.slot.last + v.slot.last) × (1 ≤ k.lifetime) ×
        (k.lifetime + v.clock ≡ v.slot.ends v.slot.last) × (k.content ≡ v.slot.content v.slot.last)
    go none e l = absurd l
    go (held k) e l =
        let z = copy_of_issue v.slot v.clock v.slot.last k (Z.numbered a) (copy_allowed v r v.topology.owner k e) l in
        (k, refl, l, z.0, z.1, z.2)

-- Before the first issue of an identifier no router holds anything of it.
use mathlib.Core.Path.{◌≡◌, refl, sym, ◌∙◌, ap, subst}
use mathlib.Core.Logic.{inl, inr}
use mathlib.Core.Bool.{Bool}
use Prim.Native.Nat.{ℕ}
use native.Mathlib.Omega.{arith}
use Rattle.flooding.specs.Copies.{Topology, Held, none, Holdings, Mention, unlisted}
use Rattle.flooding.specs.Rules.{Hears, unlisted_none, Kind, Sends, holds_none, Delivery, sender, hears, ignores, misses, detached, Put}
use Rattle.flooding.specs.CopyTicks.{Ages, none_ages}
use Rattle.flooding.specs.Stretches.{LeftAlone, none_kept}
use Rattle.flooding.specs.CopyRuns.{Slot, View, Call, other, issue, withdraw, Ticks, opened, called, ticked}
use Rattle.flooding.specs.Consistency.{ConsistentView, UnissuedUnheld}
use Rattle.flooding.proofs.OnePut.{sender_sends}
use Rattle.flooding.proofs.PutsToTicks.{turns_keep}
use Rattle.flooding.proofs.RunsConsistent.{runs_are_consistent}

sends_none : {P : Topology} {r c : ℕ} {g : Kind} {w : Mention} {h : Held} → Sends P r c g w none h → (w ≡ unlisted) × (h ≡ none)
sends_none (holds_none a) = (refl, refl)

hears_none : {P : Topology} {x c : ℕ} {h : Held} → Hears P x c unlisted none h → h ≡ none
hears_none unlisted_none = refl

delivery_none : {P : Topology} {b : Bool} {r c x : ℕ} {g : Kind} {h : Held} → Delivery P b r c g unlisted x none h → h ≡ none
delivery_none (sender e q) = (sends_none q).1
delivery_none (hears e a d q) = hears_none q
delivery_none (ignores e a) = refl
delivery_none (misses e a) = refl
delivery_none (detached e a) = refl

abbrev NoneHeld : Holdings → Type 0
NoneHeld s = (x : ℕ) → s x ≡ none

put_none : (P : Topology) (b : Bool) (r c : ℕ) (g : Kind) (s s' : Holdings) → Put P b r c g s s' → NoneHeld s → NoneHeld s'
put_none P b r c g s s' p e x =
    let q : Sends P r c g p.mention none (s' r) = subst (λ (h : Held). Sends P r c g p.mention h (s' r)) (e r) (sender_sends (p.delivery r)) in
    let d : Delivery P b r c g p.mention x none (s' x) = subst (λ (h : Held). Delivery P b r c g p.mention x h (s' x)) (e x) (p.delivery x) in
    delivery_none (subst (λ (w : Mention). Delivery P b r c g w x none (s' x)) (sends_none q).0 d)

ages-none : {P : Topology} {x : ℕ} {h : Held} → Ages P x none h → h ≡ none
ages-none none_ages = refl

left_alone_none : {Q : Topology} {x : ℕ} {h : Held} → LeftAlone Q x none h → h ≡ none
left_alone_none none_kept = refl

tick_none : {b : Bool} {v w : View} → Ticks b v w → w.slot.last ≡ 0 → (v.slot.last ≡ 0 → NoneHeld v.holdings) → NoneHeld w.holdings
tick_none {b} {v} {w} (e, f) l h = elim f.reissue [
  | inr i ↦ let z = i.last in absurd (omega arith)
  | inl q ↦
      let z : v.slot.last ≡ 0 = sym (ap (λ (S : Slot). S.last) q.0) ∙ l in
      let a : NoneHeld f.aged = λ x. ages-none (subst (λ (y : Held). Ages w.topology x y (f.aged x)) (h z x) (f.ages x)) in
      turns_keep w.topology b NoneHeld (put_none w.topology b) f.turns (subst NoneHeld (sym q.1) a)
]

call_none : {Q : Topology} {v w : View} → Call Q v w → ConsistentView v → w.slot.last ≡ 0 → (v.slot.last ≡ 0 → NoneHeld v.holdings) → NoneHeld w.holdings
call_none {Q} {v} {w} (other e f o) Z l h =
    let z : v.slot.last ≡ 0 = sym (ap (λ (S : Slot). S.last) f) ∙ l in
    λ x. left_alone_none (subst (λ (y : Held). LeftAlone Q x y (w.holdings x)) (h z x) (o.left_alone x))
call_none (issue e i) Z l h = let z = i.last in absurd (omega arith)
call_none {Q} {v} {w} (withdraw e f i) Z l h =
    let z : v.slot.last ≡ 0 = sym (ap (λ (S : Slot). S.last) f) ∙ l in
    absurd (omega (arith, Z.numbered i.was_active))

pub unissued_unheld : UnissuedUnheld
unissued_unheld v (opened a e f h) l = h
unissued_unheld w (called {v = v} r c) l = call_none c (runs_are_consistent v r) l (unissued_unheld v r)
unissued_unheld w (ticked {v = v} r k) l = tick_none k l (unissued_unheld v r)

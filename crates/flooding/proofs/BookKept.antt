-- The issue book: over each call and each step of a tick no copy is replaced by an older one, and every live record was issued.
use mathlib.Core.Path.{◌∙◌, ◌≡◌, refl, sym, subst}
use mathlib.Core.Logic.{◌⊎◌, inl, inr}
use mathlib.Core.Bool.{Bool, true}
use mathlib.Core.List.{List}
use Prim.Native.Nat.{ℕ, suc, ◌+◌, ◌≤◌}
use native.Mathlib.Omega.{arith}
use native.Mathlib.Decide.{ℕ_discrete}
use Rattle.flooding.specs.Copies.{Topology, Copy, Held, none, held, Holdings, Mention, Newer, Live}
use Rattle.flooding.specs.Rules.{Reflagged, OwnerAnswers, Hears, own_newer, newer_lsp, unknown_purge, same_lsp, older_lsp, unknown_not_live, unknown_entry, same_entry, older_entry, newer_entry, unlisted_none, unlisted_live, unlisted_purge, Sends, as_lsp, in_psnp, in_csnp, omits_placeholder, holds_none, Kind, Delivery, sender, hears, ignores, misses, detached, Put}
use Rattle.flooding.specs.CopyTicks.{Ages, none_ages, live_ages, expires, wait_falls, deleted, Phase, not_due, sent, Turn, turn, Turns, done, then}
use Rattle.flooding.specs.Stretches.{LeftAlone, none_kept, held_kept}
use Rattle.flooding.specs.CopyRuns.{Slot, View, Issue, Withdrawal, Call, other, issue, withdraw, Ticks}
use Rattle.flooding.specs.Consistency.{Allowed, Consistent, ConsistentView}
use Rattle.flooding.specs.IssueBook.{NotOlder, NoneOlder, EachPhase, EachTurn, EachPut, TickKeeps, KeepsTheBook, Booked, BookedBetween}
use Rattle.flooding.proofs.OneCopy
use Rattle.flooding.proofs.PutsToTicks.{phase_keeps, turn_keeps}
use Rattle.flooding.proofs.Invariant.{consistent_put, owner_hears_no_newer, number_bound}
use Rattle.flooding.proofs.RunsConsistent.{aged_consistent, reissued_consistent, runs_are_consistent, consistent_call}

not_older_refl : (h : Held) → NotOlder h h
not_older_refl none = tt
not_older_refl (held k) = omega arith

reflagged_not_older : {c : ℕ} {k k' : Copy} → Reflagged c k k' → k.rank ≤ k'.rank
reflagged_not_older {c} {k} {k'} f = let z = f.rank in omega arith

answers_not_older : (P : Topology) (x R : ℕ) (h h' : Held) → (P.active ≡ true → ⊥) → Newer R h → OwnerAnswers P x R h' → NotOlder h h'
answers_not_older P x R none h' z n a = tt
answers_not_older P x R (held k) none z n a = absurd (z a)
answers_not_older P x R (held k) (held k') z n (inl a) = absurd (z a)
answers_not_older P x R (held k) (held k') z n (inr a) = elim a.rank [ inl q ↦ omega arith | inr q ↦ omega arith ]

stored_not_older : (R : ℕ) (h : Held) (k' : Copy) → Newer R h → k'.rank ≡ R → NotOlder h (held k')
stored_not_older R none k' n e = tt
stored_not_older R (held k) k' n e = omega arith

module _ (P : Topology) (n : ℕ) where
  -- the owner of an active slot holds live n, and the mention is no newer
  abbrev OwnerSafe : ℕ → Mention → Held → Type 0
  OwnerSafe x w h = x ≡ P.owner → P.active ≡ true → (L : ℕ) × OneCopy.SaysNoNewer n L w × Live n h

  hears_not_older : {x c : ℕ} {w : Mention} {h h' : Held} → Hears P x c w h h' → OwnerSafe x w h → NotOlder h h'
  hears_not_older {x} (own_newer {R = R} {h = h} {h' = h'} a b z) o =
      answers_not_older P x R h h' (λ i. let q = o a i in OneCopy.not_newer_than_live n q.0 R h q.1.0 b q.2) b z
  hears_not_older (newer_lsp {R = R} {h = h} {k' = k'} a b) o = stored_not_older R h k' a b.rank
  hears_not_older (unknown_purge a) o = tt
  hears_not_older (same_lsp a b d e) o = reflagged_not_older b
  hears_not_older (older_lsp a b d e) o = reflagged_not_older b
  hears_not_older (unknown_not_live a) o = tt
  hears_not_older (unknown_entry a b d e i) o = tt
  hears_not_older (same_entry a b d e i) o = reflagged_not_older b
  hears_not_older (older_entry a b d e) o = reflagged_not_older b
  hears_not_older (newer_entry a b d e i) o = reflagged_not_older b
  hears_not_older unlisted_none o = tt
  hears_not_older (unlisted_live a b d e i) o = reflagged_not_older b
  hears_not_older (unlisted_purge a) o = omega arith

  sends_not_older : {r c : ℕ} {g : Kind} {w : Mention} {h h' : Held} → Sends P r c g w h h' → NotOlder h h'
  sends_not_older (as_lsp a b d e i) = reflagged_not_older b
  sends_not_older (in_psnp a b d e i) = reflagged_not_older d
  sends_not_older (in_csnp a b) = omega arith
  sends_not_older (omits_placeholder a b) = omega arith
  sends_not_older (holds_none a) = tt

  delivery_not_older : {b : Bool} {r c x : ℕ} {g : Kind} {w : Mention} {h h' : Held} → Delivery P b r c g w x h h' → OwnerSafe x w h → NotOlder h h'
  delivery_not_older (sender e q) o = sends_not_older q
  delivery_not_older (hears e a d q) o = hears_not_older q o
  delivery_not_older {h = h} (ignores e a) o = not_older_refl h
  delivery_not_older {h = h} (misses e a) o = not_older_refl h
  delivery_not_older {h = h} (detached e a) o = not_older_refl h

-- what is allowed is booked
allowed_booked : (S : Slot) (clock : ℕ) (h : Held) → Allowed S clock h → Booked S h
allowed_booked S clock none a = tt
allowed_booked S clock (held k) (inl (m, q, i, j, z, y, u)) = λ l. (m, q, i, j, u)
allowed_booked S clock (held k) (inr a) = λ l. let z = a.0 in absurd (omega arith)

consistent_booked : {P : Topology} {clock : ℕ} {S : Slot} {s : Holdings} → Consistent P clock S s → (x : ℕ) → Booked S (s x)
consistent_booked {P} {clock} {S} {s} Z x = allowed_booked S clock (s x) (Z.allowed x)

booked_between : (S : Slot) (s s' : Holdings) → ((x : ℕ) → Booked S (s x)) → ((x : ℕ) → Booked S (s' x)) → BookedBetween S s s'
booked_between S s s' a b m h x = elim (h x) [ inl e ↦ rw e (a x) | inr e ↦ rw e (b x) ]

-- a new issue leaves the book's earlier issues
issue_booked : {P P' : Topology} {clock : ℕ} {S S' : Slot} {s s' : Holdings} → Issue P P' clock S S' s s' → (h : Held) → Booked S h → Booked S' h
issue_booked i none b = tt
issue_booked {S = S} {S' = S'} i (held k) b = λ l.
    let z = b l in
    let e = i.last in
    let g = z.3 in
    (z.0, z.1, z.2, omega arith, z.4 ∙ sym (i.content_before z.0 z.3))

-- each put of the turns
module _ (P : Topology) (clock : ℕ) (S : Slot) where
  abbrev Keeps : Holdings → Holdings → Type 0
  Keeps s s' = Consistent P clock S s' × NoneOlder s s' × BookedBetween S s s'

  keep : {b : Bool} (r c : ℕ) (g : Kind) (s s' : Holdings) → Put P b r c g s s' → Consistent P clock S s → Consistent P clock S s'
  keep r c g s s' p Z = consistent_put P clock S p Z

  each_phase : {b : Bool} {t r c : ℕ} {g : Kind} {s s' : Holdings} (p : Phase P b t r c g s s') → Consistent P clock S s → EachPhase Keeps p
  each_phase (not_due d) Z = tt
  each_phase {s = s} {s' = s'} (sent d p) Z =
      let Y = consistent_put P clock S p Z in
      (Y, (λ x. delivery_not_older P S.last (p.delivery x) (λ e a. owner_hears_no_newer P clock S p Z x e a)), booked_between S s s' (consistent_booked Z) (consistent_booked Y))

  each_turn : {b : Bool} {t r c : ℕ} {s s' : Holdings} (p : Turn P b t r c s s') → Consistent P clock S s → EachTurn Keeps p
  each_turn {b} (turn x y z) Z =
      let Y = phase_keeps P b (Consistent P clock S) keep x Z in
      let X = phase_keeps P b (Consistent P clock S) keep y Y in
      (each_phase x Z, each_phase y Y, each_phase z X)

  each_put : {b : Bool} {t : ℕ} {l : List (ℕ × ℕ)} {s s' : Holdings} (p : Turns P b t l s s') → Consistent P clock S s → EachPut Keeps p
  each_put done Z = tt
  each_put {b} (then x y) Z = (each_turn x Z, each_put y (turn_keeps P b (Consistent P clock S) keep x Z))

ages_not_older : {P : Topology} {x : ℕ} {h h' : Held} → Ages P x h h' → (h' ≡ none) ⊎ NotOlder h h'
ages_not_older none_ages = inl refl
ages_not_older (live_ages {k = k} {k' = k'} a b d e i u) = inr (omega arith)
ages_not_older (expires {k = k} {k' = k'} a b d e i j) = inr (omega arith)
ages_not_older (wait_falls {k = k} {k' = k'} a b d e i j) = inr (omega arith)
ages_not_older (deleted a b) = inl refl

-- the slot's own acts: their number is no smaller than any that stands
slot_not_older : (P : Topology) (clock : ℕ) (S : Slot) (h : Held) (k : Copy) → Allowed S clock h → suc (S.last + S.last) ≤ k.rank → NotOlder h (held k)
slot_not_older P clock S none k a r = tt
slot_not_older P clock S (held j) k a r = omega (arith, number_bound P clock S j.rank j.lifetime j.content a)

module _ {P P' : Topology} {clock : ℕ} {S : Slot} {s s' : Holdings} (Z : Consistent P clock S s) where
  issue_not_older : {S' : Slot} → Issue P P' clock S S' s s' → NoneOlder s s'
  issue_not_older i x = elim (ℕ_discrete x P.owner) [
    | yes e ↦ let r = i.rank in rw (e, i.stands) (slot_not_older P clock S (s P.owner) i.new (Z.allowed P.owner) (omega arith))
    | no e ↦ rw (i.others x e) (not_older_refl (s x))
  ]

  withdrawal_not_older : Withdrawal P P' S s s' → NoneOlder s s'
  withdrawal_not_older i x = elim (ℕ_discrete x P.owner) [
    | yes e ↦ let r = i.rank in rw (e, i.stands) (slot_not_older P clock S (s P.owner) i.new (Z.allowed P.owner) (omega arith))
    | no e ↦ rw (i.others x e) (not_older_refl (s x))
  ]

left_alone_not_older : {Q : Topology} {x : ℕ} {h h' : Held} → LeftAlone Q x h h' → NotOlder h h'
left_alone_not_older none_kept = tt
left_alone_not_older (held_kept {k = k} {k' = k'} a b d e u) = omega arith

call_keeps : {Q : Topology} {v w : View} → ConsistentView v → ConsistentView w → Call Q v w →
    NoneOlder v.holdings w.holdings × BookedBetween w.slot v.holdings w.holdings
call_keeps {Q} {v} {w} Z Y c = (older c, booked_between w.slot v.holdings w.holdings (before c) (consistent_booked Y))
  where
    older : Call Q v w → NoneOlder v.holdings w.holdings
    older (other e f o) = λ x. left_alone_not_older (o.left_alone x)
    older (issue e i) = issue_not_older Z i
    older (withdraw e f i) = withdrawal_not_older Z i

    before : Call Q v w → (x : ℕ) → Booked w.slot (v.holdings x)
    before (other e f o) x = subst (λ (S : Slot). Booked S (v.holdings x)) (sym f) (consistent_booked Z x)
    before (issue e i) x = issue_booked i (v.holdings x) (consistent_booked Z x)
    before (withdraw e f i) x = subst (λ (S : Slot). Booked S (v.holdings x)) (sym f) (consistent_booked Z x)

tick_keeps : {v w : View} {b : Bool} → ConsistentView v → (k : Ticks b v w) → TickKeeps v w b k
tick_keeps {v} {w} {b} Z (e, f) = record {
  ageing = λ x. ages_not_older (f.ages x);
  ageing_booked = booked_between w.slot v.holdings f.aged (λ x. up (v.holdings x) (consistent_booked Z x)) (λ x. up (f.aged x) (consistent_booked A x));
  reissue = elim f.reissue [
    | inl q ↦ λ x. subst (λ (s : Holdings). NotOlder (f.aged x) (s x)) (sym q.1) (not_older_refl (f.aged x))
    | inr i ↦ issue_not_older A i
  ];
  reissue_booked = booked_between w.slot f.aged f.reissued (λ x. up (f.aged x) (consistent_booked A x)) (consistent_booked (reissued_consistent f Z));
  puts = rw e (each_put w.topology (suc v.clock) w.slot f.turns (reissued_consistent f Z));
}
  where
    A : Consistent w.topology (suc v.clock) v.slot f.aged
    A = aged_consistent f Z

    up : (h : Held) → Booked v.slot h → Booked w.slot h
    up h a = elim f.reissue [ inl q ↦ subst (λ (S : Slot). Booked S h) (sym q.0) a | inr i ↦ issue_booked i h a ]

pub keeps_the_book : KeepsTheBook
keeps_the_book v w r =
    let Z = runs_are_consistent v r in
    ((λ Q c. call_keeps Z (consistent_call c Z) c), (λ b k. tick_keeps Z k))

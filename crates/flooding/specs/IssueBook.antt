-- The issue book, as one identifier sees it: over each call and over each step of a tick, every live record that is held was issued by the owner's
-- slot, and no copy is replaced by an older one.
use Rattle.std.specs.Prelude.{◌≡◌, ◌⊎◌, Bool, List, ℕ, ◌+◌, ◌≤◌}
use Rattle.flooding.specs.Copies.{Topology, Held, none, held, Holdings}
use Rattle.flooding.specs.Rules.{Kind}
use Rattle.flooding.specs.CopyTicks.{Phase, not_due, sent, Turn, turn, Turns, done, then}
use Rattle.flooding.specs.CopyRuns.{Slot, View, Call, Ticks, Run}
use Rattle.flooding.specs.Consistency.{Consistent}

-- what was held is still held, and is not older
abbrev pub NotOlder : Held → Held → Type 0
NotOlder none h = Unit {0}
NotOlder (held k) none = ⊥
NotOlder (held k) (held k') = k.rank ≤ k'.rank

abbrev pub NoneOlder : Holdings → Holdings → Type 0
NoneOlder s s' = (x : ℕ) → NotOlder (s x) (s' x)

-- a live record that is held was issued by the slot, with this content
abbrev pub Booked : Slot → Held → Type 0
Booked S none = Unit {0}
Booked S (held k) = 1 ≤ k.lifetime → (m : ℕ) × (k.rank ≡ m + m) × (1 ≤ m) × (m ≤ S.last) × (k.content ≡ S.content m)

-- so is every live record in each state on the way from s to s', in which some routers have taken the step and others not yet
abbrev pub BookedBetween : Slot → Holdings → Holdings → Type 0
BookedBetween S s s' = (m : Holdings) → ((x : ℕ) → (m x ≡ s x) ⊎ (m x ≡ s' x)) → (x : ℕ) → Booked S (m x)

-- R holds from before to after each put of the turns
abbrev pub EachPhase : {P : Topology} {missed : Bool} {t r c : ℕ} {g : Kind} {s s' : Holdings} → (Holdings → Holdings → Type 0) →
    Phase P missed t r c g s s' → Type 0
EachPhase R (not_due d) = Unit {0}
EachPhase R (sent {s = s} {s' = s'} d p) = R s s'

abbrev pub EachTurn : {P : Topology} {missed : Bool} {t r c : ℕ} {s s' : Holdings} → (Holdings → Holdings → Type 0) →
    Turn P missed t r c s s' → Type 0
EachTurn R (turn a b d) = EachPhase R a × EachPhase R b × EachPhase R d

abbrev pub EachPut : {P : Topology} {missed : Bool} {t : ℕ} {l : List (ℕ × ℕ)} {s s' : Holdings} → (Holdings → Holdings → Type 0) →
    Turns P missed t l s s' → Type 0
EachPut R done = Unit {0}
EachPut R (then x y) = EachTurn R x × EachPut R y

-- Within a tick, by the book as it is after the tick: ageing deletes a copy or leaves one that is not older; the slot's reissue and each put leave
-- none older; and on the way every live record is booked.
pub record TickKeeps (v w : View) (missed : Bool) (k : Ticks missed v w) : Type 0 where
  pub ageing : (x : ℕ) → (k.1.aged x ≡ none) ⊎ NotOlder (v.holdings x) (k.1.aged x)
  pub ageing_booked : BookedBetween w.slot v.holdings k.1.aged
  pub reissue : NoneOlder k.1.aged k.1.reissued
  pub reissue_booked : BookedBetween w.slot k.1.aged k.1.reissued
  pub puts : EachPut (λ s s'. Consistent w.topology w.clock w.slot s' × NoneOlder s s' × BookedBetween w.slot s s') k.1.turns

-- over each call, and over each step of a tick
abbrev pub KeepsTheBook : Type 0
KeepsTheBook =
    (v w : View) → Run v →
    ((Q : Topology) → Call Q v w → NoneOlder v.holdings w.holdings × BookedBetween w.slot v.holdings w.holdings) ×
    ((missed : Bool) (k : Ticks missed v w) → TickKeeps v w missed k)

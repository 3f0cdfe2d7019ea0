-- Runs, as one identifier sees them: from an opened network on, calls of its slot, other calls and ticks, in any order.
use Rattle.std.specs.Prelude.{◌≡◌, ◌⊎◌, ◌≢◌, Bool, true, false, List, ℕ, suc, ◌+◌, ◌≤◌}
use Rattle.flooding.specs.Copies.{Content, Topology, Copy, none, held, Holdings, Live, NotLive}
use Rattle.flooding.specs.CopyTicks.{Ages, Among, Turns}
use Rattle.flooding.specs.Stretches.{KeepsCircuits, LeftAlone, bit}

-- the owner's slot: how many issues there were, the clock at which the m-th issue's lifetime ends, and its content
pub record Slot : Type 0 where
  pub last : ℕ
  pub ends : ℕ → ℕ
  pub content : ℕ → Content

-- all that the identifier sees of the network
pub record View : Type 0 where
  pub topology : Topology
  pub clock : ℕ
  pub slot : Slot
  pub holdings : Holdings

-- a new issue, by originate or in a tick: the owner holds it with lifetime 1,200, and the slot is active
pub record Issue (P P' : Topology) (clock : ℕ) (S S' : Slot) (s s' : Holdings) : Type 0 where
  pub owner : P'.owner ≡ P.owner
  pub active : P'.active ≡ true
  pub last : S'.last ≡ suc S.last
  pub ends_before : (m : ℕ) → m ≤ S.last → S'.ends m ≡ S.ends m
  pub content_before : (m : ℕ) → m ≤ S.last → S'.content m ≡ S.content m
  pub ends : S'.ends (suc S.last) ≡ 1200 + clock
  pub new : Copy
  pub stands : s' P.owner ≡ held new
  pub rank : new.rank ≡ suc S.last + suc S.last
  pub lifetime : new.lifetime ≡ 1200
  pub content : new.content ≡ S'.content (suc S.last)
  pub others : (x : ℕ) → x ≢ P.owner → s' x ≡ s x

-- a withdrawal of an active slot: the owner holds a purge of its last number, and the slot is no longer active
pub record Withdrawal (P P' : Topology) (S : Slot) (s s' : Holdings) : Type 0 where
  pub owner : P'.owner ≡ P.owner
  pub was_active : P.active ≡ true
  pub inactive : P'.active ≡ false
  pub new : Copy
  pub stands : s' P.owner ≡ held new
  pub rank : new.rank ≡ suc (S.last + S.last)
  pub lifetime : new.lifetime ≡ 0
  pub others : (x : ℕ) → x ≢ P.owner → s' x ≡ s x

-- A whole tick: every copy ages, the slot may issue again, then the turns. P and P' are the topology before and after; the slot turns
-- inactive where the owner's own record is no longer live.
pub record FullTick (P P' : Topology) (clock : ℕ) (S S' : Slot) (missed : Bool) (s s' : Holdings) : Type 0 where
  pub owner : P'.owner ≡ P.owner
  pub aged : Holdings
  pub ages : (x : ℕ) → Ages P' x (s x) (aged x)
  pub stays_active : P'.active ≡ true → (P.active ≡ true) × Live S.last (aged P.owner)
  pub turns_inactive : P'.active ≡ false → (P.active ≡ false) ⊎ NotLive (aged P.owner)
  pub reissued : Holdings
  pub reissue : ((S' ≡ S) × (reissued ≡ aged)) ⊎ Issue P' P' (suc clock) S S' aged reissued
  pub order : List (ℕ × ℕ)
  pub every : (r c : ℕ) → P'.attached r c ≡ true → Among r c order
  pub turns : Turns P' missed (suc clock) order reissued s'

-- a call that issues and withdraws nothing of this identifier: circuits may come and go, and only flags on circuits that are not Q's change
pub record OtherCall (Q P P' : Topology) (s s' : Holdings) : Type 0 where
  pub owner : P'.owner ≡ P.owner
  pub active : P'.active ≡ P.active
  pub left_alone : (x : ℕ) → LeftAlone Q x (s x) (s' x)

-- any accepted call but a tick
pub data Call (Q : Topology) (v w : View) : Type 0 where
  other : w.clock ≡ v.clock → w.slot ≡ v.slot → OtherCall Q v.topology w.topology v.holdings w.holdings → Call Q v w
  issue : w.clock ≡ v.clock → Issue v.topology w.topology v.clock v.slot w.slot v.holdings w.holdings → Call Q v w
  withdraw : w.clock ≡ v.clock → w.slot ≡ v.slot → Withdrawal v.topology w.topology v.slot v.holdings w.holdings →
      Call Q v w

-- an accepted tick, and whether it missed a frame
abbrev pub Ticks : Bool → View → View → Type 0
Ticks missed v w =
    (w.clock ≡ suc v.clock) ×
    FullTick v.topology w.topology v.clock v.slot w.slot missed v.holdings w.holdings

-- the views that a network can come to, from its opening on
pub data Run : View → Type 0 where
  opened : {v : View} → v.topology.active ≡ false → v.clock ≡ 0 → v.slot.last ≡ 0 → ((x : ℕ) → v.holdings x ≡ none) → Run v
  called : {Q : Topology} {v w : View} → Run v → Call Q v w → Run w
  ticked : {missed : Bool} {v w : View} → Run v → Ticks missed v w → Run w

-- A stretch of a run from v to w, in which the circuits of Q stay in service: any calls, and so many ticks, of which so many missed a frame
pub data Stretch (Q : Topology) (v : View) : View → ℕ → ℕ → Type 0 where
  begun : KeepsCircuits Q v.topology → Stretch Q v v 0 0
  with_call : {w z : View} {ticks missing : ℕ} → Stretch Q v w ticks missing → Call Q w z → KeepsCircuits Q z.topology →
      Stretch Q v z ticks missing
  with_tick : {w z : View} {ticks missing : ℕ} {missed : Bool} → Stretch Q v w ticks missing → Ticks missed w z → KeepsCircuits Q z.topology →
      Stretch Q v z (suc ticks) (missing + bit missed)

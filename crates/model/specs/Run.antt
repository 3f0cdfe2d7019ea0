-- Runs: an opened network, then any calls of add, attach, up, down, originate, withdraw and tick, accepted or refused, in any order.
-- Each call is the very relation that its contract cites. The history has the accepted ones.
use Rattle.std.specs.Prelude.{ℕ, ◌+◌, cond, List, [], ◌∷◌, Ok, Err, Result, nat_le}
use Rattle.fault.specs.declared.CallFault.{CallFault}
use Rattle.plant.specs.Air.{Air}
use Rattle.plant.specs.Calls.{PutOver, TakeOver}
use Rattle.model.specs.State.{State, Opened}
use Rattle.model.specs.Calls.{Adds, Attaches, Ups, Downs, Originates, Withdraws}
use Rattle.model.specs.Tick.{Ticks}
use Rattle.model.specs.Book.{Call, History, add, attach, up, down, originate, withdraw, tick}

-- the history after a call, which a refusal leaves
abbrev pub noting : {A : Type 0} → Call → Result A CallFault → History → History
noting c (Ok a) h = c ∷ h
noting c (Err e) h = h

abbrev pub noting_tick : Result (ℕ × ℕ) CallFault → History → History
noting_tick (Ok n) h = tick n.1 ∷ h
noting_tick (Err e) h = h

-- one call, accepted or refused
pub data Called {P : Type 0} (air : P → Air) (put : PutOver P) (take : TakeOver P) (s : State P) (h : History) : State P → History → Type 0 where
  adds : {t : State P} (system : ℕ) (a : Result ℕ CallFault) → Adds s t system a → Called air put take s h t (noting (add system) a h)
  attaches : {t : State P} (r c e : ℕ) (a : Result ℕ CallFault) → Attaches air s t r c e a → Called air put take s h t (noting (attach r c e) a h)
  ups : {t : State P} (c : ℕ) (a : Result (Unit {0}) CallFault) → Ups air s t c a → Called air put take s h t (noting (up c) a h)
  downs : {t : State P} (c : ℕ) (a : Result (Unit {0}) CallFault) → Downs air s t c a → Called air put take s h t (noting (down c) a h)
  originates : {t : State P} (r k : ℕ) (body : List ℕ) (a : Result (Unit {0}) CallFault) →
      Originates s t r k body a → Called air put take s h t (noting (originate r k body) a h)
  withdraws : {t : State P} (r k : ℕ) (a : Result (Unit {0}) CallFault) → Withdraws s t r k a → Called air put take s h t (noting (withdraw r k) a h)
  ticks : {t : State P} (a : Result (ℕ × ℕ) CallFault) → Ticks air put take s t a → Called air put take s h t (noting_tick a h)

-- a stretch of calls, and the history of it alone
pub data Stretch {P : Type 0} (air : P → Air) (put : PutOver P) (take : TakeOver P) (s : State P) : State P → History → Type 0 where
  empty : Stretch air put take s s []
  then : {u t : State P} {h g : History} → Stretch air put take s u h → Called air put take u h t g → Stretch air put take s t g

-- a stretch from an opened network
pub record Run {P : Type 0} (air : P → Air) (put : PutOver P) (take : TakeOver P) (s : State P) (h : History) : Type 0 where
  pub start : State P
  pub opened : Opened air start
  pub calls : Stretch air put take start s h

-- an accepted tick counts
abbrev pub tick_count : Call → ℕ
tick_count (add y) = 0
tick_count (attach r c e) = 0
tick_count (up c) = 0
tick_count (down c) = 0
tick_count (originate r k body) = 0
tick_count (withdraw r k) = 0
tick_count (tick m) = 1

-- an accepted tick counts that answered a missed sum above 0
abbrev pub missing_count : Call → ℕ
missing_count (add y) = 0
missing_count (attach r c e) = 0
missing_count (up c) = 0
missing_count (down c) = 0
missing_count (originate r k body) = 0
missing_count (withdraw r k) = 0
missing_count (tick m) = cond (nat_le 1 m) 1 0

abbrev pub counted : (Call → ℕ) → History → ℕ
counted f [] = 0
counted f (c ∷ h) = f c + counted f h

-- the call is no add, attach, up or down
abbrev pub KeepsTopology : Call → Type 0
KeepsTopology (add y) = ⊥
KeepsTopology (attach r c e) = ⊥
KeepsTopology (up c) = ⊥
KeepsTopology (down c) = ⊥
KeepsTopology (originate r k body) = Unit {0}
KeepsTopology (withdraw r k) = Unit {0}
KeepsTopology (tick m) = Unit {0}

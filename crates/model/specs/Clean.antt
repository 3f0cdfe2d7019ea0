-- A clean tick: no attached end missed a frame that the tick put. A missed sum of 0 implies it.
use Rattle.std.specs.Prelude.{◌≡◌, ℕ, Bool, true, false, is_some, Ok}
use Rattle.plant.specs.Air.{Air, Frame}
use Rattle.plant.specs.Calls.{PutOver, TakeOver}
use Rattle.model.specs.State.{State, Port, attached}
use Rattle.model.specs.Turns.{Progress, Sends}
use Rattle.model.specs.Tick.{Ticks}
use Rattle.model.specs.Steps.{EachPut}

-- no end of circuit c at which a router is attached is in the set of those that missed
abbrev pub NoneMissed : {P : Type 0} → State P → ℕ → (ℕ → Bool) → Type 0
NoneMissed s c missed = (k : ℕ) → is_some (attached c k 0 s.routers) ≡ true → missed k ≡ false

module _ {P : Type 0} (air : P → Air) (put : PutOver P) (take : TakeOver P) where
  abbrev pub CleanPut : (a : Port) (f : Frame) (g h : Progress P) → Sends air put take a f g h → Type 0
  CleanPut a f g h (Sends.sent p l takes e) = NoneMissed g.state a.circuit p.missed
  CleanPut a f g h (Sends.refused p e) = Unit {0}

  abbrev pub Clean : (s t : State P) (f m : ℕ) → Ticks air put take s t (Ok (f, m)) → Type 0
  Clean s t f m k = EachPut air put take CleanPut s t f m k

-- a tick that answers a missed sum of 0 is clean
abbrev pub ZeroMissedIsClean : {P : Type 0} → (P → Air) → PutOver P → TakeOver P → Type 0
ZeroMissedIsClean {P} air put take =
    (s t : State P) (f : ℕ) (k : Ticks air put take s t (Ok (f, 0))) → Clean air put take s t f 0 k

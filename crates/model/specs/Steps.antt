-- The steps within a tick, one by one: the clock's rise, each record aged, each slot reissued, each frame put, each end that takes with its router hearing, and flags cleared.
-- EachStep says that a relation holds of every one of them, of the state before it and the state after it; EachPut says something of every put.
use Rattle.std.specs.Prelude.{ℕ, length, Ok}
use Rattle.plant.specs.Air.{Air, Frame}
use Rattle.plant.specs.Calls.{PutOver, TakeOver}
use Rattle.model.specs.Lists.{Passes}
use Rattle.model.specs.State.{State, Port}
use Rattle.model.specs.Ageing.{clock_risen, ages, reissues, each_record, each_slot, aged}
use Rattle.model.specs.Loop.{Along}
use Rattle.model.specs.Turns.{Progress, TakesAt, Sends, AtPort, RouterTurn, Turns, srm_cleared, ssn_cleared}
use Rattle.model.specs.Tick.{Ticks}

module _ {P : Type 0} (air : P → Air) (put : PutOver P) (take : TakeOver P) where
  -- what is asked of each put, and of each end that takes
  abbrev pub OfPuts : Type 1
  OfPuts = (a : Port) (f : Frame) (g h : Progress P) → Sends air put take a f g h → Type 0

  abbrev pub OfTakes : Type 1
  OfTakes = (c e k : ℕ) (s t : State P) → TakesAt air take c e k s t → Type 0

module _ {P : Type 0} (air : P → Air) (put : PutOver P) (take : TakeOver P) (Step : State P → State P → Type 0) (OfPut : OfPuts air put take) where
  -- the three parts of a turn at a port, and the flags cleared between them
  abbrev pub InPortTurn : (r p : ℕ) (g h : Progress P) → AtPort air put take r p g h → Type 0
  InPortTurn r p g h (AtPort.out_of_service o) = Unit {0}
  InPortTurn r p g h (AtPort.turn o t) =
      Along (λ k. OfPut _ _) t.lsps_sent
      × Step t.after_lsps.state (srm_cleared air r p t.after_lsps.state)
      × Along (λ k. OfPut _ _) t.psnps_sent
      × Step t.after_psnps.state (ssn_cleared air r p t.after_psnps.state)
      × Along (λ k. OfPut _ _) t.csnps_sent

  abbrev pub InRouterTurn : (r : ℕ) (g h : Progress P) → RouterTurn air put take r g h → Type 0
  InRouterTurn r g h l = Along (InPortTurn r) l

  -- all turns of a tick
  abbrev pub InTurns : {s t : State P} {f m : ℕ} → Turns air put take s t f m → Type 0
  InTurns l = Along InRouterTurn l

  -- a whole tick that was accepted
  abbrev pub InTick : (s t : State P) (f m : ℕ) → Ticks air put take s t (Ok (f, m)) → Type 0
  InTick s t f m k =
      Step s (clock_risen s)
      × Passes Step ages (each_record 0 s.records) (clock_risen s)
      × Passes Step reissues (each_slot (length (aged (clock_risen s)).routers)) (aged (clock_risen s))
      × InTurns k.1.2

module _ {P : Type 0} (air : P → Air) (put : PutOver P) (take : TakeOver P) (Step : State P → State P → Type 0) where
  -- Step holds of each frame put and of each end that takes
  abbrev pub StepOfTake : OfTakes air put take
  StepOfTake c e k s t h = Step s t

  abbrev pub StepOfPut : OfPuts air put take
  StepOfPut a f g h (Sends.sent {s = s} p l takes e) = Step g.state s × Along (StepOfTake a.circuit a.end) takes
  StepOfPut a f g h (Sends.refused p e) = Step g.state h.state

  -- Step holds of every step of the tick
  abbrev pub EachStep : (s t : State P) (f m : ℕ) → Ticks air put take s t (Ok (f, m)) → Type 0
  EachStep s t f m k = InTick air put take Step StepOfPut s t f m k

module _ {P : Type 0} (air : P → Air) (put : PutOver P) (take : TakeOver P) (OfPut : OfPuts air put take) where
  -- OfPut holds of every put of the tick
  abbrev pub EachPut : (s t : State P) (f m : ℕ) → Ticks air put take s t (Ok (f, m)) → Type 0
  EachPut s t f m k = InTick air put take (λ u v. Unit {0}) OfPut s t f m k

-- Cases to which the definitions give a meaning only so that they are total. No run reaches one of them:
-- a frame that waits when a tick begins, a put that the plant refuses, an active slot without its live record,
-- a frame refused when it is written or heard, and a record refused for want of room.
use Rattle.std.specs.Prelude.{◌≡◌, ℕ, ◌<◌, true, false, length, Some, None, Ok, Option}
use Rattle.frame.specs.Messages.{Pdu, encode}
use Rattle.frame.specs.Trip.{Fits}
use Rattle.plant.specs.Air.{Air, Frame, Quiet}
use Rattle.plant.specs.Calls.{PutOver, TakeOver}
use Rattle.model.specs.Records.{HeldRecord, Live}
use Rattle.model.specs.Databases.{find}
use Rattle.model.specs.State.{State, Port, slot, router, database, attached, with_plant}
use Rattle.model.specs.Calls.{id_of, no_room, refusal_of_hear}
use Rattle.model.specs.Loop.{Along}
use Rattle.model.specs.Turns.{Progress, TakesAt, Sends}
use Rattle.model.specs.Tick.{Ticks}
use Rattle.model.specs.Steps.{EachStep, EachPut}

-- a live record of its last number is held for a slot
pub record HoldsLast {P : Type 0} (s : State P) (r k : ℕ) : Type 0 where
  pub held : HeldRecord
  pub found : find (id_of s r k) (database s r) ≡ Some held
  pub live : Live held
  pub number : held.number ≡ (slot (router s r) k).last

-- every active slot has its live record
abbrev pub ActiveHeld : {P : Type 0} → State P → Type 0
ActiveHeld s = (r k : ℕ) → r < length s.routers → k < 4 → (slot (router s r) k).active ≡ true → HoldsLast s r k

-- every slot's record finds room
abbrev pub RoomForSlots : {P : Type 0} → State P → Type 0
RoomForSlots s = (r k : ℕ) → r < length s.routers → k < 4 → no_room (id_of s r k) (database s r) ≡ false

-- what was put is a message that can be written, whole
abbrev pub Written : Frame → Type 0
Written f = (m : Pdu) × Fits m × (f ≡ encode m)

-- the router at an end, if any, does not refuse the frame that was taken there, if any
abbrev pub HeardThere : {P : Type 0} → State P → Option (ℕ × ℕ) → Option Frame → Type 0
HeardThere s None f = Unit {0}
HeardThere s (Some a) None = Unit {0}
HeardThere s (Some a) (Some f) = refusal_of_hear s a.0 a.1 f ≡ None

module _ {P : Type 0} (air : P → Air) (put : PutOver P) (take : TakeOver P) where
  abbrev pub HeardAt : (c e k : ℕ) (s t : State P) → TakesAt air take c e k s t → Type 0
  HeardAt c e k s t (TakesAt.own h) = Unit {0}
  HeardAt c e k s t (TakesAt.other {q = q} {f = f} h took d) = HeardThere (with_plant q s) (attached c k 0 s.routers) f

  -- a put is accepted, its frame is one that can be written, and every router to which it comes hears it
  abbrev pub PutHeard : (a : Port) (f : Frame) (g h : Progress P) → Sends air put take a f g h → Type 0
  PutHeard a f g h (Sends.sent p l takes e) = Written f × Along (HeardAt a.circuit a.end) takes
  PutHeard a f g h (Sends.refused p e) = ⊥

  -- within a tick, after each of its steps
  abbrev pub SlotsHeld : State P → State P → Type 0
  SlotsHeld s t = ActiveHeld t

  -- a state of a run, and every tick from it
  pub record NoStandIn (s : State P) : Type 0 where
    pub quiet : Quiet (air s.plant)
    pub active : ActiveHeld s
    pub room : RoomForSlots s
    pub slots : (t : State P) (f m : ℕ) (k : Ticks air put take s t (Ok (f, m))) → EachStep air put take SlotsHeld s t f m k
    pub puts : (t : State P) (f m : ℕ) (k : Ticks air put take s t (Ok (f, m))) → EachPut air put take PutHeard s t f m k

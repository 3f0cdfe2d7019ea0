-- Which of several refusals is answered: the one of the smallest rank, and at equal ranks of the smallest place.
use Rattle.std.specs.Prelude.{◌≡◌, ℕ, Bool, true, cond, ◌&&◌, ◌||◌, ◌⊎◌, List, [], ◌∷◌, Some, None, Ok, Err, Option, Result, ◌==◌, nat_le, nat_lt}
use Rattle.fault.specs.declared.FrameFault.{FrameFault}
use Rattle.fault.specs.declared.FrameFault.TheVariants.{Short, Fixed, Kind, Header, Length, Size, Field, Body, Tail, Lifetime, Number, Range, Order, Summary, Check}
use Rattle.fault.specs.declared.CallFault.{CallFault}
use Rattle.fault.specs.declared.CallFault.TheVariants.{Frame, Unknown, Full, NotEmpty, TooMany, Taken, Attached, Service, Inactive, NoNumber, ClockEnd, Waiting}
use Rattle.fault.specs.Refusals.{frame_place, call_place}

-- a refusal's rank stands apart from its number, and leaves room between two ranks
abbrev pub frame_rank : FrameFault → ℕ
frame_rank (Short n) = 10
frame_rank (Fixed at) = 20
frame_rank Kind = 30
frame_rank Header = 40
frame_rank Length = 40
frame_rank Size = 40
frame_rank (Field at) = 50
frame_rank (Body at) = 50
frame_rank (Tail at) = 50
frame_rank (Lifetime at) = 60
frame_rank Number = 60
frame_rank Range = 60
frame_rank (Order at) = 60
frame_rank Summary = 60
frame_rank Check = 70

abbrev pub call_rank : CallFault → ℕ
call_rank (Frame f) = frame_rank f
call_rank Unknown = 80
call_rank Full = 90
call_rank NotEmpty = 100
call_rank TooMany = 110
call_rank Taken = 120
call_rank Attached = 130
call_rank Service = 140
call_rank Inactive = 150
call_rank NoNumber = 160
call_rank ClockEnd = 170
call_rank Waiting = 180

-- rank r and place p come before rank s and place q
abbrev pub ranked : ℕ → ℕ → ℕ → ℕ → Bool
ranked r p s q = nat_lt r s || (r == s && nat_le p q)

-- refused where the cause is there
abbrev pub fails : {F : Type 0} → Bool → F → Option F
fails cause fault = cond cause (Some fault) None

-- refused where there is a fault, else the answer
abbrev pub unless : {A F : Type 0} → Option F → A → Result A F
unless None a = Ok a
unless (Some e) a = Err e

-- over refusals of any type, with their rank and place
module _ {F : Type 0} (rank place : F → ℕ) where
  -- a is answered rather than b
  abbrev pub before : F → F → Bool
  before a b = ranked (rank a) (place a) (rank b) (place b)

  -- of two refusals, where each is there or not
  abbrev pub sooner : Option F → Option F → Option F
  sooner None b = b
  sooner (Some a) None = Some a
  sooner (Some a) (Some b) = Some (cond (before a b) a b)

  -- of several
  abbrev pub soonest : List (Option F) → Option F
  soonest [] = None
  soonest (r ∷ rs) = sooner r (soonest rs)

  -- one of several is there
  abbrev pub Among : List (Option F) → F → Type 0
  Among [] a = ⊥
  Among (r ∷ rs) a = (r ≡ Some a) ⊎ Among rs a

  -- the refusal that is answered is there, and is answered rather than any other that is there; none is answered only where none is there
  abbrev pub Answers : List (Option F) → Option F → Type 0
  Answers rs None = (a : F) → Among rs a → ⊥
  Answers rs (Some a) = Among rs a × ((b : F) → Among rs b → before a b ≡ true)

-- the refusal of a frame that is answered
abbrev pub first_fault : List (Option FrameFault) → Option FrameFault
first_fault rs = soonest frame_rank frame_place rs

-- the refusal of a call that is answered
abbrev pub first_refusal : List (Option CallFault) → Option CallFault
first_refusal rs = soonest call_rank call_place rs

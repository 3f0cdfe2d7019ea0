-- A tick: ageing with reissue, then the turns. It answers the frames put and the sum of missed answers, and is refused at clock 1,000,000.
use Rattle.std.specs.Prelude.{◌≡◌, ℕ, [], ◌∷◌, Some, None, Ok, Err, Option, Result, nat_le}
use Rattle.fault.specs.declared.CallFault.{CallFault}
use Rattle.fault.specs.declared.CallFault.TheVariants.{ClockEnd}
use Rattle.fault.specs.Order.{fails, first_refusal}
use Rattle.plant.specs.Air.{Air}
use Rattle.plant.specs.Calls.{PutOver, TakeOver}
use Rattle.model.specs.State.{State}
use Rattle.model.specs.Ageing.{aged_and_reissued}
use Rattle.model.specs.Turns.{Turns}

abbrev pub refusal_of_tick : {P : Type 0} → State P → Option CallFault
refusal_of_tick s = first_refusal (fails (nat_le 1000000 s.clock) ClockEnd ∷ [])

-- u is the state between the two parts
abbrev pub Ages : {P : Type 0} → State P → State P → Type 0
Ages s u = u ≡ aged_and_reissued s

abbrev pub Ticks : {P : Type 0} → (P → Air) → PutOver P → TakeOver P → State P → State P → Result (ℕ × ℕ) CallFault → Type 0
Ticks {P} air put take s t (Ok n) =
    (refusal_of_tick s ≡ None) × ((u : State P) × Ages s u × Turns air put take u t n.0 n.1)
Ticks air put take s t (Err e) = (refusal_of_tick s ≡ Some e) × (t ≡ s)

-- No frame waits between calls: in every run, after each call, nothing waits at any end of the plant.
-- So a tick never begins with a frame waiting.
use Rattle.plant.specs.Air.{Air, Quiet}
use Rattle.plant.specs.Calls.{PutOver, TakeOver}
use Rattle.model.specs.State.{State}
use Rattle.model.specs.Book.{History}
use Rattle.model.specs.Run.{Run}

abbrev pub NothingWaits : {P : Type 0} → (P → Air) → PutOver P → TakeOver P → Type 0
NothingWaits {P} air put take = (s : State P) (h : History) → Run air put take s h → Quiet (air s.plant)

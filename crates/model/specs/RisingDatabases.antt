-- In every run, in every router's database, identifiers rise strictly: so of each identifier there is one record at most.
use Rattle.std.specs.Prelude.{ℕ}
use Rattle.plant.specs.Air.{Air}
use Rattle.plant.specs.Calls.{PutOver, TakeOver}
use Rattle.model.specs.State.{State, database}
use Rattle.model.specs.DatabaseLaws.{Rising}
use Rattle.model.specs.Book.{History}
use Rattle.model.specs.Run.{Run}

abbrev pub AllRise : {P : Type 0} → State P → Type 0
AllRise s = (r : ℕ) → Rising (database s r)

abbrev pub DatabasesRise : {P : Type 0} → (P → Air) → PutOver P → TakeOver P → Type 0
DatabasesRise {P} air put take = (s : State P) (h : History) → Run air put take s h → AllRise s

use Rattle.model.proofs.CableRun
use Rattle.model.proofs.worked_cable.Goals as goal

pub returns : goal.returns
returns c = CableRun.worked

use Rattle.model.proofs.Rising.{databases_rise_lem}
use Rattle.model.proofs.databases_rise.Goals as goal

pub returns : goal.returns
returns g c = databases_rise_lem g.P.Plant.air g.P.Plant.put_over g.P.Plant.take_over

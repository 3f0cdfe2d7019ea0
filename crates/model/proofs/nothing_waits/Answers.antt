use Rattle.model.proofs.Quiet.{nothing_waits_lem}
use Rattle.model.proofs.nothing_waits.Goals as goal

pub returns : goal.returns
returns g c =
    nothing_waits_lem g.P.Plant.air g.P.Plant.put_over g.P.Plant.take_over
    (record {
      lawful = g.met.P.Plant.lawful;
      put_means = g.met.P.Plant.put_means;
      take_means = g.met.P.Plant.take_means;
    })

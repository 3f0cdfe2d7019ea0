use Rattle.model.proofs.CleanTicks.{zero_missed_is_clean}
use Rattle.model.proofs.clean_ticks.Goals as goal

pub returns : goal.returns
returns g c =
    zero_missed_is_clean g.P.Plant.air g.P.Plant.put_over g.P.Plant.take_over
    (record {
      lawful = g.met.P.Plant.lawful;
      put_means = g.met.P.Plant.put_means;
      take_means = g.met.P.Plant.take_means;
    })

use Rattle.std.proofs.Common.{refl}
use Rattle.model.proofs.bench.Goals as goal

pub returns : goal.returns
returns c =
    record {
      number_1 = refl;
      number_2 = refl;
      with_body = refl;
      number_124 = refl;
      live_5_over_purge_4 = refl;
      purge_5_over_live_5 = refl;
      empty_csnp = refl;
      sixteen_psnps = refl;
    }

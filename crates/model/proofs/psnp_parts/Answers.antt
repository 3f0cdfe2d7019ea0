use Rattle.model.proofs.Cuts
use Rattle.model.proofs.psnp_parts.Goals as goal

pub returns : goal.returns
returns c = Cuts.psnps_of_15

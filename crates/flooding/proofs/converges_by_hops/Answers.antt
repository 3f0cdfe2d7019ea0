use Rattle.flooding.proofs.Converged
use Rattle.flooding.proofs.converges_by_hops.Goals as goal

pub returns : goal.returns
returns c = Converged.converges_by_hops_lem

use Rattle.flooding.proofs.Converged
use Rattle.flooding.proofs.converges.Goals as goal

pub returns : goal.returns
returns c = Converged.converges

use Rattle.flooding.proofs.Windows.{windows_carry, reached_by_hops, reached_by_all, converges_while_held}
use Rattle.flooding.proofs.reaches.Goals as goal

pub returns : goal.returns
returns c = record { carries = windows_carry; hops = reached_by_hops; all = reached_by_all; twenty = converges_while_held }

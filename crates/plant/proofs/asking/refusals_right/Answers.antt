use Rattle.plant.proofs.Blocked.{put_first, take_first, decides_blocked}
use Rattle.plant.proofs.asking.refusals_right.Goals as goal

pub returns : goal.returns
returns c = record { put = put_first; take = take_first; blocked = decides_blocked }

use Rattle.flooding.proofs.Projection
use Rattle.flooding.proofs.FrameLists
use Rattle.flooding.proofs.HeardCopies
use Rattle.flooding.proofs.Ranks
use Rattle.flooding.proofs.projects.Goals as goal

pub returns : goal.returns
returns c = record {
  ticks = Projection.projects;
  ranges = FrameLists.ranges_mention_once;
  parts = FrameLists.parts_mention_once;
  lengths = FrameLists.rising_no_longer;
  heard = HeardCopies.heard_by_rule;
  ranks = Ranks.ranks;
}

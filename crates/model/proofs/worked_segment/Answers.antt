use Rattle.model.proofs.SegmentRun
use Rattle.model.proofs.worked_segment.Goals as goal

pub returns : goal.returns
returns c = SegmentRun.worked

use Rattle.std.proofs.Common.{length}
use Rattle.inspect.proofs.describe.describe_fields.Given as goal

abbrev pub decreases-loop-code : goal.decreases-loop-code
decreases-loop-code g l = length l.rest

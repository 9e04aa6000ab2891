use Rattle.std.proofs.Common.{length}
use Rattle.nest_rows.proofs.in_common.+common.Given as goal

abbrev pub decreases-common : goal.decreases-common
decreases-common l = length l.these.now

use Rattle.std.proofs.Common.{length}
use Rattle.quick_elim.proofs.values.Search.+find.Given as goal

abbrev pub decreases-find : goal.decreases-find
decreases-find l = length l.trail.now

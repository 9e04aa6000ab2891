use Rattle.std.proofs.Common.{length}
use Rattle.spmd_answer.proofs.bench.+put_counts.Given as goal

abbrev pub decreases-put_counts : goal.decreases-put_counts
decreases-put_counts l = length l.words.now

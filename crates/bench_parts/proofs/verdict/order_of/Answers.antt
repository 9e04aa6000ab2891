use Rattle.std.proofs.Common.{rules}
use Rattle.list_lemmas.proofs.Ranges.{range-more}
use Rattle.bench_parts.proofs.verdict.order_of.Goals as goal

pub loop-before-preserved : goal.loop-before-preserved
loop-before-preserved c = search (rules, range-more 1 c.loop-before.before)

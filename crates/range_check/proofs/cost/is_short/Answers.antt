use Rattle.std.proofs.Common.{refl}
use Rattle.nest_tree.specs.Limits.{no_ends}
use Rattle.nest_tree.proofs.FirstLimits.{read-given}
use Rattle.range_check.proofs.cost.is_short.Goals as goal

pub statements_cost-requires : goal.statements_cost-requires
unfolding no_ends
statements_cost-requires c = read-given c.args.program.now no_ends c.deref-2.result.now c.deref.result.now refl c.deref-2.ensures.value c.deref.ensures.value c.args.program.now.formed

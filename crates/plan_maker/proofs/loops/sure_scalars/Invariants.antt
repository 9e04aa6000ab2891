use Rattle.std.proofs.Common.{◌+◌}
use Rattle.nest_tree.specs.View.{tree_of}
use Rattle.maker_marks.specs.Tries.{nest_body}
use Rattle.plan_maker.proofs.SureScalars.{AreSureBelow}
use Rattle.plan_maker.proofs.loops.sure_scalars.Given as goal

abbrev pub invariant-loop-place : goal.invariant-loop-place
invariant-loop-place l = AreSureBelow (tree_of l.program) l.nest.number (nest_body l.nest) (l.place + 1) l.sure.items

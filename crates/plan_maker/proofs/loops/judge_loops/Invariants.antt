use Rattle.std.proofs.Common.{◌≡◌, length}
use Rattle.nest_tree.specs.View.{tree_of}
use Rattle.plan_maker.specs.Loops.{AreLoopVerdicts}
use Rattle.plan_maker.proofs.loops.judge_loops.Given as goal

abbrev pub invariant-loop-place : goal.invariant-loop-place
invariant-loop-place l = record { long : length l.verdicts.items ≡ l.place; all : AreLoopVerdicts (tree_of l.program) l.verdicts.items }

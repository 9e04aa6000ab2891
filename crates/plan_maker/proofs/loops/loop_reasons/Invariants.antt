use Rattle.std.proofs.Common.{take}
use Rattle.std.specs.List.{AllZip}
use Rattle.nest_tree.specs.Tree.{Tree}
use Rattle.plan_maker.specs.Bars.{IsLoopReason, all_attempts, open_loops}
use Rattle.plan_maker.specs.Loops.{AreLoopVerdicts}
use Rattle.plan_maker.proofs.loops.loop_reasons.Given as goal

abbrev pub invariant-loop-place : goal.invariant-loop-place
invariant-loop-place l = (tree : Tree) → AreLoopVerdicts tree l.verdicts → AllZip (IsLoopReason tree) (all_attempts tree (open_loops 1 (take l.place l.marks))) l.reasons.items

use Rattle.std.proofs.Common.{map, take}
use Rattle.std.specs.List.{AllByRecursion, AllZip}
use Rattle.nest_tree.specs.View.{tree_of}
use Rattle.plan_maker.specs.Bars.{IsLoopReason, IsSureBarred, attempt}
use Rattle.plan_maker.proofs.loops.judge_tries.Given as goal

abbrev pub invariant-loop-tried : goal.invariant-loop-tried
invariant-loop-tried l = record {
  barred : AllZip (IsLoopReason (tree_of l.program)) (map (attempt l.number) (take l.tried-index l.tried-items)) l.reasons.items;
  sure : AllByRecursion (IsSureBarred (tree_of l.program) l.number) (take l.tried-index l.tried-items);
}

use Rattle.std.proofs.Common.{take}
use Rattle.std.specs.List.{flat_map}
use Rattle.nest_tree.specs.View.{tree_of}
use Rattle.comm_system.specs.GroupViews.{group_seen}
use Rattle.comm_system.specs.declared.group.Group.{Group}
use Rattle.plan_maker.specs.Asked.{AreRefuted}
use Rattle.plan_maker.specs.Judged.{asked_in}
use Rattle.plan_maker.proofs.judge.judge_groups.Given as goal

abbrev pub invariant-loop-group : goal.invariant-loop-group
invariant-loop-group l = AreRefuted (flat_map (λ (g : Group). asked_in (tree_of l.problem.program.now) l.problem.plan.now l.dists (group_seen g)) (take l.group-index l.groups)) l.certificates.items

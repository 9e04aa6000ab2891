use Rattle.std.proofs.Common.{take}
use Rattle.std.specs.List.{flat_map}
use Rattle.nest_tree.specs.View.{tree_of}
use Rattle.comm_system.specs.PhaseViews.{phase_seen}
use Rattle.comm_system.specs.declared.phase.Phase.{Phase}
use Rattle.plan_maker.specs.Asked.{AreRefuted, paths_asked}
use Rattle.plan_maker.proofs.dealt.judge_paths.Given as goal

abbrev pub invariant-loop-phase : goal.invariant-loop-phase
invariant-loop-phase l = AreRefuted (flat_map (λ (p : Phase). paths_asked (tree_of l.problem.program.now) l.problem.plan.now (phase_seen p)) (take l.phase-index l.phases)) l.certificates.items

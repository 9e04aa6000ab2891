use Rattle.std.proofs.Common.{◌≡◌, ◌++◌, map, take}
use Rattle.nest_tree.specs.View.{tree_of}
use Rattle.plan_text.specs.PlanText.{text_of}
use Rattle.reason_text.specs.ReasonText.{phase_line}
use Rattle.reason_text.proofs.write.push_phases.Given as goal

abbrev pub invariant-loop-reason : goal.invariant-loop-reason
invariant-loop-reason l = l.text.items ≡ l.initial.text.items ++ text_of (map (phase_line (tree_of l.program)) (take l.reason-index l.reasons))

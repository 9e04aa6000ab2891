use Rattle.std.proofs.Common.{◌≡◌, ◌++◌, take}
use Rattle.plan_text.specs.PlanText.{alone, numbered, text_of, zipped}
use Rattle.plan_text.specs.Words.{phase_line}
use Rattle.plan_text.proofs.write.put_phases.Given as goal

abbrev pub invariant-loop-place : goal.invariant-loop-place
invariant-loop-place l = l.out.items ≡ l.initial.out.items ++ text_of (numbered (alone phase_line) 1 (take l.place (zipped l.kinds l.anchors)))

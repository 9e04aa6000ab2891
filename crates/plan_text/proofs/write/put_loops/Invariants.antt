use Rattle.std.proofs.Common.{◌≡◌, ◌++◌, take}
use Rattle.plan_text.specs.PlanText.{alone, numbered, text_of, zipped}
use Rattle.plan_text.specs.Words.{loop_line}
use Rattle.plan_text.proofs.write.put_loops.Given as goal

abbrev pub invariant-loop-place : goal.invariant-loop-place
invariant-loop-place l = l.out.items ≡ l.initial.out.items ++ text_of (numbered (alone loop_line) 1 (take l.place (zipped l.marks l.privates)))

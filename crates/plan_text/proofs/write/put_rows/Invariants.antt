use Rattle.std.proofs.Common.{◌≡◌, ◌++◌, take}
use Rattle.plan_text.specs.PlanText.{alone, numbered, text_of}
use Rattle.plan_text.specs.Words.{row_line}
use Rattle.plan_text.proofs.write.put_rows.Given as goal

abbrev pub invariant-loop-place : goal.invariant-loop-place
invariant-loop-place l = l.out.items ≡ l.initial.out.items ++ text_of (numbered (alone row_line) 1 (take l.place l.rows))

use Rattle.std.proofs.Common.{◌≡◌, ◌++◌, take}
use Rattle.plan_text.specs.PlanText.{cert_lines, numbered, text_of}
use Rattle.plan_text.proofs.write.put_certificates.Given as goal

abbrev pub invariant-loop-place : goal.invariant-loop-place
invariant-loop-place l = l.out.items ≡ l.initial.out.items ++ text_of (numbered cert_lines 1 (take l.place l.certificates))

use Rattle.std.proofs.Common.{◌≡◌, ◌++◌, take}
use Rattle.plan_text.specs.PlanText.{alone, numbered, text_of}
use Rattle.plan_text.specs.Words.{step_line}
use Rattle.plan_text.proofs.write.put_certificate.Given as goal

abbrev pub invariant-loop-step : goal.invariant-loop-step
invariant-loop-step l = l.out.items ≡ l.initial.out.items ++ text_of (numbered (alone (λ n. step_line)) 1 (take l.step-index l.steps))

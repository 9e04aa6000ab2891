use Rattle.plan_text.specs.PlanText.{alone}
use Rattle.plan_text.specs.Words.{step_line}
use Rattle.plan_text.proofs.Written.{item_written, line_written}
use Rattle.plan_text.proofs.write.put_certificate.Goals as goal

pub loop-step-preserved : goal.loop-step-preserved
loop-step-preserved c =
    item_written (alone (λ n. step_line)) c.args.steps.now c.loop-step.step-index c.step-item.result c.push.new.self.items c.loop-step.out.items c.push-in-loop-step.new.self.items c.loop-step-test.true c.step-item.is c.loop-step.invariant
    (line_written (step_line c.step-item.result) c.loop-step.out.items c.put_step.new.out.items c.push-in-loop-step.new.self.items c.in_ok-put_step.ensures c.in_ok-push-2.ensures.items)

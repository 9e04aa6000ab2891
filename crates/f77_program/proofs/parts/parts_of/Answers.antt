use Rattle.std.proofs.Common.{length, ap, arith, ◌∙◌}
use Rattle.f77_program.proofs.Parted.{one_taken}
use Rattle.f77_program.proofs.parts.parts_of.Goals as goal

pub loop-part-smaller : goal.loop-part-smaller
loop-part-smaller c =
    let step = one_taken c.loop-part.parts.items c.push-in-Some.new.self.items c.loop-part.waiting.items c.push_operands.new.waiting.items c.pop.new.self.items c.in-Some.part c.in-Some.ensures.items c.in_ok-push_operands.ensures c.in_ok-push-2.ensures.items in
    omega (arith, ap length step.0)

pub loop-part-preserved : goal.loop-part-preserved
loop-part-preserved c =
    let step = one_taken c.loop-part.parts.items c.push-in-Some.new.self.items c.loop-part.waiting.items c.push_operands.new.waiting.items c.pop.new.self.items c.in-Some.part c.in-Some.ensures.items c.in_ok-push_operands.ensures c.in_ok-push-2.ensures.items in
    step.1 ∙ c.loop-part.invariant

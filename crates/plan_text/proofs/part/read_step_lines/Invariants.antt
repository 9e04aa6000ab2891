use Rattle.plan_text.specs.PlanText.{alone, is_step_shown}
use Rattle.plan_text.specs.Stops.{ItemsRead}
use Rattle.plan_text.specs.Words.{step_line}
use Rattle.plan_text.proofs.part.read_step_lines.Given as goal

abbrev pub invariant-loop-index : goal.invariant-loop-index
invariant-loop-index l = ItemsRead (alone (λ k. step_line)) is_step_shown l.initial.lines.rest.now l.initial.lines.taken l.lines.rest.now l.lines.taken l.items.items l.index

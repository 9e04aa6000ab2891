use Rattle.plan_text.specs.PlanText.{alone, is_phase_shown}
use Rattle.plan_text.specs.Stops.{ItemsRead}
use Rattle.plan_text.specs.Words.{phase_line}
use Rattle.plan_text.proofs.part.read_phases.Given as goal

abbrev pub invariant-loop-index : goal.invariant-loop-index
invariant-loop-index l = ItemsRead (alone phase_line) is_phase_shown l.initial.lines.rest.now l.initial.lines.taken l.lines.rest.now l.lines.taken l.items.items l.index

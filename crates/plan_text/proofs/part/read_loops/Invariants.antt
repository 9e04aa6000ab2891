use Rattle.plan_text.specs.PlanText.{alone, is_loop_shown}
use Rattle.plan_text.specs.Stops.{ItemsRead}
use Rattle.plan_text.specs.Words.{loop_line}
use Rattle.plan_text.proofs.part.read_loops.Given as goal

abbrev pub invariant-loop-index : goal.invariant-loop-index
invariant-loop-index l = ItemsRead (alone loop_line) (is_loop_shown l.version) l.initial.lines.rest.now l.initial.lines.taken l.lines.rest.now l.lines.taken l.items.items l.index

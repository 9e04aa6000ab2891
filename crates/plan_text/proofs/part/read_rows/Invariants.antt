use Rattle.plan_text.specs.PlanText.{alone, is_row_shown}
use Rattle.plan_text.specs.Stops.{ItemsRead}
use Rattle.plan_text.specs.Words.{row_line}
use Rattle.plan_text.proofs.part.read_rows.Given as goal

abbrev pub invariant-loop-index : goal.invariant-loop-index
invariant-loop-index l = ItemsRead (alone row_line) is_row_shown l.initial.lines.rest.now l.initial.lines.taken l.lines.rest.now l.lines.taken l.items.items l.index

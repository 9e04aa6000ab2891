use Rattle.plan_text.specs.PlanText.{cert_lines, is_certificate_shown}
use Rattle.plan_text.specs.Stops.{ItemsRead}
use Rattle.plan_text.proofs.part.read_certificates.Given as goal

abbrev pub invariant-loop-index : goal.invariant-loop-index
invariant-loop-index l = ItemsRead cert_lines is_certificate_shown l.initial.lines.rest.now l.initial.lines.taken l.lines.rest.now l.lines.taken l.items.items l.index

use Rattle.std.proofs.Common.{◌++◌, ◌∷◌, ◌∙◌, ap, sym}
use Rattle.plan_text.specs.Loose.{is_where_shown, where_line}
use Rattle.plan_text.proofs.Plans.{rows_refused, where_refused}
use Rattle.plan_text.proofs.read.read_rows_where.Goals as goal

pub returns-in-Err-clause-refused : goal.returns-in-Err-clause-refused
returns-in-Err-clause-refused c = where_refused c.args.lines.now.rest.now c.args.lines.now.taken c.in-Err.refusal c.in-Err.ensures.refused

pub returns-in-Err-read_rows-clause-refused : goal.returns-in-Err-read_rows-clause-refused
returns-in-Err-read_rows-clause-refused c =
    rows_refused c.in-Ok-Some.count (sym (ap is_where_shown c.in-Ok-Some.field-0-is) ∙ c.in-Ok-Some.ensures.fits) c.args.lines.now.rest.now c.read_where.new.lines.rest.now c.args.lines.now.taken c.read_where.new.lines.taken c.in-Err-read_rows.refusal (c.in-Ok-Some.ensures.ok ∙ ap (λ w. where_line w ++ (10 ∷ c.read_where.new.lines.rest.now)) c.in-Ok-Some.field-0-is) c.in-Ok-Some.ensures.taken c.in-Err-read_rows.ensures.refused

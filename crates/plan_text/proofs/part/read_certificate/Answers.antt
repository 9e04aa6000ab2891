use Rattle.std.proofs.Common.{refl}
use Rattle.plan_text.specs.PlanText.{alone, is_64, is_step_shown}
use Rattle.plan_text.specs.Words.{cert_line, step_line}
use Rattle.plan_text.proofs.Frees.{certificate_refused, header_refused, items_refused, steps-apart}
use Rattle.plan_text.proofs.part.read_certificate.Goals as goal

pub returns-in-Err-clause-refused : goal.returns-in-Err-clause-refused
returns-in-Err-clause-refused c =
    certificate_refused c.args.number c.args.lines.now.rest.now c.args.lines.now.taken c.in-Err.refusal
    (header_refused (cert_line c.args.number) is_64 (steps-apart c.args.number) refl (alone (λ n. step_line)) is_step_shown c.args.lines.now.rest.now c.args.lines.now.taken c.in-Err.refusal c.in-Err.ensures.refused)

pub returns-in-Err-read_step_lines-clause-refused : goal.returns-in-Err-read_step_lines-clause-refused
returns-in-Err-read_step_lines-clause-refused c =
    certificate_refused c.args.number c.args.lines.now.rest.now c.args.lines.now.taken c.in-Err-read_step_lines.refusal
    (items_refused (cert_line c.args.number) is_64 (steps-apart c.args.number) refl (alone (λ n. step_line)) is_step_shown c.in-Ok.count c.in-Ok.ensures.fits c.args.lines.now.rest.now c.read_steps.new.lines.rest.now c.args.lines.now.taken c.read_steps.new.lines.taken c.in-Err-read_step_lines.refusal
    c.in-Ok.ensures.ok c.in-Ok.ensures.taken c.in-Err-read_step_lines.ensures.refused)

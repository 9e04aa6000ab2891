use Rattle.std.proofs.Common.{refl}
use Rattle.plan_text.specs.PlanText.{cert_lines, is_certificate_shown}
use Rattle.plan_text.proofs.Defaults.{first_certificate}
use Rattle.plan_text.proofs.Frees.{certificates-free}
use Rattle.plan_text.proofs.Items.{item_refused, one_more}
use Rattle.plan_text.proofs.part.read_certificates.Goals as goal

pub returns-in-Err-clause-refused : goal.returns-in-Err-clause-refused
returns-in-Err-clause-refused c =
    item_refused cert_lines is_certificate_shown certificates-free first_certificate refl c.args.lines.now.rest.now c.loop-index.lines.rest.now c.args.lines.now.taken c.loop-index.lines.taken c.loop-index.index c.args.count c.loop-index.items.items c.in-Err.refusal
    c.loop-index-test.true c.loop-index.invariant c.in-Err.ensures.refused

pub loop-index-preserved : goal.loop-index-preserved
loop-index-preserved c =
    one_more cert_lines is_certificate_shown c.args.lines.now.rest.now c.loop-index.lines.rest.now c.read_certificate.new.lines.rest.now c.args.lines.now.taken c.loop-index.lines.taken c.read_certificate.new.lines.taken c.loop-index.index c.loop-index.items.items c.push.new.self.items c.in-Ok.item
    c.in_ok-push-in-Ok.ensures.items c.loop-index.invariant c.in-Ok.ensures.ok c.in-Ok.ensures.taken c.in-Ok.ensures.shown

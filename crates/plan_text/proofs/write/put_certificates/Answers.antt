use Rattle.std.proofs.Common.{◌+◌, ◌++◌, ◌∙◌, ap}
use Rattle.plan_text.specs.PlanText.{cert_lines, text_of}
use Rattle.plan_text.proofs.Written.{item_written}
use Rattle.plan_text.proofs.write.put_certificates.Goals as goal

pub loop-place-preserved : goal.loop-place-preserved
loop-place-preserved c =
    item_written cert_lines c.args.certificates.now c.loop-place.place c.index-certificates-place.result c.push.new.self.items c.loop-place.out.items c.put_certificate.new.out.items c.loop-place-test.true c.index-certificates-place.is c.loop-place.invariant
    (c.in_ok-put_certificate.ensures ∙ ap (λ steps. c.loop-place.out.items ++ text_of (cert_lines (c.loop-place.place + 1) (record { steps = steps }))) c.as_slice.ensures)

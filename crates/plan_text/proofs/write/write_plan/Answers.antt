use Rattle.std.proofs.Common.{◌++◌, ◌∷◌, [], ◌∙◌, ap, length, codes, arith}
use Rattle.std.proofs.lemmas.Bool.Decides.{nat_tests}
use Rattle.plan_text.specs.PlanText.{alone, cert_lines, counted, cut_loops, head_lines, text_of, zipped}
use Rattle.plan_text.specs.Words.{loop_line, phase_line}
use Rattle.plan_text.proofs.Written.{five_written}
use Rattle.plan_text.proofs.write.write_plan.Goals as goal

pub put_phases-requires-clause-few : goal.put_phases-requires-clause-few
put_phases-requires-clause-few c =
    let few = c.requires.phases in
    let same = ap length c.as_slice-2.ensures in
    grind (arith, nat_tests, few, same)

pub returns : goal.returns
returns c =
    let plan = c.args.plan.now in
    five_written (head_lines plan) (counted (codes "LOOPS") (alone loop_line) (cut_loops plan.cut)) (counted (codes "PHASES") (alone phase_line) (zipped plan.kinds plan.anchors)) (counted (codes "CERTIFICATES") cert_lines plan.certificates) (codes "END PLAN" ∷ [])
    c.new-out.result.items c.put_head.new.out.items c.put_loops.new.out.items c.put_phases.new.out.items c.put_certificates.new.out.items c.extend_from_slice.new.self.items
    c.new-out.ensures.items c.in_ok-put_head.ensures
    (c.in_ok-put_loops.ensures ∙ ap (λ xs. c.put_head.new.out.items ++ text_of (counted (codes "LOOPS") (alone loop_line) (zipped xs c.privates.result.now))) c.as_slice.ensures
    ∙ ap (λ xs. c.put_head.new.out.items ++ text_of (counted (codes "LOOPS") (alone loop_line) (zipped plan.cut.marks xs))) c.privates.ensures)
    (c.in_ok-put_phases.ensures ∙ ap (λ xs. c.put_loops.new.out.items ++ text_of (counted (codes "PHASES") (alone phase_line) (zipped xs c.as_slice-3.result.now))) c.as_slice-2.ensures
    ∙ ap (λ xs. c.put_loops.new.out.items ++ text_of (counted (codes "PHASES") (alone phase_line) (zipped plan.kinds xs))) c.as_slice-3.ensures)
    (c.in_ok-put_certificates.ensures ∙ ap (λ xs. c.put_phases.new.out.items ++ text_of (counted (codes "CERTIFICATES") cert_lines xs)) c.as_slice-4.ensures)
    c.in_ok-extend_from_slice.ensures.items

use Rattle.std.proofs.Common.{◌≡◌, ap, ◌∙◌}
use Rattle.f77_forms.specs.View.{expression_of}
use Rattle.f77_scene.specs.Expressions.{parts_of}
use Rattle.f77_program.specs.Marks.{also_marks, marks_among}
use Rattle.f77_program.specs.Measures.{measure_of}
use Rattle.f77_program.specs.Operands.{forms_of}
use Rattle.f77_program.proofs.Surveyed.{survey-more}
use Rattle.f77_program.proofs.survey.Survey.add.Goals as goal

pub returns : goal.returns
returns c = λ spots so_far.
    let s = c.args.known.now in
    let e = expression_of c.args.e.now in
    let parts : forms_of c.in_ok-parts.parts.items ≡ parts_of e = c.in_ok-parts.ensures in
    let marked : c.also-self.result ≡ also_marks c.args.self.now.marks (marks_among s (parts_of e)) = c.also-self.ensures ∙ ap (λ ps. also_marks c.args.self.now.marks (marks_among s (forms_of ps))) c.as_slice-2.ensures.value ∙ ap (λ ps. also_marks c.args.self.now.marks (marks_among s ps)) parts in
    let measured : c.in_ok-measure.measure ≡ measure_of s e = c.in_ok-measure.ensures e (ap forms_of c.as_slice.ensures.value ∙ parts) in
    survey-more spots s e c.args.self.now.marks c.also-self.result c.args.self.now.measures.items c.push.new.self.items c.in_ok-measure.measure so_far marked c.in_ok-push.ensures.items measured

use Rattle.std.proofs.Common.{◌≡◌, ap, ◌∙◌}
use Rattle.f77_forms.specs.View.{expression_of}
use Rattle.f77_program.specs.Operands.{forms_of}
use Rattle.f77_scene.specs.Expressions.{parts_of}
use Rattle.f77_source.specs.Forms.{form_at}
use Rattle.f77_source.proofs.Formed.{form_within}
use Rattle.f77_source.proofs.form.form_of.Goals as goal

pub returns : goal.returns
returns c =
    let e = expression_of c.args.e.now in
    let parts : forms_of c.deref.result.now ≡ parts_of e = ap forms_of c.deref.ensures.value ∙ c.in_ok-parts.ensures in
    c.in_ok-form.ensures ∙ ap form_at (c.in_ok-measure.ensures e parts) ∙ form_within c.args.known.now e c.requires

use Rattle.std.proofs.Common.{◌∷◌, [], map, ap, sym, ◌∙◌, arith}
use Rattle.std.proofs.Math.ListN.{get_or-map}
use Rattle.std.proofs.lemmas.List.{length-map}
use Rattle.f77_forms.specs.View.{expression_of}
use Rattle.f77_program.specs.Reaches.{reach_of}
use Rattle.f77_source.proofs.Formed.{reach_each}
use Rattle.f77_source.proofs.form.forms_of.Goals as goal

pub form_of-requires : goal.form_of-requires
form_of-requires c =
    let es = c.args.expressions.now in
    let i = c.loop-e.e-index in
    let e = c.e-item.result in
    ap (λ x. reach_of c.args.known.now (x ∷ [])) (ap expression_of c.e-item.is ∙ sym (get_or-map expression_of es i e))
    ∙ reach_each c.args.known.now (map expression_of es) i (expression_of e) (omega (arith, length-map es expression_of)) c.requires

use Rattle.std.proofs.Common.{◌-◌, ◌∷◌, [], ap, ◌∙◌, arith}
use Rattle.f77_program.specs.Measures.{linear_reaches}
use Rattle.f77_program.specs.declared.measure.Measure.{Measure}
use Rattle.f77_source.proofs.Formed.{linear_each, within_reversed}
use Rattle.f77_source.proofs.form.forms_in.Goals as goal

pub form_in-requires : goal.form_in-requires
form_in-requires c =
    ap (λ (m : Measure). linear_reaches (m ∷ [])) c.index-measures-place.is
    ∙ linear_each c.args.measures.now (c.loop-place.place - 1) c.index-measures-place.result (omega arith) (within_reversed c.args.measures.now c.requires)

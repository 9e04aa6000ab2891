use Rattle.std.proofs.Common.{◌-◌, length, get_or, w64, FitsSigned, rules, ap, sym, ◌∙◌}
use Rattle.std.proofs.lemmas.Int.{to_z-of_z}
use Rattle.f77_program.specs.declared.measure.Measure.{Measure}
use Rattle.f77_source.proofs.Grown.{second_measured}
use Rattle.f77_source.proofs.tree.second_value.Goals as goal

pub returns : goal.returns
returns c = λ front a b h.
    let m = c.index-measures-measures.result in
    let fits : FitsSigned w64 (get_or c.args.measures.now (length c.args.measures.now - 2) m).value = search rules in
    to_z-of_z w64 (get_or c.args.measures.now (length c.args.measures.now - 2) m).value fits ∙ ap (λ (x : Measure). x.value) (sym c.index-measures-measures.is ∙ second_measured c.args.measures.now front a b m h c.index-measures-measures.is)

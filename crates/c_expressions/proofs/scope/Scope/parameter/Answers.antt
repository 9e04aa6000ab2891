use Rattle.std.proofs.Common.{rules, ◌-◌, FitsSigned, slice_get, w64, refl, ap₂, sym, ◌∙◌}
use Rattle.std.proofs.lemmas.Int.{to_z-of_z}
use Rattle.std.proofs.lemmas.Option.{slice_get_read}
use Rattle.c_expressions.proofs.Telling.{constant_found}
use Rattle.c_expressions.proofs.scope.Scope.parameter.Goals as goal

pub returns-in-Some : goal.returns-in-Some
returns-in-Some c =
    let fits : FitsSigned w64 c.in-Some.parameter.now.value = search rules in
    let h = c.in-Some.ensures.lookup in
    let at = slice_get_read c.deref.result.now _ c.saturating_sub.result c.in-Some.parameter.now refl h.3.0 h.1 in
    let there = ap₂ (λ xs i. slice_get xs i) (sym c.deref.ensures.value) (sym c.saturating_sub.ensures) ∙ at in
    to_z-of_z w64 c.in-Some.parameter.now.value fits ∙ sym (constant_found c.args.self.now.program.now.params.items (c.args.number - 1) c.in-Some.parameter.now there)

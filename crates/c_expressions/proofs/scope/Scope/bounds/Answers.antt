use Rattle.std.proofs.Common.{◌-◌, slice_get, refl, ap₂, sym, ◌∙◌}
use Rattle.std.proofs.lemmas.Option.{slice_get_past, slice_get_read}
use Rattle.c_expressions.proofs.Telling.{bounds_found, bounds_none}
use Rattle.c_expressions.proofs.scope.Scope.bounds.Goals as goal

pub returns-in-Some : goal.returns-in-Some
returns-in-Some c =
    let h = c.in-Some.ensures.lookup in
    let at = slice_get_read c.deref.result.now _ c.saturating_sub.result c.in-Some.array.now refl h.3.0 h.1 in
    let there = ap₂ (λ xs i. slice_get xs i) (sym c.deref.ensures.value) (sym c.saturating_sub.ensures) ∙ at in
    c.deref-in-Some.ensures.value ∙ sym (bounds_found c.args.self.now.program.now.variables.items (c.args.variable - 1) c.in-Some.array.now there)

pub returns-in-None : goal.returns-in-None
returns-in-None c =
    let past = slice_get_past c.deref.result.now c.saturating_sub.result c.in-None.ensures.lookup.3 in
    let there = ap₂ (λ xs i. slice_get xs i) (sym c.deref.ensures.value) (sym c.saturating_sub.ensures) ∙ past in
    sym (bounds_none c.args.self.now.program.now.variables.items (c.args.variable - 1) there)

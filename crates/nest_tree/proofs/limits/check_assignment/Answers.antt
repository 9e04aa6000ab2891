use Rattle.std.proofs.Common.{◌≡◌, map, Err, ap, sym, ◌∙◌, rules}
use Rattle.std.specs.Option.{option_or}
use Rattle.std.specs.Result.{result_err}
use Rattle.nest_tree.specs.declared.tree.Parameter.{Parameter}
use Rattle.nest_tree.specs.Limits.{wide_forms}
use Rattle.nest_tree.specs.Loads.{guard_forms, loads_in, subscript_forms}
use Rattle.nest_tree.specs.View.{expression_of}
use Rattle.nest_tree.proofs.Wide.{wide_forms-three, first_refused}
use Rattle.nest_tree.proofs.limits.check_assignment.Goals as goal

pub returns-in_err-check_forms : goal.returns-in_err-check_forms
returns-in_err-check_forms c =
    let values = map (λ (p : Parameter). p.value) c.args.constants.now in
    let loads = subscript_forms (loads_in (expression_of c.args.value.now)) in
    let split = wide_forms-three values c.args.ends.now (guard_forms c.args.guard.now) c.args.target.now.subscripts loads c.in_ok-check_guard.ensures in
    let same : c.from_residual-in_err-check_forms.result ≡ Err c.in_err-check_forms.field-0.0 = search rules in
    let second = c.in_err-check_forms.ensures ∙ ap (wide_forms values c.args.ends.now) c.as_slice.ensures in
    ap result_err same ∙ first_refused c.in_err-check_forms.field-0.0 _ (wide_forms values c.args.ends.now loads) _ second split

pub returns : goal.returns
returns c =
    let values = map (λ (p : Parameter). p.value) c.args.constants.now in
    let loads = subscript_forms (loads_in (expression_of c.args.value.now)) in
    let split = wide_forms-three values c.args.ends.now (guard_forms c.args.guard.now) c.args.target.now.subscripts loads c.in_ok-check_guard.ensures in
    let second = c.in_ok-check_forms.ensures ∙ ap (wide_forms values c.args.ends.now) c.as_slice.ensures in
    c.check_loads.ensures ∙ ap (λ o. option_or o (wide_forms values c.args.ends.now loads)) second ∙ sym split

use Rattle.std.proofs.Common.{◌≡◌, drop, map}
use Rattle.nest_tree.specs.declared.tree.Parameter.{Parameter}
use Rattle.nest_tree.specs.Limits.{wide_forms}
use Rattle.nest_tree.proofs.limits.check_forms.Given as goal

abbrev pub invariant-loop-form : goal.invariant-loop-form
invariant-loop-form l =
    let values = map (λ (p : Parameter). p.value) l.constants in
    wide_forms values l.ends (drop l.form-index l.forms) ≡ wide_forms values l.ends l.forms

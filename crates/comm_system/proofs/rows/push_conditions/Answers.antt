use Rattle.std.proofs.Common.{◌≡◌, List, map, ap, sym, ◌∙◌, subst}
use Rattle.nest_tree.specs.Tree.{param_values}
use Rattle.nest_tree.specs.View.{tree_of}
use Rattle.nest_tree.specs.declared.tree.Parameter.{Parameter}
use Rattle.nest_rows.specs.declared.constraint.Constraint.{Constraint}
use Rattle.nest_rows.specs.Groups.{constants_have}
use Rattle.nest_rows.specs.More.{HasMore}
use Rattle.comm_system.specs.PairRows.{conditions_have}
use Rattle.nest_tree.proofs.FirstLimits.{values_of_constants}
use Rattle.comm_system.proofs.rows.push_conditions.Goals as goal

pub returns-in-Values : goal.returns-in-Values
returns-in-Values c =
    let ps = c.args.program.now.params.items in
    let same : conditions_have (param_values (tree_of c.args.program.now)) c.args.conditions.now ≡ constants_have 1 (map (λ (p : Parameter). p.value) c.deref.result.now) =
    ap (conditions_have (param_values (tree_of c.args.program.now))) c.in-Values.is ∙ ap (constants_have 1) (values_of_constants ps ∙ ap (λ (qs : List Parameter). map (λ (p : Parameter). p.value) qs) (sym c.deref.ensures.value)) in
    subst (λ (cs : List Constraint). HasMore cs c.args.system.now c.push_constants.new.self) (sym same) c.push_constants.ensures

use Rattle.std.proofs.Common.{◌≡◌, List, None, map, ap, sym, ◌∙◌}
use Rattle.std.specs.Option.{option_map, option_or}
use Rattle.nest_tree.specs.Tree.{Tree, param_values}
use Rattle.nest_tree.specs.declared.tree.Parameter.{Parameter}
use Rattle.nest_tree.specs.View.{tree_of}
use Rattle.nest_tree.proofs.FirstLimits.{values_of_constants}
use Rattle.owner_partition.specs.Placement.{unplaced}
use Rattle.sync_plan.specs.declared.plan.Plan.{Plan}
use Rattle.sync_plan.specs.Fit.{as_misfit, condition, misplaced_print, placed_anchors, placement, print_place, shape, unmet}
use Rattle.sync_plan.specs.Shape.{static_phases, wrong_field}
use Rattle.plan_checker.specs.Refusals.{first_refusal, refusal_of}
use Rattle.plan_checker.proofs.fit.check_shaped.Goals as goal
use Rattle.plan_checker.proofs.fit.check_shaped.Goals.{After-unmet}

-- where shape, placement and PRINTs are right, only the conditions are left
last : (tree : Tree) (plan : Plan) → None ≡ wrong_field tree plan → None ≡ unplaced tree plan.cut.marks plan.workers (placed_anchors plan) → None ≡ misplaced_print 1 plan.cut.marks (static_phases tree plan.cut.marks) plan.anchors →
    option_map refusal_of (as_misfit condition (unmet (param_values tree) plan.conditions)) ≡ first_refusal tree plan
last tree plan fields places prints =
    let behind = as_misfit condition (unmet (param_values tree) plan.conditions) in
    ap (λ o. option_map refusal_of (option_or (as_misfit print_place o) behind)) prints
    ∙ ap (λ o. option_map refusal_of (option_or (as_misfit placement o) (option_or (as_misfit print_place (misplaced_print 1 plan.cut.marks (static_phases tree plan.cut.marks) plan.anchors)) behind))) places
    ∙ ap (λ o. option_map refusal_of (option_or (as_misfit shape o) (option_or (as_misfit placement (unplaced tree plan.cut.marks plan.workers (placed_anchors plan))) (option_or (as_misfit print_place (misplaced_print 1 plan.cut.marks (static_phases tree plan.cut.marks) plan.anchors)) behind)))) fields

known : (c : After-unmet) → option_map refusal_of (as_misfit condition c.unmet.result) ≡ first_refusal (tree_of c.args.program.now) c.args.plan.now
known c =
    let tree = tree_of c.args.program.now in
    let plan = c.args.plan.now in
    let prints = c.in_default-misplaced_print.ensures ∙ ap (misplaced_print 1 plan.cut.marks (static_phases tree plan.cut.marks)) c.as_slice.ensures in
    ap (λ o. option_map refusal_of (as_misfit condition o)) (c.unmet.ensures ∙ ap (λ (ps : List Parameter). unmet (map (λ (p : Parameter). p.value) ps) plan.conditions) c.deref.ensures.value)
    ∙ ap (λ vs. option_map refusal_of (as_misfit condition (unmet vs plan.conditions))) (sym (values_of_constants c.args.program.now.params.items)) ∙ last tree plan (sym c.requires.shape) c.in_default.ensures prints

pub returns-in-Some-unmet : goal.returns-in-Some-unmet
returns-in-Some-unmet c = ap (λ o. option_map refusal_of (as_misfit condition o)) (sym c.in-Some-unmet.is) ∙ known (goal.at.returns-in-Some-unmet c).After-unmet

pub returns-in-None : goal.returns-in-None
returns-in-None c = ap (λ o. option_map refusal_of (as_misfit condition o)) (sym c.in-None.is) ∙ known (goal.at.returns-in-None c).After-unmet

use Rattle.std.proofs.Common.{◌≡◌, List, Some, IsTrue, length, ap, sym, subst, ◌∙◌, arith, rules}
use Rattle.std.specs.Option.{option_or}
use Rattle.nest_tree.specs.View.{tree_of}
use Rattle.nest_tree.specs.WellFormed.{loops_of}
use Rattle.owner_partition.specs.declared.anchor.Anchor.{Anchor}
use Rattle.owner_partition.specs.Placement.{unplaced}
use Rattle.sync_plan.specs.declared.plan.Kind.{Kind}
use Rattle.sync_plan.specs.Fit.{kind_anchors, numbered_anchors, placed_anchors}
use Rattle.plan_checker.specs.Named.{are_given_anchors, are_given_kinds}
use Rattle.plan_checker.proofs.Given.{shape_parts, unplaced-append}
use Rattle.plan_checker.proofs.places.check_places.Goals as goal

pub check_phases-requires-clause-few : goal.check_phases-requires-clause-few
check_phases-requires-clause-few c = let all = ap (λ (xs : List Anchor). length xs) c.as_slice.ensures in omega (arith, all, c.requires.anchors)

pub check_phases-requires-clause-given : goal.check_phases-requires-clause-given
check_phases-requires-clause-given c =
    let tree = tree_of c.args.program.now in
    subst (λ xs. IsTrue (are_given_anchors (loops_of tree.items) (length tree.params) xs)) (sym c.as_slice.ensures) (shape_parts tree c.args.plan.now c.args.program.now.formed c.requires.shape).given_anchors

pub check_kinds-requires-clause-few : goal.check_kinds-requires-clause-few
check_kinds-requires-clause-few c = let all = ap (λ (xs : List Kind). length xs) c.as_slice-2.ensures in omega (arith, all, c.requires.kinds)

pub check_kinds-requires-clause-given : goal.check_kinds-requires-clause-given
check_kinds-requires-clause-given c =
    let tree = tree_of c.args.program.now in
    subst (λ xs. IsTrue (are_given_kinds (loops_of tree.items) (length tree.params) xs)) (sym c.as_slice-2.ensures) (shape_parts tree c.args.plan.now c.args.program.now.formed c.requires.shape).given_kinds

pub returns-in_err-check_phases : goal.returns-in_err-check_phases
returns-in_err-check_phases c =
    let tree = tree_of c.args.program.now in
    let plan = c.args.plan.now in
    let all = unplaced tree plan.cut.marks plan.workers in
    let here = c.in_err-check_phases.ensures ∙ ap (λ xs. all (numbered_anchors 1 xs)) c.as_slice.ensures in
    let first : Some c.in_err-check_phases.field-0.0 ≡ all (placed_anchors plan) = ap (λ o. option_or o (all (kind_anchors 1 plan.kinds))) here ∙ sym (unplaced-append tree plan.cut.marks plan.workers (numbered_anchors 1 plan.anchors) (kind_anchors 1 plan.kinds)) in
    search (rules, first)

pub returns : goal.returns
returns c =
    let tree = tree_of c.args.program.now in
    let plan = c.args.plan.now in
    let all = unplaced tree plan.cut.marks plan.workers in
    let none = c.in_ok-check_phases.ensures ∙ ap (λ xs. all (numbered_anchors 1 xs)) c.as_slice.ensures in
    c.check_kinds.ensures ∙ ap (λ xs. all (kind_anchors 1 xs)) c.as_slice-2.ensures ∙ ap (λ o. option_or o (all (kind_anchors 1 plan.kinds))) none
    ∙ sym (unplaced-append tree plan.cut.marks plan.workers (numbered_anchors 1 plan.anchors) (kind_anchors 1 plan.kinds))

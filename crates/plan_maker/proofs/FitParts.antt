-- A plan without rows of conditions fits where each of its parts does.
use Rattle.std.proofs.Common.{◌≡◌, ℕ, Bool, true, false, ◌&&◌, ◌==◌, not, nat_le, length, Option, Some, None, refl, ap, ◌∙◌}
use Rattle.std.specs.Prelude.{if◌then◌else◌}
use Rattle.std.specs.Option.{option_or}
use Rattle.std.proofs.lemmas.Bool.{and_from, eq-eqb, le-leb}
use Rattle.nest_tree.specs.Tree.{Tree, param_values}
use Rattle.nest_tree.specs.WellFormed.{loops_of}
use Rattle.nest_tree.proofs.FirstLimits.{neither}
use Rattle.owner_partition.specs.Placement.{unplaced}
use Rattle.sync_plan.specs.declared.plan.Conditions.{Conditions}
use Rattle.sync_plan.specs.declared.plan.Conditions.TheVariants.{Values}
use Rattle.sync_plan.specs.declared.plan.Plan.{Plan}
use Rattle.sync_plan.specs.Fit.{IsFit, as_misfit, condition, misplaced_print, placed_anchors, placement, print_place, shape, unmet}
use Rattle.sync_plan.specs.Shape.{are_good_anchors, are_good_conditions, are_good_kinds, are_marked_well, have_good_privates, have_good_sums, is_privately_good, static_phases, wrong_field}
use Rattle.sync_plan.proofs.Fits.{FitParts, field_right, nothing_misfits}

-- no field is wrong that is right, where no later one is
right : (b : Bool) (n : ℕ) (rest : Option ℕ) → b ≡ true → rest ≡ None → (if not b then Some n else rest) ≡ None
right true n rest e h = h
right false n rest e h = absurd (let no : false ≡ true = e in cc)

-- the marks stand where they may
pub marked_well : (tree : Tree) (plan : Plan) → IsFit tree plan → are_marked_well plan.cut.marks false tree.items ≡ true
marked_well tree plan fits =
    let none = nothing_misfits shape (wrong_field tree plan) (neither (as_misfit shape (wrong_field tree plan)) _ fits).0 in
    let workers = field_right (nat_le 1 plan.workers && nat_le plan.workers 64) 1 _ none in
    let marks = field_right (length plan.cut.marks == loops_of tree.items) 2 _ workers.1 in
    (field_right (are_marked_well plan.cut.marks false tree.items) 3 _ marks.1).0

pub fits_by_parts : (tree : Tree) (plan : Plan) → FitParts tree plan → are_marked_well plan.cut.marks false tree.items ≡ true → plan.conditions ≡ Values → IsFit tree plan
fits_by_parts tree plan p marked values =
    let text = static_phases tree plan.cut.marks in
    let constants = length tree.params in
    let lists = and_from (length plan.cut.privates == loops_of tree.items) (have_good_privates plan.version plan.cut tree.items) (eq-eqb (length plan.cut.privates) (loops_of tree.items) p.privates) p.good_privates in
    let counts = and_from (length plan.anchors == length text) (length plan.kinds == length text) (eq-eqb (length plan.anchors) (length text) p.anchors) (eq-eqb (length plan.kinds) (length text) p.kinds) in
    let conditions = ap (are_good_conditions constants plan.version) values in
    let none : wrong_field tree plan ≡ None =
    right (nat_le 1 plan.workers && nat_le plan.workers 64) 1 _ (and_from (nat_le 1 plan.workers) (nat_le plan.workers 64) (le-leb 1 plan.workers p.some) (le-leb plan.workers 64 p.few))
    (right (length plan.cut.marks == loops_of tree.items) 2 _ (eq-eqb (length plan.cut.marks) (loops_of tree.items) p.marks)
    (right (are_marked_well plan.cut.marks false tree.items) 3 _ marked
    (right (length plan.anchors == length text && length plan.kinds == length text) 4 _ counts
    (right (are_good_anchors constants plan.cut.marks text plan.anchors) 5 _ p.good_anchors
    (right (are_good_kinds constants text plan.kinds) 6 _ p.good_kinds
    (right (are_good_conditions constants plan.version plan.conditions) 8 _ conditions
    (right (have_good_sums plan.version plan.cut.marks tree.items) 9 _ p.good_sums
    (right (is_privately_good plan.version plan.cut tree.items) 10 None lists refl)))))))) in
    let places = unplaced tree plan.cut.marks plan.workers (placed_anchors plan) in
    let prints = misplaced_print 1 plan.cut.marks text plan.anchors in
    let rest = λ (c : Conditions). as_misfit condition (unmet (param_values tree) c) in
    ap (λ o. option_or (as_misfit shape o) (option_or (as_misfit placement places) (option_or (as_misfit print_place prints) (rest plan.conditions)))) none
    ∙ ap (λ o. option_or (as_misfit placement o) (option_or (as_misfit print_place prints) (rest plan.conditions))) p.placed
    ∙ ap (λ o. option_or (as_misfit print_place o) (rest plan.conditions)) p.prints
    ∙ ap rest values

use Rattle.std.proofs.Common.{◌≡◌, Option, Some, None, IsTrue, ap, sym, subst, ◌∙◌}
use Rattle.nest_tree.specs.Tree.{param_values}
use Rattle.nest_tree.specs.View.{statement_of, tree_of}
use Rattle.nest_model.specs.Visits.{Visit, every}
use Rattle.nest_walk.specs.Cursors.{is_reached, visit_at}
use Rattle.nest_walk.specs.Places.{numbers_of}
use Rattle.nest_walk.specs.Texts.{StandFrom, placed_in, works}
use Rattle.owner_partition.specs.Owners.{own_instances}
use Rattle.nest_walk.specs.RoundsOf.{rounds_of}
use Rattle.owner_partition.specs.Marks.{enters_outer}
use Rattle.owner_partition.specs.OwnInstances.{names_no_inner}
use Rattle.owner_partition.specs.PhasesLeft.{IsPhaseOf}
use Rattle.owner_partition.specs.Sites.{Site}
use Rattle.owner_partition.proofs.Sites.{IsFound, found_own, found_reached, found_text, is_found, phase_stands}
use Rattle.owner_partition.proofs.own_cursor.own_iterations.Goals as goal
use Rattle.owner_partition.proofs.own_cursor.own_iterations.Goals.{In-Some}

pub returns-in_default-clause-own : goal.returns-in_default-clause-own
returns-in_default-clause-own c v is =
    let found = (phase_stands (tree_of c.args.program.now) c.args.cut.now.marks v c.args.phase.now is c.args.program.now.formed c.args.program.now.limits).site in
    let clash : ◌≡◌ {A = Option Site} None (Some (record { what = v.what; first = v.first; rounds = is.rounds })) = sym c.in_default.ensures ∙ found in
    absurd (cc)

-- what was found is the phase
found_at : (c : In-Some) (v : Visit) (is : IsPhaseOf (tree_of c.args.program.now) (enters_outer c.args.cut.now.marks) v c.args.phase.now) →
    IsFound (tree_of c.args.program.now) v is.rounds (record { item = c.in-Some.site.item; place = c.args.phase.now.place; first = c.in-Some.site.first }) (rounds_of c.site_of-site.new.path)
found_at c v is =
    is_found (tree_of c.args.program.now) v is.rounds (record { item = c.in-Some.site.item; place = c.args.phase.now.place; first = c.in-Some.site.first }) (rounds_of c.site_of-site.new.path)
    (sym c.in-Some.ensures
    ∙ (phase_stands (tree_of c.args.program.now) c.args.cut.now.marks v c.args.phase.now is c.args.program.now.formed c.args.program.now.limits).site)

pub restart_own-requires-clause-reached : goal.restart_own-requires-clause-reached
restart_own-requires-clause-reached c =
    let (v, is) = c.requires.phase in
    subst (λ t. IsTrue (is_reached t (rounds_of c.site_of-site.new.path) (record { item = c.in-Some.site.item; place = c.args.phase.now.place; first = c.in-Some.site.first }))) (sym c.none-stops.ensures.program)
    (found_reached (tree_of c.args.program.now) c.args.cut.now.marks v c.args.phase.now is _ _ c.args.program.now.formed c.args.program.now.limits (found_at (goal.at.restart_own-requires-clause-reached c).In-Some v is))

pub restart_own-requires-clause-text : goal.restart_own-requires-clause-text
restart_own-requires-clause-text c =
    let (v, is) = c.requires.phase in
    subst (λ t. StandFrom (works t) c.in-Some.site.first (placed_in every (numbers_of (rounds_of c.site_of-site.new.path)) (statement_of c.in-Some.site.item.now))) (sym c.none-stops.ensures.program)
    (found_text (tree_of c.args.program.now) c.args.cut.now.marks v c.args.phase.now is _ _ (found_at (goal.at.restart_own-requires-clause-text c).In-Some v is))

pub restart_own-requires-clause-outside : goal.restart_own-requires-clause-outside
restart_own-requires-clause-outside c =
    let (v, is) = c.requires.phase in
    let f = found_at (goal.at.restart_own-requires-clause-outside c).In-Some v is in
    subst (λ s. IsTrue (names_no_inner s c.args.anchor.now.form)) (sym f.what) (c.requires.outside v is)

pub returns-clause-own : goal.returns-clause-own
returns-clause-own c v is =
    c.restart_own.ensures.own
    ∙ ap (λ t. own_instances (param_values t) c.args.anchor.now c.args.workers c.args.p (visit_at t (rounds_of c.site_of-site.new.path) (record { item = c.in-Some.site.item; place = c.args.phase.now.place; first = c.in-Some.site.first }))) c.none-stops.ensures.program
    ∙ found_own (tree_of c.args.program.now) c.args.cut.now.marks v c.args.phase.now is _ _ c.args.anchor.now c.args.workers c.args.p (found_at (goal.at.returns-clause-own c).In-Some v is)

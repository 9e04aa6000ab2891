use Rattle.std.proofs.Common.{◌≡◌, [], Some, None, MatchOption, ap, subst, ◌∙◌, arith}
use Rattle.std.specs.Prelude.{slice_get}
use Rattle.nest_tree.specs.View.{statement_of, statements_from, tree_of}
use Rattle.nest_tree.specs.WellFormed.{are_good_statements, scope_of}
use Rattle.nest_tree.proofs.Cells.{well_formed_parts}
use Rattle.nest_model.specs.Visits.{stops_of}
use Rattle.nest_walk.specs.Texts.{placed_of}
use Rattle.nest_walk.specs.Walks.{enters_but}
use Rattle.owner_partition.specs.Marks.{enters_outer}
use Rattle.owner_partition.specs.StaticPhases.{loops_of, loops_round, numbers_round}
use Rattle.owner_partition.proofs.Places.{few_phases}
use Rattle.owner_partition.proofs.static_phase.StaticPhase.at.Goals as goal

pub phase_among-requires-clause-good : goal.phase_among-requires-clause-good
phase_among-requires-clause-good c =
    let tree = tree_of c.args.program.now in (
      scope_of tree,
      1,
      ap (λ a. are_good_statements (scope_of tree) (numbers_round a) 1 (statements_from c.deref.result.now)) c.new.ensures
          ∙ ap (λ xs. are_good_statements (scope_of tree) [] 1 (statements_from xs)) c.deref.ensures.value ∙ (well_formed_parts tree c.args.program.now.formed).statements,
    )

pub phase_among-requires-clause-stops : goal.phase_among-requires-clause-stops
phase_among-requires-clause-stops c =
    let enters = enters_but c.closed.result.now in
    omega (arith, few_phases (tree_of c.args.program.now) enters c.args.program.now.formed, ap (λ xs. stops_of enters (statements_from xs)) c.deref.ensures.value)

pub returns : goal.returns
returns c =
    let tree = tree_of c.args.program.now in
    let text = ap (λ bs. placed_of (enters_but bs) (numbers_round (loops_of c.new.result)) (statements_from c.deref.result.now)) c.closed.ensures
    ∙ ap (λ a. placed_of (enters_outer c.args.cut.now.marks) (numbers_round a) (statements_from c.deref.result.now)) c.new.ensures
    ∙ ap (λ xs. placed_of (enters_outer c.args.cut.now.marks) [] (statements_from xs)) c.deref.ensures.value in
    let same = ap (λ ps. slice_get ps c.saturating_sub-place.result) text ∙ ap (slice_get (placed_of (enters_outer c.args.cut.now.marks) [] tree.items)) c.saturating_sub-place.ensures in
    subst (λ o. MatchOption c.phase_among.result (o ≡ None) (λ s. o ≡ Some (record { what = statement_of s.item.now; around = loops_round s }))) same c.phase_among.ensures

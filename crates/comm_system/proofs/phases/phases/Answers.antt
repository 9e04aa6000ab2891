use Rattle.std.proofs.Common.{◌++◌, [], length, map, ap, sym, ◌∙◌}
use Rattle.nest_tree.specs.View.{statements_from, tree_of}
use Rattle.nest_tree.specs.WellFormed.{are_good_statements, scope_of}
use Rattle.nest_tree.proofs.Cells.{well_formed_parts}
use Rattle.nest_walk.specs.Walks.{enters_but}
use Rattle.nest_rows.specs.Views.{heads_of}
use Rattle.conflict_rules.specs.References.{phases_among}
use Rattle.comm_system.specs.PhaseViews.{phase_seen}
use Rattle.owner_partition.specs.StaticPhases.{loops_of}
use Rattle.conflict_rules.specs.SmallSteps.{have_small_steps}
use Rattle.comm_system.proofs.PhaseCounts.{few_phases}
use Rattle.comm_system.proofs.SmallLoops.{small_program}
use Rattle.comm_system.proofs.phases.phases.Goals as goal

pub push_all_phases-requires-clause-good : goal.push_all_phases-requires-clause-good
push_all_phases-requires-clause-good c =
    let tree = tree_of c.args.program.now in
    (scope_of tree, [], 1, ap length (sym c.new-outer.ensures), ap (λ xs. are_good_statements (scope_of tree) [] 1 (statements_from xs)) c.deref.ensures.value ∙ (well_formed_parts tree c.args.program.now.formed).statements)

pub push_all_phases-requires-clause-steps : goal.push_all_phases-requires-clause-steps
push_all_phases-requires-clause-steps c = ap (λ xs. have_small_steps (statements_from xs)) c.deref.ensures.value ∙ small_program (tree_of c.args.program.now) c.args.program.now.formed

pub returns-clause-few : goal.returns-clause-few
returns-clause-few c =
    let body = statements_from c.deref.result.now in
    let enters = enters_but c.closed.result.now in
    few_phases (tree_of c.args.program.now) c.args.cut.now.marks c.push_all_phases.new.found.items c.args.program.now.formed
    (c.in_ok-push_all_phases.ensures
    ∙ ap (λ xs. map phase_seen xs ++ phases_among enters (heads_of (loops_of c.new-outer.result)) body) c.new-found.ensures.items
    ∙ ap (λ xs. phases_among enters (heads_of xs) body) c.new-outer.ensures
    ∙ ap (λ xs. phases_among enters [] (statements_from xs)) c.deref.ensures.value
    ∙ ap (λ cs. phases_among (enters_but cs) [] (statements_from c.args.program.now.items.items)) c.closed.ensures)

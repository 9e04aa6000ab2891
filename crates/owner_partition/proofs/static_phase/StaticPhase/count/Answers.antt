use Rattle.std.proofs.Common.{[], ap, sym, ◌∙◌, arith}
use Rattle.nest_tree.specs.View.{statements_from, tree_of}
use Rattle.nest_model.specs.Visits.{stops_of}
use Rattle.nest_walk.specs.Walks.{enters_but}
use Rattle.owner_partition.specs.Marks.{enters_outer}
use Rattle.owner_partition.proofs.Places.{few_phases}
use Rattle.owner_partition.proofs.Sites.{placed_counts}
use Rattle.owner_partition.proofs.static_phase.StaticPhase.count.Goals as goal

pub phase_count-requires : goal.phase_count-requires
phase_count-requires c =
    let enters = enters_but c.closed.result.now in
    omega (arith, few_phases (tree_of c.args.program.now) enters c.args.program.now.formed, ap (λ xs. stops_of enters (statements_from xs)) c.deref.ensures.value)

pub returns : goal.returns
returns c =
    let tree = tree_of c.args.program.now in
    c.phase_count.ensures ∙ ap (λ xs. stops_of (enters_but c.closed.result.now) (statements_from xs)) c.deref.ensures.value ∙ ap (λ bs. stops_of (enters_but bs) tree.items) c.closed.ensures
    ∙ sym (placed_counts (enters_outer c.args.cut.now.marks) [] tree.items)

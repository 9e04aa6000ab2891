use Rattle.std.proofs.Common.{[], ap, ◌∙◌}
use Rattle.nest_tree.specs.View.{statements_from, tree_of}
use Rattle.nest_tree.specs.WellFormed.{are_good_statements, scope_of}
use Rattle.nest_tree.proofs.Cells.{well_formed_parts}
use Rattle.nest_walk.specs.Places.{numbers_of}
use Rattle.nest_walk.proofs.table.CellTable.new.Goals as goal

pub push_works-requires : goal.push_works-requires
push_works-requires c =
    let scope = scope_of (tree_of c.args.program.now) in
    record { good = (1, ap (λ rounds. are_good_statements scope (numbers_of rounds) 1 (statements_from c.deref.result.now)) c.new.ensures ∙ ap (λ xs. are_good_statements scope [] 1 (statements_from xs)) c.deref.ensures.value ∙ (well_formed_parts (tree_of c.args.program.now) c.args.program.now.formed).statements) }

use Rattle.std.proofs.Common.{◌≡◌, [], length, ap, sym, ◌+◌, ◌∙◌, arith}
use Rattle.std.specs.Io.Iter.{u64_saturate}
use Rattle.nest_tree.specs.View.{statements_from, tree_of}
use Rattle.nest_tree.specs.WellFormed.{are_good_statements, scope_of, statement_count}
use Rattle.nest_tree.proofs.Cells.{well_formed_parts}
use Rattle.nest_rows.specs.Views.{heads_of}
use Rattle.nest_walk.specs.Walks.{enters_but}
use Rattle.owner_partition.specs.Marks.{enters_outer}
use Rattle.comm_system.specs.References.{phases_among}
use Rattle.obligation_numbers.specs.Sums.{sum_from}
use Rattle.obligation_numbers.proofs.phases.phases_weight.Goals as goal

pub add_all-requires-clause-good : goal.add_all-requires-clause-good
add_all-requires-clause-good g c =
    let tree = tree_of c.args.program.now in
    (scope_of tree, [], 1, ap length (sym c.new.ensures), ap (λ xs. are_good_statements (scope_of tree) [] 1 (statements_from xs)) c.deref.ensures.value ∙ (well_formed_parts tree c.args.program.now.formed).statements)

pub add_all-requires-clause-few : goal.add_all-requires-clause-few
add_all-requires-clause-few g c = omega (arith, (well_formed_parts (tree_of c.args.program.now) c.args.program.now.formed).few, ap (λ xs. statement_count (statements_from xs)) c.deref.ensures.value)

pub returns : goal.returns
returns g c =
    let f = g.W.PhaseWeight.weight c.args.weight.now in
    c.add_all.ensures.total
    ∙ ap (λ xs. u64_saturate (0 + sum_from f 1 (phases_among (enters_but c.closed.result.now) (heads_of xs) (statements_from c.deref.result.now)))) c.new.ensures
    ∙ (let same : u64_saturate (0 + sum_from f 1 (phases_among (enters_but c.closed.result.now) [] (statements_from c.deref.result.now))) ≡ u64_saturate (sum_from f 1 (phases_among (enters_but c.closed.result.now) [] (statements_from c.deref.result.now))) = omega arith in same)
    ∙ ap (λ cs. u64_saturate (sum_from f 1 (phases_among (enters_but cs) [] (statements_from c.deref.result.now)))) c.closed.ensures
    ∙ ap (λ xs. u64_saturate (sum_from f 1 (phases_among (enters_outer c.args.cut.now.marks) [] (statements_from xs)))) c.deref.ensures.value

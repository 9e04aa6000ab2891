use Rattle.std.proofs.Common.{◌≡◌, ◌+◌, ℕ, List, map, true, false, ap, sym, ◌∙◌, arith}
use Rattle.std.specs.Prelude.{sum_by}
use Rattle.std.specs.Io.Iter.{u64_saturate}
use Rattle.std.specs.List.{flat_map}
use Rattle.std.proofs.lemmas.List.{at_drop_all}
use Rattle.nest_tree.specs.declared.tree.Access.{Access}
use Rattle.nest_tree.specs.declared.tree.PrintItem.{PrintItem}
use Rattle.nest_tree.specs.Loads.{loads_in}
use Rattle.nest_tree.specs.View.{expression_of, printed_of, statement_of, statements_from}
use Rattle.nest_walk.specs.Tables.{Loaded, loaded_in_item}
use Rattle.comm_system.specs.References.{variable_of}
use Rattle.nest_tree.proofs.Rows.{statement_of-Loop, statements_more}
use Rattle.obligation_numbers.specs.Sums.{access_sum, access_sums}
use Rattle.obligation_numbers.proofs.Walked.{assigned, printed}
use Rattle.obligation_numbers.proofs.accesses.+works.Goals as goal

pub statement_weight-returns-in-Loop : goal.statement_weight-returns-in-Loop
statement_weight-returns-in-Loop g t c =
    let f = g.W.AccessWeight.weight c.args.weight.now in
    c.statements_weight.ensures ∙ ap (λ xs. u64_saturate (access_sums f (statements_from xs))) c.deref.ensures.value
    ∙ sym (ap (λ i. u64_saturate (access_sum f (statement_of i))) c.in-Loop.is ∙ ap (λ s. u64_saturate (access_sum f s)) (statement_of-Loop c.in-Loop.nest))

pub statement_weight-returns-in-Assign : goal.statement_weight-returns-in-Assign
statement_weight-returns-in-Assign g t c =
    let f = g.W.AccessWeight.weight c.args.weight.now in
    let whole : access_sum f (statement_of c.args.item.now) ≡ sum_by (λ (a : Access). f a.variable false) (loads_in (expression_of c.in-Assign.value)) + f c.in-Assign.target.variable true = ap (λ i. access_sum f (statement_of i)) c.in-Assign.is ∙ assigned f (loads_in (expression_of c.in-Assign.value)) c.in-Assign.target in
    omega (arith, whole, c.expression_weight-loads.ensures, c.weigh.ensures, c.saturating_add.ensures)

pub statement_weight-returns-in-Print : goal.statement_weight-returns-in-Print
statement_weight-returns-in-Print g t c =
    let f = g.W.AccessWeight.weight c.args.weight.now in
    let sum : List PrintItem → ℕ = λ items. sum_by (λ (l : Loaded). f (variable_of l) false) (flat_map loaded_in_item (map printed_of items)) in
    let whole : access_sum f (statement_of c.args.item.now) ≡ sum c.in-Print.items.items = ap (λ i. access_sum f (statement_of i)) c.in-Print.is ∙ printed f (flat_map loaded_in_item (map printed_of c.in-Print.items.items)) in
    omega (arith, whole, ap sum c.deref-in-Print.ensures.value, c.printed_weight.ensures)

pub statements_weight-loop-item-preserved : goal.statements_weight-loop-item-preserved
statements_weight-loop-item-preserved g t c =
    let f = g.W.AccessWeight.weight c.args.weight.now in
    let more = ap (access_sums f) (statements_more c.args.items.now c.loop-item.item-index c.item-item.result c.loop-item-test.true c.item-item.is) in
    (omega (arith, c.saturating_add-total.ensures), omega (arith, more, c.loop-item.invariant.1, c.statement_weight.ensures, c.saturating_add-total.ensures))

pub statements_weight-returns : goal.statements_weight-returns
statements_weight-returns g t c =
    let f = g.W.AccessWeight.weight c.args.weight.now in
    let none = at_drop_all (λ xs. access_sums f (statements_from xs)) c.args.items.now c.loop-item.item-index c.loop-item-test.false in
    omega (arith, none, c.loop-item.invariant.0, c.loop-item.invariant.1)

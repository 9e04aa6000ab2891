use Rattle.std.proofs.Common.{◌≡◌, ◌+◌, ◌-◌, ◌<◌, not, true, [], drop, ap, sym, subst, ◌∙◌, arith}
use Rattle.std.proofs.lemmas.List.{drop_all}
use Rattle.std.specs.Borrow.{Bor}
use Rattle.std.specs.Prelude.{slice_index_or, false}
use Rattle.nest_tree.specs.declared.tree.Nest.{Nest}
use Rattle.nest_tree.specs.View.{head_of, statement_of, statements_from}
use Rattle.nest_model.specs.Visits.{stops_in, stops_of}
use Rattle.owner_partition.specs.Marks.{enters_outer}
use Rattle.thread_code.specs.Code.{codes_in, each}
use Rattle.thread_code.specs.Tables.{table_of}
use Rattle.thread_code.specs.View.{codes_view}
use Rattle.thread_code.proofs.Codes.{IsMade, code_view-Each, joined, joined-end, loop_code, loop_stops, one_made, stops-more}
use Rattle.thread_code.proofs.making.Maker.+codes.Goals as goal

pub code-returns-in_ok-inside-in-Loop-clause-code : goal.code-returns-in_ok-inside-in-Loop-clause-code
code-returns-in_ok-inside-in-Loop-clause-code t c = λ room.
    let table = table_of c.args.self.now.turnings.now in
    let plan = c.args.self.now.plan.now in
    let nest = c.in-Loop.nest in
    let it : Bor Nest = record { ref_ptr = c.args.item.ref_ptr; now = nest } in
    let entered : enters_outer plan.cut.marks nest.number ≡ true = ap (λ xs. not (slice_index_or xs (nest.number - 1) false)) (sym c.closed.ensures) ∙ ap not (sym c.is_closed_at.ensures ∙ c.if-is_closed_at.false) in
    let stops = loop_stops table plan c.args.item.now nest c.in-Loop.is entered in
    let inner = ap (λ xs. stops_of (enters_outer plan.cut.marks) (statements_from xs)) c.deref.ensures.value in
    code_view-Each it c.in_ok-inside-in-Loop.inside
    ∙ ap (each (head_of nest)) (c.in_ok-inside-in-Loop.ensures.codes (omega (arith, room, stops, inner)) ∙ ap (λ xs. codes_in table plan (statements_from xs) c.args.place) c.deref.ensures.value)
    ∙ sym (loop_code table plan c.args.item.now nest c.args.place c.in-Loop.is entered)

pub code-returns-in_ok-inside-in-Loop-clause-behind : goal.code-returns-in_ok-inside-in-Loop-clause-behind
code-returns-in_ok-inside-in-Loop-clause-behind t c = λ room.
    let table = table_of c.args.self.now.turnings.now in
    let plan = c.args.self.now.plan.now in
    let nest = c.in-Loop.nest in
    let entered : enters_outer plan.cut.marks nest.number ≡ true = ap (λ xs. not (slice_index_or xs (nest.number - 1) false)) (sym c.closed.ensures) ∙ ap not (sym c.is_closed_at.ensures ∙ c.if-is_closed_at.false) in
    let stops = loop_stops table plan c.args.item.now nest c.in-Loop.is entered in
    let inner = ap (λ xs. stops_of (enters_outer plan.cut.marks) (statements_from xs)) c.deref.ensures.value in
    let behind = c.in_ok-inside-in-Loop.ensures.behind (omega (arith, room, stops, inner)) in
    omega (arith, behind, stops, inner)

pub codes-loop-item-preserved : goal.codes-loop-item-preserved
codes-loop-item-preserved t c = λ room.
    let table = table_of c.args.self.now.turnings.now in
    let plan = c.args.self.now.plan.now in
    let items = c.args.items.now in
    let so_far = c.loop-item.invariant room in
    let i = c.loop-item.item-index in
    let more = stops-more table plan items i c.item-item.result c.loop-item-test.true c.item-item.is in
    let places = so_far.places in
    let here : c.loop-item.place + stops_in (enters_outer plan.cut.marks) (statement_of c.item-item.result) < 4294967296 = omega (arith, room, places, more) in
    subst (λ made. IsMade table plan items c.args.first made (i + 1) c.in_ok-code.behind) (sym c.in_ok-push.ensures.items)
    (one_made table plan items c.args.first c.loop-item.codes.items i c.loop-item.place c.in_ok-code.behind c.item-item.result c.in_ok-code.code c.loop-item-test.true c.item-item.is (c.in_ok-code.ensures.code here) (c.in_ok-code.ensures.behind here) so_far)

pub codes-returns-clause-codes : goal.codes-returns-clause-codes
codes-returns-clause-codes t c = λ room.
    let table = table_of c.args.self.now.turnings.now in
    let plan = c.args.self.now.plan.now in
    let items = c.args.items.now in
    let so_far = c.loop-item.invariant room in
    let over : drop c.loop-item.item-index items ≡ [] = drop_all c.loop-item.item-index items (omega (arith, c.loop-item-test.false)) in
    sym (joined-end (codes_view c.loop-item.codes.items)) ∙ sym (ap (λ xs. joined (codes_view c.loop-item.codes.items) (codes_in table plan (statements_from xs) c.loop-item.place)) over) ∙ so_far.codes

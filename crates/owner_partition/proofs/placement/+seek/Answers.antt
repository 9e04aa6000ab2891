use Rattle.std.proofs.Common.{◌<◌, ◌^◌, length, map, ap, sym, ◌∙◌, arith, rules}
use Rattle.std.proofs.lemmas.List.{at_drop_all}
use Rattle.nest_tree.specs.declared.tree.Item.{the_lemmas}
use Rattle.nest_tree.specs.declared.tree.Parameter.{Parameter}
use Rattle.nest_tree.specs.Given.{is_all_given}
use Rattle.nest_tree.specs.Limits.{wide_in}
use Rattle.nest_tree.specs.View.{loop_of, statement_of, statements_from}
use Rattle.nest_tree.proofs.Rows.{statement_of-Loop}
use Rattle.nest_model.specs.Visits.{stops_in}
use Rattle.nest_walk.specs.Walks.{enters_but}
use Rattle.owner_partition.specs.Placement.{ends_among, ends_in}
use Rattle.owner_partition.proofs.Places.{found_here}
use Rattle.owner_partition.proofs.placement.+seek.Goals as goal

pub seek-returns-then-left-phases-clause-ends : goal.seek-returns-then-left-phases-clause-ends
seek-returns-then-left-phases-clause-ends t c =
    let values = map (λ (p : Parameter). p.value) c.args.constants.now in
    let here = found_here values (enters_but c.args.closed.now) c.loop-item.ends c.args.items.now c.loop-item.item-index c.item-item.result c.loop-item.left c.loop-item-test.true c.item-item.is (omega (arith, c.phases_in-phases.ensures, c.if-left-phases.true)) in
    sym c.loop-item.invariant.ends ∙ here ∙ c.seek_in.ensures.ends

pub seek-returns-clause-ends : goal.seek-returns-clause-ends
seek-returns-clause-ends t c =
    let values = map (λ (p : Parameter). p.value) c.args.constants.now in
    sym c.loop-item.invariant.ends
    ∙ at_drop_all (λ xs. ends_among values (enters_but c.args.closed.now) c.loop-item.ends (statements_from xs) c.loop-item.left) c.args.items.now c.loop-item.item-index c.loop-item-test.false

pub seek_in-seek_inside-requires : goal.seek_in-seek_inside-requires
seek_in-seek_inside-requires t c =
    let values = map (λ (p : Parameter). p.value) c.args.constants.now in
    let e = ap statement_of c.in-Loop.is ∙ statement_of-Loop c.in-Loop.nest in
    let given = sym (ap (is_all_given (length c.args.ends.now) (length c.args.constants.now)) e) ∙ c.requires.given in
    let narrow = sym (ap (wide_in values c.args.ends.now) e) ∙ c.requires.narrow in
    let counted : stops_in (enters_but c.args.closed.now) (loop_of c.in-Loop.nest) < 2 ^ 32 = omega (arith, ap (stops_in (enters_but c.args.closed.now)) e, c.requires.counted) in
    (search (rules, the_lemmas), (given, (narrow, counted)))

pub seek_in-returns-in-Loop-clause-ends : goal.seek_in-returns-in-Loop-clause-ends
seek_in-returns-in-Loop-clause-ends t c =
    let values = map (λ (p : Parameter). p.value) c.args.constants.now in
    let e = ap statement_of c.in-Loop.is ∙ statement_of-Loop c.in-Loop.nest in
    ap (λ s. ends_in values (enters_but c.args.closed.now) c.args.ends.now s c.args.place) e ∙ c.seek_inside.ensures.ends

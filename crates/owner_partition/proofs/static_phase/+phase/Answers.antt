use Rattle.std.proofs.Common.{◌≡◌, ◌+◌, ◌-◌, ◌∷◌, Some, None, MatchOption, drop, not, rules, ap, sym, subst, ◌∙◌, arith}
use Rattle.std.specs.Prelude.{slice_get}
use Rattle.std.proofs.lemmas.Bool.{and_parts}
use Rattle.nest_tree.specs.declared.tree.Item.{the_lemmas}
use Rattle.nest_tree.specs.View.{head_of, statement_of, statements_from}
use Rattle.nest_tree.specs.WellFormed.{are_good_statements, is_good_statement, loops_in}
use Rattle.nest_tree.proofs.Good.{good_loop}
use Rattle.nest_tree.proofs.Rows.{statement_of-Loop, statements_more}
use Rattle.nest_model.specs.Visits.{stops_in, stops_of}
use Rattle.nest_walk.specs.Texts.{placed_of}
use Rattle.nest_walk.specs.Walks.{enters_but}
use Rattle.nest_walk.proofs.Trees.{stops-entered}
use Rattle.owner_partition.specs.StaticPhases.{loops_of, loops_round, numbers_round}
use Rattle.owner_partition.proofs.StaticPhases.{numbers_more, place_here, place_later, placed_inside}
use Rattle.owner_partition.proofs.static_phase.+phase.Goals as goal

pub phase_among-loop-item-preserved : goal.phase_among-loop-item-preserved
phase_among-loop-item-preserved t c =
    let item = c.item-item.result in
    let enters = enters_but c.args.closed.now in
    let around = numbers_round (loops_of c.args.outer) in
    let more = statements_more c.args.items.now c.loop-item.item-index item c.loop-item-test.true c.item-item.is in
    let (scope, number, good) = c.loop-item.invariant.good in
    let later = place_later enters around c.args.items.now c.loop-item.item-index item c.loop-item-test.true c.item-item.is c.loop-item.left (omega (arith, c.phases_in-phases.ensures, c.if-left-phases.false)) in record {
      good = (scope, number + loops_in (statement_of item), (and_parts (is_good_statement scope around number (statement_of item)) _ (sym (ap (are_good_statements scope around number) more) ∙ good)).1);
      stops = omega (arith, ap (stops_of enters) more, c.loop-item.invariant.stops);
      same = ap (λ n. slice_get (placed_of enters around (statements_from (drop (c.loop-item.item-index + 1) c.args.items.now))) (c.loop-item.left - n)) c.phases_in-phases.ensures ∙ later ∙ c.loop-item.invariant.same;
    }

pub phase_among-returns-then-left-phases : goal.phase_among-returns-then-left-phases
phase_among-returns-then-left-phases t c =
    let enters = enters_but c.args.closed.now in
    let around = numbers_round (loops_of c.args.outer) in
    let here = place_here enters around c.args.items.now c.loop-item.item-index c.item-item.result c.loop-item-test.true c.item-item.is c.loop-item.left (omega (arith, c.phases_in-phases.ensures, c.if-left-phases.true)) in
    subst (λ o. MatchOption c.phase_in.result (o ≡ None) (λ s. o ≡ Some (record { what = statement_of s.item.now; around = loops_round s }))) (here ∙ c.loop-item.invariant.same) c.phase_in.ensures

pub phase_in-phase_among-requires : goal.phase_in-phase_among-requires
phase_in-phase_among-requires t c =
    let enters = enters_but c.args.closed.now in
    let nest = c.in-Loop.nest in
    let body = statements_from nest.items.items in
    let around = numbers_round (loops_of c.args.outer) in
    let unmarked = sym c.is_closed_at.ensures ∙ c.if-is_closed_at.false in
    let is = ap statement_of c.in-Loop.is ∙ statement_of-Loop nest in
    let stops = ap (λ i. stops_in enters (statement_of i)) c.in-Loop.is ∙ stops-entered c.args.closed.now nest unmarked in
    let (scope, number, good) = c.requires.good in
    let inside = (good_loop scope around number (head_of nest) body (sym (ap (is_good_statement scope around number) is) ∙ good)).inside in
    let deeper : numbers_round (loops_of c.with_inner.result) ≡ nest.number ∷ around = ap numbers_round c.with_inner.ensures ∙ numbers_more (loops_of c.args.outer) _ in (
      search (rules, the_lemmas),
      (
        (scope, number + 1, ap (λ a. are_good_statements scope a (number + 1) (statements_from c.deref.result.now)) deeper ∙ ap (λ xs. are_good_statements scope (nest.number ∷ around) (number + 1) (statements_from xs)) c.deref.ensures.value ∙ inside),
        rw c.deref.ensures.value (omega (arith, stops, c.requires.stops)),
      ),
    )

pub phase_in-returns-else-is_closed_at : goal.phase_in-returns-else-is_closed_at
phase_in-returns-else-is_closed_at t c =
    let enters = enters_but c.args.closed.now in
    let nest = c.in-Loop.nest in
    let around = numbers_round (loops_of c.args.outer) in
    let unmarked = ap not (sym c.is_closed_at.ensures ∙ c.if-is_closed_at.false) in
    let deeper : numbers_round (loops_of c.with_inner.result) ≡ nest.number ∷ around = ap numbers_round c.with_inner.ensures ∙ numbers_more (loops_of c.args.outer) _ in
    let text = placed_inside enters around (numbers_round (loops_of c.with_inner.result)) c.args.item.now nest c.deref.result.now c.in-Loop.is c.deref.ensures.value unmarked deeper in
    subst (λ ps. MatchOption c.phase_among.result (slice_get ps c.args.place ≡ None) (λ s. slice_get ps c.args.place ≡ Some (record { what = statement_of s.item.now; around = loops_round s }))) text c.phase_among.ensures

use Rattle.std.proofs.Common.{◌≡◌, ◌+◌, ◌-◌, ◌<◌, ◌^◌, ◌∷◌, Some, None, MatchOption, drop, not, pos, slice_index_or, FitsSigned, rules, ap, sym, subst, ◌∙◌, arith}
use Rattle.std.specs.Int.{w64}
use Rattle.std.proofs.lemmas.Bool.{and_parts}
use Rattle.std.proofs.lemmas.Int.{to_z-of_z}
use Rattle.nest_tree.specs.declared.tree.Item.{the_lemmas}
use Rattle.nest_tree.specs.View.{head_of, statement_of, statements_from}
use Rattle.nest_tree.specs.WellFormed.{are_good_statements, is_good_statement, loops_in}
use Rattle.nest_tree.proofs.Good.{good_loop}
use Rattle.nest_tree.proofs.Rows.{statement_of-Loop, statements_more}
use Rattle.nest_model.specs.Instances.{works_in, works_of}
use Rattle.nest_model.specs.Visits.{stops_in, stops_of}
use Rattle.nest_walk.specs.Places.{numbers_of}
use Rattle.nest_walk.specs.RoundsOf.{rounds_of}
use Rattle.nest_walk.specs.Walks.{enters_but}
use Rattle.nest_walk.proofs.TextMoves.{works-all}
use Rattle.nest_walk.proofs.Trees.{stops-entered}
use Rattle.owner_partition.specs.Sites.{entered, site_among}
use Rattle.owner_partition.proofs.Sites.{site_entered, site_later}
use Rattle.owner_partition.proofs.site.+site.Goals as goal

pub site_among-phases_in-number-requires : goal.site_among-phases_in-number-requires
site_among-phases_in-number-requires t c =
    let item = c.item-item.result in
    let more = ap works_of (statements_more c.args.items.now c.loop-item.item-index item c.loop-item-test.true c.item-item.is) in
    omega (arith, works-all (statement_of item), more, c.loop-item.invariant.works)

pub site_among-overflow_add-number : goal.site_among-overflow_add-number
site_among-overflow_add-number t c =
    let item = c.item-item.result in
    let more = ap works_of (statements_more c.args.items.now c.loop-item.item-index item c.loop-item-test.true c.item-item.is) in
    let few : c.loop-item.number + c.phases_in-number.result < 2 ^ 32 = omega (arith, works-all (statement_of item), more, c.loop-item.invariant.works, c.phases_in-number.ensures) in
    search (rules, few)

pub site_among-loop-item-preserved : goal.site_among-loop-item-preserved
site_among-loop-item-preserved t c =
    let item = c.item-item.result in
    let enters = enters_but c.args.closed.now in
    let more = statements_more c.args.items.now c.loop-item.item-index item c.loop-item-test.true c.item-item.is in
    let works = ap works_of more in
    let stops = ap (stops_of enters) more in
    let counted = works-all (statement_of item) in
    let (scope, number, good) = c.loop-item.invariant.good in
    let around = numbers_of (rounds_of c.loop-item.path) in
    let later = site_later enters c.args.outer.now (rounds_of c.loop-item.path) c.args.items.now c.loop-item.item-index item c.loop-item.left c.loop-item.number c.loop-item-test.true c.item-item.is (omega (arith, c.phases_in-phases.ensures, c.if-left-phases.false)) in
    record {
      good = (scope, number + loops_in (statement_of item), (and_parts (is_good_statement scope around number (statement_of item)) _ (sym (ap (are_good_statements scope around number) more) ∙ good)).1);
      stops = omega (arith, stops, c.loop-item.invariant.stops);
      works = omega (arith, works, counted, c.phases_in-number.ensures, c.loop-item.invariant.works);
      same = ap (λ n. site_among enters c.args.outer.now (rounds_of c.loop-item.path) (statements_from (drop (c.loop-item.item-index + 1) c.args.items.now)) (c.loop-item.left - n) (c.loop-item.number + c.phases_in-number.result)) c.phases_in-phases.ensures
          ∙ ap (λ n. site_among enters c.args.outer.now (rounds_of c.loop-item.path) (statements_from (drop (c.loop-item.item-index + 1) c.args.items.now)) (c.loop-item.left - stops_in enters (statement_of item)) (c.loop-item.number + n)) (c.phases_in-number.ensures ∙ counted)
          ∙ sym later ∙ c.loop-item.invariant.same;
    }

pub site_in-site_among-requires : goal.site_in-site_among-requires
site_in-site_among-requires t c =
    let enters = enters_but c.args.closed.now in
    let nest = c.in-Loop.nest in
    let body = statements_from nest.items.items in
    let around = numbers_of (rounds_of c.args.path.now) in
    let unmarked = sym c.is_closed_at.ensures ∙ c.if-is_closed_at.false in
    let is = ap statement_of c.in-Loop.is ∙ statement_of-Loop nest in
    let stops = ap (λ i. stops_in enters (statement_of i)) c.in-Loop.is ∙ stops-entered c.args.closed.now nest unmarked in
    let works : works_in (statement_of c.args.item.now) ≡ works_of body = ap works_in is in
    let (scope, number, good) = c.requires.good in
    let inside = (good_loop scope around number (head_of nest) body (sym (ap (is_good_statement scope around number) is) ∙ good)).inside in
    let deeper : numbers_of (rounds_of c.push.new.self) ≡ nest.number ∷ around = ap numbers_of c.push.ensures in (
      search (rules, the_lemmas),
      (
        (scope, number + 1, ap (λ a. are_good_statements scope a (number + 1) (statements_from c.deref.result.now)) deeper ∙ ap (λ xs. are_good_statements scope (nest.number ∷ around) (number + 1) (statements_from xs)) c.deref.ensures.value ∙ inside),
        (rw c.deref.ensures.value (omega (arith, stops, c.requires.stops)), rw c.deref.ensures.value (omega (arith, works, c.requires.works))),
      ),
    )

pub site_in-returns-else-is_closed_at : goal.site_in-returns-else-is_closed_at
site_in-returns-else-is_closed_at t c =
    let enters = enters_but c.args.closed.now in
    let unmarked = ap not (sym c.is_closed_at.ensures ∙ c.if-is_closed_at.false) in
    let rounds = rounds_of c.args.path.now in
    let outer = c.args.outer.now in
    let f : FitsSigned w64 c.value_at-value.result = search rules in
    let entered_is : rounds_of c.push.new.self ≡ entered outer rounds c.in-Loop.nest.number = c.push.ensures
    ∙ ap (λ v. record { number = c.in-Loop.nest.number; value = v } ∷ rounds) (to_z-of_z w64 c.value_at-value.result f ∙ c.value_at-value.ensures)
    ∙ ap (λ k. record { number = c.in-Loop.nest.number; value = slice_index_or outer k (pos 0) } ∷ rounds) c.depth.ensures.count in
    let same = site_entered enters outer rounds (rounds_of c.push.new.self) c.args.item.now c.in-Loop.nest c.deref.result.now c.args.place c.args.first c.in-Loop.is c.deref.ensures.value unmarked entered_is in
    subst (λ o. MatchOption c.site_among.result (o ≡ None) (λ s. o ≡ Some (record { what = statement_of s.item.now; first = s.first; rounds = rounds_of c.site_among.new.path }))) (sym same) c.site_among.ensures

use Rattle.std.proofs.Common.{◌≡◌, ℕ, ◌+◌, ◌*◌, ◌<◌, List, [], ◌∷◌, ◌++◌, drop, not, length, if◌then◌else◌, length-append, rules, ap, sym, ◌∙◌, arith}
use Rattle.std.specs.Io.Iter.{u64_saturate}
use Rattle.std.proofs.lemmas.Bool.{and_parts}
use Rattle.std.proofs.lemmas.List.{at_drop_all, map-append}
use denote.Param.Weighed.{most}
use Rattle.nest_tree.proofs.tree.Item.TheLaws.{the_size}
use Rattle.nest_tree.specs.declared.tree.Item.{Item, Loop, the_lemmas}
use Rattle.nest_tree.specs.declared.tree.Nest.{Nest}
use Rattle.nest_tree.specs.Tree.{Head, do_loop}
use Rattle.nest_tree.specs.View.{head_of, statement_of, statements_from}
use Rattle.nest_tree.specs.WellFormed.{are_good_statements, is_good_statement, loops_in, statement_count, statements_in}
use Rattle.nest_tree.proofs.Good.{good_loop}
use Rattle.nest_tree.proofs.Rows.{statement_of-Loop, statements_more}
use Rattle.nest_model.specs.Visits.{stops_in, stops_of}
use Rattle.nest_rows.specs.Views.{heads_of}
use Rattle.nest_rows.specs.declared.terms.Around.{Around}
use Rattle.nest_walk.specs.Walks.{enters_but}
use Rattle.nest_walk.proofs.Trees.{stops-entered}
use Rattle.comm_system.specs.References.{StaticPhase, phases_among, phases_in}
use Rattle.owner_partition.specs.StaticPhases.{loops_of}
use Rattle.obligation_numbers.specs.Sums.{sum_from}
use Rattle.obligation_numbers.proofs.Walked.{sum_next}
use Rattle.obligation_numbers.proofs.phases.+phases.Goals as goal

pub add_all-loop-item-preserved : goal.add_all-loop-item-preserved
add_all-loop-item-preserved g t c =
    let enters = enters_but c.args.closed.now in
    let f = g.W.PhaseWeight.weight c.args.weight.now in
    let heads = heads_of (loops_of c.args.outer) in
    let item = c.item-item.result in
    let old = c.loop-item.sum in
    let rest = statements_from (drop (c.loop-item.item-index + 1) c.args.items.now) in
    let more = statements_more c.args.items.now c.loop-item.item-index item c.loop-item-test.true c.item-item.is in
    let (scope, around, number, long, good) = c.loop-item.invariant.good in
    let parts = and_parts (is_good_statement scope around number (statement_of item)) _ (sym (ap (are_good_statements scope around number) more) ∙ good) in
    let both = ap (λ ss. sum_from f old.next (phases_among enters heads ss)) more ∙ sum_next f enters heads old.next (statement_of item) rest in
    let later = ap (λ n. sum_from f n (phases_among enters heads rest)) c.add_in.ensures.next in
    record {
      good = (scope, around, number + loops_in (statement_of item), long, parts.1);
      next = omega (arith, ap (stops_of enters) more, c.loop-item.invariant.next, c.add_in.ensures.next);
      few = omega (arith, ap statement_count more, c.loop-item.invariant.few, c.add_in.ensures.few);
      fits = omega (arith, c.add_in.ensures.total);
      total = omega (arith, both, later, c.add_in.ensures.total, c.loop-item.invariant.total);
    }

pub add_all-returns-clause-total : goal.add_all-returns-clause-total
add_all-returns-clause-total g t c =
    let enters = enters_but c.args.closed.now in
    let f = g.W.PhaseWeight.weight c.args.weight.now in
    let none = at_drop_all (λ xs. sum_from f c.loop-item.sum.next (phases_among enters (heads_of (loops_of c.args.outer)) (statements_from xs))) c.args.items.now c.loop-item.item-index c.loop-item-test.false in
    omega (arith, none, c.loop-item.invariant.fits, c.loop-item.invariant.total)

-- a loop's statements are smaller than the loop
smaller : (item : Item) (nest : Nest) (items : List Item) (t : ℕ) → t ≡ 2 * the_size item + 0 → item ≡ Loop nest → items ≡ nest.items.items → 2 * most the_size items + 1 < t
smaller item nest items t whole is same = search (rules, the_lemmas)

pub add_in-add_all-requires : goal.add_in-add_all-requires
add_in-add_all-requires g t c κs within = (
  smaller c.args.item.now c.in-Loop.nest c.deref.result.now t (omega (arith, c.decreases)) c.in-Loop.is c.deref.ensures.value,
  (
    within,
    let nest = c.in-Loop.nest in
        let is = ap statement_of c.in-Loop.is ∙ statement_of-Loop nest in
        let (scope, around, number, long, good) = c.requires.good in
        let inside = (good_loop scope around number (head_of nest) (statements_from nest.items.items) (sym (ap (is_good_statement scope around number) is) ∙ good)).inside in
        let longer = ap length c.with_inner.ensures ∙ length-append (loops_of c.args.outer) _ in (
          (scope, nest.number ∷ around, number + 1, omega (arith, long, longer), ap (λ xs. are_good_statements scope (nest.number ∷ around) (number + 1) (statements_from xs)) c.deref.ensures.value ∙ inside),
          (omega (arith, ap statements_in is, ap (λ xs. statement_count (statements_from xs)) c.deref.ensures.value, c.requires.few), c.requires.fits),
        ),
  ),
)

pub add_in-returns-else-is_closed_at : goal.add_in-returns-else-is_closed_at
add_in-returns-else-is_closed_at g t c =
    let enters = enters_but c.args.closed.now in
    let f = g.W.PhaseWeight.weight c.args.weight.now in
    let nest = c.in-Loop.nest in
    let body = statements_from nest.items.items in
    let heads = heads_of (loops_of c.args.outer) in
    let unmarked = sym c.is_closed_at.ensures ∙ c.if-is_closed_at.false in
    let is = ap statement_of c.in-Loop.is ∙ statement_of-Loop nest in
    let whole = ap (λ i. stops_in enters (statement_of i)) c.in-Loop.is ∙ stops-entered c.args.closed.now nest unmarked in
    let inside : heads_of (loops_of c.with_inner.result) ≡ heads ++ head_of nest ∷ [] = ap heads_of c.with_inner.ensures ∙ map-append (λ (a : Around). head_of a.nest.now) (loops_of c.args.outer) _ in
    let text = ap (phases_in enters heads) is ∙ ap (λ b. if b then phases_among enters (heads ++ head_of nest ∷ []) body else record { what = do_loop (head_of nest) body; outer = heads } ∷ []) (ap not unmarked)
    ∙ ap (λ (hs : List Head). phases_among enters hs body) (sym inside) ∙ ap (λ xs. phases_among enters (heads_of (loops_of c.with_inner.result)) (statements_from xs)) (sym c.deref.ensures.value) in
    record {
      next = omega (arith, whole, c.add_all.ensures.next, ap (λ xs. stops_of enters (statements_from xs)) c.deref.ensures.value);
      few = omega (arith, ap statements_in is, c.add_all.ensures.few, ap (λ xs. statement_count (statements_from xs)) c.deref.ensures.value);
      total = c.add_all.ensures.total ∙ ap (λ (ps : List StaticPhase). u64_saturate (c.args.sum.now.total + sum_from f c.args.sum.now.next ps)) (sym text);
    }

pub add_in-returns-in-Continue-clause-total : goal.add_in-returns-in-Continue-clause-total
add_in-returns-in-Continue-clause-total g t c =
    let enters = enters_but c.args.closed.now in
    let f = g.W.PhaseWeight.weight c.args.weight.now in
    let none : sum_from f c.args.sum.now.next (phases_in enters (heads_of (loops_of c.args.outer)) (statement_of c.args.item.now)) ≡ 0 = ap (λ i. sum_from f c.args.sum.now.next (phases_in enters (heads_of (loops_of c.args.outer)) (statement_of i))) c.in-Continue.is in
    omega (arith, none, c.requires.fits)

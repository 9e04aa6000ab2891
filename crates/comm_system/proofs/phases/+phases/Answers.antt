use Rattle.std.proofs.Common.{◌≡◌, ℕ, ◌+◌, ◌*◌, ◌<◌, ◌++◌, ◌∷◌, [], List, length, length-append, map, not, if◌then◌else◌, rules, ap, subst, sym, ◌∙◌, arith}
use Rattle.std.specs.Prelude.{OnOk}
use denote.Param.Weighed.{most}
use Rattle.nest_tree.proofs.tree.Item.TheLaws.{the_size}
use Rattle.std.proofs.lemmas.Bool.{and_parts}
use Rattle.nest_tree.specs.Form.{is_small}
use Rattle.nest_tree.specs.declared.tree.Item.{Item, Loop, the_lemmas}
use Rattle.nest_tree.specs.declared.tree.Nest.{Nest}
use Rattle.conflict_rules.specs.SmallSteps.{has_small_steps, have_small_steps}
use Rattle.comm_system.proofs.SmallLoops.{good_at, small_at, small_behind}
use Rattle.std.proofs.lemmas.List.{map-append}
use Rattle.nest_tree.specs.Tree.{Head, do_loop}
use Rattle.nest_tree.specs.View.{head_of, statement_of, statements_from}
use Rattle.nest_tree.specs.WellFormed.{are_good_statements, is_good_statement}
use Rattle.nest_tree.proofs.Good.{good_loop}
use Rattle.nest_tree.proofs.Rows.{statement_of-Loop}
use Rattle.nest_walk.specs.Walks.{enters_but}
use Rattle.nest_rows.specs.Views.{heads_of}
use Rattle.nest_rows.specs.declared.terms.Around.{Around}
use Rattle.conflict_rules.specs.References.{StaticPhase, phases_among, phases_in}
use Rattle.comm_system.specs.PhaseViews.{phase_seen}
use Rattle.owner_partition.specs.StaticPhases.{loops_of}
use Rattle.comm_system.proofs.phases.+phases.Goals as goal

-- a loop's statements are smaller than the loop
smaller : (item : Item) (nest : Nest) (items : List Item) (t : ℕ) → t ≡ 2 * the_size item + 0 → item ≡ Loop nest → items ≡ nest.items.items → 2 * most the_size items + 1 < t
smaller item nest items t whole is same = search (rules, the_lemmas)

pub push_all_phases-push_phases-requires : goal.push_all_phases-push_phases-requires
push_all_phases-push_phases-requires t c =
    let (scope, around, number, long, good) = c.requires.good in
    let (n, here) = good_at scope around number c.args.items.now c.loop-item.item-index c.item-item.result c.loop-item-test.true c.item-item.is good in
    (search (rules, the_lemmas), ((scope, around, n, long, here), (c.requires.outer, small_at c.args.items.now c.loop-item.item-index c.item-item.result c.loop-item-test.true c.item-item.is c.requires.steps)))

pub push_phases-push_all_phases-requires : goal.push_phases-push_all_phases-requires
push_phases-push_all_phases-requires t c =
    let nest = c.in-Loop.nest in
    let is = ap statement_of c.in-Loop.is ∙ statement_of-Loop nest in
    let (scope, around, number, long, good) = c.requires.good in
    let inside = (good_loop scope around number (head_of nest) (statements_from nest.items.items) (sym (ap (is_good_statement scope around number) is) ∙ good)).inside in
    let longer = ap length c.with_inner.ensures ∙ length-append (loops_of c.args.outer) _ in
    let parts = and_parts (is_small nest.step) (have_small_steps (statements_from nest.items.items)) (sym (ap has_small_steps is) ∙ c.requires.steps) in (
      smaller c.args.item.now nest c.deref.result.now t (omega (arith, c.decreases)) c.in-Loop.is c.deref.ensures.value,
      (
        (scope, nest.number ∷ around, number + 1, omega (arith, long, longer), ap (λ xs. are_good_statements scope (nest.number ∷ around) (number + 1) (statements_from xs)) c.deref.ensures.value ∙ inside),
        (small_behind (loops_of c.args.outer) (loops_of c.with_inner.result) _ c.requires.outer parts.0 c.with_inner.ensures, ap (λ xs. have_small_steps (statements_from xs)) c.deref.ensures.value ∙ parts.1),
      ),
    )

pub push_phases-returns-else-is_closed_at : goal.push_phases-returns-else-is_closed_at
push_phases-returns-else-is_closed_at t c =
    let nest = c.in-Loop.nest in
    let enters = enters_but c.args.closed.now in
    let body = statements_from nest.items.items in
    let heads = heads_of (loops_of c.args.outer) in
    let is = ap statement_of c.in-Loop.is ∙ statement_of-Loop nest in
    let entered = ap not (sym c.is_closed_at.ensures ∙ c.if-is_closed_at.false) in
    let inside : heads_of (loops_of c.with_inner.result) ≡ heads ++ head_of nest ∷ [] = ap heads_of c.with_inner.ensures ∙ map-append (λ (a : Around). head_of a.nest.now) (loops_of c.args.outer) _ in
    let text = ap (phases_in enters heads) is ∙ ap (λ b. if b then phases_among enters (heads ++ head_of nest ∷ []) body else record { what = do_loop (head_of nest) body; outer = heads } ∷ []) entered
    ∙ ap (λ (hs : List Head). phases_among enters hs body) (sym inside) ∙ ap (λ xs. phases_among enters (heads_of (loops_of c.with_inner.result)) (statements_from xs)) (sym c.deref.ensures.value) in
    subst (λ (ps : List StaticPhase). OnOk c.push_all_phases.result (map phase_seen c.push_all_phases.new.found.items ≡ map phase_seen c.args.found.now.items ++ ps)) (sym text) c.push_all_phases.ensures

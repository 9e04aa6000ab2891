use Rattle.std.proofs.Common.{◌≡◌, ◌++◌, ◌∷◌, [], List, ap, sym, ◌∙◌, subst}
use Rattle.std.proofs.lemmas.List.{map-append}
use Rattle.nest_tree.specs.Tree.{Head}
use Rattle.nest_tree.specs.View.{head_of, statement_of, statements_from}
use Rattle.nest_tree.proofs.Rows.{statement_of-Loop}
use Rattle.nest_walk.specs.Grown.{GrewBy}
use Rattle.nest_walk.proofs.Grown.{grew-both}
use Rattle.nest_rows.specs.Nested.{Nested, nested_among, nested_in}
use Rattle.nest_rows.specs.Views.{IsView, heads_of}
use Rattle.nest_rows.specs.declared.terms.Around.{Around}
use Rattle.nest_rows.proofs.RowLists.{nested-taken}
use Rattle.nest_rows.proofs.nested.+works.Goals as goal

pub push_item_works-returns-in_ok-push_works-in-Loop-clause-works : goal.push_item_works-returns-in_ok-push_works-in-Loop-clause-works
push_item_works-returns-in_ok-push_works-in-Loop-clause-works t c =
    let nest = c.in-Loop.nest in
    let around = c.args.around.now.items in
    let body = statements_from nest.items.items in
    let same = ap statement_of c.in-Loop.is ∙ statement_of-Loop nest in
    let inside : heads_of c.push.new.self.items ≡ heads_of around ++ head_of nest ∷ [] = ap heads_of c.in_ok-push-in-Loop.ensures.items ∙ map-append (λ (a : Around). head_of a.nest.now) around _ in
    let text = ap (nested_in (heads_of around)) same ∙ ap (λ (hs : List Head). nested_among hs body) (sym inside) ∙ ap (λ xs. nested_among (heads_of c.push.new.self.items) (statements_from xs)) (sym c.deref.ensures.value) in
    subst (λ (ns : List Nested). GrewBy IsView ns c.args.works.now.items c.push_works.new.works.items) (sym text) c.in_ok-push_works-in-Loop.ensures.works

pub push_works-loop-item-preserved : goal.push_works-loop-item-preserved
push_works-loop-item-preserved t c =
    let around = c.args.around.now.items in
    let inside = ap heads_of c.loop-item.invariant.around in
    let more = nested-taken (heads_of around) c.args.items.now c.loop-item.item-index c.item-item.result c.loop-item-test.true c.item-item.is in
    let here = subst (λ (hs : List Head). GrewBy IsView (nested_in hs (statement_of c.item-item.result)) c.loop-item.works.items c.push_item_works.new.works.items) inside c.in_ok-push_item_works.ensures.works in
    record {
      works = subst (λ (ns : List Nested). GrewBy IsView ns c.args.works.now.items c.push_item_works.new.works.items) (sym more) (grew-both IsView _ _ _ _ _ c.loop-item.invariant.works here);
      around = c.in_ok-push_item_works.ensures.around ∙ c.loop-item.invariant.around;
    }

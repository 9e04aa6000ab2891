use Rattle.std.proofs.Common.{◌≡◌, ◌++◌, ◌∷◌, [], List, map, ap, sym, ◌∙◌, rules}
use Rattle.std.proofs.lemmas.Bool.{and_parts}
use Rattle.nest_tree.specs.Form.{is_small}
use Rattle.nest_tree.specs.declared.tree.Item.{the_lemmas}
use Rattle.conflict_rules.specs.SmallSteps.{are_small_steps, has_small_steps, have_small_steps}
use Rattle.comm_system.proofs.SmallLoops.{small_at, small_behind}
use Rattle.std.specs.List.{flat_map}
use Rattle.std.proofs.lemmas.List.{map-append}
use Rattle.nest_tree.specs.Tree.{Head}
use Rattle.nest_tree.specs.View.{head_of, statement_of, statements_from}
use Rattle.nest_tree.proofs.Rows.{statement_of-Loop}
use Rattle.nest_rows.specs.Nested.{Nested, nested_among, nested_in}
use Rattle.nest_rows.specs.Views.{heads_of}
use Rattle.nest_rows.specs.declared.terms.Around.{Around}
use Rattle.conflict_rules.specs.References.{references_in}
use Rattle.conflict_rules.specs.Seen.{reference_seen}
use Rattle.comm_system.proofs.references.+works.Goals as goal

pub push_references-returns-in_ok-push_all_references-in-Loop-clause-found : goal.push_references-returns-in_ok-push_all_references-in-Loop-clause-found
push_references-returns-in_ok-push_all_references-in-Loop-clause-found t c =
    let nest = c.in-Loop.nest in
    let around = c.args.around.now.items in
    let body = statements_from nest.items.items in
    let same = ap statement_of c.in-Loop.is ∙ statement_of-Loop nest in
    let inside : heads_of c.push.new.self.items ≡ heads_of around ++ head_of nest ∷ [] = ap heads_of c.in_ok-push-in-Loop.ensures.items ∙ map-append (λ (a : Around). head_of a.nest.now) around _ in
    let text = ap (nested_in (heads_of around)) same ∙ ap (λ (hs : List Head). nested_among hs body) (sym inside) ∙ ap (λ xs. nested_among (heads_of c.push.new.self.items) (statements_from xs)) (sym c.deref.ensures.value) in
    c.in_ok-push_all_references-in-Loop.ensures.found ∙ ap (λ (ns : List Nested). map reference_seen c.args.found.now.items ++ flat_map references_in ns) (sym text)

pub push_all_references-push_references-requires : goal.push_all_references-push_references-requires
push_all_references-push_references-requires t c =
    (search (rules, the_lemmas), (ap (λ xs. are_small_steps (heads_of xs)) c.loop-item.invariant.around ∙ c.requires.around, small_at c.args.items.now c.loop-item.item-index c.item-item.result c.loop-item-test.true c.item-item.is c.requires.steps))

pub push_references-push_all_references-requires : goal.push_references-push_all_references-requires
push_references-push_all_references-requires t c =
    let nest = c.in-Loop.nest in
    let same = ap statement_of c.in-Loop.is ∙ statement_of-Loop nest in
    let parts = and_parts (is_small nest.step) (have_small_steps (statements_from nest.items.items)) (sym (ap has_small_steps same) ∙ c.requires.steps) in
    (search (rules, the_lemmas), (small_behind c.args.around.now.items c.push.new.self.items _ c.requires.around parts.0 c.in_ok-push-in-Loop.ensures.items, ap (λ xs. have_small_steps (statements_from xs)) c.deref.ensures.value ∙ parts.1))

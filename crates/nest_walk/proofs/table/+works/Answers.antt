use Rattle.std.proofs.Common.{◌≡◌, ◌+◌, ℕ, List, ◌∷◌, OnOk, ap, sym, ◌∙◌, subst, rules}
use Rattle.nest_tree.specs.View.{statement_of, statements_from, tree_of}
use Rattle.nest_tree.specs.WellFormed.{are_good_statements, is_good_statement, scope_of}
use Rattle.nest_tree.specs.declared.tree.Item.{the_lemmas}
use Rattle.nest_tree.proofs.Good.{good_loop}
use Rattle.nest_tree.proofs.Rows.{statement_of-Loop}
use Rattle.nest_tree.specs.View.{head_of}
use Rattle.nest_model.specs.Visits.{every}
use Rattle.nest_walk.specs.Grown.{GrewBy}
use Rattle.nest_walk.specs.Places.{numbers_of}
use Rattle.nest_walk.specs.RoundsOf.{rounds_of}
use Rattle.nest_walk.specs.Tables.{ArePlacedCells}
use Rattle.nest_walk.specs.Texts.{Placed, placed_in, placed_of}
use Rattle.nest_walk.proofs.Grown.{grew-both}
use Rattle.nest_walk.proofs.TableParts.{good_among, placed_taken}
use Rattle.nest_walk.proofs.table.+works.Goals as goal

pub push_works-push_item_works-requires : goal.push_works-push_item_works-requires
push_works-push_item_works-requires t c =
    let scope = scope_of (tree_of c.args.program.now) in
    let around = numbers_of (rounds_of c.args.path.now) in
    (search (rules, the_lemmas), good_among scope around c.args.items.now c.loop-item.item-index c.item-item.result c.requires.good.0 c.loop-item-test.true c.item-item.is c.requires.good.1)

pub push_works-loop-item-preserved : goal.push_works-loop-item-preserved
push_works-loop-item-preserved t c =
    let R = ArePlacedCells (tree_of c.args.program.now) in
    let more = placed_taken (numbers_of (rounds_of c.args.path.now)) c.args.items.now c.loop-item.item-index c.item-item.result c.loop-item-test.true c.item-item.is in
    subst (λ (ps : List Placed). GrewBy R ps c.args.works.now.items c.push_item_works.new.works.items) (sym more) (grew-both R _ _ _ _ _ c.loop-item.invariant c.in_ok-push_item_works.ensures)

pub push_item_works-push_works-requires : goal.push_item_works-push_works-requires
push_item_works-push_works-requires t c =
    let scope = scope_of (tree_of c.args.program.now) in
    let around = numbers_of (rounds_of c.args.path.now) in
    let nest = c.in-Loop.nest in
    let first = c.requires.good.0 in
    let body = statements_from nest.items.items in
    let same = ap statement_of c.in-Loop.is ∙ statement_of-Loop nest in
    let parts = good_loop scope around first (head_of nest) body (sym (ap (is_good_statement scope around first) same) ∙ c.requires.good.1) in
    let inside : nest.number ∷ around ≡ numbers_of (rounds_of c.push.new.self) = ap numbers_of (sym c.push.ensures) in
    let good = ap (λ (ns : List ℕ). are_good_statements scope ns (first + 1) body) (sym inside) ∙ parts.inside in
    (search (rules, the_lemmas), (first + 1, ap (λ xs. are_good_statements scope (numbers_of (rounds_of c.push.new.self)) (first + 1) (statements_from xs)) c.deref.ensures.value ∙ good))

pub push_item_works-returns-in-Loop : goal.push_item_works-returns-in-Loop
push_item_works-returns-in-Loop t c =
    let R = ArePlacedCells (tree_of c.args.program.now) in
    let around = numbers_of (rounds_of c.args.path.now) in
    let nest = c.in-Loop.nest in
    let same = ap (placed_in every around) (ap statement_of c.in-Loop.is ∙ statement_of-Loop nest) in
    let inside : nest.number ∷ around ≡ numbers_of (rounds_of c.push.new.self) = ap numbers_of (sym c.push.ensures) in
    let text = same ∙ ap (λ (ns : List ℕ). placed_of every ns (statements_from nest.items.items)) inside ∙ ap (λ xs. placed_of every (numbers_of (rounds_of c.push.new.self)) (statements_from xs)) (sym c.deref.ensures.value) in
    subst (λ (ps : List Placed). OnOk c.push_works.result (GrewBy R ps c.args.works.now.items c.push_works.new.works.items)) (sym text) c.push_works.ensures

use Rattle.std.proofs.Common.{◌≡◌, ℕ, List, ◌∷◌, take, ap, sym, ◌∙◌, subst}
use Rattle.std.proofs.lemmas.List.{take_all}
use Rattle.std.proofs.lemmas.Result.{on_ok_weaker}
use Rattle.nest_tree.specs.View.{statement_of, statements_from}
use Rattle.nest_tree.proofs.Rows.{statement_of-Loop}
use Rattle.nest_model.specs.Visits.{every}
use Rattle.nest_walk.specs.Grown.{GrewBy}
use Rattle.nest_walk.specs.Texts.{Placed, placed_in, placed_of}
use Rattle.nest_walk.proofs.Grown.{grew-both}
use Rattle.nest_walk.proofs.TableParts.{placed_taken}
use Rattle.flat_code.specs.CodeTables.{HasCode}
use Rattle.flat_code.proofs.table.+codes.Goals as goal

pub push_codes-loop-item-preserved : goal.push_codes-loop-item-preserved
push_codes-loop-item-preserved t c = λ around.
    let more = placed_taken around c.args.items.now c.loop-item.item-index c.item-item.result c.loop-item-test.true c.item-item.is in
    subst (λ (ps : List Placed). GrewBy HasCode ps c.args.codes.now.items c.push_item_codes.new.codes.items) (sym more)
    (grew-both HasCode _ _ _ _ _ (c.loop-item.invariant around) (c.in_ok-push_item_codes.ensures around))

pub push_codes-returns : goal.push_codes-returns
push_codes-returns t c = λ around.
    let all : take c.loop-item.item-index c.args.items.now ≡ c.args.items.now = take_all c.loop-item.item-index c.args.items.now c.loop-item-test.false in
    subst (λ xs. GrewBy HasCode (placed_of every around (statements_from xs)) c.args.codes.now.items c.loop-item.codes.items) all (c.loop-item.invariant around)

pub push_item_codes-returns-in-Loop : goal.push_item_codes-returns-in-Loop
push_item_codes-returns-in-Loop t c =
    let nest = c.in-Loop.nest in
    let old = c.args.codes.now.items in
    let new = c.push_codes.new.codes.items in
    let text : (around : List ℕ) → placed_in every around (statement_of c.args.item.now) ≡ placed_of every (nest.number ∷ around) (statements_from c.deref.result.now) =
    λ around. ap (placed_in every around) (ap statement_of c.in-Loop.is ∙ statement_of-Loop nest) ∙ ap (λ xs. placed_of every (nest.number ∷ around) (statements_from xs)) (sym c.deref.ensures.value) in
    on_ok_weaker c.push_codes.result (λ (inside : (around : List ℕ) → GrewBy HasCode (placed_of every around (statements_from c.deref.result.now)) old new) around.
    subst (λ (ps : List Placed). GrewBy HasCode ps old new) (sym (text around)) (inside (nest.number ∷ around))) c.push_codes.ensures

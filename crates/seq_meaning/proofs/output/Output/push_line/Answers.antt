use Rattle.std.proofs.Common.{true≢false, ◌+◌, ◌++◌, ap, sym, ◌∙◌, arith, append_assoc, drop, length, length-drop, map}
use Rattle.nest_tree.specs.View.{printed_of, tree_of}
use Rattle.nest_model.specs.Memory.{items_text}
use Rattle.seq_meaning.specs.Lines.{item_load_count}
use Rattle.seq_meaning.proofs.PrintedItems.{first_item, text_more, load_count_more, longest_more}
use Rattle.seq_meaning.proofs.output.Output.push_line.Goals as goal

pub push_item-requires-clause-texts : goal.push_item-requires-clause-texts
push_item-requires-clause-texts c =
    (first_item (tree_of c.args.program.now) (length c.args.given.now.loops.now) c.args.items.now c.loop-item.item-index c.item-item.result c.loop-item-test.true c.item-item.is c.loop-item.invariant.texts).0

pub push_item-requires-clause-loads : goal.push_item-requires-clause-loads
push_item-requires-clause-loads c =
    let count = load_count_more (tree_of c.args.program.now) c.args.items.now c.loop-item.item-index c.item-item.result c.loop-item-test.true c.item-item.is in
    omega (arith, count, c.loop-item.invariant.loads)

pub loop-item-preserved : goal.loop-item-preserved
loop-item-preserved c =
    let tree = tree_of c.args.program.now in
    let item = c.item-item.result in
    let loaded = c.args.given.now.loaded.now in
    let left = drop (c.loop-item.item-index + 1) (map printed_of c.args.items.now) in
    let count = load_count_more tree c.args.items.now c.loop-item.item-index item c.loop-item-test.true c.item-item.is in
    let shorter = ap length c.in_ok-push_item.ensures.rest ∙ length-drop (item_load_count tree (printed_of item)) (drop c.loop-item.at loaded) in
    let text = text_more tree c.args.given.now.loops.now c.args.items.now c.loop-item.item-index item (drop c.loop-item.at loaded) c.loop-item-test.true c.item-item.is in
    record {
      texts = (first_item tree (length c.args.given.now.loops.now) c.args.items.now c.loop-item.item-index item c.loop-item-test.true c.item-item.is c.loop-item.invariant.texts).1;
      loads = omega (arith, count, c.loop-item.invariant.loads, shorter);
      text = ap (λ xs. c.push_item.new.self.bytes ++ items_text tree c.args.given.now.loops.now left xs) c.in_ok-push_item.ensures.rest
          ∙ ap (λ xs. xs ++ items_text tree c.args.given.now.loops.now left (drop (item_load_count tree (printed_of item)) (drop c.loop-item.at loaded))) c.in_ok-push_item.ensures.text
          ∙ append_assoc c.loop-item.self.bytes _ _ ∙ ap (λ xs. c.loop-item.self.bytes ++ xs) (sym text) ∙ c.loop-item.invariant.text;
      grown = omega (arith, longest_more tree c.args.items.now c.loop-item.item-index item c.loop-item-test.true c.item-item.is, c.push_item.ensures.grown, c.loop-item.invariant.grown);
      room = omega (arith, c.push_item.ensures.room, c.loop-item.invariant.room);
    }

pub returns-in_err-push_item-clause-fits : goal.returns-in_err-push_item-clause-fits
returns-in_err-push_item-clause-fits c = λ room.
    let longest = longest_more (tree_of c.args.program.now) c.args.items.now c.loop-item.item-index c.item-item.result c.loop-item-test.true c.item-item.is in
    absurd (true≢false (sym (c.in_err-push_item.ensures.fits (omega (arith, room, longest, c.loop-item.invariant.grown, c.loop-item.invariant.room)))))

pub returns-in_err-push_item-clause-grown : goal.returns-in_err-push_item-clause-grown
returns-in_err-push_item-clause-grown c =
    let longest = longest_more (tree_of c.args.program.now) c.args.items.now c.loop-item.item-index c.item-item.result c.loop-item-test.true c.item-item.is in
    omega (arith, longest, c.push_item.ensures.grown, c.loop-item.invariant.grown)

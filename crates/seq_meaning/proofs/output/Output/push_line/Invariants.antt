use Rattle.std.proofs.Common.{◌≡◌, ◌+◌, ◌≤◌, ◌++◌, IsTrue, drop, length, map}
use Rattle.std.specs.List.{list_all}
use Rattle.nest_tree.specs.View.{printed_of, tree_of}
use Rattle.nest_model.specs.Memory.{items_text}
use Rattle.seq_meaning.specs.Lines.{has_text, items_load_count}
use Rattle.seq_meaning.specs.Room.{longest_items}
use Rattle.seq_meaning.proofs.output.Output.push_line.Given as goal

abbrev pub invariant-loop-item : goal.invariant-loop-item
invariant-loop-item l =
    let left = drop l.item-index (map printed_of l.items) in
    let tree = tree_of l.program in
    record {
      texts : IsTrue (list_all (has_text tree (length l.given.loops.now)) left);
      loads : items_load_count tree left ≤ length (drop l.at l.given.loaded.now);
      text : l.self.bytes ++ items_text tree l.given.loops.now left (drop l.at l.given.loaded.now) ≡ l.initial.self.bytes ++ items_text tree l.given.loops.now (map printed_of l.items) l.given.loaded.now;
      grown : length l.self.bytes + longest_items tree left ≤ length l.initial.self.bytes + longest_items tree (map printed_of l.items);
      room : l.initial.self.room ≤ l.self.room;
    }

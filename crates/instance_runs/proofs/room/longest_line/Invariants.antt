use Rattle.std.proofs.Common.{◌≡◌, ◌+◌, drop, map}
use Rattle.nest_tree.specs.View.{printed_of, tree_of}
use Rattle.seq_meaning.specs.Room.{longest_items}
use Rattle.instance_runs.proofs.room.longest_line.Given as goal

abbrev pub invariant-loop-item : goal.invariant-loop-item
invariant-loop-item l = l.room + longest_items (tree_of l.program) (drop l.item-index (map printed_of l.items)) ≡ longest_items (tree_of l.program) (map printed_of l.items) + 1

use Rattle.std.proofs.Common.{◌≡◌}
use Rattle.nest_walk.specs.Cursors.{left_of, marks_in, moves_to_go, tree_in}
use Rattle.nest_walk.proofs.cursor.Cursor.strip.Given as goal

abbrev pub invariant-loop-item : goal.invariant-loop-item
invariant-loop-item l = record {
  left : left_of l.self ≡ left_of l.initial.self;
  program : tree_in l.self ≡ tree_in l.initial.self;
  marks : marks_in l.self ≡ marks_in l.initial.self;
}

abbrev pub decreases-loop-item : goal.decreases-loop-item
decreases-loop-item l = moves_to_go l.self

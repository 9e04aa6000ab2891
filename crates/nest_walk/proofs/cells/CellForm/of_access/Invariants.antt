use Rattle.std.proofs.Common.{◌≡◌, ◌<◌, ◌≤◌, ◌-ℤ◌, ℕ, get_or, length, set, pos}
use Rattle.nest_tree.specs.Values.{wrapped}
use Rattle.nest_tree.specs.View.{tree_of}
use Rattle.nest_walk.specs.Paths.{origin, rounds_to}
use Rattle.nest_walk.specs.Places.{cell_among}
use Rattle.nest_walk.proofs.cells.CellForm.of_access.Given as goal

abbrev pub invariant-loop-depth : goal.invariant-loop-depth
invariant-loop-depth l = record {
  six : length l.steps ≡ 6;
  along : (d : ℕ) → d < l.depth → get_or l.steps d (pos 0) ≡ wrapped (wrapped (cell_among (tree_of l.program) l.access (rounds_to l.path.numbers (set origin d (pos 1)) l.path.depth)) -ℤ l.base);
  others : (d : ℕ) → l.depth ≤ d → get_or l.steps d (pos 0) ≡ pos 0;
}

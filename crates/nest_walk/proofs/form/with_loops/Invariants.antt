use Rattle.std.proofs.Common.{◌≡◌, ◌+ℤ◌, drop}
use Rattle.nest_tree.specs.Values.{wrapped}
use Rattle.nest_walk.specs.Paths.{dot_among}
use Rattle.nest_walk.specs.RoundsOf.{rounds_of}
use Rattle.nest_walk.proofs.form.with_loops.Given as goal

abbrev pub invariant-loop-number : goal.invariant-loop-number
invariant-loop-number l =
    wrapped (l.total +ℤ dot_among (drop l.number-index l.pairs) (rounds_of l.path)) ≡ wrapped (l.fn.sum +ℤ dot_among l.pairs (rounds_of l.path))

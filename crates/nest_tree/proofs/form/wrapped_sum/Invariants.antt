use Rattle.std.proofs.Common.{◌≡◌, ◌+ℤ◌, drop}
use Rattle.nest_tree.specs.Form.{dot}
use Rattle.nest_tree.specs.Values.{wrapped}
use Rattle.nest_tree.proofs.form.wrapped_sum.Given as goal

abbrev pub invariant-loop-number : goal.invariant-loop-number
invariant-loop-number l =
    wrapped (l.sum +ℤ dot (drop l.number-index l.pairs) l.values) ≡ wrapped (l.start +ℤ dot l.pairs l.values)

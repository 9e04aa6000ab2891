use Rattle.std.proofs.Common.{◌≡◌, take}
use Rattle.nest_tree.proofs.form.Pairs.from_slice.Given as goal

abbrev pub invariant-loop-number : goal.invariant-loop-number
invariant-loop-number l = l.made ≡ take l.number-index l.pairs

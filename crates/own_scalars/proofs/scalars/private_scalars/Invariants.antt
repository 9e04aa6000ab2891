use Rattle.std.proofs.Common.{◌≡◌, ◌≤◌, length}
use Rattle.std.specs.List.{filter, range_with_len}
use Rattle.nest_tree.specs.View.{statements_from}
use Rattle.own_scalars.specs.OwnScalars.{is_private}
use Rattle.own_scalars.proofs.scalars.private_scalars.Given as goal

abbrev pub invariant-loop-number : goal.invariant-loop-number
invariant-loop-number l = record {
  found : l.found.items ≡ filter (λ v. is_private v (statements_from l.body)) (range_with_len 0 l.number);
  few : length l.found.items ≤ 16;
}

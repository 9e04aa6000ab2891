use Rattle.std.proofs.Common.{◌≡◌, ◌+◌, ◌<◌, ◌^◌, drop}
use Rattle.std.specs.Io.Iter.{u64_saturate}
use Rattle.nest_tree.specs.View.{statements_from}
use Rattle.obligation_numbers.specs.Sums.{access_sums}
use Rattle.obligation_numbers.proofs.accesses.+works.Given as goal

abbrev pub invariant-statements_weight-loop-item : goal.invariant-statements_weight-loop-item
invariant-statements_weight-loop-item g l =
    let sum = access_sums (g.W.AccessWeight.weight l.weight) in
    (l.total < 2 ^ 64) × (u64_saturate (l.total + sum (statements_from (drop l.item-index l.items))) ≡ u64_saturate (sum (statements_from l.items)))

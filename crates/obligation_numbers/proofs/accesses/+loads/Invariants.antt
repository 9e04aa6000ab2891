use Rattle.std.proofs.Common.{◌≡◌, ◌+◌, ◌<◌, ◌^◌, drop, false}
use Rattle.std.specs.Prelude.{sum_by}
use Rattle.std.specs.Io.Iter.{u64_saturate}
use Rattle.nest_tree.specs.declared.tree.Access.{Access}
use Rattle.nest_tree.specs.Loads.{loads_among}
use Rattle.nest_tree.specs.View.{expressions_from}
use Rattle.obligation_numbers.proofs.accesses.+loads.Given as goal

abbrev pub invariant-arguments_weight-loop-argument : goal.invariant-arguments_weight-loop-argument
invariant-arguments_weight-loop-argument g l =
    let f = λ (a : Access). g.W.AccessWeight.weight l.weight a.variable false in
    (l.total < 2 ^ 64) × (u64_saturate (l.total + sum_by f (loads_among (expressions_from (drop l.argument-index l.arguments)))) ≡ u64_saturate (sum_by f (loads_among (expressions_from l.arguments))))

use Rattle.std.proofs.Common.{◌≡◌, ◌+◌, ◌<◌, ◌^◌, drop, true}
use Rattle.std.specs.Prelude.{sum_by}
use Rattle.std.specs.Io.Iter.{u64_saturate}
use Rattle.nest_tree.specs.View.{statement_of}
use Rattle.obligation_numbers.specs.Sums.{shown_sum}
use Rattle.obligation_numbers.proofs.accesses.shown_weight.Given as goal

abbrev pub invariant-loop-scalar : goal.invariant-loop-scalar
invariant-loop-scalar g l =
    let f = g.W.AccessWeight.weight l.weight in
    (l.total < 2 ^ 64) × (u64_saturate (l.total + sum_by (λ v. f v true) (drop l.scalar-index l.scalars)) ≡ u64_saturate (shown_sum l.cut f (statement_of l.item)))

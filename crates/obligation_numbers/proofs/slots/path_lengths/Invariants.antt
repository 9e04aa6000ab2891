use Rattle.std.proofs.Common.{◌≡◌, ℕ, ◌+◌, ◌<◌, ◌^◌, drop}
use Rattle.std.specs.Prelude.{sum_by}
use Rattle.std.specs.Io.Iter.{u64_saturate}
use Rattle.nest_tree.specs.View.{statements_from}
use Rattle.own_scalars.specs.OwnScalars.{path_length}
use Rattle.obligation_numbers.proofs.slots.path_lengths.Given as goal

abbrev pub invariant-loop-scalar : goal.invariant-loop-scalar
invariant-loop-scalar l =
    let f = λ (v : ℕ). path_length v (statements_from l.body) in
    (l.total < 2 ^ 64) × (u64_saturate (l.total + sum_by f (drop l.scalar-index l.scalars)) ≡ u64_saturate (sum_by f l.scalars))

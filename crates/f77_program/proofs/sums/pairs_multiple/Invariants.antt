use Rattle.std.proofs.Common.{◌≡◌, ◌++◌, drop}
use Rattle.f77_scene.specs.Affine.{pairs_times}
use Rattle.f77_program.proofs.sums.pairs_multiple.Given as goal

abbrev pub invariant-loop-number : goal.invariant-loop-number
invariant-loop-number l = l.multiple ++ pairs_times l.factor (drop l.number-index l.pairs) ≡ pairs_times l.factor l.pairs

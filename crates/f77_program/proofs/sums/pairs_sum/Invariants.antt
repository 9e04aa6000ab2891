use Rattle.std.proofs.Common.{◌≡◌, ◌+◌, ◌++◌, length, IsTrue}
use Rattle.nest_tree.specs.Form.{rises_above}
use Rattle.f77_scene.specs.Affine.{pairs_plus}
use Rattle.f77_program.proofs.sums.pairs_sum.Given as goal

abbrev pub invariant-loop-pair : goal.invariant-loop-pair
invariant-loop-pair l = record {
  sum : l.pairs ++ pairs_plus l.left l.right ≡ pairs_plus l.initial.left l.initial.right;
  left : IsTrue (rises_above 0 l.left);
  right : IsTrue (rises_above 0 l.right);
}

abbrev pub decreases-loop-pair : goal.decreases-loop-pair
decreases-loop-pair l = length l.left + length l.right

use Rattle.std.proofs.Common.{ℕ, ◌≤◌, max}
use Rattle.std.specs.Int.{IsGcd}
use Rattle.cert_arithmetic.proofs.divisors.small_common_divisor.Given as goal

abbrev pub invariant-loop-y : goal.invariant-loop-y
invariant-loop-y l = record {
  common : (g : ℕ) → IsGcd l.x l.y g → IsGcd l.fn.a l.fn.b g;
  size : max l.x l.y ≤ max l.fn.a l.fn.b;
}

abbrev pub decreases-loop-y : goal.decreases-loop-y
decreases-loop-y l = l.y

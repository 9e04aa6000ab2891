use Rattle.std.proofs.Common.{arith}
use Rattle.std.proofs.lemmas.Nat.Gcd.{IsGcd-from_zero, IsGcd-from_mod}
use Rattle.cert_arithmetic.proofs.divisors.small_common_divisor.Goals as goal

pub loop-y-preserved : goal.loop-y-preserved
loop-y-preserved c = record {
  common = λ g h. c.loop-y.invariant.common g (IsGcd-from_mod _ _ g h);
  size = omega arith;
}

pub returns-clause-common : goal.returns-clause-common
returns-clause-common c = c.loop-y.invariant.common _ (IsGcd-from_zero _ _ (omega arith))

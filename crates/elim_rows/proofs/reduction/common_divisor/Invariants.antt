use Rattle.std.proofs.Common.{◌≤◌, ◌^◌, take}
use Rattle.elim_rows.specs.Reduction.{IsCommonDivisor}
use Rattle.elim_rows.proofs.reduction.common_divisor.Given as goal

abbrev pub invariant-loop-coef : goal.invariant-loop-coef
invariant-loop-coef l = record {
  common : IsCommonDivisor (take l.coef-index l.coefs) l.divisor;
  size : l.divisor ≤ 2 ^ 126;
}

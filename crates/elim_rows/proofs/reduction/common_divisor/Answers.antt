use Rattle.std.proofs.Common.{rules, arith, pos, ◌+◌, ◌^◌, ◌≤◌, get_or, take, unsigned_abs, FitsSigned, ap, sym, ◌∙◌, subst}
use Rattle.std.specs.Int.{w128, IsGcd}
use Rattle.std.proofs.lemmas.Int.{to_z-of_z}
use Rattle.elim_rows.specs.Reduction.{IsCommonDivisor}
use Rattle.elim_rows.proofs.Divisors.{IsCommonDivisor-nil, IsCommonDivisor-more, IsCommonDivisor-one, IsCommonDivisor-whole, le_from_narrow}
use Rattle.elim_rows.proofs.reduction.common_divisor.Goals as goal

pub loop-coef-init : goal.loop-coef-init
loop-coef-init c = record { common = IsCommonDivisor-nil; size = omega arith }

pub loop-coef-preserved : goal.loop-coef-preserved
loop-coef-preserved c =
    let xs = c.args.coefs.now in
    let i = c.loop-coef.coef-index in
    let fits : FitsSigned w128 (get_or xs i (pos 0)) = search rules in
    let size = c.unsigned_abs.ensures.value ∙ ap unsigned_abs (to_z-of_z w128 (get_or xs i (pos 0)) fits) in
    let gcd = subst (λ n. IsGcd n c.loop-coef.divisor c.greatest_common_divisor-divisor.result) size c.greatest_common_divisor-divisor.ensures.common in
    let narrow : c.unsigned_abs.result ≤ 2 ^ 126 = subst (λ n. n ≤ 2 ^ 126) (sym size) (le_from_narrow (get_or xs i (pos 0)) (c.requires i (pos 0) c.loop-coef-test.true)) in
    record {
      common = IsCommonDivisor-more xs i (pos 0) c.loop-coef.divisor _ c.loop-coef-test.true c.loop-coef.invariant.common gcd;
      size = omega arith;
    }

pub returns-then-divisor-eq1-clause-common : goal.returns-then-divisor-eq1-clause-common
returns-then-divisor-eq1-clause-common c =
    let xs = c.args.coefs.now in
    let i = c.loop-coef.coef-index in
    let fits : FitsSigned w128 (get_or xs i (pos 0)) = search rules in
    let size = c.unsigned_abs.ensures.value ∙ ap unsigned_abs (to_z-of_z w128 (get_or xs i (pos 0)) fits) in
    let gcd = subst (λ n. IsGcd n c.loop-coef.divisor c.greatest_common_divisor-divisor.result) size c.greatest_common_divisor-divisor.ensures.common in
    IsCommonDivisor-one xs (i + 1) (subst (λ g. IsCommonDivisor (take (i + 1) xs) g) c.if-divisor-eq1.true (IsCommonDivisor-more xs i (pos 0) c.loop-coef.divisor _ c.loop-coef-test.true c.loop-coef.invariant.common gcd))

pub returns-clause-common : goal.returns-clause-common
returns-clause-common c = IsCommonDivisor-whole c.args.coefs.now c.loop-coef.coef-index c.loop-coef.divisor (omega arith) c.loop-coef.invariant.common

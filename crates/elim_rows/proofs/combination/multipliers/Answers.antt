use Rattle.std.proofs.Common.{◌≡◌, ℕ, pos, sym, ◌/◌, ◌<◌, ◌≤◌, ◌^◌, unsigned_abs, inl, to_z, ◌∙◌, ap, subst, arith}
use Rattle.std.specs.Int.{w128, IsGcd}
use Rattle.std.proofs.lemmas.Int.{to_z-of_z, to_z_pos}
use Rattle.elim_rows.proofs.Divisors.{le_from_narrow}
use Rattle.elim_rows.proofs.Combined.{divisor_above_zero, quotient_le, size_above_zero}
use Rattle.elim_rows.proofs.combination.multipliers.Goals as goal

pub size_quotient-m-requires : goal.size_quotient-m-requires
size_quotient-m-requires c =
    let above = c.unsigned_abs-above.ensures.value ∙ ap unsigned_abs (to_z-of_z w128 c.args.upper c.ranges.upper) in
    let size = size_above_zero c.args.upper (inl c.requires.above) in
    divisor_above_zero c.unsigned_abs-above.result _ _ (omega (arith, above, size)) c.greatest_common_divisor-divisor.ensures.common

pub size_quotient-n-requires : goal.size_quotient-n-requires
size_quotient-n-requires c =
    let above = c.unsigned_abs-above.ensures.value ∙ ap unsigned_abs (to_z-of_z w128 c.args.upper c.ranges.upper) in
    let size = size_above_zero c.args.upper (inl c.requires.above) in
    divisor_above_zero c.unsigned_abs-above.result _ _ (omega (arith, above, size)) c.greatest_common_divisor-divisor.ensures.common

pub returns-then-divisor-eq1 : goal.returns-then-divisor-eq1
returns-then-divisor-eq1 c =
    let above : c.unsigned_abs-above.result ≡ unsigned_abs c.args.upper = c.unsigned_abs-above.ensures.value ∙ ap unsigned_abs (to_z-of_z w128 c.args.upper c.ranges.upper) in
    let below : c.unsigned_abs-below.result ≡ unsigned_abs c.args.lower = c.unsigned_abs-below.ensures.value ∙ ap unsigned_abs (to_z-of_z w128 c.args.lower c.ranges.lower) in
    let g = c.greatest_common_divisor-divisor.result in
    let one : 1 ≡ g = sym c.if-divisor-eq1.true in
    let size_above : unsigned_abs c.args.upper ≤ 2 ^ 126 = le_from_narrow c.args.upper c.requires.upper_narrow in
    let size_below : unsigned_abs c.args.lower ≤ 2 ^ 126 = le_from_narrow c.args.lower c.requires.lower_narrow in
    let whole : (n : ℕ) → n ≡ n / g = λ n. (let e : n ≡ n / 1 = omega arith in e) ∙ ap (λ k. n / k) one in (
      g,
      subst (λ b. IsGcd (unsigned_abs c.args.upper) b g) below (subst (λ a. IsGcd a c.unsigned_abs-below.result g) above c.greatest_common_divisor-divisor.ensures.common),
      ap (to_z w128) below ∙ to_z_pos w128 (unsigned_abs c.args.lower) (omega (arith, size_below)) ∙ ap pos (whole (unsigned_abs c.args.lower)),
      ap (to_z w128) above ∙ to_z_pos w128 (unsigned_abs c.args.upper) (omega (arith, size_above)) ∙ ap pos (whole (unsigned_abs c.args.upper)),
    )

pub returns : goal.returns
returns c =
    let above : c.unsigned_abs-above.result ≡ unsigned_abs c.args.upper = c.unsigned_abs-above.ensures.value ∙ ap unsigned_abs (to_z-of_z w128 c.args.upper c.ranges.upper) in
    let below : c.unsigned_abs-below.result ≡ unsigned_abs c.args.lower = c.unsigned_abs-below.ensures.value ∙ ap unsigned_abs (to_z-of_z w128 c.args.lower c.ranges.lower) in
    let g = c.greatest_common_divisor-divisor.result in
    let size_above : unsigned_abs c.args.upper ≤ 2 ^ 126 = le_from_narrow c.args.upper c.requires.upper_narrow in
    let size_below : unsigned_abs c.args.lower ≤ 2 ^ 126 = le_from_narrow c.args.lower c.requires.lower_narrow in
    let fits_below : unsigned_abs c.args.lower / g < 2 ^ 127 = omega (arith, quotient_le (unsigned_abs c.args.lower) g, size_below) in
    let fits_above : unsigned_abs c.args.upper / g < 2 ^ 127 = omega (arith, quotient_le (unsigned_abs c.args.upper) g, size_above) in (
      g,
      subst (λ b. IsGcd (unsigned_abs c.args.upper) b g) below (subst (λ a. IsGcd a c.unsigned_abs-below.result g) above c.greatest_common_divisor-divisor.ensures.common),
      ap (to_z w128) (c.size_quotient-m.ensures ∙ ap (λ n. n / g) below) ∙ to_z_pos w128 (unsigned_abs c.args.lower / g) fits_below,
      ap (to_z w128) (c.size_quotient-n.ensures ∙ ap (λ n. n / g) above) ∙ to_z_pos w128 (unsigned_abs c.args.upper / g) fits_above,
    )

use Rattle.std.proofs.Common.{rules, arith, ◌≡◌, pos, max, map, int_div, FitsSigned, to_z, of_z, ap, sym, ◌∙◌, subst}
use Rattle.std.specs.Int.{w128, int_div_euclid}
use Rattle.std.proofs.lemmas.Int.{to_z-of_z, to_z_pos}
use Rattle.farkas_cert.specs.declared.system.Row.{Row}
use Rattle.elim_rows.specs.Reduction.{IsCommonDivisor, divided}
use Rattle.elim_rows.proofs.Divisors.{divided-one}
use Rattle.elim_rows.proofs.reduction.reduce.Goals as goal

pub returns-then-divisor-le1 : goal.returns-then-divisor-le1
returns-then-divisor-le1 c =
    let g = c.common_divisor-divisor.result in
    let one : 1 ≡ max g 1 = omega arith in
    let row : Row = record { coefs = c.args.coefs.now.items; bound = c.args.bound } in
    let back : to_z w128 (of_z w128 c.args.bound) ≡ c.args.bound = to_z-of_z w128 c.args.bound c.ranges.bound in
    rw back (g, ap pos one, ((subst (λ xs. IsCommonDivisor xs g) c.as_slice.ensures.value c.common_divisor-divisor.ensures.common), sym (ap (λ n. divided n row) (sym one) ∙ divided-one row)))

pub returns : goal.returns
returns c =
    let g = c.common_divisor-divisor.result in
    let same : g ≡ max g 1 = omega arith in
    let positive : to_z w128 g ≡ pos g = to_z_pos w128 g (omega arith) in
    let coefs : c.divide_each.new.numbers.items ≡ map (λ a. int_div a (pos (max g 1))) c.args.coefs.now.items = rw (← same, ← positive) c.divide_each.ensures in
    let fits_quotient : FitsSigned w128 c.floor_quotient.result = search rules in
    let bound : to_z w128 (of_z w128 c.floor_quotient.result) ≡ int_div_euclid c.args.bound (pos (max g 1)) =
    to_z-of_z w128 c.floor_quotient.result fits_quotient ∙ c.floor_quotient.ensures ∙ ap (λ z. int_div_euclid z (to_z w128 g)) (to_z-of_z w128 c.args.bound c.ranges.bound) ∙ ap (int_div_euclid c.args.bound) (positive ∙ ap pos same) in
    (g, positive ∙ ap pos same, ((subst (λ xs. IsCommonDivisor xs g) c.as_slice.ensures.value c.common_divisor-divisor.ensures.common), ap (λ xs. record { coefs = xs; bound = to_z w128 (of_z w128 c.floor_quotient.result) }) coefs ∙ ap (λ b. record { coefs = map (λ a. int_div a (pos (max g 1))) c.args.coefs.now.items; bound = b }) bound))

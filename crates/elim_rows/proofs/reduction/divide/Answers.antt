use Rattle.std.proofs.Common.{rules, arith, ◌≡◌, ℤ, pos, length, int_div, get_or, set, FitsSigned, to_z, of_z, ap, ◌∙◌}
use Rattle.std.specs.Int.{w128}
use Rattle.std.proofs.lemmas.Int.{to_z-of_z}
use Rattle.std.proofs.lemmas.List.{get_or_default}
use Rattle.std.proofs.lemmas.List.Edits.{map_over_more}
use Rattle.elim_rows.proofs.reduction.divide.Goals as goal

pub loop-number-preserved : goal.loop-number-preserved
loop-number-preserved c =
    let xs = c.args.numbers.now in
    let ys = c.loop-number.numbers in
    let i = c.loop-number.number-index in
    let d = c.args.divisor in
    let x : ℤ = get_or ys i (pos 0) in
    let fits : FitsSigned w128 x = search rules in
    let back : to_z w128 (of_z w128 d) ≡ d = to_z-of_z w128 d c.ranges.divisor in
    let back_x : to_z w128 (of_z w128 x) ≡ x = to_z-of_z w128 x fits in
    let fits_q : FitsSigned w128 c.quotient.result = search rules in
    let here : to_z w128 (of_z w128 c.quotient.result) ≡ int_div x d = to_z-of_z w128 c.quotient.result fits_q ∙ c.quotient.ensures ∙ ap (λ z. int_div z (to_z w128 (of_z w128 d))) back_x ∙ ap (λ z. int_div x z) back in
    let so_far = rw back at c.loop-number.invariant in
    let same : length ys ≡ length xs = c.loop-number.auto.numbers in
    rw back (ap (λ z. set ys i z) here ∙ map_over_more (λ a. int_div a d) xs ys i x c.loop-number-test.true so_far (get_or_default ys i (pos 0) x (omega (arith, c.loop-number-test.true, same))))

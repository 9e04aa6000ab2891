use Rattle.std.proofs.Common.{rules, ◌≡◌, ℤ, pos, FitsSigned, int_div, int_rem, get_or, to_z, of_z, refl, sym, arith}
use Rattle.std.specs.Int.{w128}
use Rattle.std.specs.Ordering.{int_eq}
use Rattle.std.proofs.lemmas.Int.{to_z-of_z}
use Rattle.cert_arithmetic.proofs.Quotients.{list_all_where_none, mapped_where_some}
use Rattle.cert_arithmetic.proofs.division.divide_all.Goals as goal

pub returns-in-None-clause-all : goal.returns-in-None-clause-all
returns-in-None-clause-all g c =
    let divisor : to_z w128 (of_z w128 c.args.divisor) ≡ c.args.divisor = to_z-of_z w128 c.args.divisor c.ranges.divisor in
    let x : ℤ = get_or c.loop-number.numbers c.loop-number.number-index (pos 0) in
    let fits : FitsSigned w128 x = search rules in
    let number : to_z w128 (of_z w128 x) ≡ x = to_z-of_z w128 x fits in
    let answer = rw (divisor, number) at c.in-None.ensures.quotient in
    let front = rw divisor at c.loop-number.invariant.divided in
    sym (list_all_where_none (λ a. int_eq (int_rem a c.args.divisor) (pos 0)) (λ a. int_div a c.args.divisor) c.args.numbers.now c.loop-number.numbers c.loop-number.number-index (pos 0) c.loop-number-test.true c.loop-number.auto.numbers front x refl answer)

pub loop-number-preserved : goal.loop-number-preserved
loop-number-preserved g c =
    let divisor : to_z w128 (of_z w128 c.args.divisor) ≡ c.args.divisor = to_z-of_z w128 c.args.divisor c.ranges.divisor in
    let x : ℤ = get_or c.loop-number.numbers c.loop-number.number-index (pos 0) in
    let fits : FitsSigned w128 x = search rules in
    let number : to_z w128 (of_z w128 x) ≡ x = to_z-of_z w128 x fits in
    let fits_next : FitsSigned w128 c.in-Some.quotient = search rules in
    let next : to_z w128 (of_z w128 c.in-Some.quotient) ≡ c.in-Some.quotient = to_z-of_z w128 c.in-Some.quotient fits_next in
    let answer = rw (divisor, number) at c.in-Some.ensures.quotient in
    let front = rw divisor at c.loop-number.invariant.divided in
    let all = rw divisor at c.loop-number.invariant.all in
    let step = mapped_where_some (λ a. int_eq (int_rem a c.args.divisor) (pos 0)) (λ a. int_div a c.args.divisor) c.args.numbers.now c.loop-number.numbers c.loop-number.number-index (pos 0) c.loop-number-test.true c.loop-number.auto.numbers front x c.in-Some.quotient refl answer all in
    rw (divisor, next) (record { all = step.0; divided = step.1; counted = omega (arith, c.loop-number.invariant.counted, c.in-Some.ensures.counted) })

use Rattle.std.proofs.Common.{rules, FitsSigned, to_z, of_z, refl, ◌≡◌, pos, ◌<ℤ◌, int_rem, true, false, None, ◌++◌, ◌+◌, length, length-append, map, ◌∙◌}
use Rattle.std.specs.Int.{w128}
use Rattle.std.proofs.lemmas.Int.{to_z-of_z}
use Rattle.std.specs.Ordering.{int_eq}
use Rattle.std.specs.List.{list_all, range_with_len}
use Rattle.farkas_cert.specs.Combination.{sum_at}
use Rattle.farkas_cert.specs.Fault.{has_negative, names_bad_row, first_wide}
use Rattle.farkas_cert.proofs.Faults.{step_fault-divisor, divides-true, divides-false, made_row-sums}
use Rattle.farkas_cert.proofs.check.check_step.Goals as goal

pub returns-in-Some-clause-good : goal.returns-in-Some-clause-good
returns-in-Some-clause-good g c =
    let vars = c.args.system.now.vars in
    let rows = c.args.system.now.rows ++ c.args.made.now in
    let step = c.args.step.now in
    let signs : has_negative step.terms ≡ false = cc in
    let named : names_bad_row (length c.args.system.now.rows + length c.args.made.now) step.terms ≡ false = cc in
    let narrow : first_wide vars rows step.terms (range_with_len 0 (vars + 1)) ≡ None = rw (← c.as_slice-terms.ensures) c.in_ok-sums.ensures.narrow in
    let sums : c.in_ok-sums.sums.coefs ≡ map (sum_at vars rows step.terms) (range_with_len 0 vars) = rw (← c.as_slice-terms.ensures) c.in_ok-sums.ensures.coefs in
    let fits : FitsSigned w128 step.divisor = search rules in
    let back : to_z w128 (of_z w128 step.divisor) ≡ step.divisor = to_z-of_z w128 step.divisor fits in
    let divisor : (pos 0 <ℤ step.divisor) × (list_all (λ a. int_eq (int_rem a step.divisor) (pos 0)) c.in_ok-sums.sums.coefs ≡ true) = rw (← back) (c.in-Some.ensures.divides.0 refl) in
    step_fault-divisor vars rows c.args.number (length c.args.system.now.rows + length c.args.made.now) step signs named (length-append c.args.system.now.rows c.args.made.now) narrow ∙ rw (divides-true vars rows step c.in_ok-sums.sums.coefs sums divisor.0 divisor.1) refl

pub returns-in-Some-clause-made : goal.returns-in-Some-clause-made
returns-in-Some-clause-made g c =
    let vars = c.args.system.now.vars in
    let rows = c.args.system.now.rows ++ c.args.made.now in
    let step = c.args.step.now in
    let coefs : c.in_ok-sums.sums.coefs ≡ map (sum_at vars rows step.terms) (range_with_len 0 vars) = rw (← c.as_slice-terms.ensures) c.in_ok-sums.ensures.coefs in
    let bound : c.in_ok-sums.sums.bound ≡ sum_at vars rows step.terms vars = rw (← c.as_slice-terms.ensures) c.in_ok-sums.ensures.bound in
    let fits : FitsSigned w128 step.divisor = search rules in
    let back : to_z w128 (of_z w128 step.divisor) ≡ step.divisor = to_z-of_z w128 step.divisor fits in
    made_row-sums vars rows step c.in_ok-sums.sums c.in-Some.row coefs bound (rw back at c.in-Some.ensures.coefs) (rw back at c.in-Some.ensures.bound)

pub returns-in-None-clause-refused : goal.returns-in-None-clause-refused
returns-in-None-clause-refused g c =
    let vars = c.args.system.now.vars in
    let rows = c.args.system.now.rows ++ c.args.made.now in
    let step = c.args.step.now in
    let signs : has_negative step.terms ≡ false = cc in
    let named : names_bad_row (length c.args.system.now.rows + length c.args.made.now) step.terms ≡ false = cc in
    let narrow : first_wide vars rows step.terms (range_with_len 0 (vars + 1)) ≡ None = rw (← c.as_slice-terms.ensures) c.in_ok-sums.ensures.narrow in
    let sums : c.in_ok-sums.sums.coefs ≡ map (sum_at vars rows step.terms) (range_with_len 0 vars) = rw (← c.as_slice-terms.ensures) c.in_ok-sums.ensures.coefs in
    let fits : FitsSigned w128 step.divisor = search rules in
    let back : to_z w128 (of_z w128 step.divisor) ≡ step.divisor = to_z-of_z w128 step.divisor fits in
    let fails : (pos 0 <ℤ step.divisor) × (list_all (λ a. int_eq (int_rem a step.divisor) (pos 0)) c.in_ok-sums.sums.coefs ≡ true) → ⊥ = λ both. absurd (let clash = (rw back at c.in-None.ensures.divides.1) both in cc) in
    λ _. step_fault-divisor vars rows c.args.number (length c.args.system.now.rows + length c.args.made.now) step signs named (length-append c.args.system.now.rows c.args.made.now) narrow ∙ rw (divides-false vars rows step c.in_ok-sums.sums.coefs sums fails) refl

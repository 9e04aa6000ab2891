use Rattle.std.proofs.Common.{rules, ◌≡◌, ℤ, IsTrue, FitsSigned, to_z, of_z, refl, sym, subst, length}
use Rattle.std.specs.Int.{w128}
use Rattle.std.specs.List.{All}
use Rattle.std.proofs.lemmas.Int.{to_z-of_z}
use Rattle.farkas_cert.specs.declared.system.Row.{Row}
use Rattle.farkas_cert.specs.Combination.{is_narrow}
use Rattle.elim_rows.specs.Pairs.{combination}
use Rattle.elim_rows.specs.Reduction.{IsReducedBy}
use Rattle.elim_level.specs.Logs.{IsSuited}
use Rattle.elim_level.proofs.Lowest.{IsSuited-combination, IsSuited-reduced}
use Rattle.elim_level.proofs.Origins.{made_from}
use Rattle.elim_level.proofs.forming.paired.Goals as goal

pub combine-requires-clause-narrow : goal.combine-requires-clause-narrow
combine-requires-clause-narrow c =
    let m : ℤ = c.multipliers_of-m.result.0 in
    let n : ℤ = c.multipliers_of-m.result.1 in
    let fits_m : FitsSigned w128 m = search rules in
    let fits_n : FitsSigned w128 n = search rules in
    let back_m : to_z w128 (of_z w128 m) ≡ m = to_z-of_z w128 m fits_m in
    let back_n : to_z w128 (of_z w128 n) ≡ n = to_z-of_z w128 n fits_n in
    rw (back_m, back_n) (c.requires.narrow.narrow m n c.multipliers_of-m.ensures)

pub reduce-bound-requires : goal.reduce-bound-requires
reduce-bound-requires c =
    let m : ℤ = c.multipliers_of-m.result.0 in
    let n : ℤ = c.multipliers_of-m.result.1 in
    let fits_m : FitsSigned w128 m = search rules in
    let fits_n : FitsSigned w128 n = search rules in
    let back_m : to_z w128 (of_z w128 m) ≡ m = to_z-of_z w128 m fits_m in
    let back_n : to_z w128 (of_z w128 n) ≡ n = to_z-of_z w128 n fits_n in
    let sum = rw (back_m, back_n) at c.in_ok-sum.ensures in
    let u = c.args.upper.now.row in
    let suited = IsSuited-combination (length u.coefs) m n u c.args.lower.now.row refl c.requires.opposed.same (c.requires.narrow.narrow m n c.multipliers_of-m.ensures) in
    subst (λ (r : Row). All (λ a. IsTrue (is_narrow a)) r.coefs) (sym sum) suited.coefs

pub returns-clause-made : goal.returns-clause-made
returns-clause-made c =
    let m : ℤ = c.multipliers_of-m.result.0 in
    let n : ℤ = c.multipliers_of-m.result.1 in
    let u = c.args.upper.now.row in
    let l = c.args.lower.now.row in
    let fits_m : FitsSigned w128 m = search rules in
    let fits_n : FitsSigned w128 n = search rules in
    let fits_s : FitsSigned w128 c.in_ok-sum.sum = search rules in
    let fits_b : FitsSigned w128 c.reduce-bound.result.0 = search rules in
    let fits_d : FitsSigned w128 c.reduce-bound.result.1 = search rules in
    let back_m : to_z w128 (of_z w128 m) ≡ m = to_z-of_z w128 m fits_m in
    let back_n : to_z w128 (of_z w128 n) ≡ n = to_z-of_z w128 n fits_n in
    let back_s : to_z w128 (of_z w128 c.in_ok-sum.sum) ≡ c.in_ok-sum.sum = to_z-of_z w128 c.in_ok-sum.sum fits_s in
    let back_b : to_z w128 (of_z w128 c.reduce-bound.result.0) ≡ c.reduce-bound.result.0 = to_z-of_z w128 c.reduce-bound.result.0 fits_b in
    let back_d : to_z w128 (of_z w128 c.reduce-bound.result.1) ≡ c.reduce-bound.result.1 = to_z-of_z w128 c.reduce-bound.result.1 fits_d in
    let sum = rw (back_m, back_n) at c.in_ok-sum.ensures in
    let by = rw back_s at c.reduce-bound.ensures in
    let row : Row = record { coefs = c.reduce-bound.new.coefs.items; bound = c.reduce-bound.result.0 } in
    let reduced : IsReducedBy by.0 (combination m u n l) row = subst (λ (r : Row). IsReducedBy by.0 r row) sum by.2 in
    rw (back_m, back_n, back_b, back_d) (made_from c.args.variable c.args.upper.now c.args.lower.now row m n c.reduce-bound.result.1 by.0 c.multipliers_of-m.ensures (c.requires.narrow.narrow m n c.multipliers_of-m.ensures) reduced by.1)

pub returns-clause-narrow : goal.returns-clause-narrow
returns-clause-narrow c =
    let m : ℤ = c.multipliers_of-m.result.0 in
    let n : ℤ = c.multipliers_of-m.result.1 in
    let u = c.args.upper.now.row in
    let fits_m : FitsSigned w128 m = search rules in
    let fits_n : FitsSigned w128 n = search rules in
    let fits_s : FitsSigned w128 c.in_ok-sum.sum = search rules in
    let back_m : to_z w128 (of_z w128 m) ≡ m = to_z-of_z w128 m fits_m in
    let back_n : to_z w128 (of_z w128 n) ≡ n = to_z-of_z w128 n fits_n in
    let back_s : to_z w128 (of_z w128 c.in_ok-sum.sum) ≡ c.in_ok-sum.sum = to_z-of_z w128 c.in_ok-sum.sum fits_s in
    let sum = rw (back_m, back_n) at c.in_ok-sum.ensures in
    let by = rw back_s at c.reduce-bound.ensures in
    let suited = IsSuited-combination (length u.coefs) m n u c.args.lower.now.row refl c.requires.opposed.same (c.requires.narrow.narrow m n c.multipliers_of-m.ensures) in
    (IsSuited-reduced (length u.coefs) by.0 (record { coefs = c.combine.new.coefs.items; bound = c.in_ok-sum.sum }) (record { coefs = c.reduce-bound.new.coefs.items; bound = c.reduce-bound.result.0 }) (subst (IsSuited (length u.coefs)) (sym sum) suited) by.2).coefs

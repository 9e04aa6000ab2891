use Rattle.std.proofs.Common.{rules, ◌≡◌, ℤ, FitsSigned, to_z, of_z}
use Rattle.std.specs.Int.{w128}
use Rattle.std.proofs.lemmas.Int.{to_z-of_z}
use Rattle.elim_level.proofs.Sizes.{pair_answer}
use Rattle.elim_level.proofs.pairs.is_narrow_pair.Goals as goal

pub returns : goal.returns
returns c =
    let m : ℤ = c.multipliers_of-m.result.0 in
    let n : ℤ = c.multipliers_of-m.result.1 in
    let fits_m : FitsSigned w128 m = search rules in
    let fits_n : FitsSigned w128 n = search rules in
    let back_m : to_z w128 (of_z w128 m) ≡ m = to_z-of_z w128 m fits_m in
    let back_n : to_z w128 (of_z w128 n) ≡ n = to_z-of_z w128 n fits_n in
    pair_answer c.args.variable c.args.upper.now c.args.lower.now m n c.is_narrow_combination.result c.multipliers_of-m.ensures (rw (back_m, back_n) at c.is_narrow_combination.ensures)

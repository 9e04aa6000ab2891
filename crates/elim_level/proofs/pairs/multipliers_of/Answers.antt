use Rattle.std.proofs.Common.{rules, ◌≡◌, ℤ, FitsSigned, to_z, of_z, ◌∙◌}
use Rattle.std.specs.Int.{w128}
use Rattle.std.proofs.lemmas.Int.{to_z-of_z}
use Rattle.elim_rows.specs.Pairs.{coef_of}
use Rattle.elim_level.proofs.Sizes.{pair_from}
use Rattle.elim_level.proofs.pairs.multipliers_of.Goals as goal

pub returns : goal.returns
returns c =
    let v = c.args.variable in
    let u = c.args.upper.now in
    let l = c.args.lower.now in
    let fits_a : FitsSigned w128 c.coef_of.result = search rules in
    let fits_b : FitsSigned w128 c.coef_of-2.result = search rules in
    let a : ℤ = to_z w128 (of_z w128 c.coef_of.result) in
    let b : ℤ = to_z w128 (of_z w128 c.coef_of-2.result) in
    let ea : a ≡ coef_of v u = to_z-of_z w128 c.coef_of.result fits_a ∙ c.coef_of.ensures in
    let eb : b ≡ coef_of v l = to_z-of_z w128 c.coef_of-2.result fits_b ∙ c.coef_of-2.ensures in
    pair_from v u l a b c.multipliers.result.0 c.multipliers.result.1 ea eb c.requires.above c.requires.below c.multipliers.ensures

use Rattle.std.proofs.Common.{rules, ◌≡◌, ◌*◌, ◌≤◌, ◌^◌, unsigned_abs, FitsSigned, ap, sym, ◌∙◌, subst}
use Rattle.std.specs.Int.{w128}
use Rattle.std.proofs.lemmas.Int.{to_z-of_z}
use Rattle.elim_rows.specs.Pairs.{coef_of}
use Rattle.elim_level.proofs.Sizes.{small_pair, le_from_test}
use Rattle.elim_level.proofs.pairs.is_small.Goals as goal

pub returns-then-has_half_product : goal.returns-then-has_half_product
returns-then-has_half_product c = λ yes lower within low.
    let v = c.args.variable in
    let u = c.args.upper.now in
    let fits : FitsSigned w128 c.coef_of.result = search rules in
    let size : c.unsigned_abs.result ≡ unsigned_abs (coef_of v u) = c.unsigned_abs.ensures.value ∙ ap unsigned_abs (to_z-of_z w128 c.coef_of.result fits ∙ c.coef_of.ensures) in
    let first = le_from_test (c.args.lowers.coef * c.largest_in.result) (2 ^ 125) (sym c.if-has_half_product.ensures) in
    let second = le_from_test (c.unsigned_abs.result * c.args.lowers.entry) (2 ^ 125) (sym c.has_half_product-then-has_half_product.ensures ∙ yes) in
    small_pair v c.args.lowers.coef c.args.lowers.entry c.largest_in.result u lower c.largest_in.ensures first (subst (λ n. n * c.args.lowers.entry ≤ 2 ^ 125) size second) within low

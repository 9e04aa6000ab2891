use Rattle.std.proofs.Common.{rules, ◌≡◌, ◌*ℤ◌, FitsSigned, w64, subst, to_z, of_z}
use Rattle.std.proofs.lemmas.Int.{to_z-of_z}
use Rattle.nest_tree.specs.Values.{wrapped}
use Rattle.c_expressions.specs.Sums.{Adds}
use Rattle.c_expressions.proofs.Summed.{adds_wrapped}
use Rattle.c_expressions.proofs.sum.Sum.add_product.Goals as goal

pub returns : goal.returns
returns c =
    let fa : FitsSigned w64 c.args.a = c.ranges.a in
    let fb : FitsSigned w64 c.args.b = c.ranges.b in
    let fc : FitsSigned w64 c.args.c = c.ranges.c in
    let fp : FitsSigned w64 c.product-product.result = search rules in
    let value : c.product-product.result ≡ wrapped (c.args.a *ℤ c.args.b) = simp to_z-of_z at c.product-product.ensures.value in
    let first = subst (λ z. Adds c.product-product.new.self c.add.new.self (λ v. z *ℤ to_z w64 (of_z w64 c.args.c))) (to_z-of_z w64 c.product-product.result fp) c.add.ensures in
    let added = subst (λ z. Adds c.product-product.new.self c.add.new.self (λ v. c.product-product.result *ℤ z)) (to_z-of_z w64 c.args.c fc) first in
    adds_wrapped c.args.self.now c.product-product.new.self c.add.new.self c.product-product.result (c.args.a *ℤ c.args.b) (λ v. c.args.c) value c.product-product.ensures.constant c.product-product.ensures.terms
    (λ h. let y = c.product-product.ensures.exact h in let exact : c.product-product.result ≡ c.args.a *ℤ c.args.b = simp to_z-of_z at y.1 in (y.0, exact))
    added

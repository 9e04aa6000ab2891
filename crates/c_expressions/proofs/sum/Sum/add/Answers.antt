use Rattle.std.proofs.Common.{rules, ◌≡◌, ◌+ℤ◌, ◌*ℤ◌, FitsSigned, w64, ap, ◌∙◌}
use Rattle.std.proofs.lemmas.Int.{to_z-of_z}
use Rattle.nest_tree.specs.Values.{wrapped}
use Rattle.c_expressions.proofs.Summed.{adds_number}
use Rattle.c_expressions.proofs.sum.Sum.add.Goals as goal

pub returns : goal.returns
returns c =
    let fa : FitsSigned w64 c.args.a = c.ranges.a in
    let fb : FitsSigned w64 c.args.b = c.ranges.b in
    let fp : FitsSigned w64 c.product-product.result = search rules in
    let fk : FitsSigned w64 c.product-product.new.self.constant = search rules in
    let fr : FitsSigned w64 c.both-self.result = search rules in
    let value : c.product-product.result ≡ wrapped (c.args.a *ℤ c.args.b) = simp to_z-of_z at c.product-product.ensures.value in
    let whole : c.both-self.result ≡ wrapped (c.product-product.new.self.constant +ℤ c.product-product.result) = simp to_z-of_z at c.both-self.ensures.value in
    let same = c.product-product.ensures.constant in
    adds_number c.args.self.now _ c.product-product.result (c.args.a *ℤ c.args.b) value
    (to_z-of_z w64 c.both-self.result fr ∙ whole ∙ ap (λ k. wrapped (k +ℤ c.product-product.result)) same)
    (ap (λ t. t.items) (c.both-self.ensures.terms ∙ c.product-product.ensures.terms))
    (λ h.
    let x = c.both-self.ensures.exact h in
    let y = c.product-product.ensures.exact x.0 in
    let exact : c.product-product.result ≡ c.args.a *ℤ c.args.b = simp to_z-of_z at y.1 in
    let sum : c.both-self.result ≡ c.product-product.new.self.constant +ℤ c.product-product.result = simp to_z-of_z at x.1 in
    (y.0, exact, to_z-of_z w64 c.both-self.result fr ∙ sum ∙ ap (λ k. k +ℤ c.product-product.result) same))

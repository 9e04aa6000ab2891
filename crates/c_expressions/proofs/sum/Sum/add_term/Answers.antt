use Rattle.std.proofs.Common.{rules, ◌≡◌, ◌*ℤ◌, OnOk, FitsSigned, w64, subst}
use Rattle.std.proofs.lemmas.Int.{to_z-of_z}
use Rattle.std.proofs.lemmas.Result.{on_ok_weaker}
use Rattle.nest_tree.specs.Values.{wrapped}
use Rattle.c_expressions.specs.Names.{term_name}
use Rattle.c_expressions.specs.Sums.{Adds}
use Rattle.c_expressions.proofs.Summed.{adds_wrapped}
use Rattle.c_expressions.proofs.sum.Sum.add_term.Goals as goal

pub returns : goal.returns
returns c =
    let fa : FitsSigned w64 c.args.a = c.ranges.a in
    let fb : FitsSigned w64 c.args.b = c.ranges.b in
    let fp : FitsSigned w64 c.product-coefficient.result = search rules in
    let value : c.product-coefficient.result ≡ wrapped (c.args.a *ℤ c.args.b) = simp to_z-of_z at c.product-coefficient.ensures.value in
    let added = subst (λ z. OnOk c.add_multiple.result (Adds c.product-coefficient.new.self c.add_multiple.new.self (λ v. z *ℤ v (term_name c.args.term)))) (to_z-of_z w64 c.product-coefficient.result fp) c.add_multiple.ensures in
    on_ok_weaker c.add_multiple.result
    (adds_wrapped c.args.self.now c.product-coefficient.new.self c.add_multiple.new.self c.product-coefficient.result (c.args.a *ℤ c.args.b) (λ v. v (term_name c.args.term)) value c.product-coefficient.ensures.constant c.product-coefficient.ensures.terms
    (λ h. let y = c.product-coefficient.ensures.exact h in let exact : c.product-coefficient.result ≡ c.args.a *ℤ c.args.b = simp to_z-of_z at y.1 in (y.0, exact)))
    added

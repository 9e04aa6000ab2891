use Rattle.std.proofs.Common.{rules, ◌≡◌, ◌+◌, ◌+ℤ◌, ◌-ℤ◌, ◌*ℤ◌, ℤ, [], drop, pos, negsuc, FitsSigned, to_z, of_z, w64, ap, ap₂, sym, ◌∙◌, subst}
use Rattle.std.proofs.lemmas.Int.{to_z-of_z}
use Rattle.std.proofs.lemmas.List.{drop_all}
use Rattle.nest_tree.specs.Form.{Form}
use Rattle.nest_tree.specs.Tree.{param_values}
use Rattle.nest_tree.specs.Values.{wrapped}
use Rattle.nest_tree.specs.View.{tree_of}
use Rattle.c_expressions.specs.Sums.{Adds, form_at, place_at}
use Rattle.c_expressions.proofs.Summed.{adds_same, adds_then, place_next, place_none, place_over, place_parts, sums_all, sums_next, sums_none}
use Rattle.c_expressions.proofs.scope.Scope.element.Goals as goal

pub loop-dimension-init : goal.loop-dimension-init
loop-dimension-init c = sums_none c.new-place.result _ c.new-place.ensures

pub returns-in_default : goal.returns-in_default
returns-in_default c =
    let none : drop c.loop-dimension.dimension c.args.bounds.now ≡ [] = drop_all c.loop-dimension.dimension c.args.bounds.now c.in_default.ensures.lookup.3 in
    sums_all c.loop-dimension.place _ _ c.loop-dimension.invariant (λ v. place_none _ _ (drop c.loop-dimension.dimension c.args.subscripts.now) (drop c.loop-dimension.dimension c.args.bounds.now) v none)

pub loop-dimension-preserved : goal.loop-dimension-preserved
loop-dimension-preserved c =
    let values = param_values (tree_of c.args.self.now.program.now) in
    let stride = to_z w64 c.loop-dimension.stride-bits in
    let i = c.loop-dimension.dimension in
    let subscripts = c.args.subscripts.now in
    let bounds = c.args.bounds.now in
    let form = c.index-subscripts-dimension.result in
    let pair = c.in-Some.field-0.now in
    let fl : FitsSigned w64 pair.0 = search rules in
    let fh : FitsSigned w64 pair.1 = search rules in
    let fr : FitsSigned w64 c.next_stride-stride.result = search rules in
    let found = c.in-Some.ensures.lookup in
    let low = subst (λ z. Adds c.add_form.new.sum c.add_product.new.self (λ v. z *ℤ stride *ℤ negsuc 0)) (to_z-of_z w64 pair.0 fl) c.add_product.ensures in
    let both = adds_same c.loop-dimension.place c.add_product.new.self (λ v. stride *ℤ form_at values form v +ℤ pair.0 *ℤ stride *ℤ negsuc 0) (λ v. stride *ℤ (form_at values form v -ℤ pair.0)) (λ v. place_parts stride (form_at values form v) pair.0)
    (adds_then c.loop-dimension.place c.add_form.new.sum c.add_product.new.self (λ v. stride *ℤ form_at values form v) (λ v. pair.0 *ℤ stride *ℤ negsuc 0) c.in_ok-add_form.ensures low) in
    let next : c.next_stride-stride.result ≡ wrapped (stride *ℤ wrapped (pair.1 -ℤ pair.0 +ℤ pos 1)) = simp to_z-of_z at c.next_stride-stride.ensures in
    let kept : wrapped (stride *ℤ wrapped (pair.1 -ℤ pair.0 +ℤ pos 1)) ≡ to_z w64 (of_z w64 c.next_stride-stride.result) = sym (to_z-of_z w64 c.next_stride-stride.result fr ∙ next) in
    sums_next c.loop-dimension.place c.add_product.new.self (place_at values stride (drop i subscripts) (drop i bounds)) (λ v. stride *ℤ (form_at values form v -ℤ pair.0))
    (place_at values (to_z w64 (of_z w64 c.next_stride-stride.result)) (drop (i + 1) subscripts) (drop (i + 1) bounds)) _ c.loop-dimension.invariant both
    (λ v. place_next values stride subscripts bounds i form pair v c.loop-dimension-test.true found.3.0
    ∙ ap₂ (λ (f : Form) (b : ℤ × ℤ). stride *ℤ (form_at values f v -ℤ b.0) +ℤ place_at values (wrapped (stride *ℤ wrapped (b.1 -ℤ b.0 +ℤ pos 1))) (drop (i + 1) subscripts) (drop (i + 1) bounds) v)
    (sym c.index-subscripts-dimension.is) (sym found.1)
    ∙ ap (λ z. stride *ℤ (form_at values form v -ℤ pair.0) +ℤ place_at values z (drop (i + 1) subscripts) (drop (i + 1) bounds) v) kept)

pub returns : goal.returns
returns c =
    let none : drop c.loop-dimension.dimension c.args.subscripts.now ≡ [] = drop_all c.loop-dimension.dimension c.args.subscripts.now c.loop-dimension-test.false in
    sums_all c.loop-dimension.place _ _ c.loop-dimension.invariant (λ v. place_over _ _ (drop c.loop-dimension.dimension c.args.subscripts.now) (drop c.loop-dimension.dimension c.args.bounds.now) v none)

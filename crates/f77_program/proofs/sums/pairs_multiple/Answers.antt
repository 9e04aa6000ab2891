use Rattle.std.proofs.Common.{◌≡◌, ◌*ℤ◌, ◌++◌, [], get_or, pos, rules, FitsSigned, w64, to_z, of_z, ap, ◌∙◌}
use Rattle.std.proofs.lemmas.Int.{to_z-of_z}
use Rattle.f77_scene.specs.Affine.{kept}
use Rattle.f77_program.proofs.Summed.{rises-small, multiple_step}
use Rattle.f77_program.proofs.sums.pairs_multiple.Goals as goal

pub small_product-requires-clause-b : goal.small_product-requires-clause-b
small_product-requires-clause-b c =
    let f : FitsSigned w64 (get_or c.args.pairs.now c.loop-number.number-index (0, pos 0)).1 = search rules in
    rw (to_z-of_z w64 (get_or c.args.pairs.now c.loop-number.number-index (0, pos 0)).1 f) (rises-small 0 c.args.pairs.now c.loop-number.number-index (0, pos 0) c.requires.pairs c.loop-number-test.true)

pub loop-number-preserved : goal.loop-number-preserved
loop-number-preserved c =
    let pairs = c.args.pairs.now in
    let i = c.loop-number.number-index in
    let p = get_or pairs i (0, pos 0) in
    let z = to_z w64 (of_z w64 c.args.factor) in
    let v = c.small_product.result in
    let g : FitsSigned w64 p.1 = search rules in
    let r : FitsSigned w64 v = search rules in
    let product : v ≡ z *ℤ p.1 = c.small_product.ensures ∙ ap (λ y. z *ℤ y) (to_z-of_z w64 p.1 g) in
    let pushed : c.push_kept.new.pairs ≡ c.loop-number.multiple ++ kept p.0 v [] = c.in_ok-push_kept.ensures ∙ ap (λ y. c.loop-number.multiple ++ kept p.0 y []) (to_z-of_z w64 v r) in
    multiple_step z pairs c.loop-number.multiple c.push_kept.new.pairs i (0, pos 0) v c.loop-number-test.true c.loop-number.invariant product pushed

use Rattle.std.proofs.Common.{◌≡◌, ◌+◌, ◌-◌, ◌++◌, ◌∷◌, [], ap, ◌∙◌}
use Rattle.f77_scene.specs.Directives as directives
use Rattle.f77_source.specs.Placings.{item_text}
use Rattle.f77_source.proofs.Placed.{items_text-more}
use Rattle.f77_source.proofs.placing.items_text.Goals as goal

pub loop-dimension-preserved : goal.loop-dimension-preserved
loop-dimension-preserved c =
    let p = c.args.placing in
    let i = c.loop-dimension.dimension in
    let text = c.loop-dimension.text.items in
    let item = item_text (i + 1) p in
    let rest = directives.items_text (c.args.dimensions - (i + 1)) (i + 1 + 1) p in
    let new : c.extend_from_slice.new.self.items ≡ (text ++ 44 ∷ []) ++ item =
    c.in_ok-extend_from_slice.ensures.items ∙ ap (λ t. c.push.new.self.items ++ t) c.item_text.ensures ∙ ap (λ xs. xs ++ item) c.in_ok-push.ensures.items in
    ap (λ xs. xs ++ rest) new ∙ items_text-more text c.args.dimensions i p c.loop-dimension-test.true ∙ c.loop-dimension.invariant

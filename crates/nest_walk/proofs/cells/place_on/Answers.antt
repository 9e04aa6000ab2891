use Rattle.std.proofs.Common.{get_or, map, pos, ◌-◌, ◌∙◌, w64, rules, FitsSigned, refl}
use Rattle.std.proofs.lemmas.Int.{to_z-of_z}
use Rattle.nest_tree.specs.declared.tree.Parameter.{Parameter}
use Rattle.nest_walk.specs.RoundsOf.{rounds_of}
use Rattle.nest_walk.proofs.CellSums.{place_step}
use Rattle.nest_walk.proofs.cells.place_on.Goals as goal

pub loop-dimension-preserved : goal.loop-dimension-preserved
loop-dimension-preserved c =
    let k = c.loop-dimension.dimension in
    let bounds = c.args.bounds.now in
    let b = get_or bounds (k - 1) (pos 0, pos 0) in
    let params = map (λ (p : Parameter). p.value) c.args.params.now in
    let f1 : FitsSigned w64 c.value_at-subscript.result = search rules in
    let f2 : FitsSigned w64 c.dimension_place-place.result = search rules in
    let next = simp to_z-of_z at c.dimension_place-place.ensures in
    to_z-of_z w64 c.dimension_place-place.result f2
    ∙ place_step bounds c.args.subscripts.now (rounds_of c.args.path.now) params k b c.index-subscripts-dimension.result c.value_at-subscript.result _ c.dimension_place-place.result c.loop-dimension-test.true
    c.loop-dimension.auto.dimension c.requires.as_many refl c.index-subscripts-dimension.is c.value_at-subscript.ensures.value c.loop-dimension.invariant next

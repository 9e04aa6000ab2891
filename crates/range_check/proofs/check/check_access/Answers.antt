use Rattle.std.proofs.Common.{◌≡◌, ◌+◌, pos, Err, List, length, drop, get_or, w64, FitsSigned, ap, sym, ◌∙◌, rules, arith}
use Rattle.std.specs.Option.{option_or}
use Rattle.std.specs.Result.{result_err}
use Rattle.std.proofs.lemmas.Int.{to_z-of_z}
use Rattle.nest_tree.specs.Form.{Form}
use Rattle.nest_tree.specs.Layout.{bounds_of}
use Rattle.nest_tree.specs.View.{tree_of}
use Rattle.nest_tree.proofs.Wide.{first_refused}
use Rattle.nest_model.specs.Accesses.{subscript_values}
use Rattle.nest_walk.specs.Cursors.{loops_in}
use Rattle.nest_walk.specs.RoundsOf.{rounds_of}
use Rattle.range_check.specs.Outside.{first_outside, subscript_outside}
use Rattle.range_check.proofs.Dimensions.{all_dimensions, dimension_step, dimensions}
use Rattle.range_check.proofs.check.check_access.Goals as goal

pub bounds-subscripts-dimension : goal.bounds-subscripts-dimension
bounds-subscripts-dimension c =
    let known = dimensions c.args.program.now c.args.access.now c.args.path.now c.index.result.now c.as_slice-bounds.result.now c.args.program.now.formed c.requires.sound c.index.ensures c.as_slice-bounds.ensures.value in
    omega (arith, known.as_many, c.loop-dimension-test.true, ap (λ (fs : List Form). length fs) c.as_slice-subscripts.ensures)

pub offset_bounds-subscripts-dimension : goal.offset_bounds-subscripts-dimension
offset_bounds-subscripts-dimension c =
    let known = dimensions c.args.program.now c.args.access.now c.args.path.now c.index.result.now c.as_slice-bounds.result.now c.args.program.now.formed c.requires.sound c.index.ensures c.as_slice-bounds.ensures.value in
    search (rules, known.few)

pub overflow_cast-dimension : goal.overflow_cast-dimension
overflow_cast-dimension c =
    let known = dimensions c.args.program.now c.args.access.now c.args.path.now c.index.result.now c.as_slice-bounds.result.now c.args.program.now.formed c.requires.sound c.index.ensures c.as_slice-bounds.ensures.value in
    search (rules, known.few)

pub overflow_add-dimension : goal.overflow_add-dimension
overflow_add-dimension c =
    let known = dimensions c.args.program.now c.args.access.now c.args.path.now c.index.result.now c.as_slice-bounds.result.now c.args.program.now.formed c.requires.sound c.index.ensures c.as_slice-bounds.ensures.value in
    search (rules, known.few)

pub returns-in_err-check_subscript : goal.returns-in_err-check_subscript
returns-in_err-check_subscript c =
    let line = c.args.line in
    let d = c.loop-dimension.dimension in
    let bounds = bounds_of (tree_of c.args.program.now) c.args.access.now.variable in
    let values = subscript_values (tree_of c.args.program.now) (loops_in (tree_of c.args.program.now) (rounds_of c.args.path.now)) c.args.access.now.subscripts in
    let rest = first_outside line (d + 1 + 1) (drop (d + 1) bounds) (drop (d + 1) values) in
    let fits : FitsSigned w64 c.value_at-value.result = search rules in
    let value = ap (subscript_outside line (d + 1) (get_or c.as_slice-bounds.result.now d (pos 0, pos 0))) (to_z-of_z w64 c.value_at-value.result fits) in
    let step = dimension_step c.args.program.now c.args.access.now c.args.path.now c.index.result.now c.as_slice-bounds.result.now c.args.program.now.formed c.requires.sound c.index.ensures c.as_slice-bounds.ensures.value c.args.line c.loop-dimension.dimension c.as_slice-subscripts.result.now c.index-subscripts-dimension.result c.deref.result.now c.value_at-value.result c.requires.numbered c.as_slice-subscripts.ensures c.loop-dimension-test.true c.index-subscripts-dimension.is c.deref.ensures.value c.value_at-value.ensures.value in
    let same : c.from_residual.result ≡ Err c.in_err-check_subscript.field-0.0 = search rules in
    ap result_err same ∙ first_refused c.in_err-check_subscript.field-0.0 _ rest _ (c.in_err-check_subscript.ensures ∙ value) (sym c.loop-dimension.invariant ∙ step)

pub loop-dimension-preserved : goal.loop-dimension-preserved
loop-dimension-preserved c =
    let line = c.args.line in
    let d = c.loop-dimension.dimension in
    let bounds = bounds_of (tree_of c.args.program.now) c.args.access.now.variable in
    let values = subscript_values (tree_of c.args.program.now) (loops_in (tree_of c.args.program.now) (rounds_of c.args.path.now)) c.args.access.now.subscripts in
    let rest = first_outside line (d + 1 + 1) (drop (d + 1) bounds) (drop (d + 1) values) in
    let fits : FitsSigned w64 c.value_at-value.result = search rules in
    let value = ap (subscript_outside line (d + 1) (get_or c.as_slice-bounds.result.now d (pos 0, pos 0))) (to_z-of_z w64 c.value_at-value.result fits) in
    let step = dimension_step c.args.program.now c.args.access.now c.args.path.now c.index.result.now c.as_slice-bounds.result.now c.args.program.now.formed c.requires.sound c.index.ensures c.as_slice-bounds.ensures.value c.args.line c.loop-dimension.dimension c.as_slice-subscripts.result.now c.index-subscripts-dimension.result c.deref.result.now c.value_at-value.result c.requires.numbered c.as_slice-subscripts.ensures c.loop-dimension-test.true c.index-subscripts-dimension.is c.deref.ensures.value c.value_at-value.ensures.value in
    ap (λ o. option_or o rest) (c.in_ok-check_subscript.ensures ∙ value) ∙ sym step ∙ c.loop-dimension.invariant

pub returns : goal.returns
returns c =
    sym (all_dimensions c.args.program.now c.args.access.now c.args.path.now c.index.result.now c.as_slice-bounds.result.now c.args.program.now.formed c.requires.sound c.index.ensures c.as_slice-bounds.ensures.value c.args.line c.loop-dimension.dimension c.loop-dimension-test.false) ∙ c.loop-dimension.invariant

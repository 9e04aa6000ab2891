use Rattle.std.proofs.Common.{◌≡◌, ℤ, ◌+ℤ◌, ◌*ℤ◌, List, length, map, pos, ap, sym, ◌∙◌, w64, rules, arith, FitsSigned}
use Rattle.std.specs.List.{list_all}
use Rattle.std.proofs.lemmas.Int.{ints, int_wrap-add_right, to_z-of_z}
use Rattle.nest_tree.specs.Form.{Form}
use Rattle.nest_tree.specs.Layout.{bounds_of, first_cell}
use Rattle.nest_tree.specs.Tree.{Tree, param_values}
use Rattle.nest_tree.specs.Values.{wrapped}
use Rattle.nest_tree.specs.View.{tree_of}
use Rattle.nest_tree.specs.WellFormed.{is_good_dimension}
use Rattle.nest_tree.specs.declared.tree.Parameter.{Parameter}
use Rattle.nest_tree.proofs.Cells.{declared-numbered}
use Rattle.nest_walk.specs.Places.{place_among}
use Rattle.nest_walk.specs.RoundsOf.{rounds_of}
use Rattle.nest_walk.proofs.CellPlaces.{bounds-good}
use Rattle.nest_walk.proofs.CursorMoves.{values_are}
use Rattle.nest_walk.proofs.cells.cell_on.Goals as goal

pub place_on-place-requires-clause-good : goal.place_on-place-requires-clause-good
place_on-place-requires-clause-good c =
    let v = declared-numbered c.args.program.now c.args.access.now.variable c.index.result.now c.args.program.now.formed c.requires.there.low c.requires.there.high c.index.ensures in
    rw c.deref.ensures.value (ap (list_all is_good_dimension) (sym v.bounds) ∙ bounds-good (tree_of c.args.program.now) c.args.access.now.variable c.args.program.now.formed)

pub place_on-place-requires-clause-as_many : goal.place_on-place-requires-clause-as_many
place_on-place-requires-clause-as_many c =
    let v = declared-numbered c.args.program.now c.args.access.now.variable c.index.result.now c.args.program.now.formed c.requires.there.low c.requires.there.high c.index.ensures in
    ap (λ (fs : List Form). length fs) c.as_slice.ensures ∙ c.requires.there.as_many ∙ ap (λ (bs : List (ℤ × ℤ)). length bs) (v.bounds ∙ sym c.deref.ensures.value)

pub returns : goal.returns
returns c =
    let tree = tree_of c.args.program.now in
    let a = c.args.access.now in
    let rounds = rounds_of c.args.path.now in
    let v = declared-numbered c.args.program.now a.variable c.index.result.now c.args.program.now.formed c.requires.there.low c.requires.there.high c.index.ensures in
    let f1 : FitsSigned w64 c.from-first.result = search rules in
    let f2 : FitsSigned w64 c.place_on-place.result = search rules in
    let f3 : FitsSigned w64 c.with_product.result = search rules in
    let sum = simp to_z-of_z at c.with_product.ensures in
    let at = c.first_cell.ensures ∙ ap (λ (t : Tree). first_cell t a.variable) c.layout.ensures in
    let from = c.from-first.ensures in
    let first : c.from-first.result ≡ pos (first_cell tree a.variable) = omega (arith, ints, from, at) in
    let bounds = c.deref.ensures.value ∙ sym v.bounds in
    let params = ap (λ ps. map (λ (p : Parameter). p.value) ps) c.deref-2.ensures.value ∙ sym (values_are c.args.program.now.params.items) in
    let place = c.place_on-place.ensures ∙ ap (λ bs. wrapped (place_among bs c.as_slice.result.now rounds (map (λ (p : Parameter). p.value) c.deref-2.result.now))) bounds
    ∙ ap (λ fs. wrapped (place_among (bounds_of tree a.variable) fs rounds (map (λ (p : Parameter). p.value) c.deref-2.result.now))) c.as_slice.ensures
    ∙ ap (λ ps. wrapped (place_among (bounds_of tree a.variable) a.subscripts rounds ps)) params in
    let once : c.from-first.result +ℤ pos 1 *ℤ c.place_on-place.result ≡ c.from-first.result +ℤ c.place_on-place.result = omega (arith, ints) in
    to_z-of_z w64 c.with_product.result f3 ∙ sum ∙ ap wrapped once ∙ ap (λ z. wrapped (z +ℤ c.place_on-place.result)) first ∙ ap (λ z. wrapped (pos (first_cell tree a.variable) +ℤ z)) place
    ∙ int_wrap-add_right w64 (pos (first_cell tree a.variable)) (place_among (bounds_of tree a.variable) a.subscripts rounds (param_values tree))

use Rattle.std.proofs.Common.{◌∙◌, length, arith, ap, sym}
use Rattle.nest_tree.specs.Layout.{are_inside, element_count, element_place}
use Rattle.nest_tree.specs.View.{declaration_of, tree_of}
use Rattle.nest_tree.proofs.FirstLimits.{kept}
use Rattle.nest_tree.proofs.Cells.{declared-numbered}
use Rattle.nest_tree.proofs.Places.{good_declaration}
use Rattle.nest_tree.proofs.layout.Layout.cell_of.Goals as goal

pub element_place-requires-clause-good : goal.element_place-requires-clause-good
element_place-requires-clause-good c =
    let v = declared-numbered c.args.self.now.program.now c.args.variable c.index.result.now c.args.self.now.program.now.formed c.requires.low c.requires.high c.index.ensures in
    rw c.deref.ensures.value (good_declaration (declaration_of c.index.result.now) v.good).0

pub element_place-requires-clause-few : goal.element_place-requires-clause-few
element_place-requires-clause-few c =
    let v = declared-numbered c.args.self.now.program.now c.args.variable c.index.result.now c.args.self.now.program.now.formed c.requires.low c.requires.high c.index.ensures in
    rw c.deref.ensures.value (omega (arith, v.within, (kept (tree_of c.args.self.now.program.now) c.args.self.now.program.now.limits).most_counted))

pub element_place-requires-clause-as_many : goal.element_place-requires-clause-as_many
element_place-requires-clause-as_many c =
    let v = declared-numbered c.args.self.now.program.now c.args.variable c.index.result.now c.args.self.now.program.now.formed c.requires.low c.requires.high c.index.ensures in
    rw c.deref.ensures.value (c.requires.as_many ∙ ap length v.bounds)

pub element_place-requires-clause-inside : goal.element_place-requires-clause-inside
element_place-requires-clause-inside c =
    let v = declared-numbered c.args.self.now.program.now c.args.variable c.index.result.now c.args.self.now.program.now.formed c.requires.low c.requires.high c.index.ensures in
    rw c.deref.ensures.value (ap (λ bs. are_inside bs c.args.subscripts.now) (sym v.bounds) ∙ c.requires.inside)

pub overflow_add-result : goal.overflow_add-result
overflow_add-result c =
    let v = declared-numbered c.args.self.now.program.now c.args.variable c.index.result.now c.args.self.now.program.now.formed c.requires.low c.requires.high c.index.ensures in
    omega (arith, v.within, (kept (tree_of c.args.self.now.program.now) c.args.self.now.program.now.limits).most_counted, c.first_cell.ensures, c.element_place.ensures.below, ap element_count c.deref.ensures.value)

pub returns-clause-cell : goal.returns-clause-cell
returns-clause-cell c =
    let v = declared-numbered c.args.self.now.program.now c.args.variable c.index.result.now c.args.self.now.program.now.formed c.requires.low c.requires.high c.index.ensures in
    let place = c.element_place.ensures.place ∙ ap (λ bs. element_place bs c.args.subscripts.now) (c.deref.ensures.value ∙ sym v.bounds) in
    omega (arith, c.first_cell.ensures, place)

pub returns-clause-below : goal.returns-clause-below
returns-clause-below c =
    let v = declared-numbered c.args.self.now.program.now c.args.variable c.index.result.now c.args.self.now.program.now.formed c.requires.low c.requires.high c.index.ensures in
    omega (arith, v.within, c.first_cell.ensures, c.element_place.ensures.below, ap element_count c.deref.ensures.value)

use Rattle.std.proofs.Common.{ap, sym, ◌∙◌, arith}
use Rattle.nest_tree.specs.Layout.{element_count, first_cell}
use Rattle.nest_tree.specs.Tree.{Tree}
use Rattle.nest_tree.specs.View.{tree_of}
use Rattle.nest_tree.proofs.Cells.{declared-numbered}
use Rattle.nest_walk.proofs.CellPlaces.{few_cells}
use Rattle.nest_walk.proofs.table.whole_cells.Goals as goal

pub element_count-count-requires : goal.element_count-count-requires
element_count-count-requires c =
    (declared-numbered c.args.program.now c.args.variable c.index.result.now c.args.program.now.formed c.requires.low c.requires.high c.index.ensures).good

pub overflow_cast-result : goal.overflow_cast-result
overflow_cast-result c =
    let v = declared-numbered c.args.program.now c.args.variable c.index.result.now c.args.program.now.formed c.requires.low c.requires.high c.index.ensures in
    omega (arith, v.within, few_cells (tree_of c.args.program.now) c.args.program.now.limits, c.element_count-count.ensures.count)

pub returns : goal.returns
returns c =
    let v = declared-numbered c.args.program.now c.args.variable c.index.result.now c.args.program.now.formed c.requires.low c.requires.high c.index.ensures in
    let first = c.first_cell-first.ensures ∙ ap (λ (t : Tree). first_cell t c.args.variable) c.layout.ensures in
    let count = c.element_count-count.ensures.count ∙ ap element_count (sym v.bounds) in
    λ around. (first, count, omega (arith, first, c.element_count-count.ensures.count, v.within))

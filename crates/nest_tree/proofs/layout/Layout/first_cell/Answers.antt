use Rattle.std.proofs.Common.{◌-◌, map, arith}
use Rattle.nest_tree.specs.LaidOut.{laid_out}
use Rattle.nest_tree.specs.View.{declaration_of, tree_of}
use Rattle.nest_tree.proofs.FirstLimits.{kept}
use Rattle.nest_tree.proofs.Cells.{declared-before, well_formed_parts, cells-within}
use Rattle.nest_tree.proofs.layout.Layout.first_cell.Goals as goal

pub element_count-cells-requires : goal.element_count-cells-requires
element_count-cells-requires c =
    let vs = c.args.self.now.program.now.variables.items in
    let parts = well_formed_parts (laid_out c.args.self.now) c.args.self.now.program.now.formed in
    (declared-before vs c.deref.result.now (c.args.variable - 1) c.loop-before.before-index c.before-item.result parts.variables c.deref.ensures.value c.loop-before-test.true c.before-item.is).good

pub overflow_add-cells : goal.overflow_add-cells
overflow_add-cells c =
    let vs = c.args.self.now.program.now.variables.items in
    let parts = well_formed_parts (laid_out c.args.self.now) c.args.self.now.program.now.formed in
    let v = declared-before vs c.deref.result.now (c.args.variable - 1) c.loop-before.before-index c.before-item.result parts.variables c.deref.ensures.value c.loop-before-test.true c.before-item.is in
    omega (arith, v.within, (kept (tree_of c.args.self.now.program.now) c.args.self.now.program.now.limits).most_counted, c.loop-before.invariant, c.element_count-cells.ensures.count)

pub loop-before-preserved : goal.loop-before-preserved
loop-before-preserved c =
    let vs = c.args.self.now.program.now.variables.items in
    let parts = well_formed_parts (laid_out c.args.self.now) c.args.self.now.program.now.formed in
    let v = declared-before vs c.deref.result.now (c.args.variable - 1) c.loop-before.before-index c.before-item.result parts.variables c.deref.ensures.value c.loop-before-test.true c.before-item.is in
    omega (arith, v.next, c.loop-before.invariant, c.element_count-cells.ensures.count)

pub overflow_cast-result : goal.overflow_cast-result
overflow_cast-result c =
    omega (arith, cells-within (map declaration_of c.args.self.now.program.now.variables.items) c.loop-before.before-index, (kept (tree_of c.args.self.now.program.now) c.args.self.now.program.now.limits).most_counted, c.loop-before.invariant)

use Rattle.std.proofs.Common.{arith}
use Rattle.nest_tree.proofs.Cells.{declared-at}
use Rattle.nest_tree.proofs.limits.capped_cells.Goals as goal

pub element_count-requires : goal.element_count-requires
element_count-requires c = (declared-at c.args.variables.now c.loop-variable.variable-index c.variable-item.result c.requires c.loop-variable-test.true c.variable-item.is).good

pub loop-variable-preserved : goal.loop-variable-preserved
loop-variable-preserved c =
    let v = declared-at c.args.variables.now c.loop-variable.variable-index c.variable-item.result c.requires c.loop-variable-test.true c.variable-item.is in
    record {
      cells = omega (arith, c.min-cells.ensures, v.next, c.loop-variable.invariant.cells, c.element_count.ensures.count);
      most = omega (arith, c.min-cells.ensures);
    }

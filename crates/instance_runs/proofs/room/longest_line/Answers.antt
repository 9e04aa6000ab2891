use Rattle.std.proofs.Common.{arith}
use Rattle.nest_tree.specs.View.{tree_of}
use Rattle.seq_meaning.proofs.PrintedItems.{longest_more}
use Rattle.instance_runs.proofs.room.longest_line.Goals as goal

pub loop-item-preserved : goal.loop-item-preserved
loop-item-preserved c =
    omega (arith, longest_more (tree_of c.args.program.now) c.args.items.now c.loop-item.item-index c.item-item.result c.loop-item-test.true c.item-item.is, c.loop-item.invariant, c.in_ok-longest_item.ensures, c.in_ok-room.ensures.1)

use Rattle.std.proofs.Common.{◌+◌, ◌*◌, drop}
use Rattle.nest_tree.specs.View.{head_of}
use Rattle.nest_rows.specs.Groups.{loop_has, loops_have}
use Rattle.nest_rows.specs.Views.{heads_of}
use Rattle.nest_rows.proofs.RowLists.{left-more, loops-more, small-step}
use Rattle.nest_systems.proofs.groups.push_loops.Goals as goal

pub push_loop-requires-clause-step : goal.push_loop-requires-clause-step
push_loop-requires-clause-step c = small-step c.args.around.now c.loop-index.index c.index-around-index.result c.loop-index-test.true c.index-around-index.is c.requires.steps

pub loop-index-preserved : goal.loop-index-preserved
loop-index-preserved c =
    let first = c.args.first in
    let around = c.args.around.now in
    let heads = heads_of around in
    let k = c.loop-index.index in
    let a = c.index-around-index.result in
    left-more (loops_have first heads first heads) c.args.system.now c.loop-index.system c.push_loop.new.system (loops_have first heads (first + 2 * k) (heads_of (drop k around))) (loop_has first heads (first + 2 * k) (head_of a.nest.now))
    (loops_have first heads (first + 2 * (k + 1)) (heads_of (drop (k + 1) around))) c.loop-index.invariant (loops-more first heads around k a c.loop-index-test.true c.index-around-index.is) c.in_ok-push_loop.ensures

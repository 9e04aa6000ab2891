use Rattle.std.proofs.Common.{◌+◌, pos, get_or, drop}
use Rattle.nest_rows.proofs.RowLists.{left-more}
use Rattle.comm_system.specs.PairRows.{free_have}
use Rattle.comm_system.specs.RowViews.{bounds_have}
use Rattle.comm_system.proofs.RowSteps.{free_more}
use Rattle.comm_system.proofs.rows.push_free.Goals as goal

pub loop-index-preserved : goal.loop-index-preserved
loop-index-preserved c =
    let bounds = c.args.bounds.now in
    let k = c.loop-index.index in
    left-more (free_have c.args.first bounds) c.args.system.now c.loop-index.system c.push_bounds.new.system (free_have (c.args.first + k) (drop k bounds)) (bounds_have (c.args.first + k) (get_or bounds k (pos 0, pos 0))) (free_have (c.args.first + (k + 1)) (drop (k + 1) bounds)) c.loop-index.invariant
    (free_more c.args.first bounds k c.loop-index-test.true) c.in_ok-push_bounds.ensures

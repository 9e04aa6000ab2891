use Rattle.std.proofs.Common.{◌+◌, ◌∷◌, [], map, drop}
use Rattle.nest_rows.proofs.RowLists.{left-more}
use Rattle.comm_system.specs.RowViews.{condition_of}
use Rattle.comm_system.proofs.RowSteps.{left_more}
use Rattle.comm_system.proofs.rows.push_condition_rows.Goals as goal

pub loop-row-preserved : goal.loop-row-preserved
loop-row-preserved c =
    let rows = c.args.rows.now in
    let k = c.loop-row.row-index in
    left-more (map condition_of rows) c.args.system.now c.loop-row.system c.push_condition.new.system (map condition_of (drop k rows)) (condition_of c.row-item.result ∷ []) (map condition_of (drop (k + 1) rows)) c.loop-row.invariant
    (left_more condition_of rows k c.row-item.result c.loop-row-test.true c.row-item.is) c.in_ok-push_condition.ensures

use Rattle.std.proofs.Common.{◌+◌, ◌*◌, ◌-◌, ◌∷◌, [], pos}
use Rattle.nest_rows.specs.declared.constraint.Sign.TheVariants.{Minus, Plus}
use Rattle.nest_rows.proofs.RowLists.{left-more}
use Rattle.comm_system.specs.PairRows.{apart, same_loops}
use Rattle.comm_system.proofs.RowSteps.{same_loops_more}
use Rattle.comm_system.proofs.rows.push_same_loops.Goals as goal

pub loop-index-preserved : goal.loop-index-preserved
loop-index-preserved c =
    let m = c.args.m in
    let n = c.args.n in
    let k = c.loop-index.index in
    left-more (same_loops m n c.args.count) c.args.system.now c.loop-index.system c.push_equal.new.system (same_loops (m + 2 * k) (n + 2 * k) (c.args.count - k)) (apart Plus (m + 2 * k) (n + 2 * k) (pos 0) ∷ apart Minus (m + 2 * k) (n + 2 * k) (pos 0) ∷ [])
    (same_loops (m + 2 * (k + 1)) (n + 2 * (k + 1)) (c.args.count - (k + 1))) c.loop-index.invariant (same_loops_more m n c.args.count k c.loop-index-test.true) c.in_ok-push_equal.ensures

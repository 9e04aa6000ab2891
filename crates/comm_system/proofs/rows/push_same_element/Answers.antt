use Rattle.std.proofs.Common.{◌+◌, ◌∷◌, [], map, drop}
use Rattle.nest_rows.specs.declared.constraint.Sign.TheVariants.{Minus, Plus}
use Rattle.nest_rows.proofs.RowLists.{left-more}
use Rattle.comm_system.specs.PairRows.{no_more, same_element}
use Rattle.comm_system.specs.RowViews.{sum_seen}
use Rattle.comm_system.proofs.RowSteps.{same_more}
use Rattle.comm_system.proofs.rows.push_same_element.Goals as goal

pub loop-index-preserved : goal.loop-index-preserved
loop-index-preserved c =
    let xs = c.args.xs.now in
    let ys = c.args.ys.now in
    let k = c.loop-index.index in
    let x = c.index-xs-index.result in
    let y = c.index-ys-index.result in
    left-more (same_element (map sum_seen xs) (map sum_seen ys)) c.args.system.now c.loop-index.system c.push_same.new.system (same_element (map sum_seen (drop k xs)) (map sum_seen (drop k ys))) (no_more Plus (sum_seen x) (sum_seen y) ∷ no_more Minus (sum_seen x) (sum_seen y) ∷ [])
    (same_element (map sum_seen (drop (k + 1) xs)) (map sum_seen (drop (k + 1) ys))) c.loop-index.invariant (same_more xs ys k x y c.loop-index-test.true c.index-xs-index.is c.if-index-ys.false c.index-ys-index.is) c.in_ok-push_same.ensures

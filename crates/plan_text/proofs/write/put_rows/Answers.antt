use Rattle.std.proofs.Common.{◌+◌}
use Rattle.plan_text.specs.PlanText.{alone}
use Rattle.plan_text.specs.Words.{row_line}
use Rattle.plan_text.proofs.Written.{item_written, line_written}
use Rattle.plan_text.proofs.write.put_rows.Goals as goal

pub loop-place-preserved : goal.loop-place-preserved
loop-place-preserved c =
    item_written (alone row_line) c.args.rows.now c.loop-place.place c.index-rows-place.result c.push.new.self.items c.loop-place.out.items c.push-in-loop-place.new.self.items c.loop-place-test.true c.index-rows-place.is c.loop-place.invariant
    (line_written (row_line (c.loop-place.place + 1) c.index-rows-place.result) c.loop-place.out.items c.put_row.new.out.items c.push-in-loop-place.new.self.items c.in_ok-put_row.ensures c.in_ok-push-2.ensures.items)

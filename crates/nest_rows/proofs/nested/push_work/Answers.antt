use Rattle.std.proofs.Common.{refl}
use Rattle.nest_rows.proofs.nested.push_work.Goals as goal

pub returns : goal.returns
returns c = record { held = record { item = c.args.item; around = c.in_ok-around.around }; what = refl; loops = c.in_ok-around.ensures.items; behind = c.in_ok-push.ensures.items }

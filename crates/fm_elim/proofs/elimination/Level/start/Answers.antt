use Rattle.std.proofs.Common.{refl, arith}
use Rattle.fm_elim.proofs.Reached.{reached_first}
use Rattle.fm_elim.proofs.elimination.Level.start.Goals as goal

pub returns-clause-level : goal.returns-clause-level
returns-clause-level c =
    let made = c.in_ok-rows.ensures in
    let system = c.args.system.now in
    record {
      order = c.requires.order;
      gone = omega arith;
      reached = reached_first system c.args.order.now c.first_level.new.log.items c.in_ok-rows.rows c.rows.ensures.full made.formed made.table made.log made.held;
      work = refl;
      soon = omega arith;
    }

use Rattle.spmd_workers.proofs.Waits.{has_missed}
use Rattle.spmd_workers.proofs.polls.poll_until.Goals as goal

pub returns-then-ends-clause-missed : goal.returns-then-ends-clause-missed
returns-then-ends-clause-missed c =
    let inv = c.loop-seen.invariant in
    let tells = c.in-NotYet.ensures in
    has_missed c.args.seat.now c.loop-seen.seat c.poll.new.seat c.loop-seen.misses c.in-NotYet.seen inv.home inv.processor inv.position inv.missed (c.ends.ensures.least c.if-ends.true) tells.1 tells.2

use Rattle.plan_input.proofs.Firsts.{stray_is}
use Rattle.plan_input.proofs.reading.first_stray.Goals as goal

pub returns-then-alone : goal.returns-then-alone
returns-then-alone c = stray_is c.args.alone c.args.bytes.now c.args.rest _ c.if-alone.true c.requires.behind c.first_behind.ensures

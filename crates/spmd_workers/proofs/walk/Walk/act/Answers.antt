use Rattle.std.proofs.Common.{subst}
use Rattle.spmd_workers.specs.Walks.{ComesNext}
use Rattle.spmd_workers.proofs.walk.Walk.act.Goals as goal

pub wait-requires-clause-next : goal.wait-requires-clause-next
wait-requires-clause-next c = subst (ComesNext c.args.self.now) c.in-Await.is c.requires.next

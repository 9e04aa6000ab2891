use Rattle.spmd_workers.specs.Teams.{HasTold}
use Rattle.spmd_workers.proofs.run.tell.Given as goal

abbrev pub invariant-loop-p : goal.invariant-loop-p
invariant-loop-p l = HasTold l.fn.main l.main l.fn.workers.items l.workers.items l.p

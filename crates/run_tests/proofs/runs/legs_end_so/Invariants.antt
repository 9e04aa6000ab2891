use Rattle.spmd_workers.specs.Teams.{AreWorkersOf}
use Rattle.run_tests.proofs.runs.legs_end_so.Given as goal

abbrev pub invariant-loop-p : goal.invariant-loop-p
invariant-loop-p l = AreWorkersOf l.cells l.workers

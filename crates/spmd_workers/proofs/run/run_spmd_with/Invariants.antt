use Rattle.std.proofs.Common.{◌≡◌}
use Rattle.spmd_workers.specs.Teams.{to_run}
use Rattle.spmd_workers.proofs.Rounds.{IsBetween}
use Rattle.spmd_workers.proofs.run.run_spmd_with.Given as goal

abbrev pub invariant-loop-cells : goal.invariant-loop-cells
invariant-loop-cells g l = IsBetween l.cells l.main l.workers.items × (l.cells.given ≡ l.initial.cells.given)

abbrev pub decreases-loop-cells : goal.decreases-loop-cells
decreases-loop-cells g l = to_run l.cells l.workers.items

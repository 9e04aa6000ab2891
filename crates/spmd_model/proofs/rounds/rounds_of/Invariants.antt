use Rattle.std.proofs.Common.{◌≡◌, ◌-◌}
use Rattle.spmd_model.specs.Rounds.{rounds_from, rounds_of}
use Rattle.spmd_model.proofs.rounds.rounds_of.Given as goal

abbrev pub invariant-loop-rounds : goal.invariant-loop-rounds
invariant-loop-rounds l = rounds_from (6 - l.rounds) l.workers l.rounds ≡ rounds_of l.workers

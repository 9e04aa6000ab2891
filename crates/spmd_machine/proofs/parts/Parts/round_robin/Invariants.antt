use Rattle.std.proofs.Common.{◌≡◌, ℕ, fold}
use Rattle.spmd_model.specs.Quiet.{turned}
use Rattle.spmd_machine.specs.Machines.{IsMachine, IsSameMachine, model_of, shared_in, shown}
use Rattle.spmd_model.specs.Fair.{acts_to_go}
use Rattle.spmd_machine.specs.Promises.{rounds}
use Rattle.spmd_machine.proofs.parts.Parts.round_robin.Given as goal

abbrev pub invariant-loop : goal.invariant-loop
invariant-loop l = record {
  ready : IsMachine l.self;
  same : IsSameMachine l.initial.self l.self;
  run : (count : ℕ) × (shown l.self ≡ fold (turned (model_of l.initial.self) (shared_in l.initial.self)) (shown l.initial.self) (rounds (model_of l.initial.self) count));
}

abbrev pub decreases-loop : goal.decreases-loop
decreases-loop l = acts_to_go (model_of l.self) (shown l.self)

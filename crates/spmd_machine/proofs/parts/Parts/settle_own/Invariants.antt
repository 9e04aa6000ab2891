use Rattle.std.proofs.Common.{◌≡◌}
use Rattle.spmd_model.specs.Quiet.{past_quiet, quiet_next}
use Rattle.spmd_machine.specs.Machines.{IsMachine, IsSameMachine, model_of, shared_in, shown}
use Rattle.spmd_machine.proofs.parts.Parts.settle_own.Given as goal

abbrev pub invariant-loop : goal.invariant-loop
invariant-loop l = record {
  ready : IsMachine l.self;
  same : IsSameMachine l.initial.self l.self;
  state : past_quiet (model_of l.initial.self) (shared_in l.initial.self) (shown l.self) l.p ≡ past_quiet (model_of l.initial.self) (shared_in l.initial.self) (shown l.initial.self) l.p;
}

abbrev pub decreases-loop : goal.decreases-loop
decreases-loop l = quiet_next (model_of l.self) (shared_in l.self) (shown l.self) l.p

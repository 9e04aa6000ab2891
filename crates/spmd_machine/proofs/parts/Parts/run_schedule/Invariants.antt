use Rattle.std.proofs.Common.{◌≡◌, fold, take}
use Rattle.spmd_model.specs.Quiet.{turned}
use Rattle.spmd_machine.specs.Machines.{IsMachine, IsSameMachine, model_of, shared_in, shown}
use Rattle.spmd_machine.proofs.parts.Parts.run_schedule.Given as goal

abbrev pub invariant-loop-p : goal.invariant-loop-p
invariant-loop-p l = record {
  ready : IsMachine l.self;
  same : IsSameMachine l.initial.self l.self;
  run : shown l.self ≡ fold (turned (model_of l.initial.self) (shared_in l.initial.self)) (shown l.initial.self) (take l.p-index l.schedule);
}

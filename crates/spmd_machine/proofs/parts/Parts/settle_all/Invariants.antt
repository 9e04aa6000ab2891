use Rattle.std.proofs.Common.{◌≡◌, fold}
use Rattle.std.specs.List.{range_with_len}
use Rattle.spmd_model.specs.Quiet.{past_quiet}
use Rattle.spmd_machine.specs.Machines.{IsMachine, IsSameMachine, model_of, shared_in, shown}
use Rattle.spmd_machine.proofs.parts.Parts.settle_all.Given as goal

abbrev pub invariant-loop-p : goal.invariant-loop-p
invariant-loop-p l = record {
  ready : IsMachine l.self;
  same : IsSameMachine l.initial.self l.self;
  state : shown l.self ≡ fold (past_quiet (model_of l.initial.self) (shared_in l.initial.self)) (shown l.initial.self) (range_with_len 0 l.p);
}

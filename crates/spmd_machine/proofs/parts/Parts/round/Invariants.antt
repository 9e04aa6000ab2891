use Rattle.spmd_machine.specs.Machines.{IsMachine, IsSameMachine, model_of, shared_in, shown}
use Rattle.spmd_machine.specs.Promises.{RoundTo}
use Rattle.spmd_machine.proofs.parts.Parts.round.Given as goal

abbrev pub invariant-loop-p : goal.invariant-loop-p
invariant-loop-p l = record {
  ready : IsMachine l.self;
  same : IsSameMachine l.initial.self l.self;
  round : RoundTo (model_of l.initial.self) (shared_in l.initial.self) (shown l.initial.self) (shown l.self) l.p l.has_stepped;
}

use Rattle.std.proofs.Common.{◌≡◌, map, take}
use Rattle.reason_witness.specs.Asked.{serial_question}
use Rattle.reason_witness.specs.Reasons.{loop_question}
use Rattle.reason_witness.proofs.asked.made_loops.Given as goal

abbrev pub invariant-loop-reason : goal.invariant-loop-reason
invariant-loop-reason l = map serial_question l.loops.items ≡ map loop_question (take l.reason-index l.reasons)

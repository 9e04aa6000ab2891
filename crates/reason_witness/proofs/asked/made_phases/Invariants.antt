use Rattle.std.proofs.Common.{◌≡◌, map, take}
use Rattle.reason_witness.specs.Asked.{candidate_question}
use Rattle.reason_witness.specs.Reasons.{phase_question}
use Rattle.reason_witness.proofs.asked.made_phases.Given as goal

abbrev pub invariant-loop-reason : goal.invariant-loop-reason
invariant-loop-reason l = map candidate_question l.phases.items ≡ map phase_question (take l.reason-index l.reasons)

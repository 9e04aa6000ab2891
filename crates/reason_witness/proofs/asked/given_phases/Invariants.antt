use Rattle.std.proofs.Common.{◌≡◌, map, take}
use Rattle.reason_witness.specs.Asked.{candidate_question}
use Rattle.reason_witness.specs.Reasons.{weaker_questions}
use Rattle.reason_witness.proofs.asked.given_phases.Given as goal

abbrev pub invariant-loop-place : goal.invariant-loop-place
invariant-loop-place l = map candidate_question l.found.items ≡ weaker_questions 1 (take l.place l.candidates) (take l.place l.kinds)

use Rattle.std.proofs.Common.{◌≡◌, ◌++◌, map}
use Rattle.reason_witness.specs.Asked.{candidate_question}
use Rattle.reason_witness.specs.Reasons.{kind_question}
use Rattle.reason_witness.proofs.asked.push_weaker.Given as goal

abbrev pub invariant-loop-kind : goal.invariant-loop-kind
invariant-loop-kind l = map candidate_question l.found.items ≡ map candidate_question l.initial.found.items ++ map (kind_question l.phase) l.yielded

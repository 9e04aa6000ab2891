use Rattle.std.proofs.Common.{◌≡◌, take}
use Rattle.reason_witness.specs.Reasons.{weaker_than}
use Rattle.reason_witness.proofs.candidates.weaker_kinds.Given as goal

abbrev pub invariant-loop-candidate : goal.invariant-loop-candidate
invariant-loop-candidate l = l.found.items ≡ weaker_than l.kind (take l.candidate-index l.candidates)

use Rattle.reason_witness.specs.Findings.{AreCertified}
use Rattle.reason_witness.proofs.found.Planned.found_in.Given as goal

abbrev pub invariant-loop-obligation : goal.invariant-loop-obligation
invariant-loop-obligation l = AreCertified l.yielded l.wanted

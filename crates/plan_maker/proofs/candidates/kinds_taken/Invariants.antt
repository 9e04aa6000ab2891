use Rattle.std.proofs.Common.{◌≡◌, ◌++◌, drop}
use Rattle.plan_maker.specs.Candidates.{kinds_taken}
use Rattle.plan_maker.proofs.candidates.kinds_taken.Given as goal

abbrev pub invariant-loop-phase : goal.invariant-loop-phase
invariant-loop-phase l = l.kinds.items ++ kinds_taken (drop l.phase l.candidates) (drop l.phase l.taken) ≡ kinds_taken l.candidates l.taken

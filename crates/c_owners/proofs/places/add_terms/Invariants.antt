use Rattle.std.proofs.Common.{◌*ℤ◌, drop}
use Rattle.c_expressions.proofs.Summed.{Left}
use Rattle.c_owners.specs.Owners.{loops_in}
use Rattle.c_owners.proofs.places.add_terms.Given as goal

abbrev pub invariant-loop-number : goal.invariant-loop-number
invariant-loop-number l = Left l.fn.sum l.sum (λ v. l.times *ℤ loops_in l.last v (drop l.number-index l.loops)) (λ v. l.times *ℤ loops_in l.last v l.loops)

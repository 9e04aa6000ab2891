use Rattle.std.proofs.Common.{◌*ℤ◌, drop}
use Rattle.c_expressions.specs.Sums.{loops_at}
use Rattle.c_expressions.proofs.Summed.{Left}
use Rattle.c_expressions.proofs.scope.Scope.add_loops.Given as goal

abbrev pub invariant-loop-number : goal.invariant-loop-number
invariant-loop-number l = Left l.fn.sum l.sum (λ v. l.times *ℤ loops_at v (drop l.number-index l.loops)) (λ v. l.times *ℤ loops_at v l.loops)

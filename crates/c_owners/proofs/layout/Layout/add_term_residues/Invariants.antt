use Rattle.std.proofs.Common.{ℤ, ◌+ℤ◌, drop}
use Rattle.c_expressions.specs.Sums.{Values}
use Rattle.c_owners.specs.Owners.{IsAlike, loops_in}
use Rattle.c_owners.proofs.Likeness.{AlikeLeft}
use Rattle.c_owners.proofs.layout.Layout.add_term_residues.Given as goal

abbrev pub invariant-loop-number : goal.invariant-loop-number
invariant-loop-number l = (all : Values → ℤ) → IsAlike l.self.workers l.fn.sum all → AlikeLeft l.self.workers l.sum (λ v. loops_in l.last v (drop l.number-index l.loops)) (λ v. all v +ℤ loops_in l.last v l.loops)

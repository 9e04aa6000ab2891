use Rattle.std.proofs.Common.{drop}
use Rattle.c_expressions.specs.Sums.{terms_at, total}
use Rattle.c_owners.proofs.Likeness.{AlikeLeft}
use Rattle.c_owners.proofs.layout.Layout.reduced.Given as goal

abbrev pub invariant-loop-term : goal.invariant-loop-term
invariant-loop-term l = AlikeLeft l.self.workers l.new (λ v. terms_at v (drop l.term-index l.term-items)) (λ v. total v l.sum)

use Rattle.std.proofs.Common.{◌≤◌, List, ℕ, length, sym, subst}
use Rattle.plan_maker.specs.Orders.{unknowns_of}
use Rattle.plan_maker.proofs.judge.judge_pair.Goals as goal

pub prefix_of-requires-clause-owners : goal.prefix_of-requires-clause-owners
prefix_of-requires-clause-owners c = subst (λ (cols : List ℕ). unknowns_of c.args.dists.now ≤ length cols) (sym c.in_ok-known.ensures.columns) c.requires.owners

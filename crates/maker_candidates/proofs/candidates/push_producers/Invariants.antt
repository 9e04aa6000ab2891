use Rattle.std.proofs.Common.{◌≡◌, ◌++◌, map}
use Rattle.sync_plan.specs.declared.plan.Kind.TheVariants.{Producer}
use Rattle.maker_candidates.proofs.candidates.push_producers.Given as goal

abbrev pub invariant-loop-anchor : goal.invariant-loop-anchor
invariant-loop-anchor l = l.kinds.items ≡ l.initial.kinds.items ++ map Producer l.yielded

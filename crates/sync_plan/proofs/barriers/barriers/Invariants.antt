use Rattle.std.proofs.Common.{◌≡◌, ◌≤◌, ◌-◌, vec_len}
use Rattle.std.specs.Prelude.{replicate}
use Rattle.sync_plan.specs.declared.plan.Kind.TheVariants.{Barrier}
use Rattle.sync_plan.proofs.barriers.barriers.Given as goal

-- all that is there is the same
abbrev pub invariant-fill : goal.invariant-fill
invariant-fill l = record {
  all : l.kinds.items ≡ replicate (vec_len l.kinds) Barrier;
  few : vec_len l.kinds ≤ l.count;
}

abbrev pub decreases-fill : goal.decreases-fill
decreases-fill l = l.count - vec_len l.kinds

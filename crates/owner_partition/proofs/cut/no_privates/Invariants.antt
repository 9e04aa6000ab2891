use Rattle.std.proofs.Common.{◌≡◌, ◌≤◌, ◌-◌, [], vec_len}
use Rattle.std.specs.Prelude.{replicate}
use Rattle.owner_partition.proofs.cut.no_privates.Given as goal

-- all that is there is the same
abbrev pub invariant-fill : goal.invariant-fill
invariant-fill l = record {
  all : l.lists.items ≡ replicate (vec_len l.lists) [];
  few : vec_len l.lists ≤ l.count;
}

abbrev pub decreases-fill : goal.decreases-fill
decreases-fill l = l.count - vec_len l.lists

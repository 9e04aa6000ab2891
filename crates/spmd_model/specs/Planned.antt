-- An instance of a program as a job of its owner, and the boundary in front of a phase, where nothing is a processor's own.
use Rattle.std.specs.Prelude.{false, ℕ, ◌-◌}
use Rattle.nest_tree.specs.Tree.{Tree}
use Rattle.nest_model.specs.Memory.{assigned_value, line_of}
use Rattle.nest_model.specs.Visits.{Visit}
use Rattle.owner_partition.specs.Phases.{Execution}
use Rattle.sync_plan.specs.declared.plan.Plan.{Plan}
use Rattle.nest_model.specs.Accesses.{loads_of, store_of}
use Rattle.sync_plan.specs.Ordered.{owner_under}
use Rattle.sync_plan.specs.Waits.{posts_at, waits_for}
use Rattle.spmd_model.specs.Timelines.{Job, Moment, boundary, counter}

-- an instance as a job of its owner
abbrev pub job_of : Tree → Plan → Execution → Job
job_of tree plan x = record {
  owner = owner_under tree plan x;
  loads = loads_of tree x.instance;
  store = store_of tree x.instance;
  adds = false;
  assigned = assigned_value tree x.instance;
  line = line_of tree x.instance;
  counts = 1;
}

-- in front of phase number e, from 1, the number e - 1 is posted on the counters
abbrev pub boundary_of : Tree → Plan → ℕ → Visit → Moment
boundary_of tree plan e v = boundary counter (e - 1) (λ q. posts_at tree plan q v.place v.loops)
    (λ p. waits_for tree plan p v.place v.loops)

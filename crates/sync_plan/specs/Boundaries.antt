-- How the processors pass the boundary in front of a phase.
use Rattle.std.specs.Prelude.{ℕ, ◌-◌, Bool, true, false, ◌&&◌, nat_lt, Option, Some, None, slice_get}
use Rattle.nest_tree.specs.Tree.{Tree}
use Rattle.nest_model.specs.Visits.{Visit}
use Rattle.owner_partition.specs.Phases.{phases}
use Rattle.sync_plan.specs.declared.plan.Kind.{Kind}
use Rattle.sync_plan.specs.declared.plan.Kind.TheVariants.{Nothing, Producer, Left, Right, Both, Barrier, Join}
use Rattle.sync_plan.specs.declared.plan.Plan.{Plan}

-- a kind is a barrier; at a join too all wait for all, but each by the others' counters
abbrev pub is_barrier : Option Kind → Bool
is_barrier None = false
is_barrier (Some Nothing) = false
is_barrier (Some (Producer a)) = false
is_barrier (Some Left) = false
is_barrier (Some Right) = false
is_barrier (Some Both) = false
is_barrier (Some Barrier) = true
is_barrier (Some Join) = false

abbrev pub is_join : Option Kind → Bool
is_join None = false
is_join (Some Nothing) = false
is_join (Some (Producer a)) = false
is_join (Some Left) = false
is_join (Some Right) = false
is_join (Some Both) = false
is_join (Some Barrier) = false
is_join (Some Join) = true

-- the kind in front of a phase
abbrev pub kind_before : Plan → Option Visit → Option Kind
kind_before plan None = None
kind_before plan (Some v) = slice_get plan.kinds (v.place - 1)

-- a barrier stands in front of the phase with so many phases in front of it, and some processor awaits another there
abbrev pub gathers : Tree → Plan → ℕ → Bool
gathers tree plan number = is_barrier (kind_before plan
    (slice_get (phases tree plan.cut.marks) number)) && nat_lt 1 plan.workers

-- a join stands there
abbrev pub joins : Tree → Plan → ℕ → Bool
joins tree plan number = is_join (kind_before plan (slice_get (phases tree plan.cut.marks) number))

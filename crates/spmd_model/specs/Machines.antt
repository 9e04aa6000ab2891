-- The timeline of a program under a plan where processors have cells of their own for the own scalars of phases, and pass barriers in one of two styles: in front of each phase its boundaries, then its instances, and then its closings.
use Rattle.std.specs.Prelude.{ℕ, suc, ◌+◌, ◌*◌, Bool, false, List, [], ◌∷◌, ◌++◌, Some, length, map, take, sum_by, if◌then◌else◌}
use Rattle.std.specs.List.{flat_map}
use Rattle.nest_tree.specs.Layout.{cell_count}
use Rattle.nest_tree.specs.Tree.{Tree, param_values}
use Rattle.nest_model.specs.Instances.{Instance}
use Rattle.nest_model.specs.Memory.{assigned_value, line_of}
use Rattle.nest_model.specs.Visits.{Visit}
use Rattle.owner_partition.specs.Phases.{Execution, visit_instances, phases}
use Rattle.sync_plan.specs.Boundaries.{is_barrier, kind_before}
use Rattle.sync_plan.specs.Conflicts.{loads_under, owner_under, store_under}
use Rattle.sync_plan.specs.declared.plan.Plan.{Plan}
use Rattle.spmd_model.specs.Closings.{closings_of}
use Rattle.spmd_model.specs.Planned.{boundary_of}
use Rattle.spmd_model.specs.Rounds.{rounds_in, rounds_of}
use Rattle.spmd_model.specs.Timelines.{Job, Machine, Moment, boundary, job}
use Rattle.spmd_model.specs.declared.style.Style.{Style}
use Rattle.spmd_model.specs.declared.style.Style.TheVariants.{Arrive, Dissemination}

-- an instance as a job of its owner, whose own cells it loads and stores
abbrev pub job_under : Tree → Plan → Execution → Job
job_under tree plan x = record {
  owner = owner_under tree plan x;
  loads = loads_under tree plan x;
  store = store_under tree plan x;
  adds = false;
  assigned = assigned_value tree x.instance;
  line = line_of tree x.instance;
  counts = 1;
}

-- ---- boundaries

-- a barrier stands in front of a phase, and it is passed by signals
abbrev pub is_by_signals : Style → Plan → Visit → Bool
is_by_signals Arrive plan v = false
is_by_signals Dissemination plan v = is_barrier (kind_before plan (Some v))

abbrev pub signal_barriers : Style → Plan → Visit → ℕ
signal_barriers style plan v = if is_by_signals style plan v then 1 else 0

-- in front of the phase with this number, behind so many barriers by signals
abbrev pub boundaries_by : Style → Tree → Plan → ℕ → ℕ → Visit → List Moment
boundaries_by style tree plan e passed v =
    if is_by_signals style plan v
    then rounds_in plan.workers (passed * rounds_of plan.workers + 1) (rounds_of plan.workers)
    else boundary_of tree plan e v ∷ []

-- ---- phases

-- a phase on the timeline: what stands in front of its jobs, and these
pub record Part : Type 0 where
  pub front : List Moment
  pub jobs : List Job

abbrev pub moments_of : Part → List Moment
moments_of part = part.front ++ map job part.jobs

abbrev pub instance_jobs : Tree → Plan → ℕ → Visit → List Job
instance_jobs tree plan e v = map (λ (i : Instance).
    job_under tree plan (record { phase = e; place = v.place; instance = i }))
    (visit_instances (param_values tree) v)

abbrev pub part_of : Style → Tree → Plan → ℕ → ℕ → Visit → Part
part_of style tree plan e passed v = record {
  front = boundaries_by style tree plan e passed v;
  jobs = instance_jobs tree plan e v ++ closings_of tree plan v;
}

-- phases of which the first has this number, behind so many barriers by signals
abbrev pub parts_from : Style → Tree → Plan → ℕ → ℕ → List Visit → List Part
parts_from style tree plan e passed [] = []
parts_from style tree plan e passed (v ∷ rest) = part_of style tree plan e passed v
    ∷ parts_from style tree plan (suc e) (passed + signal_barriers style plan v) rest

abbrev pub parts_by : Style → Tree → Plan → List Part
parts_by style tree plan = parts_from style tree plan 1 0 (phases tree plan.cut.marks)

-- where the part with so many in front of it begins
abbrev pub part_place : List Part → ℕ → ℕ
part_place parts k = length (flat_map moments_of (take k parts))

abbrev pub timeline_by : Style → Tree → Plan → List Moment
timeline_by style tree plan = flat_map moments_of (parts_by style tree plan)

-- 32 own cells of each processor stand behind the cells that all share
abbrev pub cells_under : Tree → Plan → ℕ
cells_under tree plan = cell_count tree + 32 * plan.workers

-- the machine of a program under a plan, in a style
abbrev pub machine_by : Style → Tree → Plan → Machine
machine_by style tree plan = record {
  workers = plan.workers;
  cells = cells_under tree plan;
  timeline = timeline_by style tree plan;
}

-- how many instances stand in front of a place: in front of an instance, its number, from 0
abbrev pub instances_in : Moment → ℕ
instances_in (boundary word number posts awaits) = 0
instances_in (job j) = j.counts

abbrev pub instances_in_front : Style → Tree → Plan → ℕ → ℕ
instances_in_front style tree plan place =
    sum_by instances_in (take place (timeline_by style tree plan))

-- Plans that a made plan, or a given one, is held against.
use Rattle.std.specs.Prelude.{ℕ, ◌≡◌, ◌-◌, List, [], map, slice_set}
use Rattle.nest_tree.specs.Tree.{Tree}
use Rattle.sync_plan.specs.Barriers.{barrier_plan}
use Rattle.sync_plan.specs.declared.plan.Kind.{Kind}
use Rattle.sync_plan.specs.declared.plan.Plan.{Plan}
use Rattle.comm_system.specs.Obligations.{Slot, Task, slot_signature, slot_tasks, slots_of}
use Rattle.comm_system.specs.PhaseViews.{phase_seen}
use Rattle.comm_system.specs.References.{phases_of}
use Rattle.comm_system.specs.SlotViews.{slot_seen}
use Rattle.comm_system.specs.declared.phase.Phase.{Phase}
use Rattle.comm_system.specs.declared.slot.Slot.{Slot as HeldSlot}
use Rattle.maker_anchors.specs.Anchors.{maker_anchors}
use Rattle.maker_marks.specs.Cut.{cut_of_try}
use Rattle.maker_marks.specs.declared.tries.Tried.{Tried}

-- the plan with these kinds in front of its phases
abbrev pub with_kinds : Plan → List Kind → Plan
with_kinds plan kinds = record plan { kinds = kinds }

-- the plan with another kind in front of the static phase with this number, from 1
abbrev pub with_kind : Plan → ℕ → Kind → Plan
with_kind plan t kind = with_kinds plan (slice_set plan.kinds (t - 1) kind)

-- the plan in which the loop with this number, from 1, alone is dealt out, by this try, and one processor does all
abbrev pub alone_plan : Tree → ℕ → Tried → Plan
alone_plan tree n t =
    barrier_plan (cut_of_try tree n t) (maker_anchors tree (cut_of_try tree n t).marks 1) 1 []

-- the systems at a slot of a plan, where these kinds stand in front of its phases
abbrev pub tasks_at : Tree → Plan → List Kind → Slot → List Task
tasks_at tree plan kinds slot = slot_tasks tree plan slot
    (slot_signature plan.version kinds (phases_of tree plan.cut.marks) slot)

-- the static phases of a plan, and their slots
pub record AreSlotsOf (tree : Tree) (plan : Plan) (phases : List Phase) (slots : List HeldSlot) :
    Type 0 where
  pub phases_are : map phase_seen phases ≡ phases_of tree plan.cut.marks
  pub slots_are : map slot_seen slots ≡ slots_of (map phase_seen phases)

-- What the systems of a plan speak of, one after another, and the systems of each.
use Rattle.std.specs.Prelude.{ℕ, ◌+◌, nat_le, List, [], ◌∷◌, ◌++◌, length, map, if◌then◌else◌}
use Rattle.std.specs.List.{flat_map}
use Rattle.nest_tree.specs.Tree.{Tree}
use Rattle.owner_partition.specs.Cuts.{Cutting}
use Rattle.owner_partition.specs.declared.anchor.Anchor.{Anchor}
use Rattle.sync_plan.specs.declared.plan.Plan.{Plan}
use Rattle.sync_plan.specs.Fit.{is_dealt}
use Rattle.conflict_rules.specs.Boundaries.{Side}
use Rattle.conflict_rules.specs.Slots.{Slot}
use Rattle.comm_system.specs.Obligations.{Task, numbered_from, pair_tasks, slot_signature, slots_of, trips_task, zero_trip_task}
use Rattle.comm_system.specs.OwnerRows.{pieces}
use Rattle.comm_system.specs.Pairs.{Pair, pairs_of, pairs_within}
use Rattle.comm_system.specs.Paths.{PathLoop, path_of, paths_of}
use Rattle.conflict_rules.specs.References.{StaticPhase, phases_of}
use Rattle.comm_system.specs.Signatures.{Signature, blocked, waits}
use Rattle.comm_system.specs.declared.obligation.Obligation.{Obligation}

-- a pair of accesses in two trips of a phase, or at a slot, of whose waits the plan shows so many for neighbours and these producers; or a loop on the path of a private scalar
pub data Subject : Type 0 where
  of_trips : StaticPhase → Pair → Subject
  of_slot : Slot → (left right : ℕ) (producers : List (Anchor × Side)) → Pair → Subject
  of_path : PathLoop → Subject

abbrev pub tasks_about : Tree → Plan → Subject → List Task
tasks_about tree plan (of_trips s pair) = trips_task tree plan s pair ∷ []
tasks_about tree plan (of_slot slot left right producers pair) =
    pair_tasks tree plan slot left right producers pair
tasks_about tree plan (of_path p) = zero_trip_task tree plan p ∷ []

-- how many systems it has
abbrev pub count_about : Subject → ℕ
count_about (of_trips s pair) = 1
count_about (of_slot slot left right producers pair) = length (pieces (length producers))
count_about (of_path p) = 1

-- the subjects of a Doall phase, and of a slot, of which the kinds show only its signature
abbrev pub trips_subjects : Plan → StaticPhase → List Subject
trips_subjects plan s =
    if is_dealt plan.cut.marks s.what then map (of_trips s) (pairs_within plan.cut s) else []

abbrev pub slot_subjects : Cutting → Slot → Signature → List Subject
slot_subjects cut slot blocked = []
slot_subjects cut slot (waits left right producers) =
    map (of_slot slot left right producers) (pairs_of cut slot.first slot.second)

-- those of the path of a scalar in a phase, and of the paths of its private scalars
abbrev pub path_subjects : StaticPhase → ℕ → List Subject
path_subjects s v = map of_path (path_of s v)

abbrev pub paths_subjects : Cutting → StaticPhase → List Subject
paths_subjects cut s = map of_path (paths_of cut s)

-- all of a plan with these static phases, and all of a plan
abbrev pub subjects_among : Plan → List StaticPhase → List Subject
subjects_among plan phases =
    flat_map (trips_subjects plan) phases ++ flat_map
    (λ slot. slot_subjects plan.cut slot (slot_signature plan.version plan.kinds phases slot))
    (slots_of phases)
    ++ flat_map (paths_subjects plan.cut) phases

abbrev pub subjects_of : Tree → Plan → List Subject
subjects_of tree plan = subjects_among plan (phases_of tree plan.cut.marks)

-- a subject with the number of its first system
pub record Group : Type 0 where
  pub number : ℕ
  pub subject : Subject

abbrev pub obligations_in : Tree → Plan → Group → List Obligation
obligations_in tree plan g = numbered_from g.number (tasks_about tree plan g.subject)

-- groups, and the number of the first system behind them
pub record Listed : Type 0 where
  pub groups : List Group
  pub next : ℕ

-- one subject more, unless the systems before it pass a number
abbrev pub with_subject : ℕ → Listed → Subject → Listed
with_subject most l s = if nat_le l.next most
    then record {
      groups = l.groups ++ record { number = l.next; subject = s } ∷ [];
      next = l.next + count_about s;
    }
    else l

abbrev pub with_subjects : ℕ → Listed → List Subject → Listed
with_subjects most l [] = l
with_subjects most l (s ∷ rest) = with_subjects most (with_subject most l s) rest

-- the groups whose first systems have at most this number
abbrev pub groups_among : Plan → List StaticPhase → ℕ → Listed
groups_among plan phases most =
    with_subjects most (record { groups = []; next = 1 }) (subjects_among plan phases)

abbrev pub groups_of : Tree → Plan → ℕ → Listed
groups_of tree plan most = groups_among plan (phases_of tree plan.cut.marks) most

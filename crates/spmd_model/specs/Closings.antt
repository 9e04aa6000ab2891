-- Behind the instances of a phase with own scalars: a private scalar's last value is stored to the cell that all share, and each total to a sum scalar's is added to it.
use Rattle.std.specs.Prelude.{ℕ, ◌-◌, ◌==◌, ◌&&◌, ℤ, pos, Bool, true, false, List, [], ◌∷◌, ◌++◌, Option, Some, None, is_none, slice_get, slice_index_or, if◌then◌else◌}
use Rattle.std.specs.List.{flat_map, list_any, range_with_len}
use Rattle.std.specs.Option.{option_map}
use Rattle.nest_tree.specs.Layout.{first_cell}
use Rattle.nest_tree.specs.Tree.{Statement, Statements, do_loop, work, continue, Tree, param_values}
use Rattle.nest_model.specs.Accesses.{store_of}
use Rattle.nest_model.specs.Instances.{Instance, head_trips, instances_in, with_loop}
use Rattle.nest_model.specs.Visits.{Visit}
use Rattle.owner_partition.specs.Owners.{owner_by}
use Rattle.owner_partition.specs.Phases.{visit_instances}
use Rattle.sync_plan.specs.Conflicts.{last_value}
use Rattle.sync_plan.specs.Own.{Own, own_cell, own_loop, own_of}
use Rattle.sync_plan.specs.declared.plan.Plan.{Plan}
use Rattle.spmd_model.specs.Lawful.{stores_to}
use Rattle.spmd_model.specs.Timelines.{Job}

-- ---- closings as jobs

-- the value that was loaded
abbrev pub given_first : List ℤ → ℤ
given_first given = slice_index_or given 0 (pos 0)

-- a processor loads one cell, and stores that to another one, or adds it
abbrev pub moves_to : Bool → ℕ → ℕ → ℕ → Job
moves_to adds p from to = record {
  owner = p;
  loads = from ∷ [];
  store = Some to;
  adds = adds;
  assigned = given_first;
  line = λ given. [];
  counts = 0;
}

abbrev pub sets_to_zero : ℕ → ℕ → Job
sets_to_zero p cell = record {
  owner = p;
  loads = [];
  store = Some cell;
  adds = false;
  assigned = λ given. pos 0;
  line = λ given. [];
  counts = 0;
}

-- of a private scalar with this shared cell, where this is the owner of the last trip
abbrev pub keeping : Own → ℕ → Option ℕ → List Job
keeping o c None = []
keeping o c (Some p) = moves_to false p (own_cell o p c) c ∷ []

-- of a processor's total of a sum scalar with this shared cell, where it assigned that
abbrev pub totalling : Own → ℕ → ℕ → Bool → List Job
totalling o c p false = []
totalling o c p true = moves_to true p (own_cell o p c) c ∷ sets_to_zero p (own_cell o p c) ∷ []

-- ---- those of a phase

-- who owns what is executed in a phase where the loops have these values
abbrev pub phase_owner : Tree → Plan → Visit → List ℤ → ℕ
phase_owner tree plan v loops =
    owner_by (slice_get plan.anchors (v.place - 1)) plan.workers loops (param_values tree)

-- values of the loops round a loop's body, where something is executed in it
abbrev pub executed_at : List ℤ → Statements → ℕ → Option (List ℤ) → Option (List ℤ)
executed_at params body first None = None
executed_at params body first (Some loops) =
    if is_none (slice_get (instances_in params body first loops) 0) then None else Some loops

-- the values of the loops in the last trip of a phase's loop, where it makes one and something is executed in that
abbrev pub last_loops : List ℤ → Statement → ℕ → List ℤ → Option (List ℤ)
last_loops params (do_loop head body) first loops = executed_at params body first
    (option_map (with_loop loops head.number) (last_value (head_trips params head loops)))
last_loops params (work w) first loops = None
last_loops params (continue line) first loops = None

abbrev pub last_owner : Tree → Plan → Visit → Option ℕ
last_owner tree plan v =
    option_map (phase_owner tree plan v) (last_loops (param_values tree) v.what v.first v.loops)

-- an instance of a phase that a processor owns stores to this cell of those that all share
abbrev pub has_stored : Tree → Plan → Visit → ℕ → ℕ → Bool
has_stored tree plan v c p = list_any (λ (i : Instance).
    phase_owner tree plan v i.loops == p && stores_to (store_of tree i) c)
    (visit_instances (param_values tree) v)

-- of a private scalar
abbrev pub keeping_of : Tree → Plan → Visit → ℕ → List Job
keeping_of tree plan v scalar =
    keeping (own_of tree plan v.place) (first_cell tree scalar) (last_owner tree plan v)

-- of a sum scalar, processor by processor
abbrev pub total_of : Tree → Plan → Visit → ℕ → ℕ → List Job
total_of tree plan v scalar p = totalling (own_of tree plan v.place) (first_cell tree scalar) p
    (has_stored tree plan v (first_cell tree scalar) p)

abbrev pub totalling_of : Tree → Plan → Visit → ℕ → List Job
totalling_of tree plan v scalar =
    flat_map (total_of tree plan v scalar) (range_with_len 0 plan.workers)

-- first those of the private scalars, then those of the sum scalars, in the order of their cells
abbrev pub closings_of : Tree → Plan → Visit → List Job
closings_of tree plan v = flat_map (keeping_of tree plan v) (own_loop tree plan v.place).privates
    ++ flat_map (totalling_of tree plan v) (own_loop tree plan v.place).sums

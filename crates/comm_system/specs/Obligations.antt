-- The obligations of a plan: two trips of a Doall loop, then slot by slot two instances of phases s and t at a level, then the paths of private scalars.
use Rattle.std.specs.Prelude.{ℕ, suc, ◌+◌, ◌*◌, ◌-◌, ◌==◌, ℤ, pos, neg_ℤ, List, [], ◌∷◌, ◌++◌, length, map, Option, Some, None, slice_get, if◌then◌else◌}
use Rattle.std.specs.List.{flat_map}
use Rattle.farkas_cert.specs.Inequalities.{Inequalities}
use Rattle.nest_tree.specs.Tree.{Tree, param_values}
use Rattle.nest_rows.specs.declared.constraint.Constraint.{Constraint}
use Rattle.nest_rows.specs.Constraints.{system_of}
use Rattle.owner_partition.specs.declared.anchor.Anchor.{Anchor}
use Rattle.owner_partition.specs.declared.anchor.Dist.TheVariants.{Cyclic}
use Rattle.owner_partition.specs.Cuts.{Cutting}
use Rattle.sync_plan.specs.declared.plan.Kind.{Kind}
use Rattle.sync_plan.specs.declared.plan.Plan.{Plan}
use Rattle.sync_plan.specs.declared.plan.Version.{Version}
use Rattle.sync_plan.specs.Fit.{is_dealt}
pub use Rattle.conflict_rules.specs.Slots.{Slot}
use Rattle.conflict_rules.specs.Boundaries.{Side, of_first, of_second, certain_boundaries}
use Rattle.comm_system.specs.Levels.{common, levels, order_at, two_trips}
use Rattle.comm_system.specs.OwnerRows.{Piece, Placed, distance, last_rows, owner_numbers, owners_have, owners_unknowns, pieces, below, above}
use Rattle.comm_system.specs.PairRows.{behind_pair, conditions_have, first_of, pair_rows, second_of}
use Rattle.comm_system.specs.Pairs.{Pair, pairs_of, pairs_within}
use Rattle.conflict_rules.specs.References.{StaticPhase, phases_of, variable_of}
use Rattle.comm_system.specs.Paths.{PathLoop, line_of, loops_from, loops_outside, paths_of, zero_trip_has}
use Rattle.comm_system.specs.Shown.{last_in}
use Rattle.comm_system.specs.Signatures.{Signature, blocked, waits, signature_of}
use Rattle.comm_system.specs.declared.obligation.Obligation.{Obligation}

-- an obligation before it has a number
pub record Task : Type 0 where
  pub system : Inequalities
  pub lines : ℕ × ℕ
  pub variable : ℕ
  pub level : ℕ
  pub piece : ℕ
  pub range : ℤ × ℤ

abbrev task : Inequalities → Pair → ℕ → ℕ → ℤ × ℤ → Task
task system pair level piece range = record {
  system = system;
  lines = (pair.first.line, pair.second.line);
  variable = variable_of pair.first.what;
  level = level;
  piece = piece;
  range = range;
}

-- two trips of a Doall phase access one element
abbrev pub trips_task : Tree → Plan → StaticPhase → Pair → Task
trips_task tree plan s pair =
    task (system_of (behind_pair tree pair - 1)
    (pair_rows tree plan.conditions (two_trips (length s.outer)) (None, None) pair)) pair 0 0
    (pos 0, pos 0)

abbrev pub trips_tasks : Tree → Plan → StaticPhase → List Task
trips_tasks tree plan s = if is_dealt plan.cut.marks s.what
    then map (trips_task tree plan s) (pairs_within plan.cut s)
    else []

-- the anchor of the static phase with this number, from 1
abbrev or_first : Option Anchor → Anchor
or_first (Some a) = a
or_first None =
    record { form = record { constant = pos 0; loops = []; params = [] }; dist = Cyclic }

abbrev pub anchor_at : Plan → ℕ → Anchor
anchor_at plan s = or_first (slice_get plan.anchors (s - 1))

-- the producers' anchors, each at the loops of its side
abbrev pub placed_at : Tree → Pair → Anchor × Side → Placed
placed_at tree pair (a, of_first) =
    record { anchor = a; first = first_of tree; around = pair.first.around }
placed_at tree pair (a, of_second) =
    record { anchor = a; first = second_of tree pair; around = pair.second.around }

-- the owners of both instances, then the producers
abbrev pub owners_of : Tree → Plan → Slot → List (Anchor × Side) → Pair → List Placed
owners_of tree plan slot producers pair =
    placed_at tree pair (anchor_at plan slot.s, of_first)
    ∷ placed_at tree pair (anchor_at plan slot.t, of_second)
    ∷ map (placed_at tree pair) producers

-- of the accesses of a pair that are those of private scalars, how many loops stand outside the one in whose last trip alone they are made
abbrev pub lasts_at : Cutting → Slot → Pair → Option ℕ × Option ℕ
lasts_at cut slot pair = (last_in cut slot.first pair.first, last_in cut slot.second pair.second)

-- the last rows, by the owners' unknowns
abbrev pub last_of : ℕ → ℕ → List ℕ → Piece → List Constraint
last_of left right [] piece = []
last_of left right (q ∷ []) piece = []
last_of left right (q ∷ p ∷ os) piece = last_rows left right q p os piece

-- the difference of the owners: the greatest below those that are waited for, and the least above
abbrev pub range_of : ℕ → ℕ → ℤ × ℤ
range_of left right = (neg_ℤ (pos (distance below left right)), pos (distance above left right))

-- what all pieces of a pair share: the rows before the last ones; and that as a task of no piece
abbrev pub shared_system : Tree → Plan → Slot → List (Anchor × Side) → Pair → Inequalities
shared_system tree plan slot producers pair =
    let order = order_at (common slot.first.outer slot.second.outer) slot.level in
    let q = behind_pair tree pair in
    let owners = owners_of tree plan slot producers pair in
    system_of (q + owners_unknowns owners - 1)
    (pair_rows tree plan.conditions order (lasts_at plan.cut slot pair) pair
    ++ owners_have plan.workers q owners)

abbrev pub shared_task : Tree → Plan → Slot → ℕ → ℕ → List (Anchor × Side) → Pair → Task
shared_task tree plan slot left right producers pair =
    task (shared_system tree plan slot producers pair) pair slot.level 0 (range_of left right)

-- a piece of a pair, with its number
abbrev pub piece_task : Tree → Plan → Slot → ℕ → ℕ → List (Anchor × Side) → Pair → ℕ → Piece → Task
piece_task tree plan slot left right producers pair number piece =
    let order = order_at (common slot.first.outer slot.second.outer) slot.level in
    let q = behind_pair tree pair in
    let owners = owners_of tree plan slot producers pair in
    task (system_of (q + owners_unknowns owners - 1)
    (pair_rows tree plan.conditions order (lasts_at plan.cut slot pair) pair
    ++ owners_have plan.workers q owners ++ last_of left right (owner_numbers q owners) piece))
    pair slot.level number (range_of left right)

abbrev pub pieces_from : (ℕ → Piece → Task) → ℕ → List Piece → List Task
pieces_from f n [] = []
pieces_from f n (piece ∷ rest) = f n piece ∷ pieces_from f (suc n) rest

abbrev pub pair_tasks : Tree → Plan → Slot → ℕ → ℕ → List (Anchor × Side) → Pair → List Task
pair_tasks tree plan slot left right producers pair =
    pieces_from (piece_task tree plan slot left right producers pair) 1 (pieces (length producers))

-- the systems of a slot, of which the kinds show only its signature
abbrev pub slot_tasks : Tree → Plan → Slot → Signature → List Task
slot_tasks tree plan slot blocked = []
slot_tasks tree plan slot (waits left right producers) = flat_map
    (pair_tasks tree plan slot left right producers) (pairs_of plan.cut slot.first slot.second)

-- a loop on the path of a private scalar makes no trip; and each of a phase
abbrev pub zero_trip_task : Tree → Plan → PathLoop → Task
zero_trip_task tree plan p = record {
  system = system_of (first_of tree + 2 * length (loops_outside p) - 1)
      (conditions_have (param_values tree) plan.conditions ++ zero_trip_has (first_of tree) p);
  lines = (line_of (loops_from p), p.store.line);
  variable = variable_of p.store.what;
  level = 0;
  piece = 0;
  range = (pos 0, pos 0);
}

abbrev pub paths_tasks : Tree → Plan → StaticPhase → List Task
paths_tasks tree plan s = map (zero_trip_task tree plan) (paths_of plan.cut s)

-- the slots in order: the second phase, then the first, then the level
abbrev pub slots_between : ℕ → StaticPhase → ℕ → StaticPhase → List Slot
slots_between s first t second = map (λ level.
    record { s = s; first = first; t = t; second = second; level = level })
    (levels (common first.outer second.outer) s t)

abbrev pub slots_before : ℕ → List StaticPhase → ℕ → StaticPhase → List Slot
slots_before s [] t second = []
slots_before s (first ∷ rest) t second =
    slots_between s first t second ++ slots_before (suc s) rest t second

abbrev pub slots_from : List StaticPhase → ℕ → List StaticPhase → List Slot
slots_from phases t [] = []
slots_from phases t (second ∷ rest) =
    slots_before 1 phases t second ++ slots_from phases (suc t) rest

abbrev pub slots_of : List StaticPhase → List Slot
slots_of phases = slots_from phases 1 phases

-- the signature of a slot under kinds
abbrev pub slot_signature : Version → List Kind → List StaticPhase → Slot → Signature
slot_signature version kinds phases slot = signature_of version kinds
    (certain_boundaries phases slot.first.outer slot.second.outer slot.s slot.t slot.level)

abbrev pub tasks_of : Tree → Plan → List Task
tasks_of tree plan =
    let phases = phases_of tree plan.cut.marks in
    flat_map (trips_tasks tree plan) phases
    ++ flat_map (λ slot. slot_tasks tree plan slot
    (slot_signature plan.version plan.kinds phases slot)) (slots_of phases)
    ++ flat_map (paths_tasks tree plan) phases

-- an obligation: a task with its number
abbrev pub numbered : ℕ → Task → Obligation
numbered n k = record {
  number = n;
  system = k.system;
  lines = k.lines;
  variable = k.variable;
  level = k.level;
  piece = k.piece;
  range = k.range;
}

abbrev pub numbered_from : ℕ → List Task → List Obligation
numbered_from n [] = []
numbered_from n (k ∷ rest) = numbered n k ∷ numbered_from (suc n) rest

abbrev pub obligations_of : Tree → Plan → List Obligation
obligations_of tree plan = numbered_from 1 (tasks_of tree plan)

-- the obligation with this number, from 1
abbrev pub obligation_numbered : ℕ → List Obligation → Option Obligation
obligation_numbered number all = if number == 0 then None else slice_get all (number - 1)

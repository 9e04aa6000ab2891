-- How many obligations a plan has, counted over its static phases.
use Rattle.std.specs.Prelude.{ℕ, ◌+◌, ◌*◌, ◌-◌, ◌==◌, Bool, ◌&&◌, ◌||◌, List, length, slice_get, sum_by, if◌then◌else◌}
use Rattle.std.specs.Option.{is_some}
use Rattle.nest_tree.specs.Tree.{Head, Statement, Tree, do_loop, work, continue}
use Rattle.own_scalars.specs.OwnScalars.{path_length}
use Rattle.owner_partition.specs.Cuts.{Cutting, privates_of}
use Rattle.sync_plan.specs.declared.plan.Kind.{Kind}
use Rattle.sync_plan.specs.declared.plan.Plan.{Plan}
use Rattle.sync_plan.specs.Fit.{is_dealt}
use Rattle.sync_plan.specs.Kinds.{anchor_in}
use Rattle.comm_system.specs.Boundaries.{of_first, of_second}
use Rattle.comm_system.specs.Certain.{is_certain}
use Rattle.comm_system.specs.Levels.{common, levels}
use Rattle.comm_system.specs.Obligations.{Slot, slot_signature}
use Rattle.comm_system.specs.OwnerRows.{pieces}
use Rattle.comm_system.specs.References.{StaticPhase, phases_of}
use Rattle.comm_system.specs.Shown.{is_among, is_summed, privates_in}
use Rattle.comm_system.specs.Signatures.{Signature, blocked, waits, or_nothing}
use Rattle.obligation_numbers.specs.Sums.{access_sum, shown_sum, sum_from}

-- 1 where two accesses conflict, each by its variable and whether it stores
abbrev pub conflict_count : ℕ → Bool → ℕ → Bool → ℕ
conflict_count v stores w stores' = if v == w && (stores || stores') then 1 else 0

-- how many ordered pairs of accesses of two phases conflict under a cut, and in two trips of one phase
abbrev pub pair_count : Cutting → Statement → Statement → ℕ
pair_count cut s t = shown_sum cut (λ v stores. shown_sum cut (conflict_count v stores) t) s

abbrev pub within_count : Cutting → Statement → ℕ
within_count cut s = access_sum (λ v stores. if is_among (privates_in cut s) v || is_summed cut s v
    then 0 else access_sum (conflict_count v stores) s) s

-- on how many sides the boundary in front of a phase is certain
abbrev pub sides_at : Slot → ℕ → List Head → ℕ
sides_at x u outer = (if is_certain of_first x u outer then 1 else 0)
    + (if is_certain of_second x u outer then 1 else 0)

abbrev pub is_producer : Kind → Bool
is_producer kind = is_some (anchor_in kind)

-- the kind in front of the phase with this number
abbrev pub kind_before : List Kind → ℕ → Kind
kind_before kinds u = or_nothing (slice_get kinds (u - 1))

-- on how many sides it is certain where its kind passes a test
abbrev pub sides_where : (Kind → Bool) → List Kind → Slot → ℕ → StaticPhase → ℕ
sides_where test kinds x u p = if test (kind_before kinds u) then sides_at x u p.outer else 0

-- all of a slot
abbrev pub certain_count : (Kind → Bool) → List Kind → List StaticPhase → Slot → ℕ
certain_count test kinds phases x = sum_from (sides_where test kinds x) 1 phases

-- how many pieces each pair has under a signature
abbrev pub piece_count : Signature → ℕ
piece_count blocked = 0
piece_count (waits left right producers) = length (pieces (length producers))

-- the systems of a slot, and those of two phases at all levels
abbrev pub slot_count : Plan → List StaticPhase → Slot → ℕ
slot_count plan phases slot = pair_count plan.cut slot.first.what slot.second.what
    * piece_count (slot_signature plan.version plan.kinds phases slot)

abbrev pub count_between : Plan → List StaticPhase → ℕ → StaticPhase → ℕ → StaticPhase → ℕ
count_between plan phases t second s first =
    sum_by (λ level. slot_count plan phases
    (record { s = s; first = first; t = t; second = second; level = level }))
    (levels (common first.outer second.outer) s t)

-- those of a phase with each phase before or behind it
abbrev pub count_before : Plan → List StaticPhase → ℕ → StaticPhase → ℕ
count_before plan phases t second = sum_from (count_between plan phases t second) 1 phases

-- those of two trips of a phase
abbrev pub trips_count : Plan → ℕ → StaticPhase → ℕ
trips_count plan n s = if is_dealt plan.cut.marks s.what then within_count plan.cut s.what else 0

-- those of the loops on the paths of the private scalars of a phase
abbrev pub path_count : Cutting → Statement → ℕ
path_count cut (do_loop head body) =
    sum_by (λ v. path_length v body) (privates_of cut.privates head.number)
path_count cut (work w) = 0
path_count cut (continue line) = 0

abbrev pub paths_count : Plan → ℕ → StaticPhase → ℕ
paths_count plan n s = path_count plan.cut s.what

-- those of a plan
abbrev pub count_of : Tree → Plan → ℕ
count_of tree plan =
    let phases = phases_of tree plan.cut.marks in
    sum_from (trips_count plan) 1 phases + sum_from (count_before plan phases) 1 phases
    + sum_from (paths_count plan) 1 phases

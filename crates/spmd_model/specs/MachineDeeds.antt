-- What a processor's acts do along such a timeline, phase by phase.
use Rattle.std.specs.Prelude.{ℕ, ◌≡◌, suc, ◌+◌, ◌*◌, ◌-◌, ◌==◌, pos, Bool, true, false, List, [], ◌∷◌, ◌++◌, map, Option, Some, None, slice_get, if◌then◌else◌}
use Rattle.std.specs.List.{flat_map, range_with_len}
use Rattle.std.specs.Option.{option_map}
use Rattle.nest_tree.specs.Layout.{first_cell}
use Rattle.nest_tree.specs.Tree.{Tree}
use Rattle.nest_model.specs.Accesses.{loads_of, store_of}
use Rattle.nest_model.specs.Instances.{Instance}
use Rattle.nest_model.specs.Memory.{assigned_value, line_of}
use Rattle.nest_model.specs.Visits.{Visit}
use Rattle.sync_plan.specs.Own.{Own, own_cell, own_loop, own_of}
use Rattle.sync_plan.specs.declared.plan.Plan.{Plan}
use Rattle.sync_plan.specs.Waits.{posts_at, waits_for}
use Rattle.spmd_model.specs.Closings.{given_first, has_stored, last_owner}
use Rattle.spmd_model.specs.Deeds.{Deed, loading, storing, adding, boundary_deeds, last_deed, owned_by}
use Rattle.spmd_model.specs.Rounds.{awaited_in_round, rounds_of}
use Rattle.spmd_model.specs.Machines.{is_by_signals, signal_barriers}
use Rattle.spmd_model.specs.Timelines.{counter, signal}
use Rattle.spmd_model.specs.declared.style.Style.{Style}

-- an instance of processor p
abbrev pub own_deeds : Tree → Own → ℕ → Instance → List Deed
own_deeds tree o p i = map loading (map (own_cell o p) (loads_of tree i))
    ++ last_deed (option_map (own_cell o p) (store_of tree i)) false (assigned_value tree i)
    (line_of tree i) ∷ []

-- one cell is loaded, and stored to another one, or added
abbrev pub keeping_deeds : ℕ → ℕ → List Deed
keeping_deeds from to = loading from ∷ storing to given_first ∷ []

abbrev pub totalling_deeds : ℕ → ℕ → List Deed
totalling_deeds from to = loading from ∷ adding to given_first ∷ storing from (λ given. pos 0) ∷ []

-- what processor p does for a private scalar with this shared cell, where this is the owner of the last trip, and for a sum scalar, where it has assigned that
abbrev pub kept_by : Own → ℕ → ℕ → Option ℕ → List Deed
kept_by o c p None = []
kept_by o c p (Some q) = if q == p then keeping_deeds (own_cell o q c) c else []

abbrev pub totalled_by : Own → ℕ → ℕ → Bool → List Deed
totalled_by o c p false = []
totalled_by o c p true = totalling_deeds (own_cell o p c) c

abbrev pub closing_deeds : Tree → Plan → ℕ → Visit → List Deed
closing_deeds tree plan p v =
    flat_map (λ s. kept_by (own_of tree plan v.place) (first_cell tree s) p
    (last_owner tree plan v)) (own_loop tree plan v.place).privates
    ++ flat_map (λ s. totalled_by (own_of tree plan v.place) (first_cell tree s) p
    (has_stored tree plan v (first_cell tree s) p)) (own_loop tree plan v.place).sums

-- in a round of a barrier, and in front of a phase
abbrev pub round_deeds : ℕ → ℕ → ℕ → ℕ → List Deed
round_deeds workers p first r =
    boundary_deeds signal (first + r) true (awaited_in_round workers r p ∷ [])

abbrev pub front_deeds : Style → Tree → Plan → ℕ → ℕ → ℕ → Visit → List Deed
front_deeds style tree plan p e passed v =
    if is_by_signals style plan v
    then flat_map (round_deeds plan.workers p (passed * rounds_of plan.workers + 1))
    (range_with_len 0 (rounds_of plan.workers))
    else boundary_deeds counter (e - 1) (posts_at tree plan p v.place v.loops)
    (waits_for tree plan p v.place v.loops)

abbrev pub part_deeds : Style → Tree → Plan → ℕ → ℕ → ℕ → Visit → List Deed
part_deeds style tree plan p e passed v =
    front_deeds style tree plan p e passed v
    ++ (flat_map (own_deeds tree (own_of tree plan v.place) p)
    (owned_by tree (slice_get plan.anchors (v.place - 1)) plan.workers p v)
    ++ closing_deeds tree plan p v)

-- in phases of which the first has this number, behind so many barriers by signals
abbrev pub deeds_by : Style → Tree → Plan → ℕ → ℕ → ℕ → List Visit → List Deed
deeds_by style tree plan p e passed [] = []
deeds_by style tree plan p e passed (v ∷ rest) = part_deeds style tree plan p e passed v
    ++ deeds_by style tree plan p (suc e) (passed + signal_barriers style plan v) rest

-- the loop of a static phase has no own scalars
pub record HasNoOwn (tree : Tree) (plan : Plan) (place : ℕ) : Type 0 where
  pub privates : (own_loop tree plan place).privates ≡ []
  pub sums : (own_loop tree plan place).sums ≡ []

-- Where the processors of a plan stand in front of a phase and behind its boundary, and a processor that goes on alone.
use Rattle.std.specs.Prelude.{ℕ, suc, ◌+◌, ◌*◌, ◌-◌, ◌≤◌, Some, ◌≡◌, ◌<◌, ℤ, nat_lt, List, [], ◌∷◌, ◌++◌, drop, length, slice_get, if◌then◌else◌}
use Rattle.std.specs.List.{flat_map}
use Rattle.nest_tree.specs.Layout.{cell_count}
use Rattle.nest_tree.specs.Limits.{IsWithinLimits}
use Rattle.nest_tree.specs.Tree.{Tree}
use Rattle.nest_tree.specs.WellFormed.{IsWellFormed}
use Rattle.nest_model.specs.Memory.{cell_value}
use Rattle.nest_model.specs.Ranges.{IsInRange}
use Rattle.nest_model.specs.Visits.{Visit}
use Rattle.owner_partition.specs.Phases.{phases}
use Rattle.sync_plan.specs.Fit.{IsFit}
use Rattle.sync_plan.specs.Own.{own_of}
use Rattle.sync_plan.specs.declared.plan.Plan.{Plan}
use Rattle.spmd_model.specs.Deeds.{Deed, adding, deed_of, owned_by, printing, storing}
use Rattle.spmd_model.specs.Lawful.{Moves}
use Rattle.spmd_model.specs.Machines.{machine_by}
use Rattle.spmd_model.specs.MachineDeeds.{closing_deeds, deeds_by, own_deeds}
use Rattle.spmd_model.specs.Acts.{Act, load}
use Rattle.spmd_model.specs.declared.style.Style.TheVariants.{Arrive}
use Rattle.spmd_model.specs.Laws.{Laws}
use Rattle.spmd_model.specs.Protocols.{Protocol, act_at, held_at}
use Rattle.spmd_model.specs.PlanProtocols.{protocol_by}
use Rattle.fork_join.specs.Overlays.{laid_in}

-- each processor has cells of its own, and boundaries are those of counters
abbrev pub protocol : Tree → Plan → Protocol
protocol tree plan = protocol_by Arrive tree plan

-- all deeds of a processor
unfoldable pub all_deeds : Tree → Plan → ℕ → List Deed
all_deeds tree plan p = deeds_by Arrive tree plan p 1 0 (phases tree plan.cut.marks)

-- those in phases behind so many, the first one's boundary among them
abbrev pub deeds_behind : Tree → Plan → ℕ → ℕ → List Deed
deeds_behind tree plan n p =
    deeds_by Arrive tree plan p (suc n) 0 (drop n (phases tree plan.cut.marks))

-- the same without that boundary
abbrev pub begun_from : Tree → Plan → ℕ → ℕ → List Visit → List Deed
begun_from tree plan p e [] = []
begun_from tree plan p e (v ∷ rest) =
    (flat_map (own_deeds tree (own_of tree plan v.place) p)
    (owned_by tree (slice_get plan.anchors (v.place - 1)) plan.workers p v)
    ++ closing_deeds tree plan p v) ++ deeds_by Arrive tree plan p (suc e) 0 rest

abbrev pub deeds_begun : Tree → Plan → ℕ → ℕ → List Deed
deeds_begun tree plan n p = begun_from tree plan p (suc n) (drop n (phases tree plan.cut.marks))

-- how many deeds of each processor are done where so many phases are behind it, and where it is past the boundary that comes next too; who is no processor does none
unfoldable pub in_front : Tree → Plan → ℕ → ℕ → ℕ
in_front tree plan n p = if nat_lt p plan.workers
    then length (all_deeds tree plan p) - length (deeds_behind tree plan n p)
    else 0

unfoldable pub begun : Tree → Plan → ℕ → ℕ → ℕ
begun tree plan n p = if nat_lt p plan.workers
    then length (all_deeds tree plan p) - length (deeds_begun tree plan n p)
    else 0

-- the processors below this one have come to the second places
abbrev pub mixed : (from to : ℕ → ℕ) → ℕ → ℕ → ℕ
mixed from to j q = if nat_lt q j then to q else from q

-- the first j processors stand in front of the next phase, and the others have begun this one, behind so many
abbrev pub joined : Tree → Plan → ℕ → ℕ → ℕ → ℕ
joined tree plan n j = mixed (begun tree plan n) (in_front tree plan (suc n)) j

-- wherever processor p stands in front of this act in lawful memory, it stands behind so many in memory with these stores laid in, which is lawful
abbrev pub Goes : Protocol → ℕ → ℕ → List (ℕ × ℤ) → ℕ → Type 0
Goes m p from stores n = (memory : List ℤ) (at after : ℕ → ℕ) → m.lawful memory at → at p ≡ from
    → Moves at after p n → m.lawful (laid_in stores memory) after

-- processor p's own cell for the own scalar with a place
abbrev pub own_place : Tree → ℕ → ℕ → ℕ
own_place tree p k = cell_count tree + (32 * p + k)

-- these are what its own cells hold, place by place, behind so many of its acts
abbrev pub HoldsOwn : Tree → Plan → ℕ → List ℤ → ℕ → Type 0
HoldsOwn tree plan p own n =
    (k : ℕ) → k < 32 → cell_value own k ≡ held_at (protocol tree plan) p (own_place tree p k) n

-- the laws hold of the plan's protocol, each act does its deed, what it stores, adds or prints is its deed's, and a load of an own cell gives what the cell holds
pub record IsSafe (tree : Tree) (plan : Plan) : Type 0 where
  pub laws : Laws (protocol tree plan)
  pub formed : IsWellFormed tree
  pub limits : IsWithinLimits tree
  pub ranges : IsInRange tree
  pub fits : IsFit tree plan
  pub acts : (p n : ℕ) (d : Deed) → p < plan.workers
      → slice_get (deeds_by Arrive tree plan p 1 0 (phases tree plan.cut.marks)) n ≡ Some d
      → (a : Act) × (act_at (protocol tree plan) p n ≡ Some a)
      × (deed_of (machine_by Arrive tree plan) a ≡ d)
  pub stored : (p n cell : ℕ) (value : List ℤ → ℤ) → p < plan.workers
      → slice_get (deeds_by Arrive tree plan p 1 0 (phases tree plan.cut.marks)) n
      ≡ Some (storing cell value) → (protocol tree plan).stored_at p n
      ≡ value ((protocol tree plan).registers_at p n)
  pub added : (p n cell : ℕ) (value : List ℤ → ℤ) → p < plan.workers
      → slice_get (deeds_by Arrive tree plan p 1 0 (phases tree plan.cut.marks)) n
      ≡ Some (adding cell value) → (protocol tree plan).stored_at p n
      ≡ value ((protocol tree plan).registers_at p n)
  pub printed : (p n : ℕ) (line : List ℤ → List ℕ) → p < plan.workers
      → slice_get (deeds_by Arrive tree plan p 1 0 (phases tree plan.cut.marks)) n
      ≡ Some (printing line) → (protocol tree plan).printed_at p (n + 1)
      ≡ (protocol tree plan).printed_at p n ++ line ((protocol tree plan).registers_at p n)
  pub own : (p n place cell : ℕ) → cell_count tree ≤ cell
      → act_at (protocol tree plan) p n ≡ Some (load place cell)
      → (protocol tree plan).loaded_at p n ≡ held_at (protocol tree plan) p cell n
  pub counted : (p : ℕ) → p < plan.workers
      → length ((protocol tree plan).acts p)
      ≡ length (deeds_by Arrive tree plan p 1 0 (phases tree plan.cut.marks))

-- all are past the boundary in front of the phase behind so many, in lawful memory; from there processor p alone has gone on to its act n, with these stores to so many cells, and its own cells hold these
pub record IsAlone (tree : Tree) (plan : Plan) (p behind : ℕ) (memory : List ℤ)
    (stores : List (ℕ × ℤ)) (own : List ℤ) (cells n : ℕ) : Type 0 where
  pub safe : IsSafe tree plan
  pub below : p < plan.workers
  pub lawful : (protocol tree plan).lawful memory (begun tree plan behind)
  pub goes : Goes (protocol tree plan) p (begun tree plan behind p) stores n
  pub holds : HoldsOwn tree plan p own n
  pub count : cells ≡ cell_count tree

-- A private scalar is stored first in each trip of its loop: each loop on its path makes a first trip.
use Rattle.std.specs.Prelude.{ℕ, ◌≡◌, ℤ, Bool, true, false, Contains, List, Some, slice_get, if◌then◌else◌}
use Rattle.std.specs.Option.{option_map_or}
use Rattle.nest_tree.specs.Tree.{Head, Statement, Statements, do_loop, work, continue, done, next, Tree, param_values}
use Rattle.nest_model.specs.Instances.{head_trips, with_loop}
use Rattle.nest_model.specs.Visits.{Visit}
use Rattle.own_scalars.specs.OwnScalars.{has_access, some_in}
use Rattle.owner_partition.specs.Cuts.{privates_of}
use Rattle.owner_partition.specs.Phases.{phases}
use Rattle.sync_plan.specs.declared.plan.Plan.{Plan}

-- where the loops round a text have these values, each loop in it round a scalar's first access makes a first trip, and so do those inside in that trip
abbrev mutual
  pub path_runs_in : List ℤ → ℕ → Statement → List ℤ → Bool
  path_runs_in params v (do_loop head body) loops = option_map_or
      (λ x. path_runs params v body (with_loop loops head.number x))
      (slice_get (head_trips params head loops) 0) false
  path_runs_in params v (work w) loops = true
  path_runs_in params v (continue line) loops = true

  pub path_runs : List ℤ → ℕ → Statements → List ℤ → Bool
  path_runs params v done loops = true
  path_runs params v (next s rest) loops = if some_in (has_access v) s
      then path_runs_in params v s loops
      else path_runs params v rest loops

-- so it is under a plan in each trip of each phase's loop, for each of its private scalars
abbrev pub AreStoredFirst : Tree → Plan → Type 0
AreStoredFirst tree plan =
    (k : ℕ) (v : Visit) (head : Head) (body : Statements) (x : ℤ) (u : ℕ)
    → slice_get (phases tree plan.cut.marks) k ≡ Some v → v.what ≡ do_loop head body →
    Contains (head_trips (param_values tree) head v.loops) x
    → Contains (privates_of plan.cut.privates head.number) u
    → path_runs (param_values tree) u body (with_loop v.loops head.number x) ≡ true

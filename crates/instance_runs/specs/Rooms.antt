-- How many bytes a program's PRINTs can write at most, and the loops without one.
use Rattle.std.specs.Prelude.{ℕ, ◌-◌, ◌==◌, ◌&&◌, ◌||◌, ◌≡◌, Bool, true, false, List, slice_get, slice_index_or, Some, sum_by, ◌⊎◌}
use Rattle.nest_tree.specs.Tree.{Statement, Statements, do_loop, work, continue, done, next, Tree}
use Rattle.nest_model.specs.Instances.{Instance, instances}
use Rattle.nest_model.specs.Visits.{Visit}
use Rattle.nest_walk.specs.declared.table.WorkCells.{WorkCells}
use Rattle.seq_meaning.specs.Room.{longest_line}
use Rattle.sync_plan.specs.Fit.{have_print}
use Rattle.instance_runs.specs.Loads.{widths}

-- of an instance, and of all
abbrev pub instance_room : Tree → Instance → ℕ
instance_room tree i = longest_line tree i.what

abbrev pub longest_output : Tree → ℕ
longest_output tree = sum_by (instance_room tree) (instances tree)

-- of a stop of a walk
abbrev pub statement_room : Tree → Statement → ℕ
statement_room tree (do_loop head body) = 0
statement_room tree (work w) = longest_line tree w
statement_room tree (continue line) = 0

abbrev pub visit_room : Tree → Visit → ℕ
visit_room tree v = statement_room tree v.what

-- a loop is marked
abbrev pub is_closed : List Bool → ℕ → Bool
is_closed marks n = slice_index_or marks (n - 1) false

-- marks stay away where they are
abbrev pub StayOpen : List Bool → List Bool → Type 0
StayOpen old new = (n : ℕ) → is_closed old n ≡ false → is_closed new n ≡ false

-- no PRINT stands in a loop that is marked
abbrev mutual
  pub IsSilent : List Bool → Statement → Type 0
  IsSilent marks (do_loop head body) =
      (is_closed marks head.number ≡ true → have_print body ≡ false) × AreSilent marks body
  IsSilent marks (work w) = Unit {0}
  IsSilent marks (continue line) = Unit {0}

  pub AreSilent : List Bool → Statements → Type 0
  AreSilent marks done = Unit {0}
  AreSilent marks (next s rest) = IsSilent marks s × AreSilent marks rest

-- a loop with a PRINT inside stands there whose number is one more
abbrev mutual
  pub is_printing_in : ℕ → Statement → Bool
  is_printing_in k (do_loop head body) =
      (head.number - 1 == k && have_print body) || is_printing_among k body
  is_printing_in k (work w) = false
  is_printing_in k (continue line) = false

  pub is_printing_among : ℕ → Statements → Bool
  is_printing_among k done = false
  is_printing_among k (next s rest) = is_printing_in k s || is_printing_among k rest

-- no value, or as many as some piece of work loads
abbrev pub IsReached : List WorkCells → ℕ → Type 0
IsReached entries n = (n ≡ 0) ⊎ ((k : ℕ) × (cells : WorkCells) × (slice_get entries k ≡ Some cells)
    × (widths cells.loads.items ≡ n))

-- A processor's deeds as an instance has them: a cell that all share stands for the one of the processor's own that it is.
use Rattle.std.specs.Prelude.{ℕ, ◌-◌, ◌*◌, ◌==◌, ◌&&◌, Bool, nat_lt, if◌then◌else◌}
use Rattle.nest_tree.specs.Layout.{cell_count, first_cell}
use Rattle.nest_tree.specs.Tree.{Tree}
use Rattle.sync_plan.specs.Own.{own_cell, own_loop, own_of}
use Rattle.sync_plan.specs.declared.plan.Plan.{Plan}
use Rattle.own_cells.specs.OwnCells.{AreFew}
use Rattle.spmd_model.specs.Deeds.{Deed, posting, awaiting, loading, storing, adding, printing}
use Rattle.spmd_model.specs.Timelines.{counter}
use Rattle.turns.specs.Turns.{scalar_at}

-- an instance has a deed of this cell, of so many that all share: it's the one that a cell goes to, which comes from it
abbrev pub is_seen : (to from : ℕ → ℕ) → (cells cell : ℕ) → Bool
is_seen to from cells cell = (to (from cell) == cell) && nat_lt (from cell) cells

-- an instance has no such deed
abbrev pub no_deed : Deed
no_deed = posting counter 0

-- a deed as an instance has it
abbrev pub seen_deed : (to from : ℕ → ℕ) → ℕ → Deed → Deed
seen_deed to from cells (posting word number) = no_deed
seen_deed to from cells (awaiting word on wanted) = no_deed
seen_deed to from cells (loading cell) =
    if is_seen to from cells cell then loading (from cell) else no_deed
seen_deed to from cells (storing cell value) =
    if is_seen to from cells cell then storing (from cell) value else no_deed
seen_deed to from cells (adding cell value) = no_deed
seen_deed to from cells (printing line) = printing line

-- the cell that all share for a cell of processor p in the static phase with a place
abbrev pub shared_for : Tree → Plan → ℕ → ℕ → ℕ → ℕ
shared_for tree plan place p cell = if nat_lt cell (cell_count tree)
    then cell
    else first_cell tree (scalar_at (own_loop tree plan place) (cell - cell_count tree - 32 * p))

-- in that phase
abbrev pub phase_deed : Tree → Plan → ℕ → ℕ → Deed → Deed
phase_deed tree plan place p d = seen_deed (own_cell (own_of tree plan place) p)
    (shared_for tree plan place p) (cell_count tree) d

-- the static phase with a place has few own scalars, and a way to look for them fits it
pub record FindsOwn (tree : Tree) (plan : Plan) (place : ℕ) (fits : Tree → Plan → ℕ → Type 0) :
    Type 0 where
  pub few : AreFew tree (own_loop tree plan place)
  pub fit : fits tree plan place

-- What a processor knows of the own scalars of a phase.
use Rattle.std.specs.Prelude.{ℕ, ◌+◌, ◌-◌, ◌≤◌, ◌≡◌, nat_lt, List, Option, All, length, map, slice_get, if◌then◌else◌, None}
use Rattle.std.specs.List.{position}
use Rattle.std.specs.Option.{option_map}
use Rattle.nest_tree.specs.Layout.{first_cell}
use Rattle.nest_tree.specs.Tree.{Work, assign, print, Statement, do_loop, work, continue, Tree}
use Rattle.own_scalars.specs.OwnScalars.{is_of}
use Rattle.sync_plan.specs.Own.{OwnLoop}
use Rattle.own_cells.specs.declared.cells.OwnCells.{OwnCells}

-- the cells of some scalars
abbrev pub cells_of : Tree → List ℕ → List ℕ
cells_of tree scalars = map (first_cell tree) scalars

-- the number of a variable of the program
pub record IsScalarNumber (tree : Tree) (u : ℕ) : Type 0 where
  pub low : 1 ≤ u
  pub high : u ≤ length tree.variables

-- a phase has few own scalars, which are the program's
pub record AreFew (tree : Tree) (own : OwnLoop) : Type 0 where
  pub privates : length own.privates ≤ 16
  pub sums : length own.sums ≤ 16
  pub private_scalars : All (IsScalarNumber tree) own.privates
  pub sum_scalars : All (IsScalarNumber tree) own.sums

-- they are those of a phase
pub record AreOwnCells (tree : Tree) (own : OwnLoop) (o : OwnCells) : Type 0 where
  pub private_cells : o.private_cells.items ≡ cells_of tree own.privates
  pub sums : o.sums.items ≡ own.sums
  pub sum_cells : o.sum_cells.items ≡ cells_of tree own.sums

-- the cell that all share of the own scalar with a place, if there is one
abbrev pub shared_cell : OwnCells → ℕ → Option ℕ
shared_cell o place = if nat_lt place 16
    then slice_get o.private_cells.items place
    else slice_get o.sum_cells.items (place - 16)

-- the place of the sum scalar, of these, that a piece of work assigns, and a statement
abbrev pub place_assigned : List ℕ → Work → Option ℕ
place_assigned sums (assign a) = option_map (λ k. 16 + k) (position (λ v. is_of v a.target) sums)
place_assigned sums (print p) = None

abbrev pub assigned_place : List ℕ → Statement → Option ℕ
assigned_place sums (do_loop head body) = None
assigned_place sums (work w) = place_assigned sums w
assigned_place sums (continue line) = None

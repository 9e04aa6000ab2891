-- What a run shows: the barriers in front of a place, and shared cells as those of a state.
use Rattle.std.specs.Prelude.{ℕ, ◌≡◌, ◌++◌, ℤ, List, length}
use Rattle.std.specs.List.{filter, range_with_len}
use Rattle.nest_tree.specs.Tree.{Tree}
use Rattle.sync_plan.specs.Boundaries.{gathers}
use Rattle.sync_plan.specs.declared.plan.Plan.{Plan}
use Rattle.spmd_model.specs.Timelines.{Machine}
use Rattle.spmd_model.specs.Lawful.{IsLawful}
use Rattle.spmd_model.specs.Reached.{state_at}
use Rattle.spmd_model.specs.States.{State}

-- how many barriers are gathered in front of those with this number of phases in front of them
abbrev pub barriers_in_front : Tree → Plan → ℕ → ℕ
barriers_in_front tree plan number = length (filter (gathers tree plan) (range_with_len 0 number))

-- ---- as states of the machine

-- cells that all share, so many, at these places, are those of a state of a machine: with some own cells behind them its memory is lawful
pub record AreIn (m : Machine) (shared : ℕ) (cells : List ℤ) (at : ℕ → ℕ) (s : State) : Type 0 where
  pub own : List ℤ
  pub count : length cells ≡ shared
  pub lawful : IsLawful m (cells ++ own) at
  pub is : s ≡ state_at m (cells ++ own) at

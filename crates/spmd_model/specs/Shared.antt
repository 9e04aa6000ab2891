-- Shared cells that are lawful: with some cells behind them, which are one processor's each.
use Rattle.std.specs.Prelude.{ℕ, ◌≡◌, ℤ, List, ◌++◌, length}
use Rattle.spmd_model.specs.Timelines.{Machine}
use Rattle.spmd_model.specs.Lawful.{IsLawful}

pub record AreLawful (m : Machine) (shared : ℕ) (cells : List ℤ) (at : ℕ → ℕ) : Type 0 where
  pub count : length cells ≡ shared
  pub own : List ℤ
  pub lawful : IsLawful m (cells ++ own) at

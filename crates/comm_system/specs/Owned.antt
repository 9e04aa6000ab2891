-- The unknowns of owners keep their columns.
use Rattle.std.specs.Prelude.{ℕ, ◌+◌, ◌<◌, ◌≡◌, true, List}
use Rattle.presolve.specs.Columns.{is_kept}
use Rattle.nest_systems.specs.Growing.{Growing}

-- these unknowns have their columns where the system is presolved
abbrev pub HasOwners : List ℕ → Growing → Type 0
HasOwners owners g =
    (k : ℕ) → k < g.shared.vars → is_kept owners (k + 1) ≡ true → is_kept g.columns k ≡ true

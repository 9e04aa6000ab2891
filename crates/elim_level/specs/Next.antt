-- What forming the next level comes to.
use Rattle.std.specs.Prelude.{ℕ, ◌≤◌, ℤ, List, length}
use Rattle.std.specs.List.{All, Contains}
use Rattle.farkas_cert.specs.declared.system.Row.{Row}
use Rattle.farkas_cert.specs.Inequalities.{Inequalities}
use Rattle.elim_rows.specs.declared.derivation.Derivation.{Derivation}
use Rattle.elim_level.specs.declared.level.Held.{Held}
use Rattle.elim_level.specs.declared.level.Formed.{Formed}
use Rattle.elim_level.specs.declared.level.Formed.TheVariants.{Level, Wide, Many}
use Rattle.elim_rows.specs.Pairs.{IsPair, IsWide}
use Rattle.elim_level.specs.Levels.{IsLevelRow, IsRaw, HasMoreThan}
use Rattle.elim_level.specs.Forming.{IsFormed}
use Rattle.elim_rows.specs.Table.{IsTable}
use Rattle.elim_level.specs.Logs.{IsHeld, rows_of}

-- no two of the rows have a wide combination
abbrev pub AreNowhereWide : ℕ → ℕ → List Row → Type 0
AreNowhereWide vars v rows = (upper lower : Row) (m n : ℤ) → Contains rows upper
    → Contains rows lower → IsPair v upper lower m n → IsWide vars m upper n lower → ⊥

-- the level that removes a variable from these rows, whole
pub record IsNextLevel (system : Inequalities) (v : ℕ) (rows : List Row) (log : List Derivation)
    (next : List Held) : Type 0 where
  pub formed : IsFormed (IsRaw v (Contains rows)) (rows_of next)
  pub held : All (IsHeld system log) next
  pub narrow : AreNowhereWide system.vars v rows
  pub few : length next ≤ 20000

-- what forming the level that removes a variable from these rows comes to
abbrev pub IsNext : Inequalities → ℕ → List Row → List Derivation → Formed → Type 0
IsNext system v rows log (Level next) = IsNextLevel system v rows log next.rows.items
    × IsTable (rows_of next.rows.items) next.chains.links.items next.chains.latest.items
IsNext system v rows log (Wide upper lower) = Contains rows upper × Contains rows lower
    × ((m : ℤ) × (n : ℤ) × IsPair v upper lower m n × IsWide system.vars m upper n lower)
IsNext system v rows log Many =
    HasMoreThan 20000 (IsLevelRow (IsRaw v (Contains rows))) × AreNowhereWide system.vars v rows

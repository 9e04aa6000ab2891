-- What is known of the rows that elimination has come to.
use Rattle.std.specs.Prelude.{ℕ, ◌≤◌, ◌<◌, List}
use Rattle.std.specs.List.{All, Contains}
use Rattle.farkas_cert.specs.declared.system.Row.{Row}
use Rattle.farkas_cert.specs.Inequalities.{Inequalities, AreFull}
use Rattle.elim_rows.specs.declared.derivation.Derivation.{Derivation}
use Rattle.elim_level.specs.declared.level.HeldRows.{HeldRows}
use Rattle.elim_level.specs.Levels.{IsDerived, HasMoreThan}
use Rattle.elim_rows.specs.Table.{IsTable}
use Rattle.elim_level.specs.Logs.{IsLog, IsHeld, rows_of}
use Rattle.fm_elim.specs.Answers.{HasNoWidePair}

-- the list has exactly the rows of the set
pub record IsExact (set : Row → Type 0) (rows : List Row) : Type 0 where
  pub has : (r : Row) → set r → Contains rows r
  pub only : (r : Row) → Contains rows r → set r

-- the rows are exactly those of level k, each with its number, by which the log derives it; no level from 1 to k has more than so many rows, which are at most 20,000, and none of the pairs that these levels were formed from is wide
pub record IsReached (system : Inequalities) (order : List ℕ) (k most : ℕ) (log : List Derivation)
    (level : HeldRows) : Type 0 where
  pub full : AreFull system.vars system.rows
  pub steps : IsLog system log
  pub held : All (IsHeld system log) level.rows.items
  pub exact : IsExact (IsDerived system order k) (rows_of level.rows.items)
  pub table : IsTable (rows_of level.rows.items) level.chains.links.items level.chains.latest.items
  pub limit : most ≤ 20000
  pub few : (j : ℕ) → 1 ≤ j → j ≤ k → HasMoreThan most (IsDerived system order j) → ⊥
  pub narrow : (j : ℕ) → j < k → HasNoWidePair system order j

-- A system without rows and columns that play no part.
use Rattle.std.specs.Prelude.{ℕ, ◌+◌, ◌-◌, List, [], ◌∷◌, ◌++◌, length, take, ◌≡◌}
use Rattle.farkas_cert.specs.declared.system.Row.{Row}
use Rattle.farkas_cert.specs.Inequalities.{Inequalities}
use Rattle.presolve.specs.Columns.{KeepsAll, with_columns}
use Rattle.presolve.specs.Rows.{KeepsLast, with_rows}

-- how many columns and rows the whole system has, which of them are kept, the columns by their places from 0 and the rows by their numbers from 1, and what is left
pub record Presolution : Type 0 where
  pub vars : ℕ
  pub count : ℕ
  pub columns : List ℕ
  pub numbers : List ℕ
  pub system : Inequalities

-- what is left of this whole system: its last row is kept, and of the rows that are kept each column that is not 0 throughout
pub record IsPresolved (whole : Inequalities) (p : Presolution) : Type 0 where
  pub vars : p.vars ≡ whole.vars
  pub count : p.count ≡ length whole.rows
  pub last : KeepsLast p.numbers whole.rows
  pub all : KeepsAll p.columns (with_rows p.numbers whole)
  pub system : p.system ≡ with_columns p.columns (with_rows p.numbers whole)

-- these rows, and one more behind them
abbrev pub with_row : Row → Inequalities → Inequalities
with_row row system = record { vars = system.vars; rows = system.rows ++ row ∷ [] }

-- one row more at the end, which is kept
abbrev pub with_last : Row → Presolution → Presolution
with_last row p = record {
  vars = p.vars;
  count = p.count + 1;
  columns = p.columns;
  numbers = p.numbers ++ (p.count + 1) ∷ [];
  system = with_row row p.system;
}

-- without the rows behind so many that are kept
abbrev pub first_kept : ℕ → Presolution → Presolution
first_kept kept p = record {
  vars = p.vars;
  count = p.count - (length p.numbers - kept);
  columns = p.columns;
  numbers = take kept p.numbers;
  system = record { vars = p.system.vars; rows = take kept p.system.rows };
}

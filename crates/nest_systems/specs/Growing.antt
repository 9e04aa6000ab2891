-- A system to whose end constraints come and go.
use Rattle.std.specs.Prelude.{ℕ, List, ◌++◌, map}
use Rattle.farkas_cert.specs.Inequalities.{Inequalities}
use Rattle.nest_rows.specs.declared.constraint.Constraint.{Constraint}
use Rattle.nest_rows.specs.Constraints.{row_of}

-- the system that stays, the constraints behind it, and the columns that are kept where it is presolved
pub record Growing : Type 0 where
  pub shared : Inequalities
  pub last : List Constraint
  pub columns : List ℕ

-- with the rows of constraints behind its own
abbrev pub with_constraints : List Constraint → Inequalities → Inequalities
with_constraints constraints system =
    record { vars = system.vars; rows = system.rows ++ map (row_of system.vars) constraints }

abbrev pub whole_of : Growing → Inequalities
whole_of g = with_constraints g.last g.shared

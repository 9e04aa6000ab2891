-- A system with further rows.
use Rattle.std.specs.Prelude.{List, ◌++◌, map, ◌≡◌}
use Rattle.farkas_cert.specs.Inequalities.{Inequalities}
use Rattle.nest_rows.specs.declared.constraint.Constraint.{Constraint}
use Rattle.nest_rows.specs.Constraints.{row_of}

-- behind the old rows stand those of these constraints
abbrev pub HasMore : List Constraint → Inequalities → Inequalities → Type 0
HasMore constraints old new =
    new ≡ record { vars = old.vars; rows = old.rows ++ map (row_of old.vars) constraints }

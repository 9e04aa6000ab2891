-- The text of a plan's obligations as systems of inequalities.
use Rattle.std.specs.Prelude.{ℕ, ℤ, List, [], ◌∷◌, ◌++◌, codes, length}
use Rattle.std.specs.Fmt.{decimal, signed_decimal}
use Rattle.std.specs.List.{flat_map}
use Rattle.comm_system.specs.declared.obligation.Obligation.{Obligation}
use Rattle.farkas_cert.specs.Inequalities.{Inequalities}
use Rattle.farkas_cert.specs.declared.system.Row.{Row}

-- a coefficient, with a blank behind it
abbrev pub coef_text : ℤ → List ℕ
coef_text coef = signed_decimal coef ++ 32 ∷ []

abbrev pub coefs_text : List ℤ → List ℕ
coefs_text coefs = flat_map coef_text coefs

-- a row: its coefficients, and its bound
abbrev pub row_text : Row → List ℕ
row_text row = coefs_text row.coefs ++ (codes "<= " ++ signed_decimal row.bound) ++ 10 ∷ []

-- what an obligation speaks of: its number, the lines of its accesses, their variable, the level and the piece
abbrev pub name_text : Obligation → List ℕ
name_text o =
    (codes "system O" ++ decimal o.number)
    ++ (codes ":" ++ decimal o.lines.0)
    ++ (codes "-" ++ decimal o.lines.1)
    ++ (codes ":V" ++ decimal o.variable)
    ++ (codes ":L" ++ decimal o.level)
    ++ (codes ":P" ++ decimal o.piece)

-- the difference of the owners below, and the one above
abbrev pub range_text : ℤ × ℤ → List ℕ
range_text range = (codes ":" ++ signed_decimal range.0) ++ (codes ":" ++ signed_decimal range.1)

-- how many unknowns there are, and how many rows, and the end of the line
abbrev pub counts_text : Inequalities → List ℕ
counts_text system =
    (codes " " ++ decimal system.vars) ++ (codes " " ++ decimal (length system.rows)) ++ 10 ∷ []

abbrev pub sizes_text : Obligation → List ℕ
sizes_text o = range_text o.range ++ counts_text o.system

-- the first line
abbrev pub head_text : Obligation → List ℕ
head_text o = name_text o ++ sizes_text o

abbrev pub system_text : Obligation → List ℕ
system_text o = head_text o ++ flat_map row_text o.system.rows

abbrev pub systems_text : List Obligation → List ℕ
systems_text found = flat_map system_text found

use Rattle.std.proofs.Common.{◌≡◌, FitsSigned, map, refl, rules, to_z-of_z, ap, ◌∙◌}
use mir.Syntax.{w128}
use Rattle.nest_rows.specs.Constraints.{row_of}
use Rattle.nest_rows.specs.declared.constraint.Constraint.{Constraint}
use Rattle.nest_systems.specs.Kept.{number_among, row_over}
use Rattle.nest_systems.proofs.KeptPlaces.{ok-same, row-same}
use Rattle.nest_systems.proofs.kept.row_over.Goals as goal

pub returns-clause-row : goal.returns-clause-row
returns-clause-row c =
    let (vars, rising) = c.requires.rising in
    let terms : c.push_numbered.new.terms ≡ map (λ t. (number_among 1 c.args.columns.now t.0, t.1)) c.args.constraint.now.terms = search rules in
    let fits : FitsSigned w128 c.args.constraint.now.bound = search rules in
    let numbered : Constraint = record { terms = c.push_numbered.new.terms; bound = c.args.constraint.now.bound } in
    ok-same c.row.result _ (row_over c.args.columns.now c.args.constraint.now) (simp to_z-of_z at c.row.ensures.row)
    (ap (λ n. row_of n numbered) c.requires.count ∙ row-same vars c.args.columns.now c.args.constraint.now numbered rising terms refl)

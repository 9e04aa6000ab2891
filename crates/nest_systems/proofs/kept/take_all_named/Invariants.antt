use Rattle.std.proofs.Common.{take}
use Rattle.std.specs.List.{flat_map}
use Rattle.nest_rows.specs.declared.constraint.Constraint.{Constraint}
use Rattle.nest_systems.specs.Kept.{HasTaken, unknowns_in}
use Rattle.nest_systems.proofs.kept.take_all_named.Given as goal

abbrev pub invariant-loop-constraint : goal.invariant-loop-constraint
invariant-loop-constraint l = HasTaken l.constants (flat_map (λ (c : Constraint). unknowns_in c.terms) (take l.constraint-index l.constraints)) l.initial.kept.items l.kept.items

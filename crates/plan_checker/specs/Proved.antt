-- Plans that are proved on a program, and the programs that such a plan fits.
use Rattle.std.specs.Prelude.{ℕ, ◌≡◌, ℤ, not, List, map, Option, Some, None, if◌then◌else◌}
use Rattle.std.specs.Option.{option_map, option_or}
use Rattle.nest_agree.specs.Agree.{do_agree}
use Rattle.nest_rows.specs.declared.constraint.Constraint.{Constraint}
use Rattle.nest_rows.specs.Groups.{constants_have}
use Rattle.nest_tree.specs.Tree.{Tree, param_values}
use Rattle.sync_plan.specs.declared.plan.ConditionRow.{ConditionRow}
use Rattle.sync_plan.specs.declared.plan.Conditions.{Conditions}
use Rattle.sync_plan.specs.declared.plan.Conditions.TheVariants.{Values, Rows}
use Rattle.sync_plan.specs.declared.plan.Plan.{Plan}
use Rattle.sync_plan.specs.Fit.{unmet_among}
use Rattle.sync_plan.specs.Shape.{wrong_field}
use Rattle.comm_system.specs.Obligations.{obligations_of}
use Rattle.plan_checker.specs.Accepted.{AreCertified}
use Rattle.plan_checker.specs.declared.refusal.PlanRefusal.{PlanRefusal}
use Rattle.plan_checker.specs.declared.refusal.PlanRefusal.TheVariants.{Condition, Differs}
use Rattle.plan_checker.specs.Failures.{failure_with}
use Rattle.plan_checker.specs.Refusals.{first_refusal}

-- what doesn't depend on where anchors lie, who prints, and values of named constants: the shape, and a good certificate for each obligation
pub record IsProved (tree : Tree) (plan : Plan) : Type 0 where
  pub shape : wrong_field tree plan ≡ None
  pub certified : AreCertified (obligations_of tree plan) plan.certificates

-- the first reason why a plan isn't proved
abbrev pub first_unproved : Tree → Plan → Option PlanRefusal
first_unproved tree plan = failure_with None tree plan

-- a row of a system as one of conditions
abbrev pub as_row : Constraint → ConditionRow
as_row c = record { coefs = c.terms; bound = c.bound }

-- rows that named constants, from the one with this number on, meet exactly where they have these values
abbrev pub value_rows : ℕ → List ℤ → List ConditionRow
value_rows n values = map as_row (constants_have n values)

-- the first of these rows, from 1, that other values of the named constants don't meet; a plan with rows of its own asks for those alone
abbrev pub first_other : List ℤ → Conditions → List ℤ → Option ℕ
first_other values Values others = unmet_among 1 others (value_rows 1 values)
first_other values (Rows rows) others = None

-- the first reason why a plan that was proved on a program doesn't fit another one: they don't agree; it doesn't fit it, by its shape, its placement, its PRINTs or its own rows; or, where it has none, the named constants have other values
abbrev pub first_unfit : Tree → Plan → Tree → Option PlanRefusal
first_unfit f plan g =
    if not (do_agree f g) then Some Differs
    else option_or (first_refusal g plan) (option_map Condition
    (first_other (param_values f) plan.conditions (param_values g)))

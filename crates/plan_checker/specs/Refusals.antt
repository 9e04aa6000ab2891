-- The refusal of a plan for the first reason why it doesn't fit.
use Rattle.std.specs.Prelude.{Option}
use Rattle.std.specs.Option.{option_map}
use Rattle.nest_tree.specs.Tree.{Tree}
use Rattle.sync_plan.specs.declared.plan.Plan.{Plan}
use Rattle.sync_plan.specs.Fit.{Misfit, condition, first_misfit, placement, print_place, shape}
use Rattle.plan_checker.specs.declared.refusal.PlanRefusal.{PlanRefusal}
use Rattle.plan_checker.specs.declared.refusal.PlanRefusal.TheVariants.{Condition, Placement, PrintPlace, Shape}

abbrev pub refusal_of : Misfit → PlanRefusal
refusal_of (shape field) = Shape field
refusal_of (placement w) = Placement w.phase w.low w.high
refusal_of (print_place phase) = PrintPlace phase
refusal_of (condition row) = Condition row

abbrev pub first_refusal : Tree → Plan → Option PlanRefusal
first_refusal tree plan = option_map refusal_of (first_misfit tree plan)

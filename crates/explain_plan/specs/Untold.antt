-- Why nothing is told of a plan that fits the program.
use Rattle.std.specs.Prelude.{◌≡◌, ⊤, Some}
use Rattle.nest_tree.specs.Tree.{Tree}
use Rattle.sync_plan.specs.declared.plan.Plan.{Plan}
use Rattle.plan_checker.specs.Failures.{first_failure}
use Rattle.plan_checker.specs.declared.refusal.PlanRefusal.{PlanRefusal}
use Rattle.plan_checker.specs.declared.refusal.PlanRefusal.TheVariants.{Bad, Missing, NoMemory}

-- The plan is refused, and not for an obligation, of which would be told. Memory may run out in place of each.
abbrev pub IsUntold : Tree → Plan → PlanRefusal → Type 0
IsUntold tree plan NoMemory = ⊤
IsUntold tree plan (Missing n) = ⊥
IsUntold tree plan (Bad n fault) = ⊥
IsUntold tree plan refusal = first_failure tree plan ≡ Some refusal

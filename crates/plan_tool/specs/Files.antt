-- What is emitted.
use Rattle.std.specs.Prelude.{ℕ, ℤ, List}
use Rattle.c_text.specs.Files.{EndsWithPlan}
use Rattle.command_words.specs.declared.request.PlanChoice.{PlanChoice}
use Rattle.f77_scene.specs.Scene.{Name}
use Rattle.nest_tree.specs.Tree.{Tree}
use Rattle.plan_text.specs.PlanText.{plan_text}
use Rattle.asked_plan.specs.Plans.{IsPlanned}
use Rattle.sync_plan.specs.declared.plan.Plan.{Plan}

-- The file ends with the text of the plan that is asked for, for the program of the source that the bytes begin with.
pub record IsEmitted (workers : ℕ) (choice : PlanChoice) (bytes : List ℕ)
    (settings : List (Name × ℤ)) (file : List ℕ) : Type 0 where
  pub tree : Tree
  pub plan : Plan
  pub planned : IsPlanned workers choice bytes settings tree plan
  pub ends : EndsWithPlan (plan_text plan) file

-- The first line that no plan's text has behind the lines above it.
use Rattle.std.specs.Prelude.{ℕ, ◌+◌, ◌≡◌, List, [], ◌∷◌, ◌++◌, length}
use Rattle.sync_plan.specs.declared.plan.Plan.{Plan}
use Rattle.plan_text.specs.declared.syntax.PlanSyntax.{PlanSyntax}
use Rattle.plan_text.specs.declared.syntax.PlanSyntax.TheVariants.{Line, NoMemory}
use Rattle.plan_text.specs.PlanText.{HasText, IsPlanText, plan_lines, text_of}

-- a plan's text begins with these lines
abbrev pub Opens : List (List ℕ) → Type 0
Opens front =
    (plan : Plan) × HasText plan × ((more : List (List ℕ)) × (plan_lines plan ≡ front ++ more))

-- bytes that are no plan's text, whose first lines up to this one open one, and with this line, if it is whole, no longer
pub record IsFirstAlien (bytes : List ℕ) (number : ℕ) : Type 0 where
  pub front : List (List ℕ)
  pub behind : List ℕ
  pub cut : bytes ≡ text_of front ++ behind
  pub count : length front + 1 ≡ number
  pub opens : Opens front
  pub alien : (line : List ℕ) (rest : List ℕ) → behind ≡ line ++ 10 ∷ rest
      → Opens (front ++ line ∷ []) → ⊥
  pub no_text : IsPlanText bytes → ⊥

-- what a refusal says
abbrev pub RefusesText : List ℕ → PlanSyntax → Type 0
RefusesText bytes (Line n) = IsFirstAlien bytes n
RefusesText bytes NoMemory = Unit {0}

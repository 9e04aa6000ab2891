-- What stands in an emitted file.
use Rattle.std.specs.Prelude.{ℕ, ◌≡◌, List, ◌++◌, codes}

-- The file ends with these bytes, the text of a plan, and the end of the comment that they stand in.
abbrev pub EndsWithPlan : List ℕ → List ℕ → Type 0
EndsWithPlan plan_text file = (front : List ℕ) × (file ≡ front ++ plan_text ++ codes "*/\n")

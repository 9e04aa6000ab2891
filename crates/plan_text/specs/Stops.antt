-- Where the reading of a part of a text stops.
use Rattle.std.specs.Prelude.{ℕ, ◌+◌, ◌≡◌, Bool, true, List, ◌∷◌, ◌++◌, length}
use Rattle.std.specs.List.{list_all}
use Rattle.plan_text.specs.PlanText.{numbered, text_of}
use Rattle.plan_text.specs.declared.syntax.PlanSyntax.{PlanSyntax}
use Rattle.plan_text.specs.declared.syntax.PlanSyntax.TheVariants.{Line, NoMemory}

-- no line of a value that is shown stands in front
abbrev pub IsAlienLine : {X : Type 0} → (X → List ℕ) → (X → Bool) → List ℕ → Type 0
IsAlienLine {X} line shown rest =
    (x : X) (behind : List ℕ) → shown x ≡ true → rest ≡ line x ++ (10 ∷ behind) → ⊥

-- behind so many lines that were taken before, line n is the first with which no value's lines begin; those above it are a front of some value's lines, which has more
pub record Stops {X : Type 0} (lines : X → List (List ℕ)) (IsShown : X → Type 0) (rest : List ℕ)
    (taken n : ℕ) : Type 0 where
  pub front : List (List ℕ)
  pub behind : List ℕ
  pub cut : rest ≡ text_of front ++ behind
  pub count : taken + length front + 1 ≡ n
  pub whole : X
  pub shown : IsShown whole
  pub next : List ℕ
  pub more : List (List ℕ)
  pub opened : lines whole ≡ front ++ next ∷ more
  pub alien : (x : X) (line : List ℕ) (later : List (List ℕ)) (rest : List ℕ) → IsShown x
      → lines x ≡ front ++ line ∷ later → behind ≡ line ++ (10 ∷ rest) → ⊥

-- what a refusal of a line, and of a part, says
abbrev pub RefusesLine : {X : Type 0} → (X → List ℕ) → (X → Bool) → List ℕ → ℕ → PlanSyntax → Type 0
RefusesLine line shown rest taken (Line n) = (n ≡ taken + 1) × IsAlienLine line shown rest
RefusesLine line shown rest taken NoMemory = Unit {0}

abbrev pub RefusesPart : {X : Type 0} → (X → List (List ℕ)) → (X → Type 0) → List ℕ → ℕ → PlanSyntax
    → Type 0
RefusesPart lines IsShown rest taken (Line n) = Stops lines IsShown rest taken n
RefusesPart lines IsShown rest taken NoMemory = Unit {0}

-- items that are shown, so many
abbrev pub AreItems : {X : Type 0} → (X → Bool) → ℕ → List X → Type 0
AreItems shown n xs = (length xs ≡ n) × (list_all shown xs ≡ true)

-- so many items were taken from the front of the text that was left
pub record ItemsRead {X : Type 0} (lines : ℕ → X → List (List ℕ)) (shown : X → Bool) (rest : List ℕ)
    (taken : ℕ) (later : List ℕ) (now : ℕ) (xs : List X) (n : ℕ) : Type 0 where
  pub read : rest ≡ text_of (numbered lines 1 xs) ++ later
  pub counted : now ≡ taken + length (numbered lines 1 xs)
  pub items : AreItems shown n xs

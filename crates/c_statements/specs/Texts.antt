-- What stands in a text, one thing behind another. Each thing is a relation: that bytes are so.
use Rattle.std.specs.Prelude.{ℕ, ◌≡◌, ◌==◌, ◌⊎◌, Bool, IsTrue, List, [], ◌∷◌, ◌++◌, codes, MatchBool}
use Rattle.std.specs.List.{list_all}

infixr 55 ◌⨾◌
-- just these bytes
abbrev pub code : List ℕ → List ℕ → Type 0
code bytes text = text ≡ bytes

abbrev pub nothing : List ℕ → Type 0
nothing text = text ≡ []

-- one thing, and another one behind it
pub record Both (P Q : List ℕ → Type 0) (text : List ℕ) : Type 0 where
  pub front : List ℕ
  pub behind : List ℕ
  pub is : text ≡ front ++ behind
  pub first : P front
  pub second : Q behind

abbrev pub ◌⨾◌ : (List ℕ → Type 0) → (List ℕ → Type 0) → List ℕ → Type 0
◌⨾◌ P Q text = Both P Q text

-- a thing for each of a list
abbrev pub each_of : {A : Type 0} → (A → List ℕ → Type 0) → List A → List ℕ → Type 0
each_of f [] text = nothing text
each_of f (x ∷ xs) text = (f x ⨾ each_of f xs) text

-- the first thing where that is so, else the second
abbrev pub chosen : Bool → (List ℕ → Type 0) → (List ℕ → Type 0) → List ℕ → Type 0
chosen b P Q text = MatchBool b (P text) (Q text)

-- a thing where it is wanted
abbrev pub wanted : Bool → (List ℕ → Type 0) → List ℕ → Type 0
wanted b P = chosen b P nothing

abbrev pub either : (List ℕ → Type 0) → (List ℕ → Type 0) → List ℕ → Type 0
either P Q text = P text ⊎ Q text

-- the blanks at the beginning of a line: how many there are says nothing
abbrev pub indent : List ℕ → Type 0
indent text = IsTrue (list_all (λ b. b == 32) text)

-- a line of code
abbrev pub line : List ℕ → List ℕ → Type 0
line bytes = indent ⨾ code (bytes ++ codes "\n")

-- bytes are appended that are so
pub record Written (P : List ℕ → Type 0) (old new : List ℕ) : Type 0 where
  pub text : List ℕ
  pub appended : new ≡ old ++ text
  pub is : P text

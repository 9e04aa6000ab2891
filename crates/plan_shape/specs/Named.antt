-- What the anchor of a static phase may name.
use Rattle.std.specs.Prelude.{ℕ, List, ◌∷◌, Option, Some, None}

-- the loops round a static phase, and one more where it is a Doall loop
abbrev pub with_own : Option ℕ → List ℕ → List ℕ
with_own None around = around
with_own (Some n) around = n ∷ around

-- How an array is distributed, by the directives from the last to the first.
use Rattle.std.specs.Prelude.{ℕ, ◌==◌, nat_lt, nat_le, Bool, true, false, if◌then◌else◌, List, [], ◌∷◌, Option, Some, None}
use Rattle.f77_scene.specs.Directives.{Placing, word_of, directive_text}
use Rattle.f77_scene.specs.Scene.{Name}
use Rattle.f77_program.specs.Numbered.{numbered}

-- ---- the private functions over again

-- a number is there and is less than the other, or the other is not there
abbrev pub is_before : Option ℕ → Option ℕ → Bool
is_before None other = false
is_before (Some k) None = true
is_before (Some k) (Some other) = nat_lt k other

-- the number of the directive that distributes an array so, if there is one
abbrev pub directive_number : List Name → Name → ℕ → Placing → Option ℕ
directive_number texts n dimensions p =
    if nat_le p.0 dimensions then numbered texts (directive_text n dimensions p) else None

-- the first of these candidates whose directive has the least number, or what is chosen so far with its number
abbrev pub chosen : List Name → Name → ℕ → List Placing → Option ℕ → Placing → Placing
chosen texts n dimensions [] first so_far = so_far
chosen texts n dimensions (p ∷ ps) first so_far =
    if is_before (directive_number texts n dimensions p) first
    then chosen texts n dimensions ps (directive_number texts n dimensions p) p
    else chosen texts n dimensions ps first so_far

-- the item of a dimension, a word or `*` (42)
abbrev pub item_text : ℕ → Placing → List ℕ
item_text dimension p = if dimension == p.0 then word_of p.1 else 42 ∷ []

-- The first of numbers.
use Rattle.std.specs.Prelude.{ℤ, List, [], ◌∷◌, ◌++◌, Option, Some, None}
use Rattle.f77_forms.specs.Form.{ExpressionForm}
use Rattle.f77_scene.specs.Expressions as expressions
use Rattle.f77_scene.specs.Limits.{past, extent_past}
use Rattle.f77_scene.specs.Scene.{Scene}

abbrev pub first_of : List ℤ → Option ℤ
first_of [] = None
first_of (z ∷ zs) = Some z

abbrev pub value_of : Scene → ExpressionForm → ℤ
value_of s e = expressions.value_of s e

-- what passes a limit among the bounds of a dimension
abbrev pub bounds_past : ℤ × ℤ → List ℤ
bounds_past b = past (b.0 ∷ b.1 ∷ []) ++ extent_past b

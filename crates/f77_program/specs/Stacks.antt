-- Going over the parts of an expression from the last to the first: what each comes to lies on a stack, on which its operands' lay before.
use Rattle.std.specs.Prelude.{List, [], ◌∷◌, ◌++◌, drop, length, ◌≡◌}
use Rattle.std.specs.List.{flat_map}
use Rattle.f77_forms.specs.Form.{ExpressionForm}
use Rattle.f77_scene.specs.Expressions.{parts_of}
use Rattle.f77_program.specs.Operands.{operands_of}

-- the stack behind these parts, the top first, where each part comes to a value of its own
abbrev pub stacked : {X : Type 0} → (ExpressionForm → X) → List ExpressionForm → List X
stacked f [] = []
stacked f (p ∷ ps) = f p ∷ drop (length (operands_of p)) (stacked f ps)

-- behind each part stand the parts of its operands
abbrev pub AreFollowed : List ExpressionForm → Type 0
AreFollowed [] = Unit {0}
AreFollowed (p ∷ ps) = ((more : List ExpressionForm)
    × (ps ≡ flat_map parts_of (operands_of p) ++ more)) × AreFollowed ps

-- The operands of an expression, and expressions behind references.
use Rattle.std.specs.Prelude.{List, [], ◌∷◌, map}
use Rattle.std.specs.Borrow.{Bor}
use Rattle.f77_forms.specs.declared.form.Expression.{Expression}
use Rattle.f77_forms.specs.Form.{ExpressionForm, number, name, call, parenthesized, signed, binary}
use Rattle.f77_forms.specs.View.{expression_of}
use Rattle.f77_scene.specs.Expressions.{list_of}

-- what an expression is put together from, in the order of the text
abbrev pub operands_of : ExpressionForm → List ExpressionForm
operands_of (number ds) = []
operands_of (name n) = []
operands_of (call n arguments) = list_of arguments
operands_of (parenthesized e) = e ∷ []
operands_of (signed sign e) = e ∷ []
operands_of (binary op a b) = a ∷ b ∷ []

-- expressions behind references
abbrev pub forms_of : List (Bor Expression) → List ExpressionForm
forms_of es = map (λ (e : Bor Expression). expression_of e.now) es

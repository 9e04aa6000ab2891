-- Expressions as they are written: their parts, constants and their values (ANSI X3.9-1978, section 6).
use Rattle.std.specs.Prelude.{ℤ, pos, ◌+ℤ◌, ◌-ℤ◌, ◌*ℤ◌, Bool, true, ◌&&◌, not, if◌then◌else◌, List, [], ◌∷◌, ◌++◌, flat_map, int_le, codes, ◌≡◌, refl}
use Rattle.std.specs.Int.{int_wrap}
use Rattle.std.specs.Ordering.{int_eq}
use Rattle.std.specs.Str.{bytes_eq}
use Rattle.nest_tree.specs.Values.{wrapped, quotient}
use Rattle.f77_forms.specs.declared.form.Sign.{Sign}
use Rattle.f77_forms.specs.declared.form.Sign.TheVariants.{Plus, Minus}
use Rattle.f77_forms.specs.declared.form.Operator.{Operator}
use Rattle.f77_forms.specs.declared.form.Operator.TheVariants.{Add, Subtract, Multiply, Divide}
use Rattle.f77_forms.specs.Characters.{decimal}
use Rattle.f77_forms.specs.Form.{ExpressionForm, number, name, call, parenthesized, signed, binary, ArgumentForms, no_more, one_more}
use Rattle.f77_scene.specs.Scene.{Name, Scene, first_scene, is_function, is_constant_name, value_named}

-- an expression and all that stands in it, in the order of the text
abbrev mutual
  pub parts_of : ExpressionForm → List ExpressionForm
  parts_of (number ds) = number ds ∷ []
  parts_of (name n) = name n ∷ []
  parts_of (call n arguments) = call n arguments ∷ parts_among arguments
  parts_of (parenthesized e) = parenthesized e ∷ parts_of e
  parts_of (signed sign e) = signed sign e ∷ parts_of e
  parts_of (binary op a b) = binary op a b ∷ parts_of a ++ parts_of b

  pub parts_among : ArgumentForms → List ExpressionForm
  parts_among no_more = []
  parts_among (one_more e rest) = parts_of e ++ parts_among rest

abbrev pub list_of : ArgumentForms → List ExpressionForm
list_of no_more = []
list_of (one_more e rest) = e ∷ list_of rest

-- the name that a part of an expression is, if it is one
abbrev pub name_in : Scene → ExpressionForm → List Name
name_in s (number ds) = []
name_in s (name n) = n ∷ []
name_in s (call n arguments) = if is_function s n then [] else n ∷ []
name_in s (parenthesized a) = []
name_in s (signed sign a) = []
name_in s (binary op a b) = []

-- the names of variables and constants in an expression, in the order of the text
abbrev pub names_in : Scene → ExpressionForm → List Name
names_in s e = flat_map (name_in s) (parts_of e)

-- a constant: numbers, names of earlier PARAMETER statements, operators, MIN and MAX, and parentheses
abbrev mutual
  pub is_constant : Scene → ExpressionForm → Bool
  is_constant s (number ds) = true
  is_constant s (name n) = is_constant_name s n
  is_constant s (call n arguments) = is_function s n && are_constants s arguments
  is_constant s (parenthesized e) = is_constant s e
  is_constant s (signed sign e) = is_constant s e
  is_constant s (binary op a b) = is_constant s a && is_constant s b

  pub are_constants : Scene → ArgumentForms → Bool
  are_constants s no_more = true
  are_constants s (one_more e rest) = is_constant s e && are_constants s rest

abbrev pub sign_value : Sign → ℤ → ℤ
sign_value Plus a = a
sign_value Minus a = wrapped (pos 0 -ℤ a)

abbrev pub operator_value : Operator → ℤ → ℤ → ℤ
operator_value Add a b = wrapped (a +ℤ b)
operator_value Subtract a b = wrapped (a -ℤ b)
operator_value Multiply a b = wrapped (a *ℤ b)
operator_value Divide a b = quotient a b

-- MIN or MAX of two values
abbrev pub chosen : Name → ℤ → ℤ → ℤ
chosen n a b = if bytes_eq n (codes "MIN")
    then (if int_le a b then a else b)
    else (if int_le a b then b else a)

-- the value of a constant; sums, differences and products wrap
abbrev mutual
  pub value_of : Scene → ExpressionForm → ℤ
  value_of s (number ds) = pos (decimal ds)
  value_of s (name n) = value_named s.constants n
  value_of s (call n no_more) = pos 0
  value_of s (call n (one_more e rest)) = value_among s n (value_of s e) rest
  value_of s (parenthesized e) = value_of s e
  value_of s (signed sign e) = sign_value sign (value_of s e)
  value_of s (binary op a b) = operator_value op (value_of s a) (value_of s b)

  -- of a value and those of further arguments
  pub value_among : Scene → Name → ℤ → ArgumentForms → ℤ
  value_among s n so_far no_more = so_far
  value_among s n so_far (one_more e rest) = value_among s n (chosen n so_far (value_of s e)) rest

-- a divisor has to be a constant other than 0
abbrev pub is_divisor : Scene → ExpressionForm → Bool
is_divisor s e = is_constant s e && not (int_eq (value_of s e) (pos 0))

-- ---- an example

-- -MAX(2,7)/2 has the value -3
pub value_of-example : value_of first_scene
    (signed Minus (binary Divide (call (codes "MAX")
    (one_more (number (codes "2")) (one_more (number (codes "7")) no_more))) (number (codes "2"))))
    ≡ pos 0 -ℤ pos 3
unfolding int_wrap
value_of-example = refl

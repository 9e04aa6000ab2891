-- What an expression comes to, all at once.
use Rattle.std.specs.Prelude.{ℤ, pos, Bool, false, ◌&&◌, ◌||◌, not, if◌then◌else◌, List, [], ◌∷◌}
use Rattle.std.specs.List.{list_all, list_any}
use Rattle.std.specs.Ordering.{int_eq}
use Rattle.f77_forms.specs.declared.form.Sign.{Sign}
use Rattle.f77_forms.specs.declared.form.Sign.TheVariants.{Plus, Minus}
use Rattle.f77_forms.specs.declared.form.Operator.{Operator}
use Rattle.f77_forms.specs.declared.form.Operator.TheVariants.{Add, Subtract, Multiply, Divide}
use Rattle.f77_forms.specs.Form.{ExpressionForm}
use Rattle.f77_scene.specs.Scene.{Name, Scene, is_constant_name, number_among, constant_names, is_function, is_array, is_open, loop_named}
use Rattle.f77_scene.specs.Expressions.{parts_of, is_constant, value_of, sign_value, operator_value}
use Rattle.f77_scene.specs.Affine.{fixed, has_loop}
use Rattle.f77_scene.specs.Tests.{divides_badly, subscripts_in}
use Rattle.f77_program.specs.declared.linear.Linear.{Linear}
use Rattle.f77_program.specs.declared.linear.Linear.TheVariants as linear
use Rattle.f77_program.specs.declared.reach.Reach.{Reach}
use Rattle.f77_program.specs.declared.reach.Reach.TheVariants.{Within}
use Rattle.f77_program.specs.Reaches.{reach_of, also, reach_at}
use Rattle.f77_program.specs.declared.measure.Measure.{Measure}
use Rattle.f77_program.specs.Functions.{is_minimum, chosen_by}
use Rattle.f77_program.specs.Linear.{past, linear_with, linear_of, loop_linear, constant_linear, negated, added, times_value}

-- whether it is a constant, its value, whether it names a loop variable, what it is as an affine form, whether a divisor in it is bad, and what the subscripts in it are
abbrev pub measure_of : Scene → ExpressionForm → Measure
measure_of s e =
    record {
      constant = is_constant s e;
      value = value_of s e;
      looped = has_loop s e;
      linear = linear_of s e;
      divided = list_any (divides_badly s) (parts_of e);
      subscripts = reach_of s (subscripts_in s e);
    }

-- ---- the private functions over again

-- a number as a form
abbrev pub fixed_linear : ℤ → Linear
fixed_linear z = linear_with (past (z ∷ [])) (fixed z)

-- a constant's value as a form
abbrev pub value_linear : Bool → ℤ → Linear
value_linear constant z = if constant then fixed_linear z else linear.NotAffine

abbrev pub name_linear : Scene → Name → Linear
name_linear s n = if is_open s n
    then loop_linear (loop_named s.opened n)
    else (if is_constant_name s n
    then constant_linear (number_among (constant_names s) n)
    else linear.NotAffine)

-- the value of MIN or MAX from one value on
abbrev pub chosen_from : Bool → ℤ → List Measure → ℤ
chosen_from minimum z [] = z
chosen_from minimum z (m ∷ ms) = chosen_from minimum (chosen_by minimum z m.value) ms

abbrev pub chosen_among : Bool → List Measure → ℤ
chosen_among minimum [] = pos 0
chosen_among minimum (m ∷ ms) = chosen_from minimum m.value ms

-- of arguments that are subscripts, and of the subscripts in arguments
abbrev pub linear_reaches : List Measure → Reach
linear_reaches [] = Within
linear_reaches (m ∷ ms) = also (reach_at m.linear) (linear_reaches ms)

abbrev pub inner_reaches : List Measure → Reach
inner_reaches [] = Within
inner_reaches (m ∷ ms) = also m.subscripts (inner_reaches ms)

abbrev pub call_reach : Bool → List Measure → Reach
call_reach array ms =
    if array then also (linear_reaches ms) (inner_reaches ms) else inner_reaches ms

abbrev pub call_measure : Scene → Name → List Measure → Measure
call_measure s n ms =
    let constant : Bool = is_function s n && list_all (λ (m : Measure). m.constant) ms in
    let value : ℤ = chosen_among (is_minimum n) ms in
    record {
      constant = constant;
      value = value;
      looped = (not (is_function s n) && is_open s n) || list_any (λ (m : Measure). m.looped) ms;
      linear = value_linear constant value;
      divided = list_any (λ (m : Measure). m.divided) ms;
      subscripts = call_reach (is_array s n) ms;
    }

abbrev pub signed_measure : Sign → Measure → Measure
signed_measure Plus m = m
signed_measure Minus m = record {
  constant = m.constant;
  value = sign_value Minus m.value;
  looped = m.looped;
  linear = negated m.linear;
  divided = m.divided;
  subscripts = m.subscripts;
}

-- of two factors without a loop variable the left one's value multiplies
abbrev pub factors : Measure → Measure → Linear → Linear → Linear
factors a b linear.NotAffine y = linear.NotAffine
factors a b (linear.Past z) linear.NotAffine = linear.NotAffine
factors a b (linear.Past z) (linear.Past w) = linear.Past z
factors a b (linear.Past z) (linear.Within g) = linear.Past z
factors a b (linear.Within f) linear.NotAffine = linear.NotAffine
factors a b (linear.Within f) (linear.Past w) = linear.Past w
factors a b (linear.Within f) (linear.Within g) =
    if a.looped then times_value b.value f else times_value a.value g

abbrev pub multiplied : Measure → Measure → Linear
multiplied a b = if a.looped && b.looped then linear.NotAffine else factors a b a.linear b.linear

abbrev pub binary_linear : Operator → Measure → Measure → Linear
binary_linear Add a b = added a.linear b.linear
binary_linear Subtract a b = added a.linear (negated b.linear)
binary_linear Multiply a b = multiplied a b
binary_linear Divide a b =
    value_linear (a.constant && b.constant) (operator_value Divide a.value b.value)

-- a quotient by what is no constant or is 0
abbrev pub is_bad_division : Operator → Measure → Bool
is_bad_division Add b = false
is_bad_division Subtract b = false
is_bad_division Multiply b = false
is_bad_division Divide b = not (b.constant && not (int_eq b.value (pos 0)))

abbrev pub binary_measure : Operator → Measure → Measure → Measure
binary_measure op a b = record {
  constant = a.constant && b.constant;
  value = operator_value op a.value b.value;
  looped = a.looped || b.looped;
  linear = binary_linear op a b;
  divided = is_bad_division op b || (a.divided || b.divided);
  subscripts = also a.subscripts b.subscripts;
}

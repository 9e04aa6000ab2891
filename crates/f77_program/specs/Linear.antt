-- What expressions are as affine forms, within the limit of their numbers.
use Rattle.std.specs.Prelude.{ℕ, ℤ, pos, negsuc, if◌then◌else◌, List, [], ◌∷◌, Option, Some, None}
use Rattle.nest_tree.specs.Form.{Form, is_small}
use Rattle.f77_forms.specs.Form.{ExpressionForm}
use Rattle.f77_scene.specs.Scene.{Scene}
use Rattle.f77_scene.specs.Affine.{plus, times, numbers_of, is_affine, form_of, met}
use Rattle.f77_scene.specs.Limits as limits
use Rattle.f77_program.specs.declared.linear.Linear.{Linear}
use Rattle.f77_program.specs.declared.linear.Linear.TheVariants.{NotAffine, Past, Within}

-- of numbers those past plus or minus 2147483647
abbrev pub past : List ℤ → List ℤ
past zs = limits.past zs

-- a form, unless a number on the way is past the limit
abbrev pub linear_with : List ℤ → Form → Linear
linear_with [] f = Within f
linear_with (z ∷ zs) f = Past z

-- what an expression is as an affine form
abbrev pub linear_of : Scene → ExpressionForm → Linear
linear_of s e = if is_affine s e then linear_with (past (met s e)) (form_of s e) else NotAffine

-- ---- the private functions over again

abbrev pub limited : Form → Linear
limited f = linear_with (past (numbers_of f)) f

abbrev pub loop_linear : ℕ → Linear
loop_linear n = Within (record { constant = pos 0; loops = (n, pos 1) ∷ []; params = [] })

abbrev pub constant_linear : ℕ → Linear
constant_linear n = Within (record { constant = pos 0; loops = []; params = (n, pos 1) ∷ [] })

abbrev pub sum_of_forms : Form → Form → Linear
sum_of_forms f g = limited (plus f g)

abbrev pub multiple : ℤ → Form → Linear
multiple z f = limited (times z f)

abbrev pub negated : Linear → Linear
negated NotAffine = NotAffine
negated (Past z) = Past z
negated (Within f) = Within (times (negsuc 0) f)

abbrev pub added : Linear → Linear → Linear
added NotAffine b = NotAffine
added (Past z) NotAffine = NotAffine
added (Past z) (Past w) = Past z
added (Past z) (Within g) = Past z
added (Within f) NotAffine = NotAffine
added (Within f) (Past w) = Past w
added (Within f) (Within g) = sum_of_forms f g

abbrev pub times_value : ℤ → Form → Linear
times_value z f = if is_small z then multiple z f else Past z

-- the first coefficient past the limit
abbrev pub first_past : List (ℕ × ℤ) → Option ℤ
first_past [] = None
first_past (p ∷ pairs) = if is_small p.1 then first_past pairs else Some p.1

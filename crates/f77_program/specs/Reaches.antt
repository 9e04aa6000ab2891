-- Whether expressions are affine and within the limit of their numbers.
use Rattle.std.specs.Prelude.{ℤ, not, if◌then◌else◌, List, [], ◌∷◌}
use Rattle.std.specs.List.{list_any, flat_map}
use Rattle.f77_forms.specs.Form.{ExpressionForm}
use Rattle.f77_scene.specs.Scene.{Scene}
use Rattle.f77_scene.specs.Affine.{is_affine, met}
use Rattle.f77_program.specs.declared.linear.Linear.{Linear}
use Rattle.f77_program.specs.declared.linear.Linear.TheVariants as linear
use Rattle.f77_program.specs.declared.reach.Reach.{Reach}
use Rattle.f77_program.specs.declared.reach.Reach.TheVariants.{NotAffine, Past, Within}
use Rattle.f77_program.specs.Linear.{past}

abbrev pub reach_with : List ℤ → Reach
reach_with [] = Within
reach_with (z ∷ zs) = Past z

-- of expressions that have to be affine
abbrev pub reach_of : Scene → List ExpressionForm → Reach
reach_of s es = if list_any (λ e. not (is_affine s e)) es
    then NotAffine
    else reach_with (past (flat_map (met s) es))

-- ---- the private functions over again

abbrev pub also : Reach → Reach → Reach
also NotAffine r = NotAffine
also (Past z) NotAffine = NotAffine
also (Past z) (Past w) = Past z
also (Past z) Within = Past z
also Within NotAffine = NotAffine
also Within (Past w) = Past w
also Within Within = Within

abbrev pub reach_at : Linear → Reach
reach_at linear.NotAffine = NotAffine
reach_at (linear.Past z) = Past z
reach_at (linear.Within f) = Within

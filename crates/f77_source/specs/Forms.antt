-- The form of an expression that comes to something.
use Rattle.std.specs.Prelude.{pos}
use Rattle.nest_tree.specs.Form.{Form}
use Rattle.f77_program.specs.declared.linear.Linear.{Linear}
use Rattle.f77_program.specs.declared.linear.Linear.TheVariants.{NotAffine, Past, Within}
use Rattle.f77_program.specs.declared.measure.Measure.{Measure}
use Rattle.f77_scene.specs.Affine.{fixed}

-- 0 where it is not affine within the limit
abbrev pub linear_form : Linear → Form
linear_form NotAffine = fixed (pos 0)
linear_form (Past z) = fixed (pos 0)
linear_form (Within f) = f

abbrev pub form_at : Measure → Form
form_at m = linear_form m.linear

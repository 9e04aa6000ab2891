use Rattle.std.proofs.Common.{◌≡◌, map, take}
use Rattle.f77_forms.specs.View.{expression_of}
use Rattle.f77_scene.specs.Affine as affine
use Rattle.f77_source.proofs.form.forms_of.Given as goal

abbrev pub invariant-loop-e : goal.invariant-loop-e
invariant-loop-e l = l.forms ≡ map (affine.form_of l.known) (map expression_of (take l.e-index l.expressions))

use Rattle.f77_forms.proofs.Answered.{form-read, read-form}
use Rattle.f77_scene.proofs.laws.form_is_its_own.Goals as goal

pub returns : goal.returns
returns c = λ text f. (read-form text f, form-read text f)

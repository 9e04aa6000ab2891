use Rattle.std.proofs.Common.{◌∷◌, []}
use Rattle.f77_forms.specs.View.{expression_of}
use Rattle.f77_source.proofs.Formed.{reach_both}
use Rattle.f77_source.proofs.body.Body.open.Goals as goal

pub form_of-requires-2 : goal.form_of-requires-2
form_of-requires-2 c = (reach_both c.args.known.now (expression_of c.args.statement.now.first ∷ []) (expression_of c.args.statement.now.last ∷ []) c.requires.affine).1

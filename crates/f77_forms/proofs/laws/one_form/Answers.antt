use Rattle.std.proofs.Common.{sym, ap, ◌∙◌}
use Rattle.f77_forms.specs.Statements.{statement_at}
use Rattle.f77_forms.proofs.Written.{some_is}
use Rattle.f77_forms.proofs.Recognized.{statement-again}
use Rattle.f77_forms.proofs.laws.one_form.Goals as goal

pub returns : goal.returns
returns c = λ text f g a b. some_is f g (sym (statement-again f a.good) ∙ ap statement_at (a.written ∙ sym b.written) ∙ statement-again g b.good)

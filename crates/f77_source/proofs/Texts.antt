-- The form of a text or its fault, by what `read_statement` promises.
use Rattle.std.proofs.Common.{◌≡◌, ℕ, List, Option, Some, None, Ok, Err, refl, ap, ◌∙◌}
use Rattle.f77_forms.proofs.Answered.{form-read, read-form}
use Rattle.f77_forms.specs.Answer.{IsRefused}
use Rattle.f77_forms.specs.Form.{StatementForm}
use Rattle.f77_forms.specs.Statements.{statement_at}
use Rattle.f77_forms.specs.Text.{HasForm}
use Rattle.f77_forms.specs.declared.fault.TextFault.{TextFault}
use Rattle.f77_scene.specs.Reading.{reading_with, reading_of}

pub reading_found : (text : List ℕ) (f : StatementForm) → HasForm text f → reading_of text ≡ Ok f
reading_found text f h = ap (reading_with text) (form-read text f h)

pub reading_refused : (text : List ℕ) (fault : TextFault) → IsRefused text fault → reading_of text ≡ Err fault
reading_refused text fault r = by_option (statement_at text) refl
  where
    by_option : (o : Option StatementForm) → statement_at text ≡ o → reading_of text ≡ Err fault
    by_option (Some f) e = absurd (r.no_form f (read-form text f e))
    by_option None e = ap (reading_with text) e ∙ ap Err r.fault_is

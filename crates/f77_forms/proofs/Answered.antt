-- From what was read to what is promised.
use Rattle.std.proofs.Common.{◌≡◌, ◌≢◌, ℕ, List, Option, Some, None, Result, Ok, Err, IfOk, refl, sym, ap, ◌∙◌, inl, inr}
use Rattle.std.specs.Prelude.{◌⊎◌}
use Rattle.f77_forms.specs.declared.form.Statement.{Statement}
use Rattle.f77_forms.specs.declared.fault.TextFault.{TextFault}
use Rattle.f77_forms.specs.declared.fault.TextFault.TheVariants.{NotInProfile, LiteralTooLarge, NoForm, NoMemory}
use Rattle.f77_forms.specs.Form.{StatementForm}
use Rattle.f77_forms.specs.Text.{HasForm}
use Rattle.f77_forms.specs.View.{statement_of}
use Rattle.f77_forms.specs.Marks.{text_fault}
use Rattle.f77_forms.specs.Statements.{statement_at}
use Rattle.f77_forms.specs.Answer.{IsRefused, IsReadAs, IsRefusedAs, Answers}
use Rattle.f77_forms.proofs.Written.{some_is}
use Rattle.f77_forms.proofs.Told.{statement-told}
use Rattle.f77_forms.proofs.Recognized.{statement-again}

-- a text has a form exactly where reading gives it
pub form-read : (text : List ℕ) (f : StatementForm) → HasForm text f → statement_at text ≡ Some f
form-read text f h = ap statement_at (sym h.written) ∙ statement-again f h.good

pub read-form : (text : List ℕ) (f : StatementForm) → statement_at text ≡ Some f → HasForm text f
read-form text f e = (let t = statement-told text f e in record { good = t.good; written = t.written })

none-refused : (text : List ℕ) (fault : TextFault) → statement_at text ≡ None → text_fault text ≡ fault → IsRefused text fault
none-refused text fault none is = record { no_form = λ f h. (let read = form-read text f h in cc); fault_is = is }

refused-none : (text : List ℕ) (fault : TextFault) (f : StatementForm) → IsRefused text fault → statement_at text ≡ Some f → ⊥
refused-none text fault f r e = r.no_form f (read-form text f e)

pub answer-found : (text : List ℕ) (r : Result Statement TextFault) → Answers r (statement_at text) text → IfOk r (λ s. HasForm text (statement_of s))
answer-found text (Ok s) a = read-form text (statement_of s) a
answer-found text (Err fault) a = tt

pub answer-only : (text : List ℕ) (r : Result Statement TextFault) → Answers r (statement_at text) text → (f : StatementForm) → HasForm text f → IsReadAs f r
answer-only text (Ok s) a f h = some_is (statement_of s) f (sym a ∙ form-read text f h)
answer-only text (Err NotInProfile) a f h = (let read = form-read text f h in let none = a.0 in absurd cc)
answer-only text (Err LiteralTooLarge) a f h = (let read = form-read text f h in let none = a.0 in absurd cc)
answer-only text (Err NoForm) a f h = (let read = form-read text f h in let none = a.0 in absurd cc)
answer-only text (Err NoMemory) a f h = tt

pub answer-refused : (text : List ℕ) (fault : TextFault) → Answers (Err fault) (statement_at text) text → fault ≢ NoMemory → IsRefused text fault
answer-refused text NotInProfile a n = none-refused text NotInProfile a.0 a.1
answer-refused text LiteralTooLarge a n = none-refused text LiteralTooLarge a.0 a.1
answer-refused text NoForm a n = none-refused text NoForm a.0 a.1
answer-refused text NoMemory a n = absurd (n refl)

pub answer-refuses : (text : List ℕ) (r : Result Statement TextFault) → Answers r (statement_at text) text → (fault : TextFault) → IsRefused text fault → IsRefusedAs fault r
answer-refuses text (Ok s) a fault h = refused-none text fault (statement_of s) h a
answer-refuses text (Err NotInProfile) a fault h = sym h.fault_is ∙ a.1
answer-refuses text (Err LiteralTooLarge) a fault h = sym h.fault_is ∙ a.1
answer-refuses text (Err NoForm) a fault h = sym h.fault_is ∙ a.1
answer-refuses text (Err NoMemory) a fault h = tt

pub decided : (text : List ℕ) → ((f : StatementForm) × HasForm text f) ⊎ ((fault : TextFault) × IsRefused text fault)
decided text = either (statement_at text) refl
  where
    either : (o : Option StatementForm) → statement_at text ≡ o → ((f : StatementForm) × HasForm text f) ⊎ ((fault : TextFault) × IsRefused text fault)
    either (Some f) e = inl (f, read-form text f e)
    either None e = inr (text_fault text, none-refused text (text_fault text) e refl)

-- What `read_statement` answers.
use Rattle.std.specs.Prelude.{ℕ, List, Option, Some, None, Result, Ok, Err, ◌≡◌}
use Rattle.f77_forms.specs.declared.form.Statement.{Statement}
use Rattle.f77_forms.specs.declared.fault.TextFault.{TextFault}
use Rattle.f77_forms.specs.declared.fault.TextFault.TheVariants.{NotInProfile, LiteralTooLarge, NoForm, NoMemory}
use Rattle.f77_forms.specs.Form.{StatementForm}
use Rattle.f77_forms.specs.Text.{HasForm}
use Rattle.f77_forms.specs.View.{statement_of}
use Rattle.f77_forms.specs.Marks.{text_fault}

-- the text has no form, and this is its fault
pub record IsRefused (text : List ℕ) (fault : TextFault) : Type 0 where
  pub no_form : (f : StatementForm) → ¬ HasForm text f
  pub fault_is : text_fault text ≡ fault

-- the answer is the statement of this form, unless memory ran out
abbrev pub IsReadAs : StatementForm → Result Statement TextFault → Type 0
IsReadAs f (Ok s) = statement_of s ≡ f
IsReadAs f (Err NotInProfile) = ⊥
IsReadAs f (Err LiteralTooLarge) = ⊥
IsReadAs f (Err NoForm) = ⊥
IsReadAs f (Err NoMemory) = Unit {0}

-- the answer is this fault, unless memory ran out
abbrev pub IsRefusedAs : TextFault → Result Statement TextFault → Type 0
IsRefusedAs fault (Ok s) = ⊥
IsRefusedAs fault (Err NotInProfile) = fault ≡ NotInProfile
IsRefusedAs fault (Err LiteralTooLarge) = fault ≡ LiteralTooLarge
IsRefusedAs fault (Err NoForm) = fault ≡ NoForm
IsRefusedAs fault (Err NoMemory) = Unit {0}

-- The answer is what reading gives, or the fault of a text of which it gives nothing, unless memory ran out.
abbrev pub Answers : Result Statement TextFault → Option StatementForm → List ℕ → Type 0
Answers (Ok s) read text = read ≡ Some (statement_of s)
Answers (Err NotInProfile) read text = (read ≡ None) × (text_fault text ≡ NotInProfile)
Answers (Err LiteralTooLarge) read text = (read ≡ None) × (text_fault text ≡ LiteralTooLarge)
Answers (Err NoForm) read text = (read ≡ None) × (text_fault text ≡ NoForm)
Answers (Err NoMemory) read text = Unit {0}

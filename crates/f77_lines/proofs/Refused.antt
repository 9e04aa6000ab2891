-- A fault of lines is neither want of memory nor one behind END.
use Rattle.std.proofs.Common.{◌≡◌, ℕ, suc, Bool, true, false, not, cond, List, [], ◌∷◌, Option, Some, None, Ok, Err, subst, sym}
use Rattle.std.specs.Prelude.{Result, IsErrAnd, IfErr, is_none, ◌||◌, ◌==◌, take}
use Rattle.std.specs.List.{list_all}
use Rattle.std.specs.Option.{option_or}
use Rattle.f77_lines.specs.declared.row.Kind.{Kind}
use Rattle.f77_lines.specs.declared.row.Kind.TheVariants.{Comment, Directive, Initial, Continuation}
use Rattle.f77_lines.specs.declared.refusal.LineRefusal.{LineRefusal}
use Rattle.f77_lines.specs.declared.refusal.LineRefusal.TheVariants.{BadCharacter, BadLabel, BadContinuation, NoEnd, NoMemory, AfterEnd}
use Rattle.f77_lines.specs.Columns.{lines_of, columns_of, kind_of, is_blank, label_field}
use Rattle.f77_lines.specs.Texts.{label_at}
use Rattle.f77_lines.specs.Statements.{is_end}
use Rattle.f77_lines.specs.Faults.{is_printable, fault_with, room_after, fault_from}
use Rattle.f77_lines.specs.Listing.{first_line_fault, Refuses}

abbrev IsOfLines : Option LineRefusal → Type 0
IsOfLines None = Unit {0}
IsOfLines (Some (BadCharacter n)) = Unit {0}
IsOfLines (Some (BadLabel n)) = Unit {0}
IsOfLines (Some (BadContinuation n)) = Unit {0}
IsOfLines (Some (NoEnd n)) = Unit {0}
IsOfLines (Some (AfterEnd n)) = ⊥
IsOfLines (Some NoMemory) = ⊥

chosen : (b : Bool) (f g : Option LineRefusal) → IsOfLines f → IsOfLines g → IsOfLines (cond b f g)
chosen true f g hf hg = hf
chosen false f g hf hg = hg

either : (f g : Option LineRefusal) → IsOfLines f → IsOfLines g → IsOfLines (option_or f g)
either None g hf hg = hg
either (Some e) g hf hg = hf

two : (b t : Bool) (e f : LineRefusal) → IsOfLines (Some e) → IsOfLines (Some f) → IsOfLines (cond b (Some e) (cond t (Some f) None))
two b t e f he hf = chosen b (Some e) (cond t (Some f) None) he (chosen t (Some f) None hf tt)

of_line : (kind : Kind) (room n : ℕ) (columns : List ℕ) → IsOfLines (fault_with kind room n columns)
of_line Comment room n columns = tt
of_line Directive room n columns = tt
of_line Initial room n columns = two (not (list_all is_printable columns)) (is_none (label_at (label_field columns))) (BadCharacter n) (BadLabel n) tt tt
of_line Continuation room n columns = two (not (list_all is_printable columns)) (room == 0 || not (list_all is_blank (take 5 columns))) (BadCharacter n) (BadContinuation n) tt tt

of_lines : (room n : ℕ) (lines : List (List ℕ)) → IsOfLines (fault_from room n lines)
unfolding fault_from
of_lines room n [] = tt
of_lines room n (line ∷ lines) = either _ _ (of_line (kind_of (columns_of line)) room n (columns_of line)) (chosen (is_end (columns_of line)) None _ tt (of_lines (room_after (kind_of (columns_of line)) room) (suc n) lines))

pub first_fault-refuses : (bytes : List ℕ) (fault : LineRefusal) → first_line_fault bytes ≡ Some fault → Refuses bytes fault
first_fault-refuses bytes (BadCharacter n) h = h
first_fault-refuses bytes (BadLabel n) h = h
first_fault-refuses bytes (BadContinuation n) h = h
first_fault-refuses bytes (NoEnd n) h = h
first_fault-refuses bytes (AfterEnd n) h = subst IsOfLines h (of_lines 0 1 (lines_of bytes))
first_fault-refuses bytes NoMemory h = absurd (subst IsOfLines h (of_lines 0 1 (lines_of bytes)))

pub refused-from : {X : Type 0} (r : Result X LineRefusal) (bytes : List ℕ) (fault : LineRefusal) → IsErrAnd r (λ e. e ≡ fault) → Refuses bytes fault → IfErr r (Refuses bytes)
refused-from (Ok x) bytes fault is refuses = absurd is
refused-from (Err e) bytes fault is refuses = subst (Refuses bytes) (sym is) refuses

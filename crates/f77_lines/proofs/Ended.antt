-- A list ends with END.
use Rattle.std.proofs.Common.{◌≡◌, ℕ, suc, Bool, true, false, List, [], ◌∷◌, ◌++◌, Option, Some, None, refl, sym, ap, subst, ◌∙◌, append_assoc}
use Rattle.std.specs.Prelude.{codes}
use Rattle.std.specs.Option.{option_or}
use Rattle.f77_lines.specs.declared.refusal.LineRefusal.{LineRefusal}
use Rattle.f77_lines.specs.Columns.{lines_of, columns_of, kind_of}
use Rattle.f77_lines.specs.Statements.{Entry, statement, is_end, label_of, begun, entries_from}
use Rattle.f77_lines.specs.Faults.{fault_with, room_after, fault_from}
use Rattle.f77_lines.specs.Listing.{Lists, EndsWithEnd}

later_none : (f g : Option LineRefusal) → option_or f g ≡ None → g ≡ None
later_none None g h = h
later_none (Some fault) g h = cc

prepended : (here entries : List Entry) → EndsWithEnd entries → EndsWithEnd (here ++ entries)
prepended here entries (front, line, label, e) =
    let last : List Entry = statement line label (codes "END") ∷ [] in
    (here ++ front, line, label, ap (λ (es : List Entry). here ++ es) e ∙ sym (append_assoc here front last))

entries-end : (room n : ℕ) (lines : List (List ℕ)) → fault_from room n lines ≡ None → EndsWithEnd (entries_from n lines)
unfolding fault_from entries_from
entries-end room n [] h = cc
entries-end room n (line ∷ lines) h = by_case (is_end (columns_of line)) refl (λ e. entries-end (room_after (kind_of (columns_of line)) room) (suc n) lines e)
  where
    by_case : (b : Bool) → is_end (columns_of line) ≡ b → (fault_from (room_after (kind_of (columns_of line)) room) (suc n) lines ≡ None → EndsWithEnd (entries_from (suc n) lines)) → EndsWithEnd (entries_from n (line ∷ lines))
    by_case true ends more = rw ends ([], n, label_of (columns_of line), refl)
    by_case false ends more =
        let none : fault_from (room_after (kind_of (columns_of line)) room) (suc n) lines ≡ None = rw ends at (later_none (fault_with (kind_of (columns_of line)) room n (columns_of line)) _ h) in
        rw ends (prepended (begun (kind_of (columns_of line)) n (columns_of line) lines) _ (more none))

pub listed-end : (bytes : List ℕ) (entries : List Entry) (rest : ℕ) → Lists bytes entries rest → EndsWithEnd entries
listed-end bytes entries rest h = subst EndsWithEnd (sym h.listed) (entries-end 0 1 (lines_of bytes) h.faultless)

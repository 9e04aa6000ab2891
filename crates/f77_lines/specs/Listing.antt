-- What bytes list, and their first fault.
use Rattle.std.specs.Prelude.{ℕ, suc, ◌+◌, if◌then◌else◌, List, [], ◌∷◌, length, take, drop, Option, Some, None, ◌≡◌, ◌++◌, codes}
use Rattle.f77_lines.specs.declared.line.Line.{Line}
use Rattle.f77_lines.specs.declared.line.Line.TheVariants as declared
use Rattle.f77_lines.specs.declared.refusal.LineRefusal.{LineRefusal}
use Rattle.f77_lines.specs.declared.refusal.LineRefusal.TheVariants.{BadCharacter, BadLabel, BadContinuation, NoEnd, NoMemory, AfterEnd}
use Rattle.f77_lines.specs.Columns.{lines_of, columns_of, kind_of, is_comment}
use Rattle.f77_lines.specs.Statements.{Entry, statement, directive, is_end, entries_from}
use Rattle.f77_lines.specs.Faults.{fault_from}

-- the first fault of bytes by line: in front of the first initial line no continuation line may come
abbrev pub first_line_fault : List ℕ → Option LineRefusal
first_line_fault bytes = fault_from 0 1 (lines_of bytes)

-- the statements and directives of bytes, in the order of their first lines
abbrev pub entries_of : List ℕ → List Entry
entries_of bytes = entries_from 1 (lines_of bytes)

-- how many bytes the lines up to END take
unfoldable pub size_to_end : List (List ℕ) → ℕ
size_to_end [] = 0
size_to_end (line ∷ lines) =
    length line + (if is_end (columns_of line) then 0 else size_to_end lines)

-- Bytes without a fault list these statements and directives, and the rest begins behind so many bytes, behind the line end of END.
pub record Lists (bytes : List ℕ) (entries : List Entry) (rest : ℕ) : Type 0 where
  pub faultless : first_line_fault bytes ≡ None
  pub listed : entries ≡ entries_of bytes
  pub behind : rest ≡ size_to_end (lines_of bytes)

-- the last entry is END
abbrev pub EndsWithEnd : List Entry → Type 0
EndsWithEnd entries = (front : List Entry) × (line : ℕ) × (label : ℕ)
    × (entries ≡ front ++ statement line label (codes "END") ∷ [])

-- Bytes are refused with their first fault, or for want of memory where they have none.
abbrev pub Refuses : List ℕ → LineRefusal → Type 0
Refuses bytes (BadCharacter n) = first_line_fault bytes ≡ Some (BadCharacter n)
Refuses bytes (BadLabel n) = first_line_fault bytes ≡ Some (BadLabel n)
Refuses bytes (BadContinuation n) = first_line_fault bytes ≡ Some (BadContinuation n)
Refuses bytes (NoEnd n) = first_line_fault bytes ≡ Some (NoEnd n)
Refuses bytes (AfterEnd n) = ⊥
Refuses bytes NoMemory = first_line_fault bytes ≡ None

-- the first of lines that is no comment, where the first line has number n
unfoldable pub first_kept : ℕ → List (List ℕ) → Option ℕ
first_kept n [] = None
first_kept n (line ∷ lines) =
    if is_comment (kind_of (columns_of line)) then first_kept (suc n) lines else Some n

-- the first line behind the place `rest`, counted in all bytes, that is no comment
abbrev pub first_behind : List ℕ → ℕ → Option ℕ
first_behind bytes rest =
    first_kept (length (lines_of (take rest bytes)) + 1) (lines_of (drop rest bytes))

-- a statement or a directive of the program, as plain data
abbrev pub entry_of : Line → Entry
entry_of (declared.Statement line label text) = statement line label text.items
entry_of (declared.Directive line text) = directive line text.items

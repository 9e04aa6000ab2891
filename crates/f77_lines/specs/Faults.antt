-- The fault of a line, and the first of lines (ANSI X3.9-1978, 3.1, 3.2 and 3.4).
use Rattle.std.specs.Prelude.{ℕ, suc, ◌-◌, ◌==◌, nat_le, Bool, ◌&&◌, ◌||◌, not, is_none, if◌then◌else◌, List, [], ◌∷◌, take, Option, Some, None}
use Rattle.std.specs.List.{list_all}
use Rattle.std.specs.Option.{option_or}
use Rattle.f77_lines.specs.declared.row.Kind.{Kind}
use Rattle.f77_lines.specs.declared.row.Kind.TheVariants.{Comment, Directive, Initial, Continuation}
use Rattle.f77_lines.specs.declared.refusal.LineRefusal.{LineRefusal}
use Rattle.f77_lines.specs.declared.refusal.LineRefusal.TheVariants.{BadCharacter, BadLabel, BadContinuation, NoEnd}
use Rattle.f77_lines.specs.Columns.{columns_of, kind_of, label_field, is_blank}
use Rattle.f77_lines.specs.Texts.{label_at}
use Rattle.f77_lines.specs.Statements.{is_end}

-- a character from a blank to a tilde
abbrev pub is_printable : ℕ → Bool
is_printable c = nat_le 32 c && nat_le c 126

-- the fault of line n by its kind and its columns, where the statement in front of it may have `room` more continuation lines
abbrev pub fault_with : Kind → ℕ → ℕ → List ℕ → Option LineRefusal
fault_with Comment room n columns = None
fault_with Directive room n columns = None
fault_with Initial room n columns =
    if not (list_all is_printable columns)
    then Some (BadCharacter n)
    else (if is_none (label_at (label_field columns)) then Some (BadLabel n) else None)
fault_with Continuation room n columns =
    if not (list_all is_printable columns)
    then Some (BadCharacter n)
    else (if room == 0 || not (list_all is_blank (take 5 columns))
    then Some (BadContinuation n)
    else None)

-- how many continuation lines may come behind a line: 19 behind an initial line, one less behind each of them
abbrev pub room_after : Kind → ℕ → ℕ
room_after Comment room = room
room_after Directive room = room
room_after Initial room = 19
room_after Continuation room = room - 1

-- the first fault of lines up to END, where the first line has number n; a missing END is at fault in the line behind the last
unfoldable pub fault_from : ℕ → ℕ → List (List ℕ) → Option LineRefusal
fault_from room n [] = Some (NoEnd n)
fault_from room n (line ∷ lines) =
    option_or (fault_with (kind_of (columns_of line)) room n (columns_of line))
    (if is_end (columns_of line)
    then None
    else fault_from (room_after (kind_of (columns_of line)) room) (suc n) lines)

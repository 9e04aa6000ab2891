-- From bytes to lines and their columns, and what a line is (ANSI X3.9-1978, 3.2).
use Rattle.std.specs.Prelude.{ℕ, ◌-◌, ◌==◌, Bool, true, false, ◌||◌, if◌then◌else◌, List, [], ◌∷◌, ◌++◌, length, take, drop, map, slice_index_or, slice_index, replicate, codes, ◌≡◌, refl}
use Rattle.std.specs.List.{list_all}
use Rattle.std.specs.Char.{to_ascii_lowercase}
use Rattle.std.specs.Str.{bytes_eq}
use Rattle.std.specs.Str.Lines.{strip_carriage_return}
use Rattle.f77_lines.specs.declared.row.Kind.{Kind}
use Rattle.f77_lines.specs.declared.row.Kind.TheVariants.{Comment, Directive, Initial, Continuation}

-- lines with a byte in front of them: a line feed (10) is a line of its own there, another byte belongs to the first line
abbrev pub with_byte : ℕ → List (List ℕ) → List (List ℕ)
with_byte b [] = (b ∷ []) ∷ []
with_byte b (line ∷ lines) = if b == 10 then (b ∷ []) ∷ line ∷ lines else (b ∷ line) ∷ lines

-- the lines of a source, each with its line feed; the last may have none
abbrev pub lines_of : List ℕ → List (List ℕ)
lines_of [] = []
lines_of (b ∷ bytes) = with_byte b (lines_of bytes)

-- a line without its line feed and one carriage return directly before that
abbrev pub without_end : List ℕ → List ℕ
without_end line = if slice_index line (length line - 1) == 10
    then strip_carriage_return (take (length line - 1) line)
    else line

-- columns 1 to 72 of a line, or fewer: a shorter line counts as filled with blanks
abbrev pub columns_of : List ℕ → List ℕ
columns_of line = take 72 (without_end line)

-- columns 1 to 5 of an initial line, which may hold a label
abbrev pub label_field : List ℕ → List ℕ
label_field columns = take 5 columns

-- columns 7 to 72, filled with blanks (32) where the line is shorter
abbrev pub body_of : List ℕ → List ℕ
body_of columns = drop 6 columns ++ replicate (66 - length (drop 6 columns)) 32

abbrev pub is_blank : ℕ → Bool
is_blank c = c == 32

-- columns 1 to 6 are C$DIST, each letter a capital or a small one
abbrev pub is_directive : List ℕ → Bool
is_directive columns = bytes_eq (map to_ascii_lowercase (take 6 columns)) (codes "c$dist")

-- column 1 is C, c or *
abbrev pub is_marked : List ℕ → Bool
is_marked [] = false
is_marked (c ∷ columns) = c == 67 || c == 99 || c == 42

-- column 6 is a blank or 0
abbrev pub begins_statement : List ℕ → Bool
begins_statement columns = slice_index_or columns 5 32 == 32 || slice_index_or columns 5 32 == 48

-- what a line is by its columns: the first of these four that fits
unfoldable pub kind_of : List ℕ → Kind
kind_of columns =
    if is_directive columns then Directive
    else (if is_marked columns || list_all is_blank columns
    then Comment
    else (if begins_statement columns then Initial else Continuation))

-- a directive is a comment, too
abbrev pub is_comment : Kind → Bool
is_comment Comment = true
is_comment Directive = true
is_comment Initial = false
is_comment Continuation = false

-- three lines: one that ends with CR and LF, an empty one, and one without its end
pub lines_of-example : lines_of (65 ∷ 13 ∷ 10 ∷ 10 ∷ 66 ∷ [])
    ≡ (65 ∷ 13 ∷ 10 ∷ []) ∷ (10 ∷ []) ∷ (66 ∷ []) ∷ []
lines_of-example = refl

-- CR belongs to the end of a line only directly before LF
pub columns_of-example : map columns_of ((65 ∷ 13 ∷ 10 ∷ []) ∷ (10 ∷ []) ∷ (66 ∷ 13 ∷ []) ∷ [])
    ≡ (65 ∷ []) ∷ [] ∷ (66 ∷ 13 ∷ []) ∷ []
columns_of-example = refl

pub kind_of-example : map kind_of (codes "c$dist A(BLOCK)" ∷ codes "C" ∷ codes "      "
    ∷ codes "   10 K=1" ∷ codes "     0" ∷ codes "     ++1" ∷ [])
    ≡ Directive ∷ Comment ∷ Comment ∷ Initial ∷ Initial ∷ Continuation ∷ []
unfolding kind_of
kind_of-example = refl

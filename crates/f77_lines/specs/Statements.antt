-- From lines to statements and directives (ANSI X3.9-1978, 3.2 and 3.3).
use Rattle.std.specs.Prelude.{ℕ, suc, Bool, true, false, ◌&&◌, if◌then◌else◌, List, [], ◌∷◌, ◌++◌, drop, unwrap_or, codes}
use Rattle.std.specs.Str.{bytes_eq}
use Rattle.f77_lines.specs.declared.row.Kind.{Kind}
use Rattle.f77_lines.specs.declared.row.Kind.TheVariants.{Comment, Directive, Initial, Continuation}
use Rattle.f77_lines.specs.Columns.{columns_of, kind_of, label_field, body_of}
use Rattle.f77_lines.specs.Texts.{text_of, squeezed, label_at}

-- a statement with its first line, its label (0 for none) and its text, or a directive with its line and its text
pub data Entry : Type 0 where
  statement : (line label : ℕ) (text : List ℕ) → Entry
  directive : (line : ℕ) (text : List ℕ) → Entry

-- the label of an initial line, 0 for none
abbrev pub label_of : List ℕ → ℕ
label_of columns = unwrap_or (label_at (label_field columns)) 0

-- a line that begins a statement
abbrev pub is_initial : Kind → Bool
is_initial Comment = false
is_initial Directive = false
is_initial Initial = true
is_initial Continuation = false

-- END: an initial line that holds E, N and D from column 7 on, in this order and nothing else
unfoldable pub is_end : List ℕ → Bool
is_end columns = is_initial (kind_of columns) && bytes_eq (squeezed (drop 6 columns)) (codes "END")

-- what a line of this kind adds to the columns 7 to 72 of the statement in front of it; `more` is what the lines behind it add
abbrev pub added : Kind → List ℕ → List ℕ → List ℕ
added Comment body more = more
added Directive body more = more
added Initial body more = []
added Continuation body more = body ++ more

-- columns 7 to 72 of the continuation lines in front of the next initial line
unfoldable pub continued : List (List ℕ) → List ℕ
continued [] = []
continued (line ∷ lines) =
    added (kind_of (columns_of line)) (body_of (columns_of line)) (continued lines)

-- what a line that is not END begins: a statement that the lines behind it may continue, a directive, or nothing
abbrev pub begun : Kind → ℕ → List ℕ → List (List ℕ) → List Entry
begun Comment n columns lines = []
begun Directive n columns lines = directive n (squeezed (drop 6 columns)) ∷ []
begun Initial n columns lines =
    statement n (label_of columns) (text_of (body_of columns ++ continued lines)) ∷ []
begun Continuation n columns lines = []

-- the statements and directives of lines up to END, where the first line has number n; nothing continues END
unfoldable pub entries_from : ℕ → List (List ℕ) → List Entry
entries_from n [] = []
entries_from n (line ∷ lines) =
    if is_end (columns_of line) then statement n (label_of (columns_of line)) (codes "END") ∷ []
    else begun (kind_of (columns_of line)) n (columns_of line) lines ++ entries_from (suc n) lines

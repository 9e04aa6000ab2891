-- Which program bytes and settings stand for, and their first fault.
use Rattle.std.specs.Prelude.{ℕ, suc, ℤ, Bool, ◌||◌, if◌then◌else◌, List, [], ◌∷◌, length, map, filter, flat_map, Option, Some, None, Result, Ok, Err, ◌≡◌}
use Rattle.std.specs.Option.{option_or}
use Rattle.f77_lines.specs.declared.refusal.LineRefusal.{LineRefusal}
use Rattle.f77_lines.specs.Statements.{Entry, statement, directive}
use Rattle.f77_lines.specs.Listing.{entries_of, first_line_fault}
use Rattle.f77_forms.specs.declared.fault.TextFault.{TextFault}
use Rattle.f77_forms.specs.declared.fault.TextFault.TheVariants.{NotInProfile, LiteralTooLarge, NoForm, NoMemory}
use Rattle.f77_forms.specs.Form.{StatementForm}
use Rattle.f77_forms.specs.Statements.{statement_at}
use Rattle.f77_forms.specs.Marks.{text_fault}
use Rattle.nest_tree.specs.declared.tree.Spread.TheVariants.{Block}
use Rattle.nest_tree.specs.Tree.{Declaration, Tree}
use Rattle.f77_scene.specs.Fault.{Fault, not_in_profile, literal_too_large, syntax, unknown, not_integer, loop_variable, rank, bad_divisor, not_affine, zero_step, do_label, past_limit, Refusal, bad_line, bad_statement, bad_setting}
use Rattle.f77_scene.specs.Scene.{Name, Given, Scene, first_scene, is_among, is_array, constant_names, bounds_named}
use Rattle.f77_scene.specs.Statements.{integers_in}
use Rattle.f77_scene.specs.Tests.{has_bad_syntax, has_unknown, has_other_type, misuses_loop_variable, has_bad_rank, has_bad_divisor, is_not_affine, has_zero_step, has_bad_label}
use Rattle.f77_scene.specs.Limits.{limits_past}
use Rattle.f77_scene.specs.Behind.{behind}
use Rattle.f77_scene.specs.Trees.{Body, first_body, body_behind, in_a_row}
use Rattle.f77_scene.specs.Directives.{placed}

-- ---- the fault of a statement

-- F2, F11 or F1 of a text without form
abbrev pub fault_of_text : TextFault → Fault
fault_of_text NotInProfile = not_in_profile
fault_of_text LiteralTooLarge = literal_too_large
fault_of_text NoForm = syntax
fault_of_text NoMemory = syntax

-- the first fault whose test holds
abbrev pub first_of : List (Bool × Fault) → Option Fault
first_of [] = None
first_of (test ∷ tests) = if test.0 then Some test.1 else first_of tests

-- the first number that passes a limit
abbrev pub first_past : List ℤ → Option Fault
first_past [] = None
first_past (z ∷ zs) = Some (past_limit z)

-- the first fault of a statement with this form and this label, with so many statements behind it
abbrev pub fault_of_form : Given → Scene → ℕ → ℕ → StatementForm → Option Fault
fault_of_form given s after label f =
    option_or
    (first_of
    ((has_bad_syntax given s after f, syntax) ∷ (has_unknown given s f, unknown)
    ∷ (has_other_type given s f, not_integer) ∷ (misuses_loop_variable given s f, loop_variable)
    ∷ (has_bad_rank given s f, rank) ∷ (has_bad_divisor given s f, bad_divisor)
    ∷ (is_not_affine s f, not_affine) ∷ (has_zero_step s f, zero_step)
    ∷ (has_bad_label s label f, do_label) ∷ []))
    (first_past (limits_past s f))

-- ---- all statements

-- a statement of the source: its line, its label, and the form of its text or the fault of a text without form
pub record SourceStatement : Type 0 where
  pub line : ℕ
  pub label : ℕ
  pub reading : Result StatementForm TextFault

abbrev pub reading_with : List ℕ → Option StatementForm → Result StatementForm TextFault
reading_with text None = Err (text_fault text)
reading_with text (Some f) = Ok f

abbrev pub reading_of : List ℕ → Result StatementForm TextFault
reading_of text = reading_with text (statement_at text)

-- the statements that are listed
unfoldable pub statements_in : List Entry → List SourceStatement
statements_in [] = []
statements_in (directive line text ∷ entries) = statements_in entries
statements_in (statement line label text ∷ entries) =
    record { line = line; label = label; reading = reading_of text } ∷ statements_in entries

-- the first fault of a statement with so many statements behind it, if any
abbrev pub fault_with : Given → Scene → ℕ → ℕ → Result StatementForm TextFault → Option Fault
fault_with given s after label (Err fault) = Some (fault_of_text fault)
fault_with given s after label (Ok f) = fault_of_form given s after label f

-- what is known behind a statement; behind a text without form nothing is read any more
abbrev pub scene_with : Given → Scene → ℕ → Result StatementForm TextFault → Scene
scene_with given s label (Err fault) = s
scene_with given s label (Ok f) = behind given s label f

-- the tree behind a statement
abbrev pub body_with : List Name → Scene → ℕ → ℕ → Result StatementForm TextFault → Body → Body
body_with variables s line label (Err fault) body = body
body_with variables s line label (Ok f) body = body_behind variables s line label f body

-- a fault with the line where its statement begins
abbrev pub at_line : ℕ → Option Fault → Option Refusal
at_line line None = None
at_line line (Some fault) = Some (bad_statement fault line)

-- the first fault of statements, and what is known behind them
unfoldable pub fault_from : Given → Scene → List SourceStatement → Option Refusal
fault_from given s [] = None
fault_from given s (p ∷ ps) = option_or (at_line p.line
    (fault_with given s (length ps) p.label p.reading))
    (fault_from given (scene_with given s p.label p.reading) ps)

unfoldable pub scene_from : Given → Scene → List SourceStatement → Scene
scene_from given s [] = s
scene_from given s (p ∷ ps) = scene_from given (scene_with given s p.label p.reading) ps

-- the tree of statements, where the variables are numbered as they stand here
unfoldable pub body_from : List Name → Given → Scene → List SourceStatement → Body → Body
body_from variables given s [] body = body
body_from variables given s (p ∷ ps) body = body_from variables given
    (scene_with given s p.label p.reading) ps (body_with variables s p.line p.label p.reading body)

-- ---- what holds of the whole source

abbrev pub integers_with : Result StatementForm TextFault → List Name
integers_with (Err fault) = []
integers_with (Ok f) = integers_in f

-- the names in INTEGER statements, wherever they stand
abbrev pub integers_among : List SourceStatement → List Name
integers_among ps = flat_map (λ (p : SourceStatement). integers_with p.reading) ps

-- variables are arrays, and scalars that are stored or read; they are numbered as their names first appear
abbrev pub variables_of : Scene → List Name
variables_of s = filter (λ n. is_array s n || is_among s.scalars n) s.names

abbrev pub given_with : List SourceStatement → List (Name × ℤ) → Given
given_with ps settings = record { settings = settings; integers = integers_among ps }

-- what is known behind the last statement
abbrev pub last_scene : List SourceStatement → List (Name × ℤ) → Scene
last_scene ps settings = scene_from (given_with ps settings) first_scene ps

-- the whole tree
abbrev pub last_body : List SourceStatement → List (Name × ℤ) → Body
last_body ps settings = body_from (variables_of (last_scene ps settings)) (given_with ps settings)
    first_scene ps first_body

-- the texts of the directives
abbrev pub directives_of : List Entry → List (List ℕ)
directives_of [] = []
directives_of (statement line label text ∷ entries) = directives_of entries
directives_of (directive line text ∷ entries) = text ∷ directives_of entries

-- a variable with its bounds, if any, and how it is distributed
abbrev pub declaration : List (List ℕ) → Scene → Name → Declaration
declaration texts s n =
    if is_array s n
    then record {
      name = n;
      bounds = bounds_named s.arrays n;
      axis = (placed texts n (length (bounds_named s.arrays n))).0;
      spread = (placed texts n (length (bounds_named s.arrays n))).1;
    }
    else record { name = n; bounds = []; axis = 0; spread = Block }

-- the program of statements with these directives, by what is known behind the last of them and by their tree
abbrev pub tree_from : List (List ℕ) → Scene → Body → Tree
tree_from directives s body = record {
  items = in_a_row body.items;
  params = s.constants;
  variables = map (declaration directives s) (variables_of s);
}

-- the program of what is listed
abbrev pub program_in : List Entry → List (Name × ℤ) → Tree
program_in entries settings = tree_from (directives_of entries)
    (last_scene (statements_in entries) settings) (last_body (statements_in entries) settings)

-- the program that bytes without a fault stand for
abbrev pub program_of : List ℕ → List (Name × ℤ) → Tree
program_of bytes settings = program_in (entries_of bytes) settings

-- ---- the first fault

-- the first of settings, from this number on, that names none of these
abbrev pub bad_setting_from : ℕ → List Name → List (Name × ℤ) → Option Refusal
bad_setting_from index names [] = None
bad_setting_from index names (setting ∷ settings) = if is_among names setting.0
    then bad_setting_from (suc index) names settings
    else Some (bad_setting index)

abbrev pub as_refusal : Option LineRefusal → Option Refusal
as_refusal None = None
as_refusal (Some refusal) = Some (bad_line refusal)

-- the first fault of statements, or else the first setting that names no PARAMETER
abbrev pub first_fault_of : List SourceStatement → List (Name × ℤ) → Option Refusal
first_fault_of ps settings = option_or (fault_from (given_with ps settings) first_scene ps)
    (bad_setting_from 1 (constant_names (last_scene ps settings)) settings)

-- the first fault of what is listed
abbrev pub first_fault_in : List Entry → List (Name × ℤ) → Option Refusal
first_fault_in entries settings = first_fault_of (statements_in entries) settings

-- the first fault of bytes and settings: of lines, of statements, of settings
abbrev pub first_fault : List ℕ → List (Name × ℤ) → Option Refusal
first_fault bytes settings =
    option_or (as_refusal (first_line_fault bytes)) (first_fault_in (entries_of bytes) settings)

-- Bytes and settings without a fault stand for this program.
pub record Reads (bytes : List ℕ) (settings : List (Name × ℤ)) (program : Tree) : Type 0 where
  pub faultless : first_fault bytes settings ≡ None
  pub stands : program ≡ program_of bytes settings

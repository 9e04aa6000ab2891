-- What a line of the input says.
use Rattle.std.specs.Prelude.{ℕ, ◌+◌, ◌==◌, ◌^◌, ◌-◌, ℤ, pos, negsuc, nat_le, nat_lt, Bool, false, ◌&&◌, ◌||◌, if◌then◌else◌, List, [], ◌∷◌, length, filter, Option, Some, None, Result, Ok, Err, codes, ◌≡◌, refl}
use Rattle.std.specs.List.{slice_split, list_all}
use Rattle.std.specs.Str.{bytes_eq}
use Rattle.farkas_cert.specs.declared.system.Row.{Row}
use Rattle.bench_parts.specs.declared.line.Head.{Head}
use Rattle.bench_parts.specs.declared.line.Line.{Line}
use Rattle.bench_parts.specs.declared.line.Line.TheVariants as variants
use Rattle.bench_parts.specs.declared.line.LineFault.{LineFault}
use Rattle.bench_parts.specs.declared.line.LineFault.TheVariants as faults
use Rattle.bench_parts.specs.declared.line.Wanted.TheVariants as wanted
use Rattle.bench_parts.specs.Numbers.{natural_of, within, entry_of}

-- a tab, a line feed, a carriage return or a space
abbrev pub is_blank : ℕ → Bool
is_blank b = b == 32 || b == 9 || b == 13 || b == 10

-- the words of a line: what stands between blanks
abbrev pub words_of : List ℕ → List (List ℕ)
words_of line = filter (λ word. nat_lt 0 (length word)) (slice_split is_blank line)

-- a character of ASCII that shows
abbrev pub is_visible : ℕ → Bool
is_visible b = nat_le 33 b && nat_le b 126

-- what f makes of what was read, or the fault
abbrev pub fault_or : {A B : Type 0} → (A → B) → Result A LineFault → Result B LineFault
fault_or f (Err fault) = Err fault
fault_or f (Ok a) = Ok (f a)

-- what was read, if no word is behind it; the next one has the number
abbrev pub ends_at : {A : Type 0} → ℕ → A → List (List ℕ) → Result A LineFault
ends_at n a [] = Ok a
ends_at n a (word ∷ words) = Err (faults.Word n wanted.End)

abbrev pub rows_with : List ℕ → ℕ → Option ℕ → List (List ℕ) → Result Head LineFault
rows_with name v None words = Err (faults.Word 4 wanted.Rows)
rows_with name v (Some r) words = ends_at 5 (record { name = name; variables = v; rows = r }) words

-- word 4 of a head: rows below 2 ^ 32
abbrev pub rows_after : List ℕ → ℕ → List (List ℕ) → Result Head LineFault
rows_after name v [] = Err (faults.Word 4 wanted.Rows)
rows_after name v (word ∷ words) = rows_with name v (within (2 ^ 32 - 1) (natural_of word)) words

abbrev pub variables_with : List ℕ → Option ℕ → List (List ℕ) → Result Head LineFault
variables_with name None words = Err (faults.Word 3 wanted.Variables)
variables_with name (Some v) words = rows_after name v words

-- word 3 of a head: at most 1,000 variables
abbrev pub variables_after : List ℕ → List (List ℕ) → Result Head LineFault
variables_after name [] = Err (faults.Word 3 wanted.Variables)
variables_after name (word ∷ words) = variables_with name (within 1000 (natural_of word)) words

-- the head whose words behind `system` these are, from word 2 on: a visible name, variables and rows
abbrev pub head_of : List (List ℕ) → Result Head LineFault
head_of [] = Err (faults.Word 2 wanted.Name)
head_of (name ∷ words) =
    if list_all is_visible name then variables_after name words else Err (faults.Word 2 wanted.Name)

abbrev pub bound_with : ℕ → Option ℤ → List (List ℕ) → Result ℤ LineFault
bound_with n None words = Err (faults.Word n wanted.Bound)
bound_with n (Some b) words = ends_at (n + 1) b words

-- the bound whose words behind `<=` these are; the first one has the number
abbrev pub bound_from : ℕ → List (List ℕ) → Result ℤ LineFault
bound_from n [] = Err (faults.Word n wanted.Bound)
bound_from n (word ∷ words) = bound_with n (entry_of word) words

-- one coefficient more in front, the word of this number: the first fault from the left counts
abbrev pub with_coef : ℕ → Option ℤ → Result Row LineFault → Result Row LineFault
with_coef n None row = Err (faults.Word n wanted.Coefficient)
with_coef n (Some a) (Err fault) = Err fault
with_coef n (Some a) (Ok row) = Ok (record { coefs = a ∷ row.coefs; bound = row.bound })

-- the row of these words, the first of which has the number: its coefficients, `<=` and its bound
abbrev pub row_from : ℕ → List (List ℕ) → Result Row LineFault
row_from n [] = Err (faults.Word n wanted.Coefficient)
row_from n (word ∷ words) = if bytes_eq word (codes "<=")
    then fault_or (λ b. record { coefs = []; bound = b }) (bound_from (n + 1) words)
    else with_coef n (entry_of word) (row_from (n + 1) words)

-- what these words say
abbrev pub said_by : List (List ℕ) → Result Line LineFault
said_by [] = Ok variants.Nothing
said_by (word ∷ words) = if bytes_eq word (codes "system")
    then fault_or variants.Head (head_of words)
    else fault_or variants.Row (row_from 1 (word ∷ words))

-- the first byte is a `#`
abbrev pub is_comment : List ℕ → Bool
is_comment [] = false
is_comment (b ∷ line) = b == 35

-- what a line says, or why it is malformed
abbrev pub line_of : List ℕ → Result Line LineFault
line_of line = if is_comment line then Ok variants.Nothing else said_by (words_of line)

pub line_of-head : line_of (codes "system wave 2 10\r\n")
    ≡ Ok (variants.Head (record { name = codes "wave"; variables = 2; rows = 10 }))
line_of-head = refl

pub line_of-row : line_of (codes "  2 -1 <= -7\n")
    ≡ Ok (variants.Row (record { coefs = pos 2 ∷ negsuc 0 ∷ []; bound = negsuc 6 }))
line_of-row = refl

pub line_of-comment : line_of (codes "# rows\n") ≡ Ok variants.Nothing
line_of-comment = refl

pub line_of-nothing : line_of (codes " \n") ≡ Ok variants.Nothing
line_of-nothing = refl

-- the fourth word is missing, and the second is no number
pub line_of-no_bound : line_of (codes "2 -1 <=\n") ≡ Err (faults.Word 4 wanted.Bound)
line_of-no_bound = refl

pub line_of-no_number : line_of (codes "2 x\n") ≡ Err (faults.Word 2 wanted.Coefficient)
line_of-no_number = refl

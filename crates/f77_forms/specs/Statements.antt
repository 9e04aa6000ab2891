-- From the pieces of a text to a statement, as the private functions do it. The laws of proofs/ tie this to the texts of statements.
use Rattle.std.specs.Prelude.{ℕ, zero, suc, ◌-◌, ◌==◌, Bool, true, false, ◌&&◌, not, if◌then◌else◌, List, [], ◌∷◌, ◌++◌, length, take, drop, Option, Some, None, codes}
use Rattle.std.specs.Option.{option_or}
use Rattle.std.specs.Str.{bytes_eq}
use Rattle.f77_forms.specs.declared.form.Compare.{Compare}
use Rattle.f77_forms.specs.declared.form.Compare.TheVariants.{Lt, Le, Eq, Ge, Gt}
use Rattle.f77_forms.specs.Characters.{is_digit, is_name}
use Rattle.f77_forms.specs.Form.{ExpressionForm, number, name, call, parenthesized, signed, binary, no_more, DeclaratorForm, DefinitionForm, TargetForm, AssignmentForm, ComparisonForm, PrintedForm, value, constant, StatementForm, program, integer, dimension, parameter, do_loop, assign, logical_if, print, continue, stop, end}
use Rattle.f77_forms.specs.Text.{has_bounds, is_label}
use Rattle.f77_forms.specs.Reading.{◌>>=◌, ItemForm, printed, declared, PieceForm, pieces_at}

-- ---- what a piece is

abbrev pub name_of : ExpressionForm → Option (List ℕ)
name_of (number ds) = None
name_of (name n) = Some n
name_of (call n all) = None
name_of (parenthesized e) = None
name_of (signed sign e) = None
name_of (binary op a b) = None

abbrev pub target_from : ExpressionForm → Option TargetForm
target_from (number ds) = None
target_from (name n) = Some (record { name = n; arguments = no_more })
target_from (call n all) = Some (record { name = n; arguments = all })
target_from (parenthesized e) = None
target_from (signed sign e) = None
target_from (binary op a b) = None

abbrev pub printed_in : ItemForm → Option PrintedForm
printed_in (printed p) = Some p
printed_in (declared d) = None

abbrev pub value_in : ItemForm → Option ExpressionForm
value_in (printed (value e)) = Some e
value_in (printed (constant cs)) = None
value_in (declared d) = None

unfoldable pub declarator_in : ItemForm → Option DeclaratorForm
declarator_in (printed (value e)) = name_of e >>= λ n. Some (record { name = n; bounds = [] })
declarator_in (printed (constant cs)) = None
declarator_in (declared d) = Some d

unfoldable pub compare_from : List ℕ → Option Compare
compare_from n =
    if bytes_eq n (codes "LT") then Some Lt
    else (if bytes_eq n (codes "LE") then Some Le
    else (if bytes_eq n (codes "EQ") then Some Eq
    else (if bytes_eq n (codes "GE") then Some Ge
    else (if bytes_eq n (codes "GT") then Some Gt else None))))

-- ---- the next piece, behind a separator, and the pieces behind it

abbrev pub Next : Type 0 → Type 0
Next A = Option (A × List PieceForm)

unfoldable pub item_next : ℕ → List PieceForm → Next ItemForm
item_next separator [] = None
item_next separator (p ∷ ps) = if p.separator == separator then Some (p.item, ps) else None

unfoldable pub value_next : ℕ → List PieceForm → Next ExpressionForm
value_next separator ps = item_next separator ps >>= λ i. value_in i.0 >>= λ e. Some (e, i.1)

unfoldable pub name_next : ℕ → List PieceForm → Next (List ℕ)
name_next separator ps = value_next separator ps >>= λ e. name_of e.0 >>= λ n. Some (n, e.1)

unfoldable pub compare_next : List PieceForm → Next Compare
compare_next ps = name_next 46 ps >>= λ n. compare_from n.0 >>= λ c. Some (c, n.1)

unfoldable pub assignment_next : ℕ → List PieceForm → Next AssignmentForm
assignment_next separator ps =
    value_next separator ps >>= λ t. target_from t.0 >>= λ target. value_next 61 t.1 >>= λ v.
    Some (record { target = target; value = v.0 }, v.1)

unfoldable pub comparison_next : List PieceForm → Next ComparisonForm
comparison_next ps =
    value_next 44 ps >>= λ l. compare_next l.1 >>= λ c. value_next 46 c.1 >>= λ r.
    Some (record { left = l.0; compare = c.0; right = r.0 }, r.1)

-- the step of a DO, behind a comma, or none
unfoldable pub step_next : List PieceForm → Next (Option ExpressionForm)
step_next [] = Some (None, [])
step_next (p ∷ ps) = value_next 44 (p ∷ ps) >>= λ e. Some (Some e.0, e.1)

-- nothing is left
unfoldable pub all_taken : {A : Type 0} → A → List PieceForm → Option A
all_taken x [] = Some x
all_taken x (p ∷ ps) = None

-- ---- lists

-- what pieces are, one behind another, behind those in front; each takes a piece at least, so there are at most so many
unfoldable pub listed_from : {A : Type 0} → (List PieceForm → Next A) → ℕ → List A → List PieceForm
    → Option (List A)
listed_from next count front [] = Some front
listed_from next zero front (p ∷ ps) = None
listed_from next (suc count) front (p ∷ ps) =
    next (p ∷ ps) >>= λ r. listed_from next count (front ++ r.0 ∷ []) r.1

abbrev pub listed : {A : Type 0} → (List PieceForm → Next A) → List PieceForm → Option (List A)
listed next ps = listed_from next (length ps) [] ps

unfoldable pub declarator_next : Bool → List PieceForm → Next DeclaratorForm
declarator_next bounded ps = item_next 44 ps >>= λ i. declarator_in i.0 >>= λ d.
    (if bounded && not (has_bounds d) then None else Some (d, i.1))

unfoldable pub printed_next : List PieceForm → Next PrintedForm
printed_next ps = item_next 44 ps >>= λ i. printed_in i.0 >>= λ p. Some (p, i.1)

unfoldable pub definition_next : List PieceForm → Next DefinitionForm
definition_next ps = name_next 44 ps >>= λ n. value_next 61 n.1 >>= λ v.
    Some (record { name = n.0; value = v.0 }, v.1)

-- ---- statements, by what stands behind their first word

unfoldable pub program_at : List ℕ → Option StatementForm
program_at n = if is_name n then Some (program n) else None

unfoldable pub declarators_at : Bool → List ℕ → Option (List DeclaratorForm)
declarators_at bounded text = pieces_at true text >>= λ ps. listed (declarator_next bounded) ps

-- a text in front of its last character, which is a parenthesis
unfoldable pub before_parenthesis : List ℕ → Option (List ℕ)
before_parenthesis text = if bytes_eq (drop (length text - 1) text) (codes ")")
    then Some (take (length text - 1) text)
    else None

unfoldable pub parameter_at : List ℕ → Option StatementForm
parameter_at text = before_parenthesis text >>= λ inside. pieces_at false inside >>= λ ps.
    listed definition_next ps >>= λ ds. Some (parameter ds)

unfoldable pub print_at : List ℕ → Option StatementForm
print_at [] = Some (print [])
print_at (c ∷ cs) = if c == 44
    then (pieces_at false cs >>= λ ps. listed printed_next ps >>= λ items. Some (print items))
    else None

unfoldable pub assign_at : List ℕ → Option StatementForm
assign_at text =
    pieces_at false text >>= λ ps. assignment_next 44 ps >>= λ a. all_taken (assign a.0) a.1

unfoldable pub if_at : List ℕ → Option StatementForm
if_at text = pieces_at false text >>= λ ps. comparison_next ps >>= λ c.
    assignment_next 41 c.1 >>= λ a. all_taken (logical_if c.0 a.0) a.1

-- the digits in front of a text, and what stands behind them
unfoldable pub digits_in : List ℕ → List ℕ
digits_in [] = []
digits_in (c ∷ cs) = if is_digit c then c ∷ digits_in cs else []

unfoldable pub behind_digits : List ℕ → List ℕ
behind_digits [] = []
behind_digits (c ∷ cs) = if is_digit c then behind_digits cs else c ∷ cs

unfoldable pub label_at : List ℕ → Option (List ℕ)
label_at digits = if is_label digits then Some digits else None

unfoldable pub has_comma : List ℕ → Bool
has_comma [] = false
has_comma (c ∷ cs) = c == 44

unfoldable pub behind_comma : List ℕ → List ℕ
behind_comma [] = []
behind_comma (c ∷ cs) = if c == 44 then cs else c ∷ cs

unfoldable pub loop_at : List ℕ → Bool → List ℕ → Option StatementForm
loop_at label comma text =
    pieces_at false text >>= λ ps. name_next 44 ps >>= λ v. value_next 61 v.1 >>= λ a.
    value_next 44 a.1 >>= λ b. step_next b.1 >>= λ s.
    all_taken (do_loop (record {
      label = label;
      comma = comma;
      variable = v.0;
      first = a.0;
      last = b.0;
      step = s.0;
    })) s.1

unfoldable pub do_at : List ℕ → Option StatementForm
do_at text = label_at (digits_in text) >>= λ label.
    loop_at label (has_comma (behind_digits text)) (behind_comma (behind_digits text))

-- ---- all statements

-- a text begins with a word
abbrev pub begins_with : List ℕ → List ℕ → Bool
begins_with word text = bytes_eq (take (length word) text) word

unfoldable pub branch_at : List ℕ → Option StatementForm
branch_at text =
    if begins_with (codes "IF(") text then if_at (drop 3 text)
    else (if begins_with (codes "DO") text then do_at (drop 2 text) else None)

unfoldable pub executed_at : List ℕ → Option StatementForm
executed_at text = if begins_with (codes "PRINT*") text
    then print_at (drop 6 text)
    else option_or (assign_at text) (branch_at text)

unfoldable pub declared_at : List ℕ → Option StatementForm
declared_at text =
    if begins_with (codes "PROGRAM") text then program_at (drop 7 text)
    else (if begins_with (codes "INTEGER") text
    then (declarators_at false (drop 7 text) >>= λ ds. Some (integer ds))
    else (if begins_with (codes "DIMENSION") text
    then (declarators_at true (drop 9 text) >>= λ ds. Some (dimension ds))
    else (if begins_with (codes "PARAMETER(") text then parameter_at (drop 10 text)
    else executed_at text)))

unfoldable pub statement_at : List ℕ → Option StatementForm
statement_at text =
    if bytes_eq text (codes "CONTINUE") then Some continue
    else (if bytes_eq text (codes "STOP") then Some stop
    else (if bytes_eq text (codes "END") then Some end else declared_at text))

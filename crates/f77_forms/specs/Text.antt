-- The text of a form, and which forms a statement may have (ANSI X3.9-1978, sections 6 to 12).
use Rattle.std.specs.Prelude.{ℕ, ◌==◌, Bool, true, false, ◌&&◌, nat_lt, nat_le, if◌then◌else◌, List, [], ◌∷◌, ◌++◌, length, drop, Option, Some, None, codes, ◌≡◌, IsTrue, refl}
use Rattle.std.specs.List.{list_all}
use Rattle.f77_forms.specs.declared.form.Sign.{Sign}
use Rattle.f77_forms.specs.declared.form.Sign.TheVariants.{Plus, Minus}
use Rattle.f77_forms.specs.declared.form.Operator.{Operator}
use Rattle.f77_forms.specs.declared.form.Operator.TheVariants.{Add, Subtract, Multiply, Divide}
use Rattle.f77_forms.specs.declared.form.Compare.{Compare}
use Rattle.f77_forms.specs.declared.form.Compare.TheVariants.{Lt, Le, Eq, Ge, Gt}
use Rattle.f77_forms.specs.Characters.{is_name, is_number, decimal}
use Rattle.f77_forms.specs.Form.{ExpressionForm, number, name, call, parenthesized, signed, binary, ArgumentForms, no_more, one_more, BoundForm, DeclaratorForm, DefinitionForm, TargetForm, AssignmentForm, ComparisonForm, DoForm, PrintedForm, value, constant, StatementForm, program, integer, dimension, parameter, do_loop, assign, logical_if, print, continue, stop, end}

-- ---- the texts

-- `+` is 43, `-` is 45
abbrev pub sign_code : Sign → ℕ
sign_code Plus = 43
sign_code Minus = 45

-- `*` is 42, `/` is 47
abbrev pub operator_code : Operator → ℕ
operator_code Add = 43
operator_code Subtract = 45
operator_code Multiply = 42
operator_code Divide = 47

-- parentheses are 40 and 41, a comma is 44
abbrev mutual
  pub expression_text : ExpressionForm → List ℕ
  expression_text (number digits) = digits
  expression_text (name n) = n
  expression_text (call n arguments) = n ++ 40 ∷ drop 1 (arguments_text arguments) ++ 41 ∷ []
  expression_text (parenthesized e) = 40 ∷ expression_text e ++ 41 ∷ []
  expression_text (signed sign term) = sign_code sign ∷ expression_text term
  expression_text (binary op left right) =
      expression_text left ++ operator_code op ∷ expression_text right

  -- each behind a comma
  pub arguments_text : ArgumentForms → List ℕ
  arguments_text no_more = []
  arguments_text (one_more e rest) = 44 ∷ expression_text e ++ arguments_text rest

-- texts, each behind a comma
abbrev pub behind_commas : {A : Type 0} → (A → List ℕ) → List A → List ℕ
behind_commas text_of [] = []
behind_commas text_of (x ∷ xs) = 44 ∷ text_of x ++ behind_commas text_of xs

-- texts with commas between them
abbrev pub between_commas : {A : Type 0} → (A → List ℕ) → List A → List ℕ
between_commas text_of xs = drop 1 (behind_commas text_of xs)

-- a colon is 58
abbrev pub lower_text : Option ExpressionForm → List ℕ
lower_text None = []
lower_text (Some e) = expression_text e ++ 58 ∷ []

abbrev pub bound_text : BoundForm → List ℕ
bound_text b = lower_text b.lower ++ expression_text b.upper

-- what stands behind a name: nothing, or a list in parentheses
abbrev pub bounds_text : List BoundForm → List ℕ
bounds_text [] = []
bounds_text (b ∷ bs) = 40 ∷ between_commas bound_text (b ∷ bs) ++ 41 ∷ []

abbrev pub declarator_text : DeclaratorForm → List ℕ
declarator_text d = d.name ++ bounds_text d.bounds

-- `=` is 61
abbrev pub definition_text : DefinitionForm → List ℕ
definition_text d = d.name ++ 61 ∷ expression_text d.value

-- the expression that a target is written as
abbrev pub target_expression : TargetForm → ExpressionForm
target_expression t = named t.name t.arguments
  where
    named : List ℕ → ArgumentForms → ExpressionForm
    named n no_more = name n
    named n (one_more e rest) = call n (one_more e rest)

abbrev pub assignment_text : AssignmentForm → List ℕ
assignment_text a = expression_text (target_expression a.target) ++ 61 ∷ expression_text a.value

abbrev pub compare_text : Compare → List ℕ
compare_text Lt = codes ".LT."
compare_text Le = codes ".LE."
compare_text Eq = codes ".EQ."
compare_text Ge = codes ".GE."
compare_text Gt = codes ".GT."

abbrev pub comparison_text : ComparisonForm → List ℕ
comparison_text c = expression_text c.left ++ compare_text c.compare ++ expression_text c.right

abbrev pub comma_text : Bool → List ℕ
comma_text true = 44 ∷ []
comma_text false = []

-- the step behind a comma
abbrev pub step_text : Option ExpressionForm → List ℕ
step_text None = []
step_text (Some e) = 44 ∷ expression_text e

abbrev pub do_text : DoForm → List ℕ
do_text d = codes "DO" ++ d.label ++ comma_text d.comma ++ d.variable
    ++ 61 ∷ expression_text d.first ++ 44 ∷ expression_text d.last ++ step_text d.step

-- the characters of a constant, each apostrophe (39) doubled
abbrev pub doubled : List ℕ → List ℕ
doubled [] = []
doubled (c ∷ cs) = if c == 39 then 39 ∷ 39 ∷ doubled cs else c ∷ doubled cs

abbrev pub printed_text : PrintedForm → List ℕ
printed_text (value e) = expression_text e
printed_text (constant characters) = 39 ∷ doubled characters ++ 39 ∷ []

-- the text of a statement
abbrev pub statement_text : StatementForm → List ℕ
statement_text (program n) = codes "PROGRAM" ++ n
statement_text (integer declarators) = codes "INTEGER" ++ between_commas declarator_text declarators
statement_text (dimension declarators) =
    codes "DIMENSION" ++ between_commas declarator_text declarators
statement_text (parameter definitions) =
    codes "PARAMETER(" ++ between_commas definition_text definitions ++ codes ")"
statement_text (do_loop loop) = do_text loop
statement_text (assign assignment) = assignment_text assignment
statement_text (logical_if comparison assignment) =
    codes "IF(" ++ comparison_text comparison ++ codes ")" ++ assignment_text assignment
statement_text (print items) = codes "PRINT*" ++ behind_commas printed_text items
statement_text continue = codes "CONTINUE"
statement_text stop = codes "STOP"
statement_text end = codes "END"

-- ---- what may be written

-- what an expression is: a factor, a term of factors or a sum of terms
pub data Rank : Type 0 where
  factor : Rank
  term : Rank
  sum : Rank

-- whether an operator makes an expression of this rank
abbrev pub makes : Rank → Operator → Bool
makes factor op = false
makes term Add = false
makes term Subtract = false
makes term Multiply = true
makes term Divide = true
makes sum op = true

-- the rank of an operator's left operand
abbrev pub left_rank : Operator → Rank
left_rank Add = sum
left_rank Subtract = sum
left_rank Multiply = term
left_rank Divide = term

-- the rank of its right operand: one below, so operators of one rank associate to the left
abbrev pub right_rank : Operator → Rank
right_rank Add = term
right_rank Subtract = term
right_rank Multiply = factor
right_rank Divide = factor

abbrev pub is_sum_rank : Rank → Bool
is_sum_rank factor = false
is_sum_rank term = false
is_sum_rank sum = true

abbrev pub has_more : ArgumentForms → Bool
has_more no_more = false
has_more (one_more e rest) = true

-- an expression of a rank; a leading sign stands in front of a term
abbrev mutual
  pub is_expression : Rank → ExpressionForm → Bool
  is_expression r (number digits) = is_number digits
  is_expression r (name n) = is_name n
  is_expression r (call n arguments) = is_name n && has_more arguments && are_expressions arguments
  is_expression r (parenthesized e) = is_expression sum e
  is_expression r (signed sign e) = is_sum_rank r && is_expression term e
  is_expression r (binary op left right) =
      makes r op && is_expression (left_rank op) left && is_expression (right_rank op) right

  pub are_expressions : ArgumentForms → Bool
  are_expressions no_more = true
  are_expressions (one_more e rest) = is_expression sum e && are_expressions rest

abbrev pub is_optional : Option ExpressionForm → Bool
is_optional None = true
is_optional (Some e) = is_expression sum e

abbrev pub is_bound : BoundForm → Bool
is_bound b = is_optional b.lower && is_expression sum b.upper

abbrev pub is_declarator : DeclaratorForm → Bool
is_declarator d = is_name d.name && list_all is_bound d.bounds

-- a declarator of DIMENSION has bounds
abbrev pub has_bounds : DeclaratorForm → Bool
has_bounds d = nat_lt 0 (length d.bounds)

abbrev pub is_definition : DefinitionForm → Bool
is_definition d = is_name d.name && is_expression sum d.value

abbrev pub is_target : TargetForm → Bool
is_target t = is_name t.name && are_expressions t.arguments

abbrev pub is_assignment : AssignmentForm → Bool
is_assignment a = is_target a.target && is_expression sum a.value

abbrev pub is_comparison : ComparisonForm → Bool
is_comparison c = is_expression sum c.left && is_expression sum c.right

-- the label of a terminal statement: 1 to 99999, with any leading zeros
abbrev pub is_label : List ℕ → Bool
is_label digits = is_number digits && nat_lt 0 (decimal digits) && nat_le (decimal digits) 99999

abbrev pub is_do : DoForm → Bool
is_do d = is_label d.label && is_name d.variable && is_expression sum d.first
    && is_expression sum d.last && is_optional d.step

-- a character constant is not empty
abbrev pub is_printed : PrintedForm → Bool
is_printed (value e) = is_expression sum e
is_printed (constant characters) = nat_lt 0 (length characters)

-- a form that a statement may have
abbrev pub is_statement : StatementForm → Bool
is_statement (program n) = is_name n
is_statement (integer declarators) =
    nat_lt 0 (length declarators) && list_all is_declarator declarators
is_statement (dimension declarators) =
    nat_lt 0 (length declarators) && list_all (λ d. is_declarator d && has_bounds d) declarators
is_statement (parameter definitions) =
    nat_lt 0 (length definitions) && list_all is_definition definitions
is_statement (do_loop loop) = is_do loop
is_statement (assign assignment) = is_assignment assignment
is_statement (logical_if comparison assignment) =
    is_comparison comparison && is_assignment assignment
is_statement (print items) = list_all is_printed items
is_statement continue = true
is_statement stop = true
is_statement end = true

-- The text has this form: the form may be written, and it is written so.
pub record HasForm (text : List ℕ) (form : StatementForm) : Type 0 where
  pub good : IsTrue (is_statement form)
  pub written : statement_text form ≡ text

-- ---- an example

-- -K*2+07-(L)
abbrev example : ExpressionForm
example = binary Subtract (binary Add (signed Minus
    (binary Multiply (name (codes "K")) (number (codes "2")))) (number (codes "07")))
    (parenthesized (name (codes "L")))

pub expression_text-example : expression_text example ≡ codes "-K*2+07-(L)"
expression_text-example = refl

pub is_expression-example : is_expression sum example ≡ true
is_expression-example = refl

-- a sum is no right operand of a sum
pub right_operand-example : is_expression sum
    (binary Subtract (name (codes "K")) (binary Subtract (name (codes "L")) (name (codes "M"))))
    ≡ false
right_operand-example = refl

-- DO 10, I = 1, N
pub statement_text-example : statement_text
    (do_loop (record {
      label = codes "10";
      comma = true;
      variable = codes "I";
      first = number (codes "1");
      last = name (codes "N");
      step = None;
    })) ≡ codes "DO10,I=1,N"
statement_text-example = refl

-- the item of It's is 'It''s'
pub printed_text-example : printed_text (constant (codes "It's")) ≡ codes "'It''s'"
printed_text-example = refl

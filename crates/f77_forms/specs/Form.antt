-- The forms of statements as plain data, without where they lie in memory.
use Rattle.std.specs.Prelude.{ℕ, Bool, List, [], ◌∷◌, Option}
use Rattle.f77_forms.specs.declared.form.Sign.{Sign}
use Rattle.f77_forms.specs.declared.form.Operator.{Operator}
use Rattle.f77_forms.specs.declared.form.Compare.{Compare}

-- an expression; a number is its digits, and a name its characters
mutual
  pub data ExpressionForm : Type 0 where
    number : (digits : List ℕ) → ExpressionForm
    name : (n : List ℕ) → ExpressionForm
    call : (n : List ℕ) (arguments : ArgumentForms) → ExpressionForm
    parenthesized : (e : ExpressionForm) → ExpressionForm
    signed : (sign : Sign) (term : ExpressionForm) → ExpressionForm
    binary : (op : Operator) (left right : ExpressionForm) → ExpressionForm

  -- the arguments behind a name
  pub data ArgumentForms : Type 0 where
    no_more : ArgumentForms
    one_more : (e : ExpressionForm) (rest : ArgumentForms) → ArgumentForms

-- arguments in a list
abbrev pub arguments_in : List ExpressionForm → ArgumentForms
arguments_in [] = no_more
arguments_in (e ∷ rest) = one_more e (arguments_in rest)

-- the bounds of a dimension: `upper` or `lower:upper`
pub record BoundForm : Type 0 where
  pub lower : Option ExpressionForm
  pub upper : ExpressionForm

-- a name, and the bounds behind it, if any
pub record DeclaratorForm : Type 0 where
  pub name : List ℕ
  pub bounds : List BoundForm

-- NAME = constant
pub record DefinitionForm : Type 0 where
  pub name : List ℕ
  pub value : ExpressionForm

-- a name, and the arguments behind it, if any
pub record TargetForm : Type 0 where
  pub name : List ℕ
  pub arguments : ArgumentForms

-- target = value
pub record AssignmentForm : Type 0 where
  pub target : TargetForm
  pub value : ExpressionForm

-- left .op. right
pub record ComparisonForm : Type 0 where
  pub left : ExpressionForm
  pub compare : Compare
  pub right : ExpressionForm

-- DO label variable = first, last, step, with a comma behind the label or without
pub record DoForm : Type 0 where
  pub label : List ℕ
  pub comma : Bool
  pub variable : List ℕ
  pub first : ExpressionForm
  pub last : ExpressionForm
  pub step : Option ExpressionForm

-- an item of a PRINT: an expression, or a character constant by its characters
pub data PrintedForm : Type 0 where
  value : (e : ExpressionForm) → PrintedForm
  constant : (characters : List ℕ) → PrintedForm

-- a statement
pub data StatementForm : Type 0 where
  program : (n : List ℕ) → StatementForm
  integer : (declarators : List DeclaratorForm) → StatementForm
  dimension : (declarators : List DeclaratorForm) → StatementForm
  parameter : (definitions : List DefinitionForm) → StatementForm
  do_loop : (loop : DoForm) → StatementForm
  assign : (assignment : AssignmentForm) → StatementForm
  logical_if : (comparison : ComparisonForm) (assignment : AssignmentForm) → StatementForm
  print : (items : List PrintedForm) → StatementForm
  continue : StatementForm
  stop : StatementForm
  end : StatementForm

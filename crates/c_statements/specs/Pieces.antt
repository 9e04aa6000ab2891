-- What stands in statements: expressions by what they say, and how cells are called.
use Rattle.std.specs.Prelude.{ℕ, ℤ, List, ◌++◌, codes}
use Rattle.nest_tree.specs.Form.{Form}
use Rattle.nest_tree.specs.Tree.{Expression, Tree, param_values}
use Rattle.nest_tree.specs.declared.tree.Access.{Access}
use Rattle.nest_tree.specs.declared.tree.Guard.{Guard}
use Rattle.c_expressions.specs.CExpressions.{CExpression}
use Rattle.c_expressions.specs.Grammar.{Compares, Reads, postfix, sum}
use Rattle.c_expressions.specs.Names.{variable_name}
use Rattle.c_expressions.specs.Sums.{ComesTo, Values, form_at}
use Rattle.c_expressions.specs.Told.{Says, SaysAccess}

-- an expression of numbers that comes to this
pub record IsNumber (all : Values → ℤ) (text : List ℕ) : Type 0 where
  pub expression : CExpression
  pub reads : Reads sum text expression
  pub comes : ComesTo expression all

abbrev pub form_text : Tree → Form → List ℕ → Type 0
form_text tree f = IsNumber (form_at (param_values tree) f)

-- an expression that says what one of the program does, where a processor has cells of its own of these scalars
pub record IsValue (tree : Tree) (privates : List ℕ) (e : Expression) (text : List ℕ) : Type 0 where
  pub expression : CExpression
  pub reads : Reads sum text expression
  pub says : Says tree privates e expression

-- the cell of an access
pub record IsCell (tree : Tree) (privates : List ℕ) (access : Access) (text : List ℕ) : Type 0 where
  pub expression : CExpression
  pub reads : Reads postfix text expression
  pub says : SaysAccess tree privates access expression

-- a comparison
pub record IsComparison (tree : Tree) (guard : Guard) (text : List ℕ) : Type 0 where
  pub left : CExpression
  pub right : CExpression
  pub compares : Compares text (record { left = left; op = guard.op; right = right })
  pub left_comes : ComesTo left (form_at (param_values tree) guard.left)
  pub right_comes : ComesTo right (form_at (param_values tree) guard.right)

-- what a processor has summed up of a scalar, and whether it has assigned that
abbrev pub total_cell : Tree → ℕ → List ℕ
total_cell tree n = codes "s_" ++ variable_name tree n

abbrev pub flag_cell : Tree → ℕ → List ℕ
flag_cell tree n = codes "a_" ++ variable_name tree n

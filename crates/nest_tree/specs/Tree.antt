-- The tree of a program as plain data, without where its nodes lie in memory.
use Rattle.std.specs.Prelude.{ℕ, ℤ, List, Option, map}
use Rattle.nest_tree.specs.Form.{Form}
use Rattle.nest_tree.specs.declared.tree.Access.{Access}
use Rattle.nest_tree.specs.declared.tree.Guard.{Guard}
use Rattle.nest_tree.specs.declared.tree.Spread.{Spread}

-- an expression; an access is a variable's number and its subscripts
mutual
  pub data Expression : Type 0 where
    number : (value : ℤ) → Expression
    loop_value : (loop : ℕ) → Expression
    param : (parameter : ℕ) → Expression
    load : (access : Access) → Expression
    neg : (a : Expression) → Expression
    add : (a b : Expression) → Expression
    sub : (a b : Expression) → Expression
    mul : (a b : Expression) → Expression
    div : (a : Expression) (divisor : ℤ) → Expression
    least_of : (arguments : Expressions) → Expression
    greatest_of : (arguments : Expressions) → Expression

  -- the arguments of MIN and MAX
  pub data Expressions : Type 0 where
    no_more : Expressions
    one_more : (e : Expression) (rest : Expressions) → Expressions

-- an item of a PRINT: a value, a whole array by its variable, or characters
pub data Printed : Type 0 where
  value : (e : Expression) → Printed
  whole : (variable : ℕ) → Printed
  text : (characters : List ℕ) → Printed

-- an assignment, with its comparison where it stands behind a logical IF
pub record Assignment : Type 0 where
  pub target : Access
  pub value : Expression
  pub guard : Option Guard
  pub line : ℕ

-- a PRINT
pub record Printing : Type 0 where
  pub items : List Printed
  pub line : ℕ

-- a piece of work: what an instance executes
pub data Work : Type 0 where
  assign : (assignment : Assignment) → Work
  print : (printing : Printing) → Work

-- the head of a loop, `DO .. variable = m1, m2, step`, with the loop's number and the line of the DO statement
pub record Head : Type 0 where
  pub number : ℕ
  pub m1 : Form
  pub m2 : Form
  pub step : ℤ
  pub line : ℕ

-- a loop with its body, a piece of work, or a CONTINUE by its line
mutual
  pub data Statement : Type 0 where
    do_loop : (head : Head) (body : Statements) → Statement
    work : (w : Work) → Statement
    continue : (line : ℕ) → Statement

  pub data Statements : Type 0 where
    done : Statements
    next : (first : Statement) (rest : Statements) → Statements

-- a named constant
pub record Constant : Type 0 where
  pub name : List ℕ
  pub value : ℤ

-- a scalar (no bounds) or an array (lower and upper bound of each dimension), with its distributed dimension
pub record Declaration : Type 0 where
  pub name : List ℕ
  pub bounds : List (ℤ × ℤ)
  pub axis : ℕ
  pub spread : Spread

-- a program
pub record Tree : Type 0 where
  pub items : Statements
  pub params : List Constant
  pub variables : List Declaration

-- the values of the named constants, by number
abbrev pub param_values : Tree → List ℤ
param_values tree = map (λ (p : Constant). p.value) tree.params

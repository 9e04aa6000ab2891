-- From the declared types of a program's parts to the tree as plain data.
use Rattle.std.specs.Prelude.{List, [], ◌∷◌, map}
use Rattle.nest_tree.specs.Tree.{Expression, Expressions, number, loop_value, param, load, neg, add, sub, mul, div, least_of, greatest_of, no_more, one_more, Printed, value, whole, text, assign, print, Head, Statement, Statements, do_loop, work, continue, done, next, Constant, Declaration, Tree}
use Rattle.nest_tree.specs.declared.tree.Expr.{Expr, Number, LoopValue, Param, Load, Neg', Add', Sub', Mul', Div', Min', Max', Row_of-Expr, end_of-Expr, more_of-Expr}
use Rattle.nest_tree.specs.declared.tree.PrintItem.{PrintItem}
use Rattle.nest_tree.specs.declared.tree.PrintItem.TheVariants.{Value, Whole, Text}
use Rattle.nest_tree.specs.declared.tree.Item.{Item, Loop', Assign, Print, Continue, Row_of-Item, end_of-Item, more_of-Item}
use Rattle.nest_tree.specs.declared.tree.Nest.{Nest}
use Rattle.nest_tree.specs.declared.tree.Parameter.{Parameter}
use Rattle.nest_tree.specs.declared.tree.Variable.{Variable}

abbrev mutual
  pub expression_of : Expr → Expression
  expression_of (Number n) = number n
  expression_of (LoopValue n) = loop_value n
  expression_of (Param n) = param n
  expression_of (Load access) = load access
  expression_of (Neg' p a) = neg (expression_of a)
  expression_of (Add' p a q b) = add (expression_of a) (expression_of b)
  expression_of (Sub' p a q b) = sub (expression_of a) (expression_of b)
  expression_of (Mul' p a q b) = mul (expression_of a) (expression_of b)
  expression_of (Div' p a divisor) = div (expression_of a) divisor
  expression_of (Min' shape all) = least_of (expressions_of all)
  expression_of (Max' shape all) = greatest_of (expressions_of all)

  pub expressions_of : {m : _} → Row_of-Expr m → Expressions
  expressions_of end_of-Expr = no_more
  expressions_of (more_of-Expr e rest) = one_more (expression_of e) (expressions_of rest)

-- arguments in a list
abbrev pub expressions_from : List Expr → Expressions
expressions_from [] = no_more
expressions_from (e ∷ rest) = one_more (expression_of e) (expressions_from rest)

abbrev pub printed_of : PrintItem → Printed
printed_of (Value e) = value (expression_of e)
printed_of (Whole variable) = whole variable
printed_of (Text characters) = text characters.items

abbrev mutual
  pub statement_of : Item → Statement
  statement_of (Loop' n m1 m2 step shape items line) = do_loop
      (record { number = n; m1 = m1; m2 = m2; step = step; line = line }) (statements_of items)
  statement_of (Assign target e guard line) = work
      (assign (record { target = target; value = expression_of e; guard = guard; line = line }))
  statement_of (Print items line) =
      work (print (record { items = map printed_of items.items; line = line }))
  statement_of (Continue line) = continue line

  pub statements_of : {m : _} → Row_of-Item m → Statements
  statements_of end_of-Item = done
  statements_of (more_of-Item s rest) = next (statement_of s) (statements_of rest)

-- statements in a list
abbrev pub statements_from : List Item → Statements
statements_from [] = done
statements_from (s ∷ rest) = next (statement_of s) (statements_from rest)

-- a loop's head, and the loop
abbrev pub head_of : Nest → Head
head_of nest =
    record { number = nest.number; m1 = nest.m1; m2 = nest.m2; step = nest.step; line = nest.line }

abbrev pub loop_of : Nest → Statement
loop_of nest = do_loop (head_of nest) (statements_from nest.items.items)

abbrev pub constant_of : Parameter → Constant
constant_of p = record { name = p.name.items; value = p.value }

abbrev pub declaration_of : Variable → Declaration
declaration_of v =
    record { name = v.name.items; bounds = v.bounds.items; axis = v.axis; spread = v.spread }

-- a program's parts as its tree
abbrev pub tree_with : List Item → List Parameter → List Variable → Tree
tree_with items params variables = record {
  items = statements_from items;
  params = map constant_of params;
  variables = map declaration_of variables;
}

-- The tree of the statements so far.
use Rattle.std.specs.Prelude.{ℕ, ◌+◌, ◌==◌, ℤ, pos, if◌then◌else◌, List, [], ◌∷◌, ◌++◌, map, Option, Some, None, codes}
use Rattle.std.specs.Str.{bytes_eq}
use Rattle.nest_tree.specs.declared.tree.Access.{Access}
use Rattle.nest_tree.specs.declared.tree.Guard.{Guard}
use Rattle.nest_tree.specs.declared.tree.Compare.{Compare}
use Rattle.nest_tree.specs.declared.tree.Compare.TheVariants as tree_compare
use Rattle.nest_tree.specs.Tree as tree
use Rattle.nest_tree.specs.Tree.{Expression, Expressions, Printed, Head, Statement, Statements}
use Rattle.f77_forms.specs.declared.form.Sign.{Sign}
use Rattle.f77_forms.specs.declared.form.Sign.TheVariants.{Plus, Minus}
use Rattle.f77_forms.specs.declared.form.Operator.TheVariants.{Add, Subtract, Multiply, Divide}
use Rattle.f77_forms.specs.declared.form.Compare.{Compare as Written}
use Rattle.f77_forms.specs.declared.form.Compare.TheVariants.{Lt, Le, Eq, Ge, Gt}
use Rattle.f77_forms.specs.Characters.{decimal}
use Rattle.f77_forms.specs.Form.{ExpressionForm, number, name, call, parenthesized, signed, binary, ArgumentForms, no_more, one_more, AssignmentForm, ComparisonForm, DoForm, PrintedForm, value, constant, StatementForm, program, integer, dimension, parameter, do_loop, assign, logical_if, print, continue}
use Rattle.f77_scene.specs.Scene.{Name, Scene, number_among, constant_names, is_constant_name, is_array, is_open, loop_named}
use Rattle.f77_scene.specs.Expressions.{list_of, value_of}
use Rattle.f77_scene.specs.Affine.{form_of}
use Rattle.f77_scene.specs.Statements.{is_whole}

-- ---- expressions

-- a scalar, or an element of an array
abbrev pub access : List Name → Scene → Name → ArgumentForms → Access
access variables s n arguments =
    record { variable = number_among variables n; subscripts = map (form_of s) (list_of arguments) }

-- a name in an expression: the variable of a loop round this place, a named constant, or a scalar
abbrev pub name_tree : List Name → Scene → Name → Expression
name_tree variables s n =
    if is_open s n then tree.loop_value (loop_named s.opened n)
    else (if is_constant_name s n
    then tree.param (number_among (constant_names s) n)
    else tree.load (access variables s n no_more))

abbrev pub sign_tree : Sign → Expression → Expression
sign_tree Plus a = a
sign_tree Minus a = tree.neg a

abbrev pub chosen_tree : Name → Expressions → Expression
chosen_tree n arguments =
    if bytes_eq n (codes "MIN") then tree.least_of arguments else tree.greatest_of arguments

-- parentheses have no node of their own, and a divisor is its value
abbrev mutual
  pub tree_of : List Name → Scene → ExpressionForm → Expression
  tree_of variables s (number ds) = tree.number (pos (decimal ds))
  tree_of variables s (name n) = name_tree variables s n
  tree_of variables s (call n arguments) = if is_array s n
      then tree.load (access variables s n arguments)
      else chosen_tree n (trees_of variables s arguments)
  tree_of variables s (parenthesized e) = tree_of variables s e
  tree_of variables s (signed sign e) = sign_tree sign (tree_of variables s e)
  tree_of variables s (binary Add a b) = tree.add (tree_of variables s a) (tree_of variables s b)
  tree_of variables s (binary Subtract a b) =
      tree.sub (tree_of variables s a) (tree_of variables s b)
  tree_of variables s (binary Multiply a b) =
      tree.mul (tree_of variables s a) (tree_of variables s b)
  tree_of variables s (binary Divide a b) = tree.div (tree_of variables s a) (value_of s b)

  pub trees_of : List Name → Scene → ArgumentForms → Expressions
  trees_of variables s no_more = tree.no_more
  trees_of variables s (one_more e rest) =
      tree.one_more (tree_of variables s e) (trees_of variables s rest)

-- ---- statements

abbrev pub compare_of : Written → Compare
compare_of Lt = tree_compare.Lt
compare_of Le = tree_compare.Le
compare_of Eq = tree_compare.Eq
compare_of Ge = tree_compare.Ge
compare_of Gt = tree_compare.Gt

abbrev pub guard_of : Scene → ComparisonForm → Guard
guard_of s c =
    record { left = form_of s c.left; op = compare_of c.compare; right = form_of s c.right }

abbrev pub assignment_tree : List Name → Scene → ℕ → Option Guard → AssignmentForm → Statement
assignment_tree variables s line guard a =
    tree.work (tree.assign (record {
      target = access variables s a.target.name a.target.arguments;
      value = tree_of variables s a.value;
      guard = guard;
      line = line;
    }))

abbrev pub value_tree : List Name → Scene → ExpressionForm → Printed
value_tree variables s e = if is_whole s e then whole_of e else tree.value (tree_of variables s e)
  where
    whole_of : ExpressionForm → Printed
    whole_of (name n) = tree.whole (number_among variables n)
    whole_of a = tree.value (tree_of variables s a)

abbrev pub item_tree : List Name → Scene → PrintedForm → Printed
item_tree variables s (value e) = value_tree variables s e
item_tree variables s (constant characters) = tree.text characters

-- an executable statement but DO; STOP, END and declarations have no node
abbrev pub statement_tree : List Name → Scene → ℕ → StatementForm → List Statement
statement_tree variables s line (assign a) = assignment_tree variables s line None a ∷ []
statement_tree variables s line (logical_if c a) =
    assignment_tree variables s line (Some (guard_of s c)) a ∷ []
statement_tree variables s line (print items) =
    tree.work (tree.print (record { items = map (item_tree variables s) items; line = line })) ∷ []
statement_tree variables s line continue = tree.continue line ∷ []
statement_tree variables s line f = []

-- statements in a row
abbrev pub in_a_row : List Statement → Statements
in_a_row [] = tree.done
in_a_row (x ∷ xs) = tree.next x (in_a_row xs)

-- ---- loops

-- a step that is left out is 1
abbrev pub step_value : Scene → Option ExpressionForm → ℤ
step_value s None = pos 1
step_value s (Some e) = value_of s e

abbrev pub head_of : Scene → ℕ → DoForm → Head
head_of s line d = record {
  number = s.loops + 1;
  m1 = form_of s d.first;
  m2 = form_of s d.last;
  step = step_value s d.step;
  line = line;
}

-- a loop whose terminal statement is still to come, with what stands in front of it in the body of the loop round it
pub record Begun : Type 0 where
  pub label : ℕ
  pub head : Head
  pub front : List Statement

-- the tree so far
pub record Body : Type 0 where
  -- the loops that are open, the innermost first
  pub begun : List Begun
  -- the body of the innermost open loop so far, or the program's outermost statements
  pub items : List Statement

-- in front of the first statement
abbrev pub first_body : Body
first_body = record { begun = []; items = [] }

-- behind a DO statement the body of its loop begins
abbrev pub body_behind_do : Scene → ℕ → DoForm → Body → Body
body_behind_do s line d body = record {
  begun = record {
    label = decimal d.label;
    head = head_of s line d;
    front = body.items;
  } ∷ body.begun;
  items = [];
}

-- a statement with this label ends the open loops of that label, the innermost first
abbrev pub closed : ℕ → List Begun → List Statement → Body
closed label [] items = record { begun = []; items = items }
closed label (b ∷ begun) items = if b.label == label
    then closed label begun (b.front ++ tree.do_loop b.head (in_a_row items) ∷ [])
    else record { begun = b ∷ begun; items = items }

-- the tree behind a statement that begins at this line, where the variables are numbered as they stand here
abbrev pub body_behind : List Name → Scene → ℕ → ℕ → StatementForm → Body → Body
body_behind variables s line label (program n) body = body
body_behind variables s line label (integer ds) body = body
body_behind variables s line label (dimension ds) body = body
body_behind variables s line label (parameter ds) body = body
body_behind variables s line label (do_loop d) body = body_behind_do s line d body
body_behind variables s line label f body =
    closed label body.begun (body.items ++ statement_tree variables s line f)

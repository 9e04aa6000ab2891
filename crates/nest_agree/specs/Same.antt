-- Tests of equality of the parts of two texts, as they compute.
use Rattle.std.specs.Prelude.{ℕ, ◌-◌, ℤ, pos, Bool, true, false, ◌&&◌, ◌==◌, List, [], ◌∷◌, length, Option, Some, None}
use Rattle.std.specs.Ordering.{int_eq}
use Rattle.nest_tree.specs.declared.tree.Access.{Access}
use Rattle.nest_tree.specs.declared.tree.Compare.{Compare}
use Rattle.nest_tree.specs.declared.tree.Compare.TheVariants.{Lt, Le, Eq, Ge, Gt}
use Rattle.nest_tree.specs.declared.tree.Guard.{Guard}
use Rattle.nest_tree.specs.declared.tree.Spread.{Spread}
use Rattle.nest_tree.specs.declared.tree.Spread.TheVariants.{Block, Cyclic}
use Rattle.nest_tree.specs.Form.{Form}
use Rattle.nest_tree.specs.Layout.{bounds_at}
use Rattle.nest_tree.specs.Tree.{Expression, Expressions, number, loop_value, param, load, neg, add, sub, mul, div, least_of, greatest_of, no_more, one_more, Printed, value, whole, text, Work, assign, print, Head, Statement, Statements, do_loop, work, continue, done, next, Constant, Declaration}

-- lists of which each element is as that of the other
abbrev pub same_list : {X : Type 0} → (X → X → Bool) → List X → List X → Bool
same_list same [] [] = true
same_list same [] (y ∷ ys) = false
same_list same (x ∷ xs) [] = false
same_list same (x ∷ xs) (y ∷ ys) = same x y && same_list same xs ys

abbrev pub same_pair : ℕ × ℤ → ℕ × ℤ → Bool
same_pair (m, c) (n, d) = m == n && int_eq c d

abbrev pub same_form : Form → Form → Bool
same_form f g = int_eq f.constant g.constant && same_list same_pair f.loops g.loops
    && same_list same_pair f.params g.params

abbrev pub same_access : Access → Access → Bool
same_access a b = a.variable == b.variable && same_list same_form a.subscripts b.subscripts

abbrev pub same_at : Access → Option Access → Bool
same_at a None = false
same_at a (Some b) = same_access a b

-- texts of characters, and ends of a dimension
abbrev pub same_bytes : List ℕ → List ℕ → Bool
same_bytes xs ys = same_list (λ a b. a == b) xs ys

abbrev pub same_ends : ℤ × ℤ → ℤ × ℤ → Bool
same_ends (low, high) (low', high') = int_eq low low' && int_eq high high'

-- which kind of expression it is, and its parts; where it has none of the kind, 0 or itself
abbrev pub kind_of : Expression → ℕ
kind_of (number n) = 0
kind_of (loop_value l) = 1
kind_of (param p) = 2
kind_of (neg a) = 3
kind_of (add a b) = 4
kind_of (sub a b) = 5
kind_of (mul a b) = 6
kind_of (div a divisor) = 7
kind_of (least_of arguments) = 8
kind_of (greatest_of arguments) = 9
kind_of (load access) = 10

abbrev pub number_of : Expression → ℤ
number_of (number n) = n
number_of (loop_value l) = pos 0
number_of (param p) = pos 0
number_of (neg a) = pos 0
number_of (add a b) = pos 0
number_of (sub a b) = pos 0
number_of (mul a b) = pos 0
number_of (div a divisor) = divisor
number_of (least_of arguments) = pos 0
number_of (greatest_of arguments) = pos 0
number_of (load access) = pos 0

abbrev pub index_of : Expression → ℕ
index_of (number n) = 0
index_of (loop_value l) = l
index_of (param p) = p
index_of (neg a) = 0
index_of (add a b) = 0
index_of (sub a b) = 0
index_of (mul a b) = 0
index_of (div a divisor) = 0
index_of (least_of arguments) = 0
index_of (greatest_of arguments) = 0
index_of (load access) = 0

abbrev pub first_of : Expression → Expression
first_of (number n) = number n
first_of (loop_value l) = loop_value l
first_of (param p) = param p
first_of (neg a) = a
first_of (add a b) = a
first_of (sub a b) = a
first_of (mul a b) = a
first_of (div a divisor) = a
first_of (least_of arguments) = least_of arguments
first_of (greatest_of arguments) = greatest_of arguments
first_of (load access) = load access

abbrev pub second_of : Expression → Expression
second_of (number n) = number n
second_of (loop_value l) = loop_value l
second_of (param p) = param p
second_of (neg a) = neg a
second_of (add a b) = b
second_of (sub a b) = b
second_of (mul a b) = b
second_of (div a divisor) = div a divisor
second_of (least_of arguments) = least_of arguments
second_of (greatest_of arguments) = greatest_of arguments
second_of (load access) = load access

abbrev pub arguments_of : Expression → Expressions
arguments_of (number n) = no_more
arguments_of (loop_value l) = no_more
arguments_of (param p) = no_more
arguments_of (neg a) = no_more
arguments_of (add a b) = no_more
arguments_of (sub a b) = no_more
arguments_of (mul a b) = no_more
arguments_of (div a divisor) = no_more
arguments_of (least_of arguments) = arguments
arguments_of (greatest_of arguments) = arguments
arguments_of (load access) = no_more

abbrev pub access_of : Expression → Option Access
access_of (number n) = None
access_of (loop_value l) = None
access_of (param p) = None
access_of (neg a) = None
access_of (add a b) = None
access_of (sub a b) = None
access_of (mul a b) = None
access_of (div a divisor) = None
access_of (least_of arguments) = None
access_of (greatest_of arguments) = None
access_of (load access) = Some access

abbrev mutual
  pub same : Expression → Expression → Bool
  same (number n) y = kind_of y == 0 && int_eq n (number_of y)
  same (loop_value l) y = kind_of y == 1 && l == index_of y
  same (param p) y = kind_of y == 2 && p == index_of y
  same (neg a) y = kind_of y == 3 && same a (first_of y)
  same (add a b) y = kind_of y == 4 && same a (first_of y) && same b (second_of y)
  same (sub a b) y = kind_of y == 5 && same a (first_of y) && same b (second_of y)
  same (mul a b) y = kind_of y == 6 && same a (first_of y) && same b (second_of y)
  same (div a divisor) y = kind_of y == 7 && same a (first_of y) && int_eq divisor (number_of y)
  same (least_of arguments) y = kind_of y == 8 && same_all arguments (arguments_of y)
  same (greatest_of arguments) y = kind_of y == 9 && same_all arguments (arguments_of y)
  same (load access) y = same_at access (access_of y)

  pub same_all : Expressions → Expressions → Bool
  same_all no_more no_more = true
  same_all no_more (one_more f more) = false
  same_all (one_more e rest) no_more = false
  same_all (one_more e rest) (one_more f more) = same e f && same_all rest more

abbrev pub same_printed : Printed → Printed → Bool
same_printed (value e) (value f) = same e f
same_printed (value e) (whole v) = false
same_printed (value e) (text characters) = false
same_printed (whole u) (value f) = false
same_printed (whole u) (whole v) = u == v
same_printed (whole u) (text characters) = false
same_printed (text characters) (value f) = false
same_printed (text characters) (whole v) = false
same_printed (text characters) (text others) = same_bytes characters others

abbrev pub compare_number : Compare → ℕ
compare_number Lt = 0
compare_number Le = 1
compare_number Eq = 2
compare_number Ge = 3
compare_number Gt = 4

abbrev pub same_guard : Option Guard → Option Guard → Bool
same_guard None None = true
same_guard None (Some h) = false
same_guard (Some g) None = false
same_guard (Some g) (Some h) = same_form g.left h.left && compare_number g.op == compare_number h.op
    && same_form g.right h.right

abbrev pub same_work : Work → Work → Bool
same_work (assign a) (assign b) = same_access a.target b.target && same a.value b.value
    && same_guard a.guard b.guard && a.line == b.line
same_work (assign a) (print q) = false
same_work (print p) (assign b) = false
same_work (print p) (print q) = same_list same_printed p.items q.items && p.line == q.line

abbrev pub same_head : Head → Head → Bool
same_head h k = h.number == k.number && same_form h.m1 k.m1 && same_form h.m2 k.m2
    && int_eq h.step k.step && h.line == k.line

abbrev mutual
  pub same_statement : Statement → Statement → Bool
  same_statement (do_loop head body) (do_loop other items) =
      same_head head other && same_statements body items
  same_statement (do_loop head body) (work v) = false
  same_statement (do_loop head body) (continue line) = false
  same_statement (work w) (do_loop other items) = false
  same_statement (work w) (work v) = same_work w v
  same_statement (work w) (continue line) = false
  same_statement (continue line) (do_loop other items) = false
  same_statement (continue line) (work v) = false
  same_statement (continue line) (continue other) = line == other

  pub same_statements : Statements → Statements → Bool
  same_statements done done = true
  same_statements done (next t more) = false
  same_statements (next s rest) done = false
  same_statements (next s rest) (next t more) = same_statement s t && same_statements rest more

abbrev pub same_name : Constant → Constant → Bool
same_name c d = same_bytes c.name d.name

abbrev pub spread_number : Spread → ℕ
spread_number Block = 0
spread_number Cyclic = 1

-- two declarations have one name, as many dimensions, and one distribution of one of them
abbrev pub same_kind : Declaration → Declaration → Bool
same_kind v w = same_bytes v.name w.name && length v.bounds == length w.bounds && v.axis == w.axis
    && spread_number v.spread == spread_number w.spread

-- the variable with this number, from 1, has the same bounds among both
abbrev pub same_bounds : List Declaration → List Declaration → ℕ → Bool
same_bounds vs ws v = same_list same_ends (bounds_at vs (v - 1)) (bounds_at ws (v - 1))

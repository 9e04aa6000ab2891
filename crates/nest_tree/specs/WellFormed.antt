-- Well-formed programs: what the reader promises of each tree, and what each `Program` is.
use Rattle.std.specs.Prelude.{ℕ, ◌+◌, ◌-◌, ℤ, Bool, true, false, ◌&&◌, ◌==◌, nat_lt, nat_le, int_le, IsTrue, List, [], ◌∷◌, length, map, unsigned_abs, slice_index_or, pos, negsuc, Option, Some, None}
use Rattle.std.specs.List.{list_all, list_any}
use Rattle.nest_tree.specs.declared.tree.Access.{Access}
use Rattle.nest_tree.specs.declared.tree.Guard.{Guard}
use Rattle.nest_tree.specs.declared.tree.Spread.{Spread}
use Rattle.nest_tree.specs.declared.tree.Spread.TheVariants.{Block, Cyclic}
use Rattle.nest_tree.specs.Form.{Form, is_form, is_small}
use Rattle.nest_tree.specs.Tree.{Expression, Expressions, number, loop_value, param, load, neg, add, sub, mul, div, least_of, greatest_of, no_more, one_more, Printed, value, whole, text, Work, assign, print, Head, Statement, Statements, do_loop, work, continue, done, next, Constant, Declaration, Tree}

-- a number of a list of so many things, counted from 1
abbrev pub is_number_of : ℕ → ℕ → Bool
is_number_of count n = nat_le 1 n && nat_le n count

-- a value of 64 bits: from - 2 ^ 63 to 2 ^ 63 - 1
abbrev pub is_value : ℤ → Bool
is_value z = int_le (negsuc 9223372036854775807) z && int_le z (pos 9223372036854775807)

-- what statements may name: so many named constants, and variables with these numbers of dimensions
pub record Scope : Type 0 where
  pub constants : ℕ
  pub ranks : List ℕ

abbrev pub rank : Declaration → ℕ
rank v = length v.bounds

abbrev pub scope_of : Tree → Scope
scope_of tree = record { constants = length tree.params; ranks = map rank tree.variables }

-- how many dimensions the variable with this number has
abbrev pub rank_of : Scope → ℕ → ℕ
rank_of scope variable = slice_index_or scope.ranks (variable - 1) 0

-- a form names only these loops, and named constants that are there
abbrev pub names_only : ℕ → List ℕ → Form → Bool
names_only constants around f =
    is_form f && list_all (λ p. list_any (λ l. l == p.0) around) f.loops
    && list_all (λ p. is_number_of constants p.0) f.params

-- an access to a variable that is there, with as many subscripts as it has dimensions
abbrev pub is_good_access : Scope → List ℕ → Access → Bool
is_good_access scope around a =
    is_number_of (length scope.ranks) a.variable && length a.subscripts == rank_of scope a.variable
    && list_all (names_only scope.constants around) a.subscripts

-- each number named is of a thing that is there, each number written is a value, no divisor is 0, and no MIN or MAX is empty
abbrev mutual
  pub is_good_expression : Scope → List ℕ → Expression → Bool
  is_good_expression scope around (number n) = is_value n
  is_good_expression scope around (loop_value l) = list_any (λ k. k == l) around
  is_good_expression scope around (param p) = is_number_of scope.constants p
  is_good_expression scope around (load a) = is_good_access scope around a
  is_good_expression scope around (neg a) = is_good_expression scope around a
  is_good_expression scope around (add a b) =
      is_good_expression scope around a && is_good_expression scope around b
  is_good_expression scope around (sub a b) =
      is_good_expression scope around a && is_good_expression scope around b
  is_good_expression scope around (mul a b) =
      is_good_expression scope around a && is_good_expression scope around b
  is_good_expression scope around (div a divisor) =
      is_good_expression scope around a && nat_lt 0 (unsigned_abs divisor) && is_value divisor
  is_good_expression scope around (least_of no_more) = false
  is_good_expression scope around (least_of (one_more e rest)) =
      is_good_expression scope around e && are_good_expressions scope around rest
  is_good_expression scope around (greatest_of no_more) = false
  is_good_expression scope around (greatest_of (one_more e rest)) =
      is_good_expression scope around e && are_good_expressions scope around rest

  pub are_good_expressions : Scope → List ℕ → Expressions → Bool
  are_good_expressions scope around no_more = true
  are_good_expressions scope around (one_more e rest) =
      is_good_expression scope around e && are_good_expressions scope around rest

abbrev pub is_good_item : Scope → List ℕ → Printed → Bool
is_good_item scope around (value e) = is_good_expression scope around e
is_good_item scope around (whole variable) =
    is_number_of (length scope.ranks) variable && nat_lt 0 (rank_of scope variable)
is_good_item scope around (text characters) = true

-- both sides of a comparison are forms of this place
abbrev pub is_good_guard : Scope → List ℕ → Option Guard → Bool
is_good_guard scope around None = true
is_good_guard scope around (Some g) =
    names_only scope.constants around g.left && names_only scope.constants around g.right

abbrev pub is_good_work : Scope → List ℕ → Work → Bool
is_good_work scope around (assign a) = is_good_access scope around a.target
    && is_good_expression scope around a.value && is_good_guard scope around a.guard
is_good_work scope around (print p) = list_all (is_good_item scope around) p.items

-- the head of a loop inside these: no step is 0
abbrev pub is_good_head : Scope → List ℕ → Head → Bool
is_good_head scope around head =
    names_only scope.constants around head.m1 && names_only scope.constants around head.m2
    && nat_lt 0 (unsigned_abs head.step) && is_small head.step

-- how many loops and how many statements there are, DO statements among the latter
abbrev mutual
  pub loops_in : Statement → ℕ
  loops_in (do_loop head body) = 1 + loops_of body
  loops_in (work w) = 0
  loops_in (continue line) = 0

  pub loops_of : Statements → ℕ
  loops_of done = 0
  loops_of (next s rest) = loops_in s + loops_of rest

abbrev mutual
  pub statements_in : Statement → ℕ
  statements_in (do_loop head body) = 1 + statement_count body
  statements_in (work w) = 1
  statements_in (continue line) = 1

  pub statement_count : Statements → ℕ
  statement_count done = 0
  statement_count (next s rest) = statements_in s + statement_count rest

-- loops bear the numbers from `first` on in text order, at most six lie in one another, and each part is good
abbrev mutual
  pub is_good_statement : Scope → List ℕ → ℕ → Statement → Bool
  is_good_statement scope around first (do_loop head body) =
      head.number == first && nat_lt (length around) 6 && is_good_head scope around head
      && are_good_statements scope (head.number ∷ around) (first + 1) body
  is_good_statement scope around first (work w) = is_good_work scope around w
  is_good_statement scope around first (continue line) = true

  pub are_good_statements : Scope → List ℕ → ℕ → Statements → Bool
  are_good_statements scope around first done = true
  are_good_statements scope around first (next s rest) =
      is_good_statement scope around first s
      && are_good_statements scope around (first + loops_in s) rest

-- a dimension's bounds are small, and the lower is at most the upper
abbrev pub is_good_dimension : ℤ × ℤ → Bool
is_good_dimension (low, high) = is_small low && is_small high && int_le low high

-- a scalar is distributed on no dimension, an array of one to three dimensions on one of them
abbrev pub is_good_placing : List (ℤ × ℤ) → ℕ → Spread → Bool
is_good_placing [] axis Block = axis == 0
is_good_placing [] axis Cyclic = false
is_good_placing (b ∷ bounds) axis spread =
    is_number_of (length (b ∷ bounds)) axis && nat_le (length (b ∷ bounds)) 3

abbrev pub is_good_declaration : Declaration → Bool
is_good_declaration v =
    list_all is_good_dimension v.bounds && is_good_placing v.bounds v.axis v.spread

-- the value of a named constant is one
abbrev pub is_good_constant : Constant → Bool
is_good_constant c = is_value c.value

-- a program has at most so many statements, END among them
abbrev pub most_statements : ℕ
most_statements = 400

abbrev pub is_well_formed : Tree → Bool
is_well_formed tree =
    list_all is_good_constant tree.params && list_all is_good_declaration tree.variables
    && nat_lt (statement_count tree.items) most_statements
    && are_good_statements (scope_of tree) [] 1 tree.items

abbrev pub IsWellFormed : Tree → Type 0
IsWellFormed tree = IsTrue (is_well_formed tree)

-- Scalars of which each processor may have a cell of its own in a loop: those that the loop sums up, and those that are private in it. Only accesses without subscripts count.
use Rattle.std.specs.Prelude.{ℕ, suc, Bool, true, false, not, ◌&&◌, ◌||◌, ◌==◌, max, List, length, is_none, if◌then◌else◌}
use Rattle.std.specs.List.{filter, list_any, range_with_len}
use Rattle.nest_tree.specs.declared.tree.Access.{Access}
use Rattle.nest_tree.specs.Loads.{loads_in, loads_in_work}
use Rattle.nest_tree.specs.Tree.{Expression, number, loop_value, param, load, neg, add, sub, mul, div, least_of, greatest_of, Work, assign, print, Statement, Statements, do_loop, work, continue, done, next}

-- an access of the scalar with this number, from 1
abbrev pub is_of : ℕ → Access → Bool
is_of v a = a.variable == v && length a.subscripts == 0

-- an expression loads the scalar
abbrev pub loads : ℕ → Expression → Bool
loads v e = list_any (is_of v) (loads_in e)

-- an expression adds the scalar once: it is the scalar's load, or a sum of which one side adds it once and the other doesn't load it, or a difference of which the left side does and the right side doesn't load it
abbrev pub adds_once : ℕ → Expression → Bool
adds_once v (number n) = false
adds_once v (loop_value l) = false
adds_once v (param p) = false
adds_once v (load a) = is_of v a
adds_once v (neg a) = false
adds_once v (add a b) = (adds_once v a && not (loads v b)) || (adds_once v b && not (loads v a))
adds_once v (sub a b) = adds_once v a && not (loads v b)
adds_once v (mul a b) = false
adds_once v (div a divisor) = false
adds_once v (least_of arguments) = false
adds_once v (greatest_of arguments) = false

abbrev pub is_sum_or_difference : Expression → Bool
is_sum_or_difference (number n) = false
is_sum_or_difference (loop_value l) = false
is_sum_or_difference (param p) = false
is_sum_or_difference (load a) = false
is_sum_or_difference (neg a) = false
is_sum_or_difference (add a b) = true
is_sum_or_difference (sub a b) = true
is_sum_or_difference (mul a b) = false
is_sum_or_difference (div a divisor) = false
is_sum_or_difference (least_of arguments) = false
is_sum_or_difference (greatest_of arguments) = false

-- an expression is the scalar and more, which is added to it or subtracted from it and doesn't load it
abbrev pub adds_to : ℕ → Expression → Bool
adds_to v e = is_sum_or_difference e && adds_once v e

-- a piece of work stores the scalar
abbrev pub stores : ℕ → Work → Bool
stores v (assign a) = is_of v a.target
stores v (print p) = false

-- it loads or stores it
abbrev pub has_access : ℕ → Work → Bool
has_access v w = list_any (is_of v) (loads_in_work w) || stores v w

-- it is an assignment that adds to it
abbrev pub is_addition : ℕ → Work → Bool
is_addition v (assign a) = is_of v a.target && adds_to v a.value
is_addition v (print p) = false

-- it is an assignment without comparison that stores it and doesn't load it
abbrev pub is_plain_store : ℕ → Work → Bool
is_plain_store v (assign a) = is_of v a.target && not (loads v a.value) && is_none a.guard
is_plain_store v (print p) = false

-- some piece of work in a text passes a test
abbrev mutual
  pub some_in : (Work → Bool) → Statement → Bool
  some_in test (do_loop head body) = some_of test body
  some_in test (work w) = test w
  some_in test (continue line) = false

  pub some_of : (Work → Bool) → Statements → Bool
  some_of test done = false
  some_of test (next s rest) = some_in test s || some_of test rest

-- a piece of work has the scalar otherwise than by an addition
abbrev pub is_other : ℕ → Work → Bool
is_other v w = has_access v w && not (is_addition v w)

-- the scalar is stored in a loop with this body, and each piece of work with an access of it is an assignment that adds to it: a sum scalar
abbrev pub is_sum : ℕ → Statements → Bool
is_sum v body = some_of (stores v) body && not (some_of (is_other v) body)

-- the scalar's first access in a statement, loads before the store, is the store of an assignment without comparison; and so in a loop with this body: it may be private
abbrev mutual
  pub is_stored_first : ℕ → Statement → Bool
  is_stored_first v (do_loop head body) = is_private v body
  is_stored_first v (work w) = is_plain_store v w
  is_stored_first v (continue line) = false

  pub is_private : ℕ → Statements → Bool
  is_private v done = false
  is_private v (next s rest) =
      if some_in (has_access v) s then is_stored_first v s else is_private v rest

-- the length of its path: how many loops inside a loop with this body stand round its first access there, 0 where there is none
abbrev mutual
  pub path_length_in : ℕ → Statement → ℕ
  path_length_in v (do_loop head body) = suc (path_length v body)
  path_length_in v (work w) = 0
  path_length_in v (continue line) = 0

  pub path_length : ℕ → Statements → ℕ
  path_length v done = 0
  path_length v (next s rest) =
      if some_in (has_access v) s then path_length_in v s else path_length v rest

-- the greatest number of a scalar that a text stores, 0 where there is none
abbrev pub stored_by : Work → ℕ
stored_by (assign a) = if length a.target.subscripts == 0 then a.target.variable else 0
stored_by (print p) = 0

abbrev mutual
  pub last_stored_in : Statement → ℕ
  last_stored_in (do_loop head body) = last_stored body
  last_stored_in (work w) = stored_by w
  last_stored_in (continue line) = 0

  pub last_stored : Statements → ℕ
  last_stored done = 0
  last_stored (next s rest) = max (last_stored_in s) (last_stored rest)

-- the sum scalars of a loop with this body, and those that may be private in it, in the order of their cells
abbrev pub sum_scalars : Statements → List ℕ
sum_scalars body = filter (λ v. is_sum v body) (range_with_len 0 (suc (last_stored body)))

abbrev pub private_scalars : Statements → List ℕ
private_scalars body = filter (λ v. is_private v body) (range_with_len 0 (suc (last_stored body)))

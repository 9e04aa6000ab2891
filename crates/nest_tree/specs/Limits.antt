-- The limits of a program: how far forms reach, how much work there is, and how many cells.
use Rattle.std.specs.Prelude.{ℕ, ◌+◌, ◌*◌, ◌^◌, ◌≡◌, ℤ, pos, int_lt, Bool, not, nat_lt, min, List, [], ◌∷◌, Option, Some, None, replicate, if◌then◌else◌, refl}
use Rattle.std.specs.Option.{option_or}
use Rattle.nest_tree.specs.declared.tree.Access.{Access}
use Rattle.nest_tree.specs.declared.limits.Limit.{Limit}
use Rattle.nest_tree.specs.declared.limits.Limit.TheVariants.{TooWide, TooMuchWork, TooManyCells}
use Rattle.nest_tree.specs.Form.{Form, fixed, is_small}
use Rattle.nest_tree.specs.Intervals.{form_interval, head_interval, with_ends}
use Rattle.nest_tree.specs.Layout.{cell_count, extent}
use Rattle.nest_tree.specs.Loads.{subscript_forms, work_forms}
use Rattle.nest_tree.specs.Tree.{Work, assign, print, Statement, Statements, do_loop, work, continue, done, next, Tree, param_values}
use Rattle.nest_tree.specs.WellFormed.{most_statements}

-- the most work and the most cells that a program may have, and the number as which greater ones count
abbrev pub most_work : ℕ
most_work = 2 ^ 40

abbrev pub most_cells : ℕ
most_cells = 1048576

abbrev pub capped : ℕ → ℕ
capped n = min n (2 ^ 64)

-- no loop has an interval yet, by number; a program has fewer loops
unfoldable pub no_ends : List (ℤ × ℤ)
no_ends = replicate most_statements (pos 0, pos 0)

-- the work of an assignment or another statement inside loops whose widths multiply to `width` is that product, and so is that of a DO statement; a loop is as wide as its interval
abbrev mutual
  pub work_in : List ℤ → List (ℤ × ℤ) → ℕ → Statement → ℕ
  work_in params ends width (do_loop head body) =
      let interval = head_interval params ends head in
      width + work_of params (with_ends ends head.number interval) (width * extent interval) body
  work_in params ends width (work w) = width
  work_in params ends width (continue line) = width

  pub work_of : List ℤ → List (ℤ × ℤ) → ℕ → Statements → ℕ
  work_of params ends width done = 0
  work_of params ends width (next s rest) =
      work_in params ends width s + work_of params ends width rest

-- the work estimate of a program
abbrev pub work_estimate : Tree → ℕ
work_estimate tree = work_of (param_values tree) no_ends 1 tree.items

-- the first end of an interval that is past plus or minus 2147483647, the low one first
abbrev pub wide_end : ℤ × ℤ → Option ℤ
wide_end (low, high) =
    if not (is_small low) then Some low else if not (is_small high) then Some high else None

-- the first such end of these forms' intervals
abbrev pub wide_forms : List ℤ → List (ℤ × ℤ) → List Form → Option ℤ
wide_forms params ends [] = None
wide_forms params ends (f ∷ rest) =
    option_or (wide_end (form_interval f ends params)) (wide_forms params ends rest)

-- of these accesses' subscripts
abbrev pub wide_loads : List ℤ → List (ℤ × ℤ) → List Access → Option ℤ
wide_loads params ends accesses = wide_forms params ends (subscript_forms accesses)

-- such an end as the limit that the statement of this line passes
abbrev pub wide_at : ℕ → Option ℤ → Option Limit
wide_at line None = None
wide_at line (Some end) = Some (TooWide line end)

-- a loop is empty where its interval is
abbrev pub is_empty : ℤ × ℤ → Bool
is_empty (low, high) = int_lt high low

abbrev pub line_of_work : Work → ℕ
line_of_work (assign a) = a.line
line_of_work (print p) = p.line

-- the first in text order; inside an empty loop no form is looked at
abbrev mutual
  pub wide_in : List ℤ → List (ℤ × ℤ) → Statement → Option Limit
  wide_in params ends (do_loop head body) =
      let interval = head_interval params ends head in
      option_or (wide_at head.line (wide_forms params ends (head.m1 ∷ head.m2 ∷ [])))
      (if is_empty interval
      then None
      else wide_of params (with_ends ends head.number interval) body)
  wide_in params ends (work w) = wide_at (line_of_work w) (wide_forms params ends (work_forms w))
  wide_in params ends (continue line) = None

  pub wide_of : List ℤ → List (ℤ × ℤ) → Statements → Option Limit
  wide_of params ends done = None
  wide_of params ends (next s rest) = option_or (wide_in params ends s) (wide_of params ends rest)

abbrev pub too_wide : Tree → Option Limit
too_wide tree = wide_of (param_values tree) no_ends tree.items

abbrev pub too_much_work : Tree → Option Limit
too_much_work tree = if nat_lt most_work (work_estimate tree)
    then Some (TooMuchWork (capped (work_estimate tree)))
    else None

abbrev pub too_many_cells : Tree → Option Limit
too_many_cells tree = if nat_lt most_cells (cell_count tree)
    then Some (TooManyCells (capped (cell_count tree)))
    else None

-- the first limit that a program passes: a form in text order, then the work, then the cells
abbrev pub first_limit : Tree → Option Limit
first_limit tree = option_or (too_wide tree) (option_or (too_much_work tree) (too_many_cells tree))

-- a program within its limits
abbrev pub IsWithinLimits : Tree → Type 0
IsWithinLimits tree = first_limit tree ≡ None

-- DO 10 I = 1, 2000000 round DO 10 J = 1, 2000000 with an assignment has 4,000,002,000,001 of work
abbrev round : ℕ → Statements → Statement
round n body = do_loop (record {
  number = n;
  m1 = fixed (pos 1);
  m2 = fixed (pos 2000000);
  step = pos 1;
  line = n;
}) body

pub work-example : work_of [] ((pos 0, pos 0) ∷ (pos 0, pos 0) ∷ []) 1
    (next (round 1 (next (round 2 (next (continue 3) done)) done)) done) ≡ 4000002000001
work-example = refl

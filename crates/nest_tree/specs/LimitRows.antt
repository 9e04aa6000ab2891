-- Worked rows of limits: the first limit of small programs.
use Rattle.std.specs.Prelude.{ℕ, ℤ, pos, negsuc, ◌≡◌, Option, Some, None, [], ◌∷◌, refl}
use Rattle.nest_tree.specs.declared.limits.Limit.{Limit}
use Rattle.nest_tree.specs.declared.limits.Limit.TheVariants.{TooWide, TooMuchWork, TooManyCells}
use Rattle.nest_tree.specs.declared.tree.Spread.TheVariants.{Block}
use Rattle.nest_tree.specs.Form.{Form, fixed}
use Rattle.nest_tree.specs.Limits.{first_limit, no_ends}
use Rattle.nest_tree.specs.Tree.{Statement, Statements, Tree, assign, continue, do_loop, done, next, number, work}

-- a multiple of the loop with this number, and a constant
abbrev times : ℤ → ℕ → ℤ → Form
times c n z = record { constant = z; loops = (n, c) ∷ []; params = [] }

-- DO .. = m1, m2, step, with the number n, on line n
abbrev loop : ℕ → Form → Form → ℤ → Statements → Statement
loop n m1 m2 step body =
    do_loop (record { number = n; m1 = m1; m2 = m2; step = step; line = n }) body

-- A(f) = 0 on line 3
abbrev stored : Form → Statement
stored f = work (assign (record {
  target = record { variable = 1; subscripts = f ∷ [] };
  value = number (pos 0);
  guard = None;
  line = 3;
}))

-- these statements, with an array A(1:n)
abbrev program : ℕ → Statement → Tree
program n s = record {
  items = next s done;
  params = [];
  variables = record { name = 65 ∷ []; bounds = (pos 1, pos n) ∷ []; axis = 1; spread = Block }
      ∷ [];
}

abbrev within : ℕ → Statement → Option Limit
within n s = first_limit (program n s)

-- DO 10 I = 1, 2147483647 with A(I+1): the high end is past the limit; A(I) is not
pub high_end : within 10 (loop 1 (fixed (pos 1)) (fixed (pos 2147483647)) (pos 1)
    (next (stored (times (pos 1) 1 (pos 1))) done)) ≡ Some (TooWide 3 (pos 2147483648))
unfolding no_ends
high_end = refl

pub the_limit_itself : within 10 (loop 1 (fixed (pos 1)) (fixed (pos 2147483647)) (pos 1)
    (next (stored (times (pos 1) 1 (pos 0))) done)) ≡ None
unfolding no_ends
the_limit_itself = refl

-- DO 10 I = -2, 2 with A(2147483647*I): both ends are, and the low one is shown
pub low_end_first : within 10 (loop 1 (fixed (negsuc 1)) (fixed (pos 2)) (pos 1)
    (next (stored (times (pos 2147483647) 1 (pos 0))) done)) ≡ Some (TooWide 3 (negsuc 4294967293))
unfolding no_ends
low_end_first = refl

-- DO 10 I = 2, 1 with A(2147483647*I): nothing inside an empty loop is looked at; with DO 10 I = 1, 2 it is
pub inside_an_empty_loop : within 10 (loop 1 (fixed (pos 2)) (fixed (pos 1)) (pos 1)
    (next (stored (times (pos 2147483647) 1 (pos 0))) done)) ≡ None
unfolding no_ends
inside_an_empty_loop = refl

pub inside_a_loop : within 10 (loop 1 (fixed (pos 1)) (fixed (pos 2)) (pos 1)
    (next (stored (times (pos 2147483647) 1 (pos 0))) done)) ≡ Some (TooWide 3 (pos 4294967294))
unfolding no_ends
inside_a_loop = refl

-- DO 10 I = 3, 1, -2: a negative step's interval is from 1 to 3, so A(-2147483647*I) has the low end -6442450941
pub negative_step : within 10 (loop 1 (fixed (pos 3)) (fixed (pos 1)) (negsuc 1)
    (next (stored (times (negsuc 2147483646) 1 (pos 0))) done))
    ≡ Some (TooWide 3 (negsuc 6442450940))
unfolding no_ends
negative_step = refl

-- DO 20 I = 1, 2000000 round DO 10 J = 1, 2000000 with a CONTINUE
pub too_much_work : within 10 (loop 1 (fixed (pos 1)) (fixed (pos 2000000)) (pos 1)
    (next (loop 2 (fixed (pos 1)) (fixed (pos 2000000)) (pos 1) (next (continue 3) done)) done))
    ≡ Some (TooMuchWork 4000002000001)
unfolding no_ends
too_much_work = refl

-- an array of 1,048,577 elements, and one of 1,048,576
pub too_many_cells : within 1048577 (continue 3) ≡ Some (TooManyCells 1048577)
unfolding no_ends
too_many_cells = refl

pub most_cells : within 1048576 (continue 3) ≡ None
unfolding no_ends
most_cells = refl

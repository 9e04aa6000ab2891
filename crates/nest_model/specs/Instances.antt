-- The instances of a program: its assignments and PRINTs at the values of the loops round them, an assignment behind a logical IF only where its comparison holds, in sequential order.
use Rattle.std.specs.Prelude.{ℕ, ◌+◌, ◌-◌, ℤ, pos, negsuc, ◌+ℤ◌, ◌-ℤ◌, ◌*ℤ◌, int_div, Bool, true, if◌then◌else◌, Some, List, [], ◌∷◌, ◌++◌, map, slice_set, replicate, ◌≡◌, refl}
use Rattle.std.specs.List.{flat_map, range_with_len}
use Rattle.nest_tree.specs.declared.tree.Compare.TheVariants.{Eq}
use Rattle.nest_tree.specs.Form.{Form, fixed, form_value}
pub use Rattle.nest_tree.specs.Guards.{compares, holds}
use Rattle.nest_tree.specs.Layout.{count_of}
use Rattle.nest_tree.specs.Tree.{param_values}
use Rattle.nest_tree.specs.Tree.{number, Work, assign, print, Head, Statement, Statements, do_loop, work, continue, done, next, Tree}
use Rattle.nest_tree.specs.WellFormed.{loops_of}

-- one execution of a piece of work: its number from 1 among those in the text, itself, and each loop's value by number, 0 for a loop that isn't round it
pub record Instance : Type 0 where
  pub statement : ℕ
  pub what : Work
  pub loops : List ℤ

-- how many trips a DO makes: max(int((m2 - m1 + m3) / m3), 0) (ANSI X3.9-1978, 11.10.3)
abbrev pub trip_count : ℤ → ℤ → ℤ → ℕ
trip_count m1 m2 m3 = count_of (int_div (m2 -ℤ m1 +ℤ m3) m3)

-- the values of the DO variable, trip by trip
abbrev pub trips : ℤ → ℤ → ℤ → List ℤ
trips m1 m2 m3 = map (λ n. m1 +ℤ (pos n *ℤ m3)) (range_with_len 0 (trip_count m1 m2 m3))

-- the values of loops by number, where loop `n` now has value `v`
abbrev pub with_loop : List ℤ → ℕ → ℤ → List ℤ
with_loop loops n v = slice_set loops (n - 1) v

-- the values of a loop's DO variable, trip by trip, where the loops round it have these values
abbrev pub head_trips : List ℤ → Head → List ℤ → List ℤ
head_trips params head loops =
    trips (form_value head.m1 loops params) (form_value head.m2 loops params) head.step

-- how many pieces of work there are in the text
abbrev mutual
  pub works_in : Statement → ℕ
  works_in (do_loop head body) = works_of body
  works_in (work w) = 1
  works_in (continue line) = 0

  pub works_of : Statements → ℕ
  works_of done = 0
  works_of (next s rest) = works_in s + works_of rest

-- a piece of work is executed at these values: a PRINT always, an assignment where its comparison holds
abbrev pub is_executed : Work → List ℤ → List ℤ → Bool
is_executed (assign a) loops params = holds a.guard loops params
is_executed (print p) loops params = true

-- the instances of a statement, whose first piece of work has the number `first`, at these values of the named constants and of the loops
abbrev mutual
  pub instances_of : List ℤ → Statement → ℕ → List ℤ → List Instance
  instances_of params (do_loop head body) first loops =
      flat_map (λ v. instances_in params body first (with_loop loops head.number v))
      (head_trips params head loops)
  instances_of params (work w) first loops =
      if is_executed w loops params
      then record { statement = first; what = w; loops = loops } ∷ []
      else []
  instances_of params (continue line) first loops = []

  pub instances_in : List ℤ → Statements → ℕ → List ℤ → List Instance
  instances_in params done first loops = []
  instances_in params (next s rest) first loops =
      instances_of params s first loops ++ instances_in params rest (first + works_in s) loops

-- no loop has a value yet
abbrev pub no_values : Tree → List ℤ
no_values tree = replicate (loops_of tree.items) (pos 0)

-- all instances, in sequential order
abbrev pub instances : Tree → List Instance
instances tree = instances_in (param_values tree) tree.items 1 (no_values tree)

-- DO 20 I = 3, 1, -2 round DO 10 J = I, 1 with a PRINT, and behind that IF (I.EQ.1) K = 5: at I = 3 the inner loop makes no trip, and the assignment is left out
abbrev outer_value : Form
outer_value = record { constant = pos 0; loops = (1, pos 1) ∷ []; params = [] }

abbrev blank_line : Work
blank_line = print (record { items = []; line = 3 })

abbrev guarded : Work
guarded = assign (record {
  target = record { variable = 1; subscripts = [] };
  value = number (pos 5);
  guard = Some (record
      { left = outer_value; op = Eq; right = fixed (pos 1) });
  line = 4;
})

abbrev inner : Statement
inner = do_loop (record {
  number = 2;
  m1 = outer_value;
  m2 = fixed (pos 1);
  step = pos 1;
  line = 2;
}) (next (work blank_line) done)

abbrev outer : Tree
outer = record {
  items = next (do_loop (record
      { number = 1; m1 = fixed (pos 3); m2 = fixed (pos 1); step = negsuc 1; line = 1 })
      (next inner (next (work guarded) done))) done;
  params = [];
  variables = [];
}

pub instances-example : instances outer ≡ record {
  statement = 1;
  what = blank_line;
  loops = pos 1 ∷ pos 1 ∷ [];
} ∷ record {
  statement = 2;
  what = guarded;
  loops = pos 1 ∷ pos 0 ∷ [];
} ∷ []
instances-example = refl

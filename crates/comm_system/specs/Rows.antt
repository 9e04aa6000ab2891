-- Worked rows: the obligations of small programs and plans.
use Rattle.std.specs.Prelude.{ℕ, ◌≡◌, ℤ, pos, negsuc, List, [], ◌∷◌, map, None, refl}
use Rattle.farkas_cert.specs.declared.system.Row.{Row}
use Rattle.nest_tree.specs.declared.tree.Access.{Access}
use Rattle.nest_tree.specs.declared.tree.Spread.TheVariants.{Block as Blocks}
use Rattle.nest_tree.specs.Form.{Form, fixed}
use Rattle.nest_tree.specs.Tree.{Statement, assign, do_loop, done, load, loop_value, next, print, value, work, Expression, Tree, Declaration}
use Rattle.owner_partition.specs.declared.anchor.Anchor.{Anchor}
use Rattle.owner_partition.specs.declared.anchor.Dist.TheVariants.{Block}
use Rattle.owner_partition.specs.declared.cut.Mark.TheVariants.{Doall, Inner, Outer}
use Rattle.sync_plan.specs.declared.plan.Conditions.TheVariants.{Values}
use Rattle.sync_plan.specs.declared.plan.Kind.TheVariants.{Nothing, Barrier, Both}
use Rattle.sync_plan.specs.declared.plan.Plan.{Plan}
use Rattle.sync_plan.specs.declared.plan.Version.TheVariants.{One, Two, Five}
use Rattle.comm_system.specs.Obligations.{Task, paths_tasks, tasks_of}
use Rattle.conflict_rules.specs.References.{StaticPhase}

-- a loop's value times a number, and a number more
abbrev times : ℤ → ℕ → ℤ → Form
times c n z = record { constant = z; loops = (n, c) ∷ []; params = [] }

abbrev element : ℕ → Form → Access
element variable f = record { variable = variable; subscripts = f ∷ [] }

-- an assignment, a PRINT of one element, a loop, an array of one dimension, on these lines
abbrev set : Access → Expression → ℕ → Statement
set target e line = work (assign (record { target = target; value = e; guard = None; line = line }))

abbrev shown : Access → ℕ → Statement
shown a line = work (print (record { items = value (load a) ∷ []; line = line }))

abbrev loop : ℕ → ℤ → ℤ → ℕ → Statement → Statement
loop n m1 m2 line s = do_loop (record {
  number = n;
  m1 = fixed m1;
  m2 = fixed m2;
  step = pos 1;
  line = line;
}) (next s done)

abbrev array : ℕ → ℕ → Declaration
array letter n =
    record { name = letter ∷ []; bounds = (pos 1, pos n) ∷ []; axis = 1; spread = Blocks }

abbrev in_blocks : ℕ → Form → Anchor
in_blocks b f = record { form = f; dist = Block b }

-- the rows of a task, each as its coefficients and its bound
abbrev rows : Task → List (List ℤ × ℤ)
rows t = map (λ (r : Row). (r.coefs, r.bound)) t.system.rows

-- DO 10 I = 1, 2 with A(I) = I, then DO 20 K = 1, 0 with B(1) = K, then PRINT A(2): the barrier in front of the second loop's statement isn't certain, so the store of A(I) by one processor and the load of A(2) by processor 0 are obligations in two pieces
abbrev no_trips : Tree
no_trips = record {
  items = next (loop 1 (pos 1) (pos 2) 2 (set (element 1 (times (pos 1) 1 (pos 0))) (loop_value 1)
      3)) (next (loop 2 (pos 1) (pos 0) 4 (set (element 2 (fixed (pos 1))) (loop_value 2) 5))
      (next (shown (element 1 (fixed (pos 2))) 7) done));
  params = [];
  variables = array 65 2 ∷ array 66 2 ∷ [];
}

abbrev barrier_inside : Plan
barrier_inside = record {
  version = One;
  conditions = Values;
  workers = 2;
  cut = record { marks = Doall ∷ Outer ∷ []; privates = [] };
  anchors = in_blocks 1 (times (pos 1) 1 (negsuc 0)) ∷ in_blocks 1 (fixed (pos 0))
      ∷ in_blocks 1 (fixed (pos 0)) ∷ [];
  kinds = Nothing ∷ Barrier ∷ Nothing ∷ [];
  certificates = [];
}

-- as (lines, variable), (level, piece) and range
abbrev heads : Task → (ℕ × ℕ) × (ℕ × (ℕ × (ℕ × (ℤ × ℤ))))
heads t = (t.lines, (t.variable, (t.level, (t.piece, t.range))))

pub no_trips-tasks : map heads (tasks_of no_trips barrier_inside)
    ≡ ((3, 3), (1, (0, (0, (pos 0, pos 0))))) ∷ ((3, 7), (1, (0, (1, (negsuc 0, pos 1)))))
    ∷ ((3, 7), (1, (0, (2, (negsuc 0, pos 1))))) ∷ []
no_trips-tasks = refl

-- the rows of the first piece, over I, its trip, and the owners q and p
abbrev second : List Task → List (List ℤ × ℤ)
second [] = []
second (a ∷ []) = []
second (a ∷ b ∷ rest) = rows b

pub no_trips-rows : second (tasks_of no_trips barrier_inside)
    ≡ (pos 1 ∷ negsuc 0 ∷ pos 0 ∷ pos 0 ∷ [], pos 1)
    ∷ (negsuc 0 ∷ pos 1 ∷ pos 0 ∷ pos 0 ∷ [], negsuc 0)
    ∷ (pos 0 ∷ negsuc 0 ∷ pos 0 ∷ pos 0 ∷ [], pos 0) ∷ (pos 1 ∷ pos 0 ∷ pos 0 ∷ pos 0 ∷ [], pos 2)
    ∷ (pos 1 ∷ pos 0 ∷ pos 0 ∷ pos 0 ∷ [], pos 2)
    ∷ (negsuc 0 ∷ pos 0 ∷ pos 0 ∷ pos 0 ∷ [], negsuc 1)
    ∷ (negsuc 0 ∷ pos 0 ∷ pos 1 ∷ pos 0 ∷ [], negsuc 0)
    ∷ (pos 1 ∷ pos 0 ∷ negsuc 0 ∷ pos 0 ∷ [], pos 1)
    ∷ (pos 0 ∷ pos 0 ∷ negsuc 0 ∷ pos 0 ∷ [], pos 0) ∷ (pos 0 ∷ pos 0 ∷ pos 1 ∷ pos 0 ∷ [], pos 1)
    ∷ (pos 0 ∷ pos 0 ∷ pos 0 ∷ pos 1 ∷ [], pos 0) ∷ (pos 0 ∷ pos 0 ∷ pos 0 ∷ negsuc 0 ∷ [], pos 0)
    ∷ (pos 0 ∷ pos 0 ∷ pos 0 ∷ negsuc 0 ∷ [], pos 0) ∷ (pos 0 ∷ pos 0 ∷ pos 0 ∷ pos 1 ∷ [], pos 1)
    ∷ (pos 0 ∷ pos 0 ∷ pos 1 ∷ negsuc 0 ∷ [], negsuc 0) ∷ []
no_trips-rows = refl

-- DO 10 J = 1, 4 round DO 10 I = 1, 3 with K = I, private in J's loop: that I's loop makes no trip, over J and its trip; 3 - 1 <= -1 is its last row
abbrev stored_inside : StaticPhase
stored_inside = record {
  what = loop 1 (pos 1) (pos 4) 2
      (loop 2 (pos 1) (pos 3) 3 (set (record { variable = 1; subscripts = [] }) (loop_value 2) 4));
  outer = [];
}

abbrev private_inside : Plan
private_inside = record barrier_inside {
  version = Five;
  cut = record { marks = Doall ∷ Inner ∷ []; privates = (1 ∷ []) ∷ [] ∷ [] };
}

abbrev lined : Task → (ℕ × ℕ) × List (List ℤ × ℤ)
lined t = (t.lines, rows t)

pub inside-rows : map lined (paths_tasks no_trips private_inside stored_inside)
    ≡ (
      (3, 4),
      (pos 1 ∷ negsuc 0 ∷ [], pos 1) ∷ (negsuc 0 ∷ pos 1 ∷ [], negsuc 0)
          ∷ (pos 0 ∷ negsuc 0 ∷ [], pos 0) ∷ (pos 1 ∷ pos 0 ∷ [], pos 4)
          ∷ (pos 0 ∷ pos 0 ∷ [], negsuc 2) ∷ [],
    ) ∷ []
inside-rows = refl

-- DO 10 I = 1, 6 with A(I) = I, DO 20 I = 1, 6 with B(I) = I, DO 30 I = 1, 6 with C(I) = A(7-I), in blocks of two: between the first and the third loop stand two boundaries between neighbours, which in version Two order processors two apart
abbrev three_loops : Tree
three_loops = record {
  items = next (loop 1 (pos 1) (pos 6) 2 (set (element 1 (times (pos 1) 1 (pos 0))) (loop_value 1)
      3)) (next (loop 2 (pos 1) (pos 6) 4 (set (element 2 (times (pos 1) 2 (pos 0))) (loop_value 2)
      5))
      (next (loop 3 (pos 1) (pos 6) 6 (set (element 3 (times (pos 1) 3 (pos 0)))
      (load (element 1 (times (negsuc 0) 3 (pos 7)))) 7))
      (next (shown (element 3 (fixed (pos 1))) 8) done)));
  params = [];
  variables = array 65 6 ∷ array 66 6 ∷ array 67 6 ∷ [];
}

abbrev neighbours : Plan
neighbours = record {
  version = Two;
  conditions = Values;
  workers = 3;
  cut = record { marks = Doall ∷ Doall ∷ Doall ∷ []; privates = [] };
  anchors = in_blocks 2 (times (pos 1) 1 (negsuc 0)) ∷ in_blocks 2 (times (pos 1) 2 (negsuc 0))
      ∷ in_blocks 2 (times (pos 1) 3 (negsuc 0)) ∷ in_blocks 1 (fixed (pos 0)) ∷ [];
  kinds = Nothing ∷ Both ∷ Both ∷ Nothing ∷ [];
  certificates = [];
}

pub three_loops-tasks : map heads (tasks_of three_loops neighbours)
    ≡ ((3, 3), (1, (0, (0, (pos 0, pos 0))))) ∷ ((5, 5), (2, (0, (0, (pos 0, pos 0)))))
    ∷ ((7, 7), (3, (0, (0, (pos 0, pos 0)))))
    ∷ ((3, 7), (1, (0, (1, (negsuc 2, pos 3))))) ∷ ((3, 7), (1, (0, (2, (negsuc 2, pos 3)))))
    ∷ ((7, 8), (3, (0, (1, (negsuc 0, pos 1))))) ∷ ((7, 8), (3, (0, (2, (negsuc 0, pos 1))))) ∷ []
three_loops-tasks = refl

-- in version One they don't
pub three_loops-one : map heads (tasks_of three_loops (record neighbours { version = One }))
    ≡ ((3, 3), (1, (0, (0, (pos 0, pos 0))))) ∷ ((5, 5), (2, (0, (0, (pos 0, pos 0)))))
    ∷ ((7, 7), (3, (0, (0, (pos 0, pos 0)))))
    ∷ ((3, 7), (1, (0, (1, (negsuc 1, pos 2))))) ∷ ((3, 7), (1, (0, (2, (negsuc 1, pos 2)))))
    ∷ ((7, 8), (3, (0, (1, (negsuc 0, pos 1))))) ∷ ((7, 8), (3, (0, (2, (negsuc 0, pos 1))))) ∷ []
three_loops-one = refl

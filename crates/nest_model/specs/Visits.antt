-- The stops of a walk: it goes into the loops that it enters, in each trip, and stops at every other statement but a CONTINUE.
use Rattle.std.specs.Prelude.{ℕ, ◌+◌, ℤ, Bool, true, List, [], ◌∷◌, ◌++◌, if◌then◌else◌}
use Rattle.std.specs.List.{flat_map}
use Rattle.nest_tree.specs.Tree.{Statement, Statements, do_loop, work, continue, done, next, Tree, param_values}
use Rattle.nest_model.specs.Instances.{Instance, head_trips, instances_of, with_loop, works_in, is_executed, no_values}

-- the number of the stop in text order and that of its first piece of work, from 1, the statement, and the loops' values by number
pub record Visit : Type 0 where
  pub place : ℕ
  pub first : ℕ
  pub what : Statement
  pub loops : List ℤ

-- the instances of the statement at a stop, in sequential order
abbrev pub visit_instances : List ℤ → Visit → List Instance
visit_instances params v = instances_of params v.what v.first v.loops

-- how many stops there are in the text
abbrev mutual
  pub stops_in : (ℕ → Bool) → Statement → ℕ
  stops_in enters (do_loop head body) = if enters head.number then stops_of enters body else 1
  stops_in enters (work w) = 1
  stops_in enters (continue line) = 0

  pub stops_of : (ℕ → Bool) → Statements → ℕ
  stops_of enters done = 0
  stops_of enters (next s rest) = stops_in enters s + stops_of enters rest

-- the stops of a statement, whose first stop and first piece of work have these numbers, at these values of the named constants and of the loops
abbrev mutual
  pub visits_of : List ℤ → (ℕ → Bool) → Statement → ℕ → ℕ → List ℤ → List Visit
  visits_of params enters (do_loop head body) place first loops =
      if enters head.number
      then flat_map (λ v. visits_in params enters body place first
      (with_loop loops head.number v)) (head_trips params head loops)
      else record { place = place; first = first; what = do_loop head body; loops = loops } ∷ []
  visits_of params enters (work w) place first loops =
      record { place = place; first = first; what = work w; loops = loops } ∷ []
  visits_of params enters (continue line) place first loops = []

  pub visits_in : List ℤ → (ℕ → Bool) → Statements → ℕ → ℕ → List ℤ → List Visit
  visits_in params enters done place first loops = []
  visits_in params enters (next s rest) place first loops =
      visits_of params enters s place first loops
      ++ visits_in params enters rest (place + stops_in enters s) (first + works_in s) loops

-- the stops of a program's walk
abbrev pub visits : Tree → (ℕ → Bool) → List Visit
visits tree enters = visits_in (param_values tree) enters tree.items 1 1 (no_values tree)

-- the walk that enters every loop
abbrev pub every : ℕ → Bool
every n = true

-- the instances at a stop: a piece of work that is executed there
abbrev pub executed_at : List ℤ → ℕ → Statement → List ℤ → List Instance
executed_at params first (do_loop head body) loops = []
executed_at params first (work w) loops = if is_executed w loops params
    then record { statement = first; what = w; loops = loops } ∷ []
    else []
executed_at params first (continue line) loops = []

abbrev pub instances_at : List ℤ → Visit → List Instance
instances_at params v = executed_at params v.first v.what v.loops

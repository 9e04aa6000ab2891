-- The instances are the stops of the walk that enters every loop, where they are executed.
use Rattle.std.proofs.Common.{◌≡◌, ℕ, ◌+◌, ℤ, true, false, List, [], ◌∷◌, ◌++◌, if◌then◌else◌, refl, ap, sym, ◌∙◌}
use Rattle.std.specs.List.{flat_map}
use Rattle.std.proofs.lemmas.Grind.{flat_map-append}
use Rattle.std.proofs.lemmas.List.{append-nil}
use Rattle.nest_tree.specs.Tree.{Statement, Statements, do_loop, work, continue, done, next, Tree, param_values}
use Rattle.nest_model.specs.Instances.{Instance, head_trips, instances_in, instances_of, with_loop, works_in}
use Rattle.nest_model.specs.Visits.{every, executed_at, instances_at, stops_in, visits_in, visits_of}
use Rattle.nest_walk.specs.Cursors.{left_of, loops_in, rounds_in, tree_in, visit_at}
use Rattle.nest_walk.specs.Executed.{is_executed_at}
use Rattle.nest_walk.specs.Paths.{Round}
use Rattle.nest_walk.specs.declared.cursor.Cursor.{Cursor}
use Rattle.nest_walk.specs.declared.cursor.Stop.{Stop}

pub trips_same : (params : List ℤ) (body : Statements) (place first n : ℕ) (loops : List ℤ) (same : (l : List ℤ) → flat_map (instances_at params) (visits_in params every body place first l) ≡ instances_in params body first l) (vs : List ℤ) →
    flat_map (instances_at params) (flat_map (λ v. visits_in params every body place first (with_loop loops n v)) vs) ≡ flat_map (λ v. instances_in params body first (with_loop loops n v)) vs
trips_same params body place first n loops same [] = refl
trips_same params body place first n loops same (v ∷ vs) =
    let later = flat_map (λ u. visits_in params every body place first (with_loop loops n u)) vs in
    flat_map-append (instances_at params) (visits_in params every body place first (with_loop loops n v)) later
    ∙ ap (λ a. a ++ flat_map (instances_at params) later) (same (with_loop loops n v))
    ∙ ap (λ b. instances_in params body first (with_loop loops n v) ++ b) (trips_same params body place first n loops same vs)

mutual
  pub one_same : (params : List ℤ) (s : Statement) (place first : ℕ) (loops : List ℤ) → flat_map (instances_at params) (visits_of params every s place first loops) ≡ instances_of params s first loops
  one_same params (do_loop head body) place first loops = trips_same params body place first head.number loops (λ l. all_same params body place first l) (head_trips params head loops)
  one_same params (work w) place first loops = append-nil (executed_at params first (work w) loops)
  one_same params (continue line) place first loops = refl

  pub all_same : (params : List ℤ) (ss : Statements) (place first : ℕ) (loops : List ℤ) → flat_map (instances_at params) (visits_in params every ss place first loops) ≡ instances_in params ss first loops
  all_same params done place first loops = refl
  all_same params (next s rest) place first loops =
      flat_map-append (instances_at params) (visits_of params every s place first loops) (visits_in params every rest (place + stops_in every s) (first + works_in s) loops)
      ∙ ap (λ a. a ++ flat_map (instances_at params) (visits_in params every rest (place + stops_in every s) (first + works_in s) loops)) (one_same params s place first loops)
      ∙ ap (λ b. instances_of params s first loops ++ b) (all_same params rest (place + stops_in every s) (first + works_in s) loops)

-- a statement that is executed has one instance, another none
pub some_instance : (tree : Tree) (rounds : List Round) (first : ℕ) (s : Statement) → is_executed_at tree rounds s ≡ true →
    (i : Instance) × (executed_at (param_values tree) first s (loops_in tree rounds) ≡ i ∷ [])
some_instance tree rounds first (do_loop head body) h = cc
some_instance tree rounds first (work w) h =
    let i : Instance = record { statement = first; what = w; loops = loops_in tree rounds } in
    (i, ap (λ b. if b then i ∷ [] else []) h)
some_instance tree rounds first (continue line) h = cc

pub no_instance : (tree : Tree) (rounds : List Round) (first : ℕ) (s : Statement) → is_executed_at tree rounds s ≡ false → executed_at (param_values tree) first s (loops_in tree rounds) ≡ []
no_instance tree rounds first (do_loop head body) h = refl
no_instance tree rounds first (work w) h =
    let i : Instance = record { statement = first; what = w; loops = loops_in tree rounds } in
    ap (λ b. if b then i ∷ [] else []) h
no_instance tree rounds first (continue line) h = refl

-- the instances at the next stop, and those behind it
pub at_stop : (old new : Cursor) (s : Stop) → left_of old ≡ visit_at (tree_in new) (rounds_in new) s ∷ left_of new → tree_in new ≡ tree_in old →
    flat_map (instances_at (param_values (tree_in old))) (left_of old)
    ≡ instances_at (param_values (tree_in new)) (visit_at (tree_in new) (rounds_in new) s) ++ flat_map (instances_at (param_values (tree_in new))) (left_of new)
at_stop old new s stop same =
    ap (flat_map (instances_at (param_values (tree_in old)))) stop
    ∙ ap (λ t. instances_at (param_values t) (visit_at (tree_in new) (rounds_in new) s) ++ flat_map (instances_at (param_values t)) (left_of new)) (sym same)

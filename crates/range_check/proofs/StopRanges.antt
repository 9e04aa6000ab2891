-- The instances at a stop of a walk, and the subscripts of those behind it.
use Rattle.std.proofs.Common.{◌≡◌, ℕ, ◌+◌, ◌-◌, ◌<◌, ◌≤◌, ℤ, true, false, Bool, Some, None, IsOk, ◌↔◌, Ok, Err, Result, List, [], ◌∷◌, ◌++◌, if◌then◌else◌, refl, ap, sym, ◌∙◌, arith}
use Rattle.std.specs.Prelude.{is_none}
use Rattle.std.specs.List.{AllByRecursion, flat_map, slice_get}
use Rattle.std.specs.Option.{option_or}
use Rattle.std.specs.Result.{result_err}
use Rattle.nest_tree.specs.Tree.{Statement, Statements, do_loop, work, continue, done, next, Tree, param_values}
use Rattle.nest_tree.specs.View.{statement_of}
use Rattle.nest_tree.specs.WellFormed.{IsWellFormed}
use Rattle.nest_tree.proofs.Wide.{option_or-assoc}
use Rattle.nest_model.specs.Instances.{Instance, head_trips, instances, instances_in, instances_of, is_executed, with_loop, works_in, works_of}
use Rattle.nest_model.specs.Ranges.{IsInRange}
use Rattle.nest_model.specs.Visits.{Visit}
use Rattle.nest_walk.specs.Cursors.{loops_in, visit_at}
use Rattle.nest_walk.specs.Paths.{Round}
use Rattle.nest_walk.specs.declared.cursor.Stop.{Stop}
use Rattle.nest_rows.specs.Nested.{IsNestedInstance, Nested, nested_works}
use Rattle.nest_rows.proofs.Nesting.{all-append}
use Rattle.range_check.specs.Certified.{AreCertified}
use Rattle.range_check.specs.Outside.{instance_outside, instances_outside, outside_of}
use Rattle.range_check.specs.Stops.{instances_there, visit_instances}
use Rattle.range_check.specs.declared.outside.OutOfRange.{OutOfRange}
use Rattle.range_check.proofs.CertifiedLists.{certified_instance}
use Rattle.range_check.proofs.Lists.{none-instances, some_in_range}

-- the instances of the first stop, and those of the others
pub stop_first : (tree walked : Tree) (rounds : List Round) (s : Stop) (left rest : List Visit) → walked ≡ tree → left ≡ visit_at walked rounds s ∷ rest →
    flat_map (visit_instances (param_values tree)) left ≡ instances_there tree rounds s ++ flat_map (visit_instances (param_values tree)) rest
stop_first tree walked rounds s left rest same is =
    ap (flat_map (visit_instances (param_values tree))) is
    ∙ ap (λ t. instances_of (param_values tree) (statement_of s.item.now) s.first (loops_in t rounds) ++ flat_map (visit_instances (param_values tree)) rest) same

pub outside-parts : (tree : Tree) (xs ys : List Instance) → instances_outside tree (xs ++ ys) ≡ option_or (instances_outside tree xs) (instances_outside tree ys)
outside-parts tree [] ys = refl
outside-parts tree (i ∷ xs) ys =
    ap (option_or (instance_outside tree i)) (outside-parts tree xs ys) ∙ sym (option_or-assoc (instance_outside tree i) (instances_outside tree xs) (instances_outside tree ys))

-- the numbers of a statement's instances
abbrev pub IsWithin : ℕ → ℕ → Instance → Type 0
IsWithin first behind i = (first ≤ i.statement) × (i.statement < behind)

wider : (first behind first' behind' : ℕ) (is : List Instance) → first' ≤ first → behind ≤ behind' → AllByRecursion (IsWithin first behind) is → AllByRecursion (IsWithin first' behind') is
wider first behind first' behind' [] low high h = tt
wider first behind first' behind' (i ∷ is) low high h = ((omega (arith, h.0.0), omega (arith, h.0.1)), wider first behind first' behind' is low high h.1)

trips_within : (params : List ℤ) (body : Statements) (first behind n : ℕ) (loops : List ℤ) → ((l : List ℤ) → AllByRecursion (IsWithin first behind) (instances_in params body first l)) → (vs : List ℤ) →
    AllByRecursion (IsWithin first behind) (flat_map (λ v. instances_in params body first (with_loop loops n v)) vs)
trips_within params body first behind n loops h [] = tt
trips_within params body first behind n loops h (v ∷ vs) =
    all-append (IsWithin first behind) (instances_in params body first (with_loop loops n v)) (flat_map (λ u. instances_in params body first (with_loop loops n u)) vs) (h (with_loop loops n v)) (trips_within params body first behind n loops h vs)

one_within : (b : Bool) (i : Instance) → AllByRecursion (IsWithin i.statement (i.statement + 1)) (if b then i ∷ [] else [])
one_within true i = ((omega arith, omega arith), tt)
one_within false i = tt

mutual
  pub numbers_within : (params : List ℤ) (s : Statement) (first : ℕ) (loops : List ℤ) → AllByRecursion (IsWithin first (first + works_in s)) (instances_of params s first loops)
  numbers_within params (do_loop head body) first loops = trips_within params body first (first + works_of body) head.number loops (λ l. all_within params body first l) (head_trips params head loops)
  numbers_within params (work w) first loops = one_within (is_executed w loops params) (record { statement = first; what = w; loops = loops })
  numbers_within params (continue line) first loops = tt

  all_within : (params : List ℤ) (ss : Statements) (first : ℕ) (loops : List ℤ) → AllByRecursion (IsWithin first (first + works_of ss)) (instances_in params ss first loops)
  all_within params done first loops = tt
  all_within params (next s rest) first loops =
      let behind = first + (works_in s + works_of rest) in
      all-append (IsWithin first behind) (instances_of params s first loops) (instances_in params rest (first + works_in s) loops)
      (wider first (first + works_in s) first behind (instances_of params s first loops) (omega arith) (omega arith) (numbers_within params s first loops))
      (wider (first + works_in s) (first + works_in s + works_of rest) first behind (instances_in params rest (first + works_in s) loops) (omega arith) (omega arith) (all_within params rest (first + works_in s) loops))

-- where the pieces of work with these numbers are certified, none of their instances has a subscript out of range
pub certified_within : (tree : Tree) → IsWellFormed tree → (certified : List Bool) (first behind : ℕ) → ((number : ℕ) → first ≤ number → number < behind → slice_get certified (number - 1) ≡ Some true) →
    ((k : ℕ) (n : Nested) → slice_get certified k ≡ Some true → slice_get (nested_works tree) k ≡ Some n → AreCertified tree n) → (is : List Instance) →
    AllByRecursion (IsNestedInstance (param_values tree) (nested_works tree)) is → AllByRecursion (IsWithin first behind) is → instances_outside tree is ≡ None
certified_within tree formed certified first behind set works [] nested within = refl
certified_within tree formed certified first behind set works (i ∷ is) nested within =
    ap (λ o. option_or o (instances_outside tree is)) (certified_instance tree formed i nested.0 (λ n at. works (i.statement - 1) n (set i.statement within.0.0 within.0.1) at))
    ∙ certified_within tree formed certified first behind set works is nested.1 within.1

-- nothing is out of range exactly where the program is in range
pub ok_in_range : {A : Type 0} (tree : Tree) (r : Result A OutOfRange) → result_err r ≡ outside_of tree → IsOk r ↔ IsInRange tree
ok_in_range tree (Ok x) h =
    let ranges : IsInRange tree = sym (none-instances tree (instances tree)) ∙ ap is_none (sym h) in
    (λ _. ranges, λ _. refl)
ok_in_range tree (Err e) h = (λ ok. absurd (let no : false ≡ true = ok in cc), λ ranges. absurd (some_in_range tree e h ranges))

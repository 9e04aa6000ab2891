-- In a well-formed program what an instance in range loads and stores are cells that are there.
use Rattle.std.proofs.Common.{◌≡◌, ℕ, zero, suc, ◌+◌, ◌-◌, ◌<◌, ◌≤◌, ◌&&◌, nat_lt, ℤ, unsigned_abs, true, false, List, [], ◌∷◌, ◌++◌, length, map, Some, refl, ap, sym, ◌∙◌, if◌then◌else◌, arith}
use Rattle.std.specs.Prelude.{slice_get}
use Rattle.std.specs.List.{All, flat_map, list_all, range_with_len}
use Rattle.std.specs.Option.{option_map, option_to_list}
use Rattle.std.proofs.lemmas.Bool.{and_from, and_parts, leb-true}
use Rattle.std.proofs.lemmas.List.{length-map}
use Rattle.std.proofs.lemmas.List.Elements.{All-append, All-cons, All-nil}
use Rattle.std.proofs.lemmas.List.Folds.{list_all-append}
use Rattle.std.proofs.lemmas.Option.{slice_get-map}
use Rattle.list_lemmas.proofs.Each.{passes_at}
use Rattle.nest_tree.specs.declared.tree.Access.{Access}
use Rattle.nest_tree.specs.Form.{form_value}
use Rattle.nest_tree.specs.Layout.{bounds_of, cell_count, element_count, first_cell}
use Rattle.nest_tree.specs.Loads.{loads_among, loads_in, loads_in_item}
use Rattle.nest_tree.specs.Tree.{Expression, Expressions, number, loop_value, param, load, neg, add, sub, mul, div, least_of, greatest_of, no_more, one_more, Printed, value, whole, text, Work, assign, print, Statement, Statements, do_loop, work, continue, done, next, Tree, param_values}
use Rattle.nest_tree.specs.WellFormed.{IsWellFormed, are_good_expressions, are_good_statements, is_good_access, is_good_expression, is_good_guard, is_good_item, is_good_statement, is_good_work, is_number_of, is_value, loops_in, rank, rank_of, scope_of}
use Rattle.nest_tree.proofs.Good.{good_loop}
use Rattle.nest_model.specs.Accesses.{access_cell, cells_of, item_loads, subscript_values, work_loads, work_store}
use Rattle.nest_model.specs.Instances.{Instance, head_trips, instances, instances_in, instances_of, is_executed, with_loop, works_in}
use Rattle.nest_model.specs.Ranges.{IsInRange, accesses_of, is_access_inside, is_instance_inside}
use Rattle.owner_partition.specs.declared.cut.Mark.{Mark}
use Rattle.owner_partition.specs.Phases.{Execution, executions}
use Rattle.owner_partition.proofs.Instances.{all_executed}
use Rattle.owner_partition.proofs.Sites.{All-flat_map}
use Rattle.nest_walk.proofs.CellPlaces.{bounds-good, place_below, cells_below}
use Rattle.nest_walk.proofs.GoodAccesses.{good_access-there}

range_below : (first count most : ℕ) → first + count ≤ most → All (λ c. c < most) (range_with_len first count)
range_below first zero most le = All-nil (λ c. c < most)
range_below first (suc count) most le = All-cons (λ c. c < most) first (range_with_len (first + 1) count) (omega (arith, le)) (range_below (first + 1) count most (omega (arith, le)))

module _ (tree : Tree) (formed : IsWellFormed tree) (around : List ℕ) (loops : List ℤ) where
  pub access_there : (a : Access) → is_good_access (scope_of tree) around a ≡ true → is_access_inside tree loops a ≡ true → access_cell tree loops a < cell_count tree
  access_there a good inside =
      let there = good_access-there tree around a good in
      let bounds = bounds_of tree a.variable in
      let values = subscript_values tree loops a.subscripts in
      let below = place_below bounds values (bounds-good tree a.variable formed) inside (length-map a.subscripts (λ f. form_value f loops (param_values tree)) ∙ there.as_many) in
      let own = cells_below tree.variables (a.variable - 1) (omega (arith, there.low, there.high)) in
      omega (arith, below, own)

  abbrev pub AreGood : List Access → Type 0
  AreGood xs = list_all (is_good_access (scope_of tree) around) xs ≡ true

  pub both : (xs ys : List Access) → AreGood xs → AreGood ys → AreGood (xs ++ ys)
  both xs ys h k = list_all-append (is_good_access (scope_of tree) around) xs ys ∙ and_from (list_all (is_good_access (scope_of tree) around) xs) (list_all (is_good_access (scope_of tree) around) ys) h k

  two : (a b : Expression) → (is_good_expression (scope_of tree) around a && is_good_expression (scope_of tree) around b) ≡ true → (is_good_expression (scope_of tree) around a ≡ true) × (is_good_expression (scope_of tree) around b ≡ true)
  two a b h = and_parts (is_good_expression (scope_of tree) around a) (is_good_expression (scope_of tree) around b) h

  -- what an expression loads is good
  mutual
    pub loads_good : (e : Expression) → is_good_expression (scope_of tree) around e ≡ true → AreGood (loads_in e)
    loads_good (number n) h = refl
    loads_good (loop_value l) h = refl
    loads_good (param p) h = refl
    loads_good (load a) h = and_from (is_good_access (scope_of tree) around a) true h refl
    loads_good (neg a) h = loads_good a h
    loads_good (add a b) h = let g = two a b h in both (loads_in a) (loads_in b) (loads_good a g.0) (loads_good b g.1)
    loads_good (sub a b) h = let g = two a b h in both (loads_in a) (loads_in b) (loads_good a g.0) (loads_good b g.1)
    loads_good (mul a b) h = let g = two a b h in both (loads_in a) (loads_in b) (loads_good a g.0) (loads_good b g.1)
    loads_good (div a divisor) h =
        let g = and_parts (is_good_expression (scope_of tree) around a && nat_lt 0 (unsigned_abs divisor)) (is_value divisor) h in
        loads_good a (and_parts (is_good_expression (scope_of tree) around a) (nat_lt 0 (unsigned_abs divisor)) g.0).0
    loads_good (least_of no_more) h = refl
    loads_good (least_of (one_more e rest)) h = all_loads_good (one_more e rest) h
    loads_good (greatest_of no_more) h = refl
    loads_good (greatest_of (one_more e rest)) h = all_loads_good (one_more e rest) h

    all_loads_good : (es : Expressions) → are_good_expressions (scope_of tree) around es ≡ true → AreGood (loads_among es)
    all_loads_good no_more h = refl
    all_loads_good (one_more e rest) h =
        let g = and_parts (is_good_expression (scope_of tree) around e) (are_good_expressions (scope_of tree) around rest) h in
        both (loads_in e) (loads_among rest) (loads_good e g.0) (all_loads_good rest g.1)

  -- good accesses in range are of cells that are there
  accesses_there : (xs : List Access) → AreGood xs → list_all (is_access_inside tree loops) xs ≡ true → All (λ c. c < cell_count tree) (map (access_cell tree loops) xs)
  accesses_there [] good inside = All-nil (λ c. c < cell_count tree)
  accesses_there (a ∷ xs) good inside =
      let g = and_parts (is_good_access (scope_of tree) around a) (list_all (is_good_access (scope_of tree) around) xs) good in
      let i = and_parts (is_access_inside tree loops a) (list_all (is_access_inside tree loops) xs) inside in
      All-cons (λ c. c < cell_count tree) (access_cell tree loops a) (map (access_cell tree loops) xs) (access_there a g.0 i.0) (accesses_there xs g.1 i.1)

  pub expression_there : (e : Expression) → is_good_expression (scope_of tree) around e ≡ true → list_all (is_access_inside tree loops) (loads_in e) ≡ true → All (λ c. c < cell_count tree) (map (access_cell tree loops) (loads_in e))
  expression_there e good inside = accesses_there (loads_in e) (loads_good e good) inside

  item_there : (p : Printed) → is_good_item (scope_of tree) around p ≡ true → list_all (is_access_inside tree loops) (loads_in_item p) ≡ true → All (λ c. c < cell_count tree) (item_loads tree loops p)
  item_there (value e) good inside = expression_there e good inside
  item_there (whole variable) good inside =
      let number = and_parts (is_number_of (length (scope_of tree).ranks) variable) (nat_lt 0 (rank_of (scope_of tree) variable)) good in
      let ends = and_parts _ _ number.0 in
      let low = leb-true 1 variable ends.0 in
      let high = leb-true variable (length (scope_of tree).ranks) ends.1 in
      range_below (first_cell tree variable) (element_count (bounds_of tree variable)) (cell_count tree) (cells_below tree.variables (variable - 1) (omega (arith, low, high, length-map tree.variables rank)))
  item_there (text characters) good inside = All-nil (λ c. c < cell_count tree)

  pub items_there : (ps : List Printed) → list_all (is_good_item (scope_of tree) around) ps ≡ true → list_all (is_access_inside tree loops) (flat_map loads_in_item ps) ≡ true → All (λ c. c < cell_count tree) (flat_map (item_loads tree loops) ps)
  items_there [] good inside = All-nil (λ c. c < cell_count tree)
  items_there (p ∷ ps) good inside =
      let g = and_parts (is_good_item (scope_of tree) around p) (list_all (is_good_item (scope_of tree) around) ps) good in
      let i = and_parts (list_all (is_access_inside tree loops) (loads_in_item p)) (list_all (is_access_inside tree loops) (flat_map loads_in_item ps)) (sym (list_all-append (is_access_inside tree loops) (loads_in_item p) (flat_map loads_in_item ps)) ∙ inside) in
      All-append (λ c. c < cell_count tree) (item_loads tree loops p) (flat_map (item_loads tree loops) ps) (item_there p g.0 i.0) (items_there ps g.1 i.1)

-- ---- instances

abbrev pub AreThere : Tree → List ℕ → Type 0
AreThere tree cells = All (λ c. c < cell_count tree) cells

pub work_there : (tree : Tree) (around : List ℕ) (loops : List ℤ) (w : Work) → IsWellFormed tree → is_good_work (scope_of tree) around w ≡ true → list_all (is_access_inside tree loops) (accesses_of w) ≡ true → AreThere tree (work_loads tree loops w ++ option_to_list (work_store tree loops w))
work_there tree around loops (assign a) formed good inside =
    let scope = scope_of tree in
    let g = and_parts (is_good_access scope around a.target && is_good_expression scope around a.value) (is_good_guard scope around a.guard) good in
    let parts = and_parts (is_good_access scope around a.target) (is_good_expression scope around a.value) g.0 in
    let i = and_parts (list_all (is_access_inside tree loops) (loads_in a.value)) (is_access_inside tree loops a.target && true) (sym (list_all-append (is_access_inside tree loops) (loads_in a.value) (a.target ∷ [])) ∙ inside) in
    let target = (and_parts (is_access_inside tree loops a.target) true i.1).0 in
    All-append (λ c. c < cell_count tree) (map (access_cell tree loops) (loads_in a.value)) (access_cell tree loops a.target ∷ []) (expression_there tree formed around loops a.value parts.1 i.0)
    (All-cons (λ c. c < cell_count tree) (access_cell tree loops a.target) [] (access_there tree formed around loops a.target parts.0 target) (All-nil (λ c. c < cell_count tree)))
work_there tree around loops (print p) formed good inside =
    All-append (λ c. c < cell_count tree) (work_loads tree loops (print p)) [] (items_there tree formed around loops p.items good inside) (All-nil (λ c. c < cell_count tree))

-- what holds of all holds of each
pub every : {X : Type 0} (P : X → Type 0) → ((x : X) → P x) → (xs : List X) → All P xs
every P h [] = All-nil P
every P h (x ∷ xs) = All-cons P x xs (h x) (every P h xs)

-- ---- the work of each instance is good inside the loops round it

pub record IsGoodWork (tree : Tree) (i : Instance) : Type 0 where
  pub around : List ℕ
  pub good : is_good_work (scope_of tree) around i.what ≡ true

mutual
  pub good_of : (tree : Tree) (params : List ℤ) (s : Statement) (around : List ℕ) (n first : ℕ) (loops : List ℤ) → is_good_statement (scope_of tree) around n s ≡ true → All (IsGoodWork tree) (instances_of params s first loops)
  good_of tree params (do_loop head body) around n first loops good =
      let inside : ℤ → List Instance = λ v. instances_in params body first (with_loop loops head.number v) in
      let g = (good_loop (scope_of tree) around n head body good).inside in
      All-flat_map (IsGoodWork tree) inside (head_trips params head loops) (every (λ v. All (IsGoodWork tree) (inside v)) (λ v. good_in tree params body (head.number ∷ around) (n + 1) first (with_loop loops head.number v) g) (head_trips params head loops))
  good_of tree params (work w) around n first loops good =
      let here : Instance = record { statement = first; what = w; loops = loops } in
      elim (is_executed w loops params) as (λ b. All (IsGoodWork tree) (if b then here ∷ [] else [])) [
        | true ↦ All-cons (IsGoodWork tree) here [] (record { around = around; good = good }) (All-nil (IsGoodWork tree))
        | false ↦ All-nil (IsGoodWork tree)
      ]
  good_of tree params (continue line) around n first loops good = All-nil (IsGoodWork tree)

  pub good_in : (tree : Tree) (params : List ℤ) (ss : Statements) (around : List ℕ) (n first : ℕ) (loops : List ℤ) → are_good_statements (scope_of tree) around n ss ≡ true → All (IsGoodWork tree) (instances_in params ss first loops)
  good_in tree params done around n first loops good = All-nil (IsGoodWork tree)
  good_in tree params (next s rest) around n first loops good =
      let g = and_parts (is_good_statement (scope_of tree) around n s) (are_good_statements (scope_of tree) around (n + loops_in s) rest) good in
      All-append (IsGoodWork tree) (instances_of params s first loops) (instances_in params rest (first + works_in s) loops) (good_of tree params s around n first loops g.0) (good_in tree params rest around (n + loops_in s) (first + works_in s) loops g.1)

-- ---- each execution of a program in range is in range

pub execution_inside : (tree : Tree) (marks : List Mark) (n : ℕ) (x : Execution) → IsInRange tree → slice_get (executions tree marks) n ≡ Some x → is_instance_inside tree x.instance ≡ true
execution_inside tree marks n x ranges at =
    passes_at (is_instance_inside tree) (instances tree) n x.instance ranges
    (ap (λ is. slice_get is n) (sym (all_executed tree marks)) ∙ slice_get-map (λ (y : Execution). y.instance) (executions tree marks) n ∙ ap (option_map (λ (y : Execution). y.instance)) at)

pub cells_there : (tree : Tree) (i : Instance) → IsWellFormed tree → IsGoodWork tree i → is_instance_inside tree i ≡ true → AreThere tree (cells_of tree i)
cells_there tree i formed good inside = work_there tree good.around i.loops i.what formed good.good inside

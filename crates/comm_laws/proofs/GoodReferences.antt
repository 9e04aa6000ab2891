-- The accesses of a well-formed program name loops round them.
use Rattle.std.proofs.Common.{◌≡◌, ℕ, ◌&&◌, nat_lt, Bool, true, false, unsigned_abs, Option, Some, None, List, [], ◌∷◌, ◌++◌, length, map, if◌then◌else◌, refl, sym, subst}
use Rattle.std.specs.List.{AllByRecursion, flat_map, list_all}
use Rattle.std.proofs.lemmas.Bool.{and_from, and_parts}
use Rattle.std.proofs.lemmas.List.{length-map}
use Rattle.list_lemmas.proofs.Each.{all_split}
use Rattle.nest_tree.specs.declared.tree.Access.{Access}
use Rattle.nest_tree.specs.declared.tree.Guard.{Guard}
use Rattle.nest_tree.specs.Form.{Form}
use Rattle.nest_tree.specs.Loads.{loads_among, loads_in}
use Rattle.nest_tree.specs.Tree.{Constant, Expression, Expressions, number, loop_value, param, load, neg, add, sub, mul, div, least_of, greatest_of, no_more, one_more, Printed, value, whole, text, Work, assign, print, Head, Statement, Statements, do_loop, work, continue, done, next, Tree, param_values}
use Rattle.nest_tree.specs.WellFormed.{IsWellFormed, Scope, are_good_expressions, is_good_access, is_good_expression, is_good_guard, is_good_item, is_good_work, is_number_of, is_value, names_only, rank_of, scope_of}
use Rattle.nest_walk.specs.Tables.{Loaded, element, array, loaded_in_item, loaded_in_work, stores_in}
use Rattle.nest_rows.specs.Groups.{guard_of}
use Rattle.nest_rows.specs.Nested.{Nested, nested_among, nested_in}
use Rattle.nest_rows.proofs.Dots.{numbers}
use Rattle.nest_rows.proofs.GoodNesting.{AreAmong, IsGoodNested, form-among, works_good}
use Rattle.nest_rows.proofs.Nesting.{all-append, all-weaker}
use Rattle.conflict_rules.specs.References.{StaticPhase, phases_among, phases_in, reference_of, references_in, references_of}
use Rattle.comm_laws.proofs.Solved.{AreNamed, IsGoodReference}

-- ---- what is loaded by a good piece of work is good

abbrev pub IsGoodLoaded : Scope → List ℕ → Loaded → Type 0
IsGoodLoaded scope around (element a) = is_good_access scope around a ≡ true
IsGoodLoaded scope around (array variable) = (is_number_of (length scope.ranks) variable && nat_lt 0 (rank_of scope variable)) ≡ true

module _ (scope : Scope) (around : List ℕ) where
  abbrev AllGood : List Access → Type 0
  AllGood xs = AllByRecursion (λ a. is_good_access scope around a ≡ true) xs

  both : (xs ys : List Access) → AllByRecursion (λ a. is_good_access scope around a ≡ true) xs → AllByRecursion (λ a. is_good_access scope around a ≡ true) ys → AllByRecursion (λ a. is_good_access scope around a ≡ true) (xs ++ ys)
  both xs ys h k = all-append (λ a. is_good_access scope around a ≡ true) xs ys h k

  mutual
    loads_good : (e : Expression) → is_good_expression scope around e ≡ true → AllByRecursion (λ a. is_good_access scope around a ≡ true) (loads_in e)
    loads_good (number n) good = tt
    loads_good (loop_value l) good = tt
    loads_good (param p) good = tt
    loads_good (load a) good = (good, tt)
    loads_good (neg a) good = loads_good a good
    loads_good (add a b) good = let g = and_parts (is_good_expression scope around a) (is_good_expression scope around b) good in both (loads_in a) (loads_in b) (loads_good a g.0) (loads_good b g.1)
    loads_good (sub a b) good = let g = and_parts (is_good_expression scope around a) (is_good_expression scope around b) good in both (loads_in a) (loads_in b) (loads_good a g.0) (loads_good b g.1)
    loads_good (mul a b) good = let g = and_parts (is_good_expression scope around a) (is_good_expression scope around b) good in both (loads_in a) (loads_in b) (loads_good a g.0) (loads_good b g.1)
    loads_good (div a divisor) good =
        let g = and_parts (is_good_expression scope around a && nat_lt 0 (unsigned_abs divisor)) (is_value divisor) good in
        loads_good a (and_parts (is_good_expression scope around a) (nat_lt 0 (unsigned_abs divisor)) g.0).0
    loads_good (least_of no_more) good = tt
    loads_good (least_of (one_more e rest)) good =
        let g = and_parts (is_good_expression scope around e) (are_good_expressions scope around rest) good in both (loads_in e) (loads_among rest) (loads_good e g.0) (all_loads_good rest g.1)
    loads_good (greatest_of no_more) good = tt
    loads_good (greatest_of (one_more e rest)) good =
        let g = and_parts (is_good_expression scope around e) (are_good_expressions scope around rest) good in both (loads_in e) (loads_among rest) (loads_good e g.0) (all_loads_good rest g.1)

    all_loads_good : (es : Expressions) → are_good_expressions scope around es ≡ true → AllByRecursion (λ a. is_good_access scope around a ≡ true) (loads_among es)
    all_loads_good no_more good = tt
    all_loads_good (one_more e rest) good =
        let g = and_parts (is_good_expression scope around e) (are_good_expressions scope around rest) good in both (loads_in e) (loads_among rest) (loads_good e g.0) (all_loads_good rest g.1)

  elements : (xs : List Access) → AllByRecursion (λ a. is_good_access scope around a ≡ true) xs → AllByRecursion (IsGoodLoaded scope around) (map element xs)
  elements [] h = tt
  elements (x ∷ xs) h = (h.0, elements xs h.1)

  item_good : (p : Printed) → is_good_item scope around p ≡ true → AllByRecursion (IsGoodLoaded scope around) (loaded_in_item p)
  item_good (value e) good = elements (loads_in e) (loads_good e good)
  item_good (whole variable) good = (good, tt)
  item_good (text characters) good = tt

  items_good : (ps : List Printed) → list_all (is_good_item scope around) ps ≡ true → AllByRecursion (IsGoodLoaded scope around) (flat_map loaded_in_item ps)
  items_good [] good = tt
  items_good (p ∷ ps) good =
      let g = and_parts (is_good_item scope around p) (list_all (is_good_item scope around) ps) good in
      all-append (IsGoodLoaded scope around) (loaded_in_item p) (flat_map loaded_in_item ps) (item_good p g.0) (items_good ps g.1)

  pub loaded_good : (w : Work) → is_good_work scope around w ≡ true → AllByRecursion (IsGoodLoaded scope around) (loaded_in_work w)
  loaded_good (assign a) good =
      let last = and_parts (is_good_access scope around a.target && is_good_expression scope around a.value) (is_good_guard scope around a.guard) good in
      elements (loads_in a.value) (loads_good a.value (and_parts (is_good_access scope around a.target) (is_good_expression scope around a.value) last.0).1)
  loaded_good (print p) good = items_good p.items good

  pub stored_good : (w : Work) → is_good_work scope around w ≡ true → AllByRecursion (λ a. is_good_access scope around a ≡ true) (stores_in w)
  stored_good (assign a) good =
      let last = and_parts (is_good_access scope around a.target && is_good_expression scope around a.value) (is_good_guard scope around a.guard) good in
      ((and_parts (is_good_access scope around a.target) (is_good_expression scope around a.value) last.0).0, tt)
  stored_good (print p) good = tt

  guard_good : (w : Work) → is_good_work scope around w ≡ true → is_good_guard scope around (guard_of w) ≡ true
  guard_good (assign a) good = (and_parts (is_good_access scope around a.target && is_good_expression scope around a.value) (is_good_guard scope around a.guard) good).1
  guard_good (print p) good = refl

-- ---- among more loops

forms_among : (constants : ℕ) (these those : List ℕ) (fs : List Form) → AreAmong these those → list_all (names_only constants these) fs ≡ true → list_all (names_only constants those) fs ≡ true
forms_among constants these those [] among h = refl
forms_among constants these those (f ∷ fs) among h =
    let parts = and_parts (names_only constants these f) (list_all (names_only constants these) fs) h in
    and_from (names_only constants those f) (list_all (names_only constants those) fs) (form-among constants these those f among parts.0) (forms_among constants these those fs among parts.1)

loaded_named : (scope : Scope) (these those : List ℕ) (w : Loaded) → AreAmong these those → IsGoodLoaded scope these w → AreNamed scope.constants those w
loaded_named scope these those (element a) among good = forms_among scope.constants these those a.subscripts among (and_parts _ (list_all (names_only scope.constants these) a.subscripts) good).1
loaded_named scope these those (array variable) among good = tt

guard_among : (scope : Scope) (these those : List ℕ) (g : Option Guard) → AreAmong these those → is_good_guard scope these g ≡ true → is_good_guard scope those g ≡ true
guard_among scope these those None among h = refl
guard_among scope these those (Some g) among h =
    let parts = and_parts (names_only scope.constants these g.left) (names_only scope.constants these g.right) h in
    and_from (names_only scope.constants those g.left) (names_only scope.constants those g.right) (form-among scope.constants these those g.left among parts.0) (form-among scope.constants these those g.right among parts.1)

-- the accesses of a good piece of work
work_references : (scope : Scope) (n : Nested) → IsGoodNested scope n → AllByRecursion (IsGoodReference scope.constants scope.ranks) (references_in n)
work_references scope n good =
    let guard = guard_among scope good.loops (numbers n.around) (guard_of n.what) good.among (guard_good scope good.loops n.what good.good) in
    all-append (IsGoodReference scope.constants scope.ranks) (map (reference_of n false) (loaded_in_work n.what)) (map (λ a. reference_of n true (element a)) (stores_in n.what))
    (loads (loaded_in_work n.what) guard (loaded_good scope good.loops n.what good.good)) (stores (stores_in n.what) guard (stored_good scope good.loops n.what good.good))
  where
    loads : (ws : List Loaded) → is_good_guard scope (numbers n.around) (guard_of n.what) ≡ true → AllByRecursion (IsGoodLoaded scope good.loops) ws → AllByRecursion (IsGoodReference scope.constants scope.ranks) (map (reference_of n false) ws)
    loads [] g h = tt
    loads (w ∷ ws) g h = (record { heads = good.heads; guard = g; named = loaded_named scope good.loops (numbers n.around) w good.among h.0 }, loads ws g h.1)

    stores : (xs : List Access) → is_good_guard scope (numbers n.around) (guard_of n.what) ≡ true → AllByRecursion (λ a. is_good_access scope good.loops a ≡ true) xs → AllByRecursion (IsGoodReference scope.constants scope.ranks) (map (λ a. reference_of n true (element a)) xs)
    stores [] g h = tt
    stores (x ∷ xs) g h = (record { heads = good.heads; guard = g; named = loaded_named scope good.loops (numbers n.around) (element x) good.among h.0 }, stores xs g h.1)

-- ---- what holds of all pieces of work holds of those of each phase

abbrev pub AllIn : (Nested → Type 0) → StaticPhase → Type 0
AllIn P phase = AllByRecursion P (nested_in phase.outer phase.what)

module _ (P : Nested → Type 0) (enters : ℕ → Bool) where
  mutual
    in_phases : (outer : List Head) (s : Statement) → AllByRecursion P (nested_in outer s) → AllByRecursion (AllIn P) (phases_in enters outer s)
    in_phases outer (do_loop head body) all = by (enters head.number) (among_phases (outer ++ head ∷ []) body all)
      where
        by : (b : Bool) → AllByRecursion (AllIn P) (phases_among enters (outer ++ head ∷ []) body) → AllByRecursion (AllIn P) (if b then phases_among enters (outer ++ head ∷ []) body else record { what = do_loop head body; outer = outer } ∷ [])
        by true inner = inner
        by false inner = (all, tt)
    in_phases outer (work w) all = (all, tt)
    in_phases outer (continue line) all = tt

    pub among_phases : (outer : List Head) (ss : Statements) → AllByRecursion P (nested_among outer ss) → AllByRecursion (AllIn P) (phases_among enters outer ss)
    among_phases outer done all = tt
    among_phases outer (next s rest) all =
        let parts = all_split P (nested_in outer s) (nested_among outer rest) all in
        all-append (AllIn P) (phases_in enters outer s) (phases_among enters outer rest) (in_phases outer s parts.0) (among_phases outer rest parts.1)

-- each access of each phase is good
pub references_good : (tree : Tree) (enters : ℕ → Bool) → IsWellFormed tree → AllByRecursion (λ phase. AllByRecursion (IsGoodReference (length (param_values tree)) (scope_of tree).ranks) (references_of phase)) (phases_among enters [] tree.items)
references_good tree enters formed =
    let as_many : length tree.params ≡ length (param_values tree) = sym (length-map tree.params (λ (p : Constant). p.value)) in
    let all = in_all in
    all-weaker (AllIn (IsGoodNested (scope_of tree))) (λ phase. AllByRecursion (IsGoodReference (length (param_values tree)) (scope_of tree).ranks) (references_of phase)) (phases_among enters [] tree.items)
    (λ phase good. subst (λ n. AllByRecursion (IsGoodReference n (scope_of tree).ranks) (references_of phase)) as_many (flat (nested_in phase.outer phase.what) good)) all
  where
    in_all : AllByRecursion (AllIn (IsGoodNested (scope_of tree))) (phases_among enters [] tree.items)
    in_all = among_phases (IsGoodNested (scope_of tree)) enters [] tree.items (works_good tree formed)

    flat : (ns : List Nested) → AllByRecursion (IsGoodNested (scope_of tree)) ns → AllByRecursion (IsGoodReference (length tree.params) (scope_of tree).ranks) (flat_map references_in ns)
    flat [] h = tt
    flat (n ∷ ns) h = all-append (IsGoodReference (length tree.params) (scope_of tree).ranks) (references_in n) (flat_map references_in ns) (work_references (scope_of tree) n h.0) (flat ns h.1)

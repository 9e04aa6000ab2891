-- The accesses of an instance are those of a program's text, with small subscripts.
use Rattle.std.proofs.Common.{◌≡◌, ℕ, ◌&&◌, nat_lt, ℤ, Bool, true, false, unsigned_abs, Option, List, [], ◌∷◌, ◌++◌, map, if◌then◌else◌, refl, ap, sym, ◌∙◌, subst}
use Rattle.std.specs.List.{flat_map, list_all}
use Rattle.std.proofs.Math.Logic.{∥∥₁_elim}
use Rattle.std.proofs.Props.{props}
use Rattle.std.proofs.lemmas.Bool.{and_from, and_parts}
use Rattle.std.proofs.lemmas.List.Folds.{list_all-append, list_all-map}
use Rattle.nest_tree.specs.Form.{Form, form_value, is_small}
use Rattle.nest_tree.specs.Limits.{IsWithinLimits, line_of_work}
use Rattle.nest_tree.specs.Loads.{guard_forms, loads_among, loads_in, loads_in_item, subscript_forms, work_forms}
use Rattle.nest_tree.specs.Tree.{Expression, Expressions, number, loop_value, param, load, neg, add, sub, mul, div, least_of, greatest_of, no_more, one_more, Printed, value, whole, text, Work, assign, print, Statement, do_loop, work, continue, Tree, param_values}
use Rattle.nest_tree.specs.WellFormed.{IsWellFormed, Scope, are_good_expressions, is_good_access, is_good_expression, is_good_guard, is_good_item, is_good_work, is_value, scope_of}
use Rattle.nest_tree.specs.declared.tree.Access.{Access}
use Rattle.nest_tree.proofs.Rows.{same_work}
use Rattle.nest_model.specs.Computed.{computed_at}
use Rattle.nest_model.specs.Instances.{Instance, instances, is_executed, no_values}
use Rattle.nest_model.specs.Ranges.{accesses_of}
use Rattle.nest_model.specs.Visits.{Visit, every, executed_at, instances_at, visits}
use Rattle.nest_model.proofs.Small.{all_small, list_all-flat_map}
use Rattle.nest_walk.specs.Cursors.{loops_in}
use Rattle.nest_walk.specs.Paths.{Round}
use Rattle.nest_walk.specs.Places.{numbers_of}
use Rattle.nest_walk.specs.Texts.{StandFrom, placed_in, works}
use Rattle.nest_walk.specs.Walkable.{is_small_at}
use Rattle.nest_walk.proofs.InstanceLists.{all_same}
use Rattle.nest_walk.proofs.PlacedWorks.{instance_at, standing-good}
use Rattle.range_check.specs.Outside.{accesses_outside, are_sound_accesses, instance_outside, is_small_instance, is_sound_access}
use Rattle.range_check.specs.declared.outside.OutOfRange.{OutOfRange}

executed_small : (params loops : List ℤ) (first : ℕ) (w : Work) (b : Bool) → list_all (is_small_at params loops) (work_forms w) ≡ true →
    list_all (is_small_instance params) (if b then record { statement = first; what = w; loops = loops } ∷ [] else []) ≡ true
executed_small params loops first w true h = and_from (list_all (is_small_at params loops) (work_forms w)) true h refl
executed_small params loops first w false h = refl

stop_small : (params : List ℤ) (first place : ℕ) (s : Statement) (loops : List ℤ) → list_all is_small (computed_at params (record { place = place; first = first; what = s; loops = loops })) ≡ true → list_all (is_small_instance params) (executed_at params first s loops) ≡ true
stop_small params first place (do_loop head body) loops h = refl
stop_small params first place (work w) loops h =
    let values = map (λ (f : Form). form_value f loops params) (work_forms w) in
    let parts = and_parts (list_all is_small values) true (sym (list_all-append is_small values []) ∙ h) in
    executed_small params loops first w (is_executed w loops params) (sym (list_all-map is_small (λ (f : Form). form_value f loops params) (work_forms w)) ∙ parts.0)
stop_small params first place (continue line) loops h = refl

stops_small : (params : List ℤ) (vs : List Visit) → list_all (λ v. list_all is_small (computed_at params v)) vs ≡ true → list_all (λ v. list_all (is_small_instance params) (instances_at params v)) vs ≡ true
stops_small params [] h = refl
stops_small params (v ∷ vs) h =
    let parts = and_parts (list_all is_small (computed_at params v)) (list_all (λ v. list_all is_small (computed_at params v)) vs) h in
    and_from (list_all (is_small_instance params) (instances_at params v)) (list_all (λ v. list_all (is_small_instance params) (instances_at params v)) vs) (stop_small params v.first v.place v.what v.loops parts.0) (stops_small params vs parts.1)

pub instances_small : (tree : Tree) → IsWellFormed tree → IsWithinLimits tree → list_all (is_small_instance (param_values tree)) (instances tree) ≡ true
instances_small tree formed limits =
    let params = param_values tree in
    ap (list_all (is_small_instance params)) (sym (all_same params tree.items 1 1 (no_values tree)))
    ∙ list_all-flat_map (is_small_instance params) (instances_at params) (visits tree every) (stops_small params (visits tree every) (all_small tree every formed limits))

-- what a good expression loads is good
module _ (scope : Scope) (around : List ℕ) where
  pub both_good : (xs ys : List Access) → list_all (is_good_access scope around) xs ≡ true → list_all (is_good_access scope around) ys ≡ true → list_all (is_good_access scope around) (xs ++ ys) ≡ true
  both_good xs ys h k = list_all-append (is_good_access scope around) xs ys ∙ and_from (list_all (is_good_access scope around) xs) (list_all (is_good_access scope around) ys) h k

  mutual
    pub loads_good : (e : Expression) → is_good_expression scope around e ≡ true → list_all (is_good_access scope around) (loads_in e) ≡ true
    loads_good (number n) good = refl
    loads_good (loop_value l) good = refl
    loads_good (param p) good = refl
    loads_good (load a) good = and_from (is_good_access scope around a) true good refl
    loads_good (neg a) good = loads_good a good
    loads_good (add a b) good = let g = and_parts (is_good_expression scope around a) (is_good_expression scope around b) good in both_good (loads_in a) (loads_in b) (loads_good a g.0) (loads_good b g.1)
    loads_good (sub a b) good = let g = and_parts (is_good_expression scope around a) (is_good_expression scope around b) good in both_good (loads_in a) (loads_in b) (loads_good a g.0) (loads_good b g.1)
    loads_good (mul a b) good = let g = and_parts (is_good_expression scope around a) (is_good_expression scope around b) good in both_good (loads_in a) (loads_in b) (loads_good a g.0) (loads_good b g.1)
    loads_good (div a divisor) good =
        let g = and_parts (is_good_expression scope around a && nat_lt 0 (unsigned_abs divisor)) (is_value divisor) good in
        loads_good a (and_parts (is_good_expression scope around a) (nat_lt 0 (unsigned_abs divisor)) g.0).0
    loads_good (least_of no_more) good = refl
    loads_good (least_of (one_more e rest)) good =
        let g = and_parts (is_good_expression scope around e) (are_good_expressions scope around rest) good in both_good (loads_in e) (loads_among rest) (loads_good e g.0) (all_loads_good rest g.1)
    loads_good (greatest_of no_more) good = refl
    loads_good (greatest_of (one_more e rest)) good =
        let g = and_parts (is_good_expression scope around e) (are_good_expressions scope around rest) good in both_good (loads_in e) (loads_among rest) (loads_good e g.0) (all_loads_good rest g.1)

    all_loads_good : (es : Expressions) → are_good_expressions scope around es ≡ true → list_all (is_good_access scope around) (loads_among es) ≡ true
    all_loads_good no_more good = refl
    all_loads_good (one_more e rest) good =
        let g = and_parts (is_good_expression scope around e) (are_good_expressions scope around rest) good in both_good (loads_in e) (loads_among rest) (loads_good e g.0) (all_loads_good rest g.1)

  item_loads_good : (p : Printed) → is_good_item scope around p ≡ true → list_all (is_good_access scope around) (loads_in_item p) ≡ true
  item_loads_good (value e) good = loads_good e good
  item_loads_good (whole variable) good = refl
  item_loads_good (text characters) good = refl

  pub items_loads_good : (ps : List Printed) → list_all (is_good_item scope around) ps ≡ true → list_all (is_good_access scope around) (flat_map loads_in_item ps) ≡ true
  items_loads_good [] good = refl
  items_loads_good (p ∷ ps) good =
      let g = and_parts (is_good_item scope around p) (list_all (is_good_item scope around) ps) good in
      both_good (loads_in_item p) (flat_map loads_in_item ps) (item_loads_good p g.0) (items_loads_good ps g.1)

-- good accesses with small subscripts are sound
accesses_sound : (tree : Tree) (around : List ℕ) (loops : List ℤ) (xs : List Access) → list_all (is_good_access (scope_of tree) around) xs ≡ true → list_all (is_small_at (param_values tree) loops) (subscript_forms xs) ≡ true → are_sound_accesses tree around loops xs ≡ true
accesses_sound tree around loops [] good small = refl
accesses_sound tree around loops (a ∷ xs) good small =
    let g = and_parts (is_good_access (scope_of tree) around a) (list_all (is_good_access (scope_of tree) around) xs) good in
    let s = and_parts (list_all (is_small_at (param_values tree) loops) a.subscripts) (list_all (is_small_at (param_values tree) loops) (subscript_forms xs)) (sym (list_all-append (is_small_at (param_values tree) loops) a.subscripts (subscript_forms xs)) ∙ small) in
    and_from (is_sound_access tree around loops a) (are_sound_accesses tree around loops xs) (and_from (is_good_access (scope_of tree) around a) (list_all (is_small_at (param_values tree) loops) a.subscripts) g.0 s.0) (accesses_sound tree around loops xs g.1 s.1)

work_sound : (tree : Tree) (around : List ℕ) (loops : List ℤ) (w : Work) → is_good_work (scope_of tree) around w ≡ true → list_all (is_small_at (param_values tree) loops) (work_forms w) ≡ true → are_sound_accesses tree around loops (accesses_of w) ≡ true
work_sound tree around loops (assign a) good small =
    let scope = scope_of tree in
    let P = is_small_at (param_values tree) loops in
    let g = and_parts (is_good_access scope around a.target && is_good_expression scope around a.value) (is_good_guard scope around a.guard) good in
    let h = and_parts (is_good_access scope around a.target) (is_good_expression scope around a.value) g.0 in
    let s = and_parts (list_all P (guard_forms a.guard ++ a.target.subscripts)) (list_all P (subscript_forms (loads_in a.value))) (sym (list_all-append P (guard_forms a.guard ++ a.target.subscripts) (subscript_forms (loads_in a.value))) ∙ small) in
    let t = and_parts (list_all P (guard_forms a.guard)) (list_all P a.target.subscripts) (sym (list_all-append P (guard_forms a.guard) a.target.subscripts) ∙ s.0) in
    list_all-append (is_sound_access tree around loops) (loads_in a.value) (a.target ∷ [])
    ∙ and_from (are_sound_accesses tree around loops (loads_in a.value)) (is_sound_access tree around loops a.target && true) (accesses_sound tree around loops (loads_in a.value) (loads_good scope around a.value h.1) s.1)
    (and_from (is_sound_access tree around loops a.target) true (and_from (is_good_access scope around a.target) (list_all P a.target.subscripts) h.0 t.1) refl)
work_sound tree around loops (print p) good small = accesses_sound tree around loops (flat_map loads_in_item p.items) (items_loads_good (scope_of tree) around p.items good) small

-- the accesses of the instance at a stop
pub instance_sound : (tree : Tree) (rounds : List Round) (first : ℕ) (s : Statement) (i : Instance) → IsWellFormed tree → executed_at (param_values tree) first s (loops_in tree rounds) ≡ i ∷ [] → StandFrom (works tree) first (placed_in every (numbers_of rounds) s) →
    is_small_instance (param_values tree) i ≡ true → (w : Work) → s ≡ work w → are_sound_accesses tree (numbers_of rounds) (loops_in tree rounds) (accesses_of w) ≡ true
instance_sound tree rounds first s i formed executed stand small w is =
    let at = instance_at tree rounds first s i executed in
    let this : at.what ≡ w = same_work at.what w (sym at.is ∙ is) in
    let stands = subst (λ x. StandFrom (works tree) first (placed_in every (numbers_of rounds) x)) is stand in
    let good : is_good_work (scope_of tree) (numbers_of rounds) w ≡ true = ∥∥₁_elim stands (hlevel props) (λ h. standing-good tree first _ formed h) in
    let forms = sym (ap (is_small_instance (param_values tree)) at.instance_is) ∙ small in
    work_sound tree (numbers_of rounds) (loops_in tree rounds) w good (sym (ap (λ x. list_all (is_small_at (param_values tree) (loops_in tree rounds)) (work_forms x)) this) ∙ forms)

-- the same where the walk has the program's tree
pub here_sound : (tree walked : Tree) (rounds around : List Round) (first : ℕ) (s : Statement) (i : Instance) → walked ≡ tree → rounds ≡ around → IsWellFormed tree → executed_at (param_values walked) first s (loops_in walked around) ≡ i ∷ [] →
    StandFrom (works walked) first (placed_in every (numbers_of around) s) → is_small_instance (param_values tree) i ≡ true → (w : Work) → s ≡ work w → are_sound_accesses tree (numbers_of rounds) (loops_in tree rounds) (accesses_of w) ≡ true
here_sound tree walked rounds around first s i same paths formed executed stand small w is =
    let sound = instance_sound walked around first s i (subst IsWellFormed (sym same) formed) executed stand (ap (λ t. is_small_instance (param_values t) i) same ∙ small) w is in
    ap (λ rs. are_sound_accesses tree (numbers_of rs) (loops_in tree rs) (accesses_of w)) paths ∙ ap (λ t. are_sound_accesses t (numbers_of around) (loops_in t around) (accesses_of w)) (sym same) ∙ sound

-- the first subscript out of range of the instance
pub here_outside : (tree walked : Tree) (rounds around : List Round) (first : ℕ) (s : Statement) (i : Instance) (found : Option OutOfRange) → walked ≡ tree → rounds ≡ around → executed_at (param_values walked) first s (loops_in walked around) ≡ i ∷ [] →
    ((w : Work) → s ≡ work w → found ≡ accesses_outside tree (loops_in tree rounds) (line_of_work w) (accesses_of w)) → found ≡ instance_outside tree i
here_outside tree walked rounds around first s i found same paths executed gives =
    let at = instance_at walked around first s i executed in
    gives at.what at.is ∙ ap (λ rs. accesses_outside tree (loops_in tree rs) (line_of_work at.what) (accesses_of at.what)) paths
    ∙ ap (λ t. accesses_outside tree (loops_in t around) (line_of_work at.what) (accesses_of at.what)) (sym same) ∙ ap (instance_outside tree) (sym at.instance_is)

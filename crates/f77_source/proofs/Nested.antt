-- The tree of statements without fault is good.
use Rattle.std.proofs.Common.{◌≡◌, ℕ, ◌+◌, ◌<◌, ◌≤◌, ◌==◌, nat_lt, Bool, true, false, not, ◌&&◌, ◌||◌, List, [], ◌∷◌, ◌++◌, length, map, filter, if◌then◌else◌, None, Some, Result, Ok, Err, refl, sym, ap, subst, ◌∙◌, arith}
use Rattle.std.proofs.lemmas.Bool.{and_from, and_parts, eq-eqb, lt-ltb, not-false, or_left, or_parts, or_right}
use Rattle.std.proofs.lemmas.List.Folds.{list_any-append}
use Rattle.std.proofs.lemmas.List.{length-map}
use Rattle.std.specs.List.{list_all, list_any, flat_map}
use Rattle.std.specs.Str.{bytes_eq}
use Rattle.nest_tree.specs.Tree as tree
use Rattle.nest_tree.specs.Tree.{Statement, Work}
use Rattle.nest_tree.specs.WellFormed.{Scope, is_good_constant, is_good_head, is_good_statement, are_good_statements, is_good_work, loops_in, loops_of}
use Rattle.f77_forms.specs.declared.fault.TextFault.{TextFault}
use Rattle.f77_forms.specs.Form.{AssignmentForm, ComparisonForm, DoForm, PrintedForm, StatementForm, program, integer, dimension, parameter, do_loop, assign, logical_if, print, continue, stop, end}
use Rattle.f77_forms.specs.Text.{is_assignment, is_comparison, is_statement}
use Rattle.f77_scene.specs.Behind.{behind, behind_do, behind_work, is_scalar, noted}
use Rattle.f77_scene.specs.Expressions.{list_of}
use Rattle.f77_scene.specs.Limits as limits
use Rattle.f77_scene.specs.Reading.{SourceStatement, fault_of_form, fault_with, fault_from, scene_with, scene_from, body_with, body_from, variables_of}
use Rattle.f77_scene.specs.Scene.{Name, Scene, Given, Open, first_scene, is_among, is_open}
use Rattle.f77_scene.specs.Statements.{assignment_expressions, item_expressions, names_among, names_of, with_constants}
use Rattle.f77_scene.specs.Tests.{ends_a_loop, is_empty, left_open, subscripts_in}
use Rattle.f77_scene.specs.Trees.{Begun, Body, access, body_behind, body_behind_do, closed, first_body, guard_of, head_of, in_a_row, item_tree, statement_tree, tree_of}
use Rattle.f77_source.specs.Limits.{KeepsLimits}
use Rattle.f77_source.proofs.Affined.{are_counted, loops_around}
use Rattle.f77_source.proofs.Declared.{first_kept}
use Rattle.f77_source.proofs.Faultless.{both_empty, faultless, affine_within, passes_no_limit}
use Rattle.f77_source.proofs.Folded.{body_from-more, body_from-none, first_passes, passes, scene_from-more, scene_from-none}
use Rattle.f77_source.proofs.Formed.{reach_both}
use Rattle.f77_source.proofs.Kept.{constants_alone, kept, within_count}
use Rattle.f77_source.proofs.Later.{IsLater, from-later, names-among, named-kept, filter-kept, scope_at, seen, statement-named}
use Rattle.f77_source.proofs.Treed.{AreNamed, named-behind}
use Rattle.f77_source.proofs.Valued.{AreValues, IsSpoken, AreSpoken, behind_values}
use Rattle.f77_source.proofs.Worked.{AreLoops, assignment-good, fine, fine_target, guard-good, head-good, items-good, last_fine}

-- ---- loops that are open

-- the numbers of loops, and the first number inside the innermost
abbrev numbers : List Begun → List ℕ
numbers begun = map (λ (b : Begun). b.head.number) begun

abbrev start : List Begun → ℕ
start [] = 1
start (b ∷ begun) = b.head.number + 1

abbrev goods : Scope → List Begun → List Statement → Bool
goods scope begun items = are_good_statements scope (numbers begun) (start begun) (in_a_row items)

abbrev loops_among : List Statement → ℕ
loops_among items = loops_of (in_a_row items)

-- what stands in front of each open loop is good, and so is its head, which has the next number
abbrev AreGoodBegun : Scope → List Begun → Type 0
AreGoodBegun scope [] = Unit {0}
AreGoodBegun scope (b ∷ begun) =
    (goods scope begun b.front ≡ true) × (b.head.number ≡ start begun + loops_among b.front) × (length begun < 6) × (is_good_head scope (numbers begun) b.head ≡ true) × AreGoodBegun scope begun

-- and so are the statements behind the innermost, where the next loop has this number
pub record IsGoodBody (scope : Scope) (next : ℕ) (body : Body) : Type 0 where
  pub begun : AreGoodBegun scope body.begun
  pub items : goods scope body.begun body.items ≡ true
  pub numbered : next ≡ start body.begun + loops_among body.items

loops-append : (xs ys : List Statement) → loops_among (xs ++ ys) ≡ loops_among xs + loops_among ys
loops-append [] ys = omega arith
loops-append (x ∷ xs) ys = (let rest = loops-append xs ys in omega arith)

goods-append : (scope : Scope) (around : List ℕ) (first : ℕ) (xs ys : List Statement) → are_good_statements scope around first (in_a_row xs) ≡ true → are_good_statements scope around (first + loops_among xs) (in_a_row ys) ≡ true
    → are_good_statements scope around first (in_a_row (xs ++ ys)) ≡ true
goods-append scope around first [] ys h k = subst (λ n. are_good_statements scope around n (in_a_row ys) ≡ true) nothing k
  where
    nothing : first + 0 ≡ first
    nothing = omega arith
goods-append scope around first (x ∷ xs) ys h k =
    let both = and_parts (is_good_statement scope around first x) (are_good_statements scope around (first + loops_in x) (in_a_row xs)) h in
    let sum : first + (loops_in x + loops_among xs) ≡ first + loops_in x + loops_among xs = omega arith in
    let rest = subst (λ n. are_good_statements scope around n (in_a_row ys) ≡ true) sum k in
    and_from (is_good_statement scope around first x) (are_good_statements scope around (first + loops_in x) (in_a_row (xs ++ ys))) both.0 (goods-append scope around (first + loops_in x) xs ys both.1 rest)

closed-good : (scope : Scope) (next label : ℕ) (begun : List Begun) (items : List Statement) → AreGoodBegun scope begun → goods scope begun items ≡ true → next ≡ start begun + loops_among items → IsGoodBody scope next (closed label begun items)
closed-good scope next label [] items b g n = record { begun = tt; items = g; numbered = n }
closed-good scope next label (b ∷ begun) items h g n = by_label (b.label == label) (closed-good scope next label begun (b.front ++ tree.do_loop b.head (in_a_row items) ∷ []))
  where
    whole : List Statement
    whole = b.front ++ tree.do_loop b.head (in_a_row items) ∷ []

    loop : is_good_statement scope (numbers begun) (start begun + loops_among b.front) (tree.do_loop b.head (in_a_row items)) ≡ true
    loop =
        let equal : (b.head.number == start begun + loops_among b.front) ≡ true = eq-eqb b.head.number (start begun + loops_among b.front) h.1 in
        let many : length (numbers begun) ≡ length begun = length-map begun (λ (x : Begun). x.head.number) in
        let few = h.2 in
        let within : nat_lt (length (numbers begun)) 6 ≡ true = lt-ltb (length (numbers begun)) 6 (omega arith) in
        let head = is_good_head scope (numbers begun) b.head in
        let first = start begun + loops_among b.front in
        let inner = are_good_statements scope (numbers (b ∷ begun)) (first + 1) (in_a_row items) in
        let body : inner ≡ true = subst (λ n. are_good_statements scope (numbers (b ∷ begun)) (n + 1) (in_a_row items) ≡ true) h.1 g in
        let t = b.head.number == start begun + loops_among b.front in
        let u = nat_lt (length (numbers begun)) 6 in
        and_from (t && u && head) inner (and_from (t && u) head (and_from t u equal within) h.3) body

    counted : next ≡ start begun + loops_among whole
    counted = (let added = loops-append b.front (tree.do_loop b.head (in_a_row items) ∷ []) in let number = h.1 in omega arith)

    by_label : (t : Bool) → (AreGoodBegun scope begun → goods scope begun whole ≡ true → next ≡ start begun + loops_among whole → IsGoodBody scope next (closed label begun whole))
        → IsGoodBody scope next (if t then closed label begun whole else record { begun = b ∷ begun; items = items })
    by_label true rest = rest h.4 (goods-append scope (numbers begun) (start begun) b.front (tree.do_loop b.head (in_a_row items) ∷ []) h.0 (and_from (is_good_statement scope (numbers begun) (start begun + loops_among b.front) (tree.do_loop b.head (in_a_row items))) true loop refl)) counted
    by_label false rest = record { begun = h; items = g; numbered = n }

-- ---- open loops are those whose bodies have begun

abbrev pub AreMatched : List Begun → List Open → Type 0
AreMatched [] [] = Unit {0}
AreMatched [] (o ∷ opened) = ⊥
AreMatched (b ∷ begun) [] = ⊥
AreMatched (b ∷ begun) (o ∷ opened) = (b.label ≡ o.label) × (b.head.number ≡ o.number) × AreMatched begun opened

matched-numbers : (begun : List Begun) (opened : List Open) → AreMatched begun opened → numbers begun ≡ map (λ (o : Open). o.number) opened
matched-numbers [] [] h = refl
matched-numbers [] (o ∷ opened) h = absurd h
matched-numbers (b ∷ begun) [] h = absurd h
matched-numbers (b ∷ begun) (o ∷ opened) h = ap (λ n. n ∷ numbers begun) h.1 ∙ ap (λ ns. o.number ∷ ns) (matched-numbers begun opened h.2)

matched-length : (begun : List Begun) (opened : List Open) → AreMatched begun opened → length begun ≡ length opened
matched-length [] [] h = refl
matched-length [] (o ∷ opened) h = absurd h
matched-length (b ∷ begun) [] h = absurd h
matched-length (b ∷ begun) (o ∷ opened) h = (let rest = matched-length begun opened h.2 in omega arith)

closed-matched : (label : ℕ) (begun : List Begun) (opened : List Open) (items : List Statement) → AreMatched begun opened → AreMatched (closed label begun items).begun (left_open label opened)
closed-matched label [] [] items h = tt
closed-matched label [] (o ∷ opened) items h = absurd h
closed-matched label (b ∷ begun) [] items h = absurd h
closed-matched label (b ∷ begun) (o ∷ opened) items h = by_label (b.label == label) (o.label == label) (ap (λ l. l == label) h.0) (closed-matched label begun opened (b.front ++ tree.do_loop b.head (in_a_row items) ∷ []) h.2)
  where
    by_label : (t u : Bool) → t ≡ u → AreMatched (closed label begun (b.front ++ tree.do_loop b.head (in_a_row items) ∷ [])).begun (left_open label opened)
        → AreMatched (if t then closed label begun (b.front ++ tree.do_loop b.head (in_a_row items) ∷ []) else record { begun = b ∷ begun; items = items }).begun (if u then left_open label opened else o ∷ opened)
    by_label true true e rest = rest
    by_label true false e rest = absurd cc
    by_label false true e rest = absurd cc
    by_label false false e rest = h

-- ---- what holds in front of each statement

pub record IsSettled (s : Scene) : Type 0 where
  pub limits : KeepsLimits s
  pub counted : are_counted s.opened ≡ true
  pub loops : AreLoops s
  pub values : list_all is_good_constant s.constants ≡ true

left-counted : (label : ℕ) (opened : List Open) → are_counted opened ≡ true → are_counted (left_open label opened) ≡ true
left-counted label [] h = refl
left-counted label (o ∷ opened) h = by_label (o.label == label) (left-counted label opened (and_parts (nat_lt 0 o.number) (are_counted opened) h).1)
  where
    by_label : (t : Bool) → are_counted (left_open label opened) ≡ true → are_counted (if t then left_open label opened else o ∷ opened) ≡ true
    by_label true rest = rest
    by_label false rest = h

abbrev has_variable : Name → List Open → Bool
has_variable n opened = list_any (λ (o : Open). bytes_eq o.variable n) opened

left-variable : (label : ℕ) (opened : List Open) (n : Name) → has_variable n (left_open label opened) ≡ true → has_variable n opened ≡ true
left-variable label [] n h = h
left-variable label (o ∷ opened) n h = by_label (o.label == label) h (left-variable label opened n)
  where
    by_label : (t : Bool) → has_variable n (if t then left_open label opened else o ∷ opened) ≡ true → (has_variable n (left_open label opened) ≡ true → has_variable n opened ≡ true) → has_variable n (o ∷ opened) ≡ true
    by_label true k rest = or_right (bytes_eq o.variable n) (has_variable n opened) (rest k)
    by_label false k rest = k

settled-behind : (given : Given) (s : Scene) (after label : ℕ) (f : StatementForm) → fault_of_form given s after label f ≡ None → AreValues given.settings → is_statement f ≡ true → IsSettled s → IsSettled (behind given s label f)
settled-behind given s after label f none vs g w = by_form f (kept given s after label f none w.limits) (behind_values given s label f vs g w.values)
  where
    worked : (h : StatementForm) → KeepsLimits (behind given s label h) → list_all is_good_constant (behind given s label h).constants ≡ true → (behind given s label h).opened ≡ left_open label s.opened
        → (behind given s label h).loop_variables ≡ s.loop_variables → IsSettled (behind given s label h)
    worked h limits values o v =
        record {
          limits = limits;
          counted = ap are_counted o ∙ left-counted label s.opened w.counted;
          loops = λ n t. ap (λ ns. is_among ns n) v ∙ w.loops n (left-variable label s.opened n (sym (ap (has_variable n) o) ∙ t));
          values = values;
        }

    begun : (d : DoForm) (n : Name) → (bytes_eq d.variable n || is_open s n) ≡ true → is_among (s.loop_variables ++ d.variable ∷ []) n ≡ true
    begun d n t = list_any-append (λ m. bytes_eq m n) s.loop_variables (d.variable ∷ []) ∙ by_first (bytes_eq d.variable n) t
      where
        by_first : (b : Bool) → (b || is_open s n) ≡ true → (is_among s.loop_variables n || (b || false)) ≡ true
        by_first true k = or_right (is_among s.loop_variables n) true refl
        by_first false k = or_left (is_among s.loop_variables n) false (w.loops n k)

    by_form : (h : StatementForm) → KeepsLimits (behind given s label h) → list_all is_good_constant (behind given s label h).constants ≡ true → IsSettled (behind given s label h)
    by_form (program m) limits values = record { limits = limits; counted = w.counted; loops = w.loops; values = values }
    by_form (integer ds) limits values = record { limits = limits; counted = w.counted; loops = w.loops; values = values }
    by_form (dimension ds) limits values = record { limits = limits; counted = w.counted; loops = w.loops; values = values }
    by_form (parameter ds) limits values =
        let c = constants_alone given s ds in
        record { limits = limits; counted = ap are_counted c.opened ∙ w.counted; loops = λ n t. ap (λ ns. is_among ns n) c.loop_variables ∙ w.loops n (sym (ap (has_variable n) c.opened) ∙ t); values = values }
    by_form (do_loop d) limits values = (let one : nat_lt 0 (s.loops + 1) ≡ true = lt-ltb 0 (s.loops + 1) (omega arith) in record { limits = limits; counted = and_from (nat_lt 0 (s.loops + 1)) (are_counted s.opened) one w.counted; loops = begun d; values = values })
    by_form (assign a) limits values = worked (assign a) limits values refl refl
    by_form (logical_if c a) limits values = worked (logical_if c a) limits values refl refl
    by_form (print items) limits values = worked (print items) limits values refl refl
    by_form continue limits values = worked continue limits values refl refl
    by_form stop limits values = worked stop limits values refl refl
    by_form end limits values = worked end limits values refl refl

-- ---- one statement more

-- a body, where so many loops have begun and these are open
pub record IsGrown (scope : Scope) (loops : ℕ) (opened : List Open) (body : Body) : Type 0 where
  pub good : IsGoodBody scope (loops + 1) body
  pub matched : AreMatched body.begun opened

work-grown : (scope : Scope) (s : Scene) (label : ℕ) (body : Body) (xs : List Statement) → IsGrown scope s.loops s.opened body → are_good_statements scope (loops_around s) (s.loops + 1) (in_a_row xs) ≡ true → loops_among xs ≡ 0
    → IsGrown scope s.loops (left_open label s.opened) (closed label body.begun (body.items ++ xs))
work-grown scope s label body xs w g none =
    let around = matched-numbers body.begun s.opened w.matched in
    let next = w.good.numbered in
    let here : are_good_statements scope (numbers body.begun) (start body.begun + loops_among body.items) (in_a_row xs) ≡ true =
    ap (λ ns. are_good_statements scope ns (start body.begun + loops_among body.items) (in_a_row xs)) around ∙ ap (λ n. are_good_statements scope (loops_around s) n (in_a_row xs)) (sym next) ∙ g in
    let whole = goods-append scope (numbers body.begun) (start body.begun) body.items xs w.good.items here in
    let added = loops-append body.items xs in
    record { good = closed-good scope (s.loops + 1) label body.begun (body.items ++ xs) w.good.begun whole (omega arith); matched = closed-matched label body.begun s.opened (body.items ++ xs) w.matched }

begun-grown : (scope : Scope) (s : Scene) (line : ℕ) (d : DoForm) (body : Body) → IsGrown scope s.loops s.opened body → length s.opened + 1 ≤ 6 → is_good_head scope (loops_around s) (head_of s line d) ≡ true
    → IsGrown scope (s.loops + 1) (behind_do s d).opened (body_behind_do s line d body)
begun-grown scope s line d body w few g =
    let around = matched-numbers body.begun s.opened w.matched in
    let deep = matched-length body.begun s.opened w.matched in
    let head : is_good_head scope (numbers body.begun) (head_of s line d) ≡ true = ap (λ ns. is_good_head scope ns (head_of s line d)) around ∙ g in
    record { good = record { begun = (w.good.items, w.good.numbered, omega arith, head, w.good.begun); items = refl; numbered = omega arith }; matched = (refl, refl, w.matched) }

-- ---- what stands in statements that have a node

work-named : (s last : Scene) (label : ℕ) (f : StatementForm) → IsLater (noted (behind_work s label f) label f) last → names_of (behind_work s label f) f ≡ names_of s f → AreNamed (variables_of last) s (names_of s f)
work-named s last label f later same =
    let names = names_of s f in
    statement-named s (noted (behind_work s label f) label f) last names later refl refl (λ n h. named-kept s.names (names_of (behind_work s label f) f) n (ap (λ ns. is_among ns n) same ∙ h))
    (λ n h k. named-kept s.scalars (filter (is_scalar s) names) n (filter-kept (is_scalar s) names n h k))

-- its node, and that it holds no loop
abbrev IsGoodWork : Scope → Scene → List Statement → Type 0
IsGoodWork scope s xs = (are_good_statements scope (loops_around s) (s.loops + 1) (in_a_row xs) ≡ true) × (loops_among xs ≡ 0)

one-work : (scope : Scope) (s : Scene) (w : Work) → is_good_work scope (loops_around s) w ≡ true → IsGoodWork scope s (tree.work w ∷ [])
one-work scope s w h = (and_from (is_good_work scope (loops_around s) w) true h refl, refl)

assign-works : (texts : List (List ℕ)) (given : Given) (s last : Scene) (after line label : ℕ) (a : AssignmentForm) → fault_of_form given s after label (assign a) ≡ None → is_statement (assign a) ≡ true → IsSettled s
    → IsLater (behind given s label (assign a)) last → IsGoodWork (scope_at texts last) s (statement_tree (variables_of last) s line (assign a))
assign-works texts given s last after line label a h g w later =
    let t = behind given s label (assign a) in
    let none = faultless given s after label (assign a) h in
    let known = seen texts s t last later refl refl refl w.counted w.values in
    let same : names_of (behind_work s label (assign a)) (assign a) ≡ names_of s (assign a) = ap (λ ns. a.target.name ∷ ns) (names-among s (behind_work s label (assign a)) refl (assignment_expressions a)) in
    let named = work-named s last label (assign a) later same in
    let value = last_fine s (list_of a.target.arguments) a.value (fine none) in
    one-work (scope_at texts last) s (tree.assign (record { target = access (variables_of last) s a.target.name a.target.arguments; value = tree_of (variables_of last) s a.value; guard = None; line = line }))
    (assignment-good known line None a w.loops g (fine_target none a.target refl) value (affine_within given s after label (assign a) h) named refl)

if-works : (texts : List (List ℕ)) (given : Given) (s last : Scene) (after line label : ℕ) (c : ComparisonForm) (a : AssignmentForm) → fault_of_form given s after label (logical_if c a) ≡ None → is_statement (logical_if c a) ≡ true
    → IsSettled s → IsLater (behind given s label (logical_if c a)) last → IsGoodWork (scope_at texts last) s (statement_tree (variables_of last) s line (logical_if c a))
if-works texts given s last after line label c a h g w later =
    let f = logical_if c a in
    let t = behind given s label f in
    let none = faultless given s after label f h in
    let known = seen texts s t last later refl refl refl w.counted w.values in
    let u = behind_work s label f in
    let sides = c.left ∷ c.right ∷ [] in
    let same : names_of u f ≡ names_of s f =
    ap (λ ns. ns ++ a.target.name ∷ names_among u (assignment_expressions a)) (names-among s u refl sides) ∙ ap (λ ns. names_among s sides ++ a.target.name ∷ ns) (names-among s u refl (assignment_expressions a)) in
    let named = named-behind (variables_of last) s (names_among s sides) (a.target.name ∷ names_among s (assignment_expressions a)) (work-named s last label f later same) in
    let value = last_fine s (c.left ∷ c.right ∷ list_of a.target.arguments) a.value (fine none) in
    let stored = list_of a.target.arguments ++ subscripts_in s a.value in
    let left = reach_both s (c.left ∷ []) (c.right ∷ stored) (affine_within given s after label f h) in
    let right = reach_both s (c.right ∷ []) stored left.1 in
    one-work (scope_at texts last) s (tree.assign (record { target = access (variables_of last) s a.target.name a.target.arguments; value = tree_of (variables_of last) s a.value; guard = Some (guard_of s c); line = line }))
    (assignment-good known line (Some (guard_of s c)) a w.loops (and_parts (is_comparison c) (is_assignment a) g).1 (fine_target none a.target refl) value right.1 named (guard-good known c left.0 right.0))

print-works : (texts : List (List ℕ)) (given : Given) (s last : Scene) (after line label : ℕ) (items : List PrintedForm) → fault_of_form given s after label (print items) ≡ None → is_statement (print items) ≡ true → IsSettled s
    → IsLater (behind given s label (print items)) last → IsGoodWork (scope_at texts last) s (statement_tree (variables_of last) s line (print items))
print-works texts given s last after line label items h g w later =
    let f = print items in
    let t = behind given s label f in
    let none = faultless given s after label f h in
    let known = seen texts s t last later refl refl refl w.counted w.values in
    let named = work-named s last label f later (names-among s (behind_work s label f) refl (flat_map item_expressions items)) in
    one-work (scope_at texts last) s (tree.print (record { items = map (item_tree (variables_of last) s) items; line = line }))
    (items-good known items w.limits.arrays g (fine none) (affine_within given s after label f h) named)

-- ---- a statement, with what stands in front of it

behind-grown : (texts : List (List ℕ)) (given : Given) (s last : Scene) (after line label : ℕ) (f : StatementForm) (body : Body) → fault_of_form given s after label f ≡ None → is_statement f ≡ true → IsSettled s
    → IsLater (behind given s label f) last → IsGrown (scope_at texts last) s.loops s.opened body
    → IsGrown (scope_at texts last) (behind given s label f).loops (behind given s label f).opened (body_behind (variables_of last) s line label f body)
behind-grown texts given s last after line label (program n) body h g w later b = b
behind-grown texts given s last after line label (integer ds) body h g w later b = b
behind-grown texts given s last after line label (dimension ds) body h g w later b = b
behind-grown texts given s last after line label (parameter ds) body h g w later b =
    let c = constants_alone given s ds in
    subst (λ n. IsGrown (scope_at texts last) n (with_constants given s ds).opened body) (sym c.loops) (subst (λ o. IsGrown (scope_at texts last) s.loops o body) (sym c.opened) b)
behind-grown texts given s last after line label (do_loop d) body h g w later b =
    let f = do_loop d in
    let none = faultless given s after label f h in
    let passed = passes_no_limit s f none.limited in
    let known = seen texts s (behind given s label f) last later refl refl refl w.counted w.values in
    let few = within_count 6 (length s.opened + 1) (both_empty (limits.counted 6 (length s.opened + 1)) [] passed.nested).0 in
    begun-grown (scope_at texts last) s line d body b few (head-good known line d (affine_within given s after label f h) d.step refl none.stepped passed.steps)
behind-grown texts given s last after line label (assign a) body h g w later b = (let k = assign-works texts given s last after line label a h g w later in work-grown (scope_at texts last) s label body (statement_tree (variables_of last) s line (assign a)) b k.0 k.1)
behind-grown texts given s last after line label (logical_if c a) body h g w later b =
    let k = if-works texts given s last after line label c a h g w later in
    work-grown (scope_at texts last) s label body (statement_tree (variables_of last) s line (logical_if c a)) b k.0 k.1
behind-grown texts given s last after line label (print items) body h g w later b =
    let k = print-works texts given s last after line label items h g w later in
    work-grown (scope_at texts last) s label body (statement_tree (variables_of last) s line (print items)) b k.0 k.1
behind-grown texts given s last after line label continue body h g w later b = work-grown (scope_at texts last) s label body (tree.continue line ∷ []) b refl refl
behind-grown texts given s last after line label stop body h g w later b = work-grown (scope_at texts last) s label body [] b refl refl
behind-grown texts given s last after line label end body h g w later b = work-grown (scope_at texts last) s label body [] b refl refl

-- ---- all of them

settled-with : (given : Given) (s : Scene) (after label : ℕ) (r : Result StatementForm TextFault) → fault_with given s after label r ≡ None → AreValues given.settings → IsSpoken r → IsSettled s → IsSettled (scene_with given s label r)
settled-with given s after label (Ok f) h vs g w = settled-behind given s after label f h vs g w
settled-with given s after label (Err fault) h vs g w = absurd cc

with-grown : (texts : List (List ℕ)) (given : Given) (s last : Scene) (after line label : ℕ) (r : Result StatementForm TextFault) (body : Body) → fault_with given s after label r ≡ None → IsSpoken r → IsSettled s
    → IsLater (scene_with given s label r) last → IsGrown (scope_at texts last) s.loops s.opened body
    → IsGrown (scope_at texts last) (scene_with given s label r).loops (scene_with given s label r).opened (body_with (variables_of last) s line label r body)
with-grown texts given s last after line label (Ok f) body h g w later b = behind-grown texts given s last after line label f body h g w later b
with-grown texts given s last after line label (Err fault) body h g w later b = absurd cc

pub from-grown : (texts : List (List ℕ)) (given : Given) (s last : Scene) (ps : List SourceStatement) (body : Body) → fault_from given s ps ≡ None → last ≡ scene_from given s ps → AreValues given.settings → AreSpoken ps → IsSettled s
    → IsGrown (scope_at texts last) s.loops s.opened body → IsGrown (scope_at texts last) last.loops last.opened (body_from (variables_of last) given s ps body)
from-grown texts given s last [] body h is vs g w b =
    subst (λ (x : Scene). IsGrown (scope_at texts last) x.loops x.opened (body_from (variables_of last) given s [] body)) (sym (is ∙ scene_from-none given s))
    (subst (IsGrown (scope_at texts last) s.loops s.opened) (sym (body_from-none (variables_of last) given s body)) b)
from-grown texts given s last (p ∷ ps) body h is vs g w b =
    let none : fault_with given s (length ps) p.label p.reading ≡ None = first_passes given s p ps h in
    let rest : fault_from given (scene_with given s p.label p.reading) ps ≡ None = sym (passes given s p ps none) ∙ h in
    let next = scene_with given s p.label p.reading in
    let end : last ≡ scene_from given next ps = is ∙ scene_from-more given s p ps in
    let later : IsLater next last = subst (IsLater next) (sym end) (from-later given next ps rest) in
    let grown = with-grown texts given s last (length ps) p.line p.label p.reading body none g.0 w later b in
    subst (IsGrown (scope_at texts last) last.loops last.opened) (sym (body_from-more (variables_of last) given s p ps body))
    (from-grown texts given next last ps (body_with (variables_of last) s p.line p.label p.reading body) rest end vs g.1 (settled-with given s (length ps) p.label p.reading none vs g.0 w) grown)

-- ---- END closes all loops

end-closes : (given : Given) (s : Scene) (front : List SourceStatement) (p : SourceStatement) → p.reading ≡ Ok end → fault_from given s (front ++ p ∷ []) ≡ None → (scene_from given s (front ++ p ∷ [])).opened ≡ []
end-closes given s [] p is h =
    let none : fault_with given s 0 p.label p.reading ≡ None = first_passes given s p [] h in
    let told : fault_of_form given s 0 p.label end ≡ None = sym (ap (fault_with given s 0 p.label) is) ∙ none in
    let bad = (faultless given s 0 p.label end told).labelled in
    let again = nat_lt 0 p.label && list_any (λ l. l == p.label) s.labels in
    let wrong = ends_a_loop p.label s.opened && true in
    let outer = ends_a_loop p.label (left_open p.label s.opened) in
    let closed = (or_parts (again || wrong || outer) (not (is_empty s.opened)) bad).1 in
    ap (λ (x : Scene). x.opened) (scene_from-more given s p [] ∙ scene_from-none given (scene_with given s p.label p.reading)) ∙ ap (λ r. (scene_with given s p.label r).opened) is ∙ ap (left_open p.label) (nothing s.opened (not-false (is_empty s.opened) closed))
  where
    nothing : (opened : List Open) → is_empty opened ≡ true → opened ≡ []
    nothing [] e = refl
    nothing (o ∷ opened) e = absurd cc
end-closes given s (q ∷ front) p is h =
    let none = first_passes given s q (front ++ p ∷ []) h in
    let rest = sym (passes given s q (front ++ p ∷ []) none) ∙ h in
    ap (λ (x : Scene). x.opened) (scene_from-more given s q (front ++ p ∷ [])) ∙ end-closes given (scene_with given s q.label q.reading) front p is rest

-- statements that end with END have a good tree
pub ended-good : (texts : List (List ℕ)) (given : Given) (ps front : List SourceStatement) (p : SourceStatement) → fault_from given first_scene ps ≡ None → AreValues given.settings → AreSpoken ps → ps ≡ front ++ p ∷ [] → p.reading ≡ Ok end
    → are_good_statements (scope_at texts (scene_from given first_scene ps)) [] 1 (in_a_row (body_from (variables_of (scene_from given first_scene ps)) given first_scene ps first_body).items) ≡ true
ended-good texts given ps front p h vs g e is =
    let last = scene_from given first_scene ps in
    let scope = scope_at texts last in
    let body = body_from (variables_of last) given first_scene ps first_body in
    let settled : IsSettled first_scene = record { limits = first_kept; counted = refl; loops = λ n t. absurd cc; values = refl } in
    let first : IsGrown scope 0 [] first_body = record { good = record { begun = tt; items = refl; numbered = omega arith }; matched = tt } in
    let grown = from-grown texts given first_scene last ps first_body h refl vs g settled first in
    let shut : last.opened ≡ [] = ap (λ xs. (scene_from given first_scene xs).opened) e ∙ end-closes given first_scene front p is (sym (ap (fault_from given first_scene) e) ∙ h) in
    outermost scope (last.loops + 1) body.begun body.items grown.good.items (subst (AreMatched body.begun) shut grown.matched)
  where
    outermost : (scope : Scope) (next : ℕ) (begun : List Begun) (items : List Statement) → goods scope begun items ≡ true → AreMatched begun [] → are_good_statements scope [] 1 (in_a_row items) ≡ true
    outermost scope next [] items w m = w
    outermost scope next (b ∷ begun) items w m = absurd m

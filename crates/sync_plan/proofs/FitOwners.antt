-- Under a plan that fits, owners are processors, and processor 0 owns each PRINT.
use Rattle.std.proofs.Common.{◌≡◌, ◌==◌, ◌||◌, ◌&&◌, not, ℕ, zero, suc, ◌+◌, ◌-◌, ◌*◌, ◌<◌, ◌≤◌, ℤ, pos, negsuc, ◌≤ℤ◌, ◌+ℤ◌, ◌*ℤ◌, int_le, int_lt, Bool, true, false, true≢false, List, [], ◌∷◌, ◌++◌, length, map, get_or, Option, Some, None, if◌then◌else◌, refl, ap, sym, subst, ◌∙◌, inl, inr, arith}
use Rattle.std.specs.Prelude.{Contains, slice_get}
use Rattle.std.specs.List.{All, list_all, list_any}
use Rattle.std.proofs.Math.Nat.{div-lt_iff_lt-mul}
use Rattle.std.proofs.lemmas.Bool.{and_parts, cases_Bool, eqb-true, or_parts}
use Rattle.std.proofs.lemmas.Bool.Decides.{Decides-int_eq}
use Rattle.std.proofs.lemmas.Int.{ints}
use Rattle.std.proofs.lemmas.List.{get_or-set_other}
use Rattle.std.proofs.lemmas.List.Elements.{All-append, All-cons, All-contains, All-from_get_or, All-head, All-map, All-nil, All-tail, All-weaker}
use Rattle.nest_tree.specs.Form.{Form, dot, form_value, is_form, numbered}
use Rattle.nest_tree.specs.Intervals.{ends_of, form_interval, head_interval, with_ends}
use Rattle.nest_tree.specs.Layout.{count_of}
use Rattle.std.specs.Ordering.{int_eq}
use Rattle.nest_tree.specs.Limits.{is_empty, no_ends}
use Rattle.nest_tree.specs.Tree.{Printing, assign, print, Head, Statement, Statements, do_loop, work, continue, done, next, Tree, param_values}
use Rattle.nest_tree.specs.WellFormed.{IsWellFormed, Scope, are_good_statements, is_good_statement, is_number_of, loops_in, names_only, scope_of}
use Rattle.nest_tree.proofs.Good.{good_loop}
use Rattle.nest_tree.proofs.FirstLimits.{neither}
use Rattle.nest_model.specs.Instances.{Instance, head_trips, instances_in, instances_of, is_executed, with_loop, works_in}
use Rattle.nest_model.specs.Visits.{Visit, stops_of}
use Rattle.nest_model.proofs.Small.{not_empty}
use Rattle.nest_model.proofs.Stops.{good_trips}
use Rattle.nest_model.proofs.Within.{Between, IsInEnds, form_between, in_ends-step}
use Rattle.nest_walk.specs.Texts.{Placed, placed}
use Rattle.owner_partition.specs.declared.anchor.Anchor.{Anchor}
use Rattle.owner_partition.specs.declared.anchor.Dist.{Dist}
use Rattle.owner_partition.specs.declared.anchor.Dist.TheVariants.{Block, Cyclic}
use Rattle.owner_partition.specs.declared.cut.Mark.{Mark}
use Rattle.owner_partition.specs.declared.placement.Placement.{Placement}
use Rattle.owner_partition.specs.Marks.{enters_outer}
use Rattle.owner_partition.specs.Owners.{anchor_owner, dealt, owner_by, reaches}
use Rattle.owner_partition.specs.Phases.{Execution, executions, executions_from, visit_instances, phases}
use Rattle.owner_partition.specs.Placement.{ends_among, misplaced, misplaced_at, misplaced_within, names_empty, phase_ends, unplaced}
use Rattle.owner_partition.proofs.Sites.{All-flat_map}
use Rattle.sync_plan.specs.declared.plan.Plan.{Plan}
use Rattle.sync_plan.specs.Fit.{IsFit, has_print, have_print, is_dealt, is_zero_form, kind_anchors, misplaced_print, numbered_anchors}
use Rattle.sync_plan.specs.Ordered.{owner_under}
use Rattle.sync_plan.specs.Shape.{are_good_anchors, has_places, is_doall, is_good_anchor, mark_of, own_loops, static_phases}
use Rattle.sync_plan.proofs.Fits.{FitParts, fit_parts}
use Rattle.sync_plan.proofs.PhasePlaces.{AreBelow, IsThereFrom, all_there, all_trips_are, own_ends, visit_there}

-- ---- what stands at a value within the blocks of so many workers is one of theirs

dealt_below : (dist : Dist) (workers : ℕ) (interval : ℤ × ℤ) (w : ℤ) → 1 ≤ workers → reaches dist workers interval ≡ true → Between interval w → count_of (dealt dist workers w) < workers
dealt_below (Block b) workers interval (pos w) some h between =
    let parts = and_parts (int_le (pos 0) interval.0) (int_lt interval.1 (pos (b * workers))) h in
    let less : w < workers * b = below (parts.1) between.high in
    (div-lt_iff_lt-mul (positive b less)).1 less
  where
    below : int_lt interval.1 (pos (b * workers)) ≡ true → pos w ≤ℤ interval.1 → w < workers * b
    below lt le = grind (arith, ints, lt, le)

    positive : (c : ℕ) → w < workers * c → 0 < c
    positive zero lt = absurd (omega (arith, lt))
    positive (suc c) lt = omega arith
dealt_below (Block b) workers interval (negsuc w) some h between =
    let parts = and_parts (int_le (pos 0) interval.0) (int_lt interval.1 (pos (b * workers))) h in
    absurd (never parts.0 between.low)
  where
    never : int_le (pos 0) interval.0 ≡ true → interval.0 ≤ℤ negsuc w → ⊥
    never a b = grind (arith, ints, a, b)
dealt_below Cyclic workers interval (pos w) some h between = omega (arith, some)
dealt_below Cyclic workers interval (negsuc w) some h between = omega (arith, some)

-- ---- no loop that a walk has come to is empty

pub none_empty : (ends : List (ℤ × ℤ)) (loops : List ℤ) (pairs : List (ℕ × ℤ)) → IsInEnds ends loops → names_empty ends pairs ≡ false
none_empty ends loops [] h = refl
none_empty ends loops (p ∷ pairs) h =
    ap (λ b. b || list_any (λ (q : ℕ × ℤ). is_empty (ends_of ends q.0)) pairs) (not_empty (ends_of ends p.0) (numbered loops p.0) (h.inside (p.0 - 1))) ∙ none_empty ends loops pairs h

-- a placed anchor names one of the workers, where the loops lie within their intervals
pub placed_owner : (params : List ℤ) (workers phase : ℕ) (a : Anchor) (ends : List (ℤ × ℤ)) (loops : List ℤ) → 1 ≤ workers → IsInEnds ends loops → misplaced_within params workers phase a ends ≡ None → anchor_owner a workers loops params < workers
placed_owner params workers phase a ends loops some h none =
    let interval = form_interval a.form ends params in
    let reached = passes (names_empty ends a.form.loops) (reaches a.dist workers interval) (record { phase = phase; low = interval.0; high = interval.1 }) none (none_empty ends loops a.form.loops h) in
    dealt_below a.dist workers interval (form_value a.form loops params) some reached (form_between a.form ends loops params h)
  where
    passes : (b c : Bool) (x : Placement) → (if b then None else if c then None else Some x) ≡ None → b ≡ false → c ≡ true
    passes false true x e h = refl
    passes false false x e h = absurd (cc)
    passes true c x e h = absurd (true≢false h)

-- ---- inside a trip the loops round it keep their values

-- two lists of values have the first so many in common
abbrev pub AgreeBelow : ℕ → List ℤ → List ℤ → Type 0
AgreeBelow n xs ys = (k : ℕ) → k < n → get_or xs k (pos 0) ≡ get_or ys k (pos 0)

mutual
  pub agree_in : (params : List ℤ) (scope : Scope) (around : List ℕ) (number : ℕ) (s : Statement) (first : ℕ) (loops : List ℤ) → is_good_statement scope around number s ≡ true → 1 ≤ number →
      All (λ (i : Instance). AgreeBelow (number - 1) i.loops loops) (instances_of params s first loops)
  agree_in params scope around number (do_loop head body) first loops good low =
      let g = good_loop scope around number head body good in
      let P = λ (i : Instance). AgreeBelow (number - 1) i.loops loops in
      All-flat_map P (λ v. instances_in params body first (with_loop loops head.number v)) (head_trips params head loops) (all_trips_are (λ v. All P (instances_in params body first (with_loop loops head.number v))) params loops head (λ n lt.
      let v = form_value head.m1 loops params +ℤ (pos n *ℤ head.step) in
      All-weaker (λ (i : Instance). AgreeBelow (number + 1 - 1) i.loops (with_loop loops head.number v)) P
      (λ i agree k lt'. agree k (omega (arith, lt', low)) ∙ get_or-set_other loops (head.number - 1) k v (pos 0) (λ e. absurd (omega (arith, e, lt', g.number)))) (instances_in params body first (with_loop loops head.number v))
      (agree_among params scope (head.number ∷ around) (number + 1) body first (with_loop loops head.number v) g.inside (omega arith))))
  agree_in params scope around number (work w) first loops good low =
      let P = λ (i : Instance). AgreeBelow (number - 1) i.loops loops in
      let here : Instance = record { statement = first; what = w; loops = loops } in
      elim (is_executed w loops params) as (λ b. All P (if b then here ∷ [] else [])) [ true ↦ All-cons P here [] (λ k lt. refl) (All-nil P) | false ↦ All-nil P ]
  agree_in params scope around number (continue line) first loops good low = All-nil (λ (i : Instance). AgreeBelow (number - 1) i.loops loops)

  pub agree_among : (params : List ℤ) (scope : Scope) (around : List ℕ) (number : ℕ) (ss : Statements) (first : ℕ) (loops : List ℤ) → are_good_statements scope around number ss ≡ true → 1 ≤ number →
      All (λ (i : Instance). AgreeBelow (number - 1) i.loops loops) (instances_in params ss first loops)
  agree_among params scope around number done first loops good low = All-nil (λ (i : Instance). AgreeBelow (number - 1) i.loops loops)
  agree_among params scope around number (next s rest) first loops good low =
      let both = and_parts (is_good_statement scope around number s) (are_good_statements scope around (number + loops_in s) rest) good in
      let P = λ (i : Instance). AgreeBelow (number - 1) i.loops loops in
      All-append P (instances_of params s first loops) (instances_in params rest (first + works_in s) loops) (agree_in params scope around number s first loops both.0 low)
      (All-weaker (λ (i : Instance). AgreeBelow (number + loops_in s - 1) i.loops loops) P (λ i agree k lt. agree k (omega (arith, lt))) (instances_in params rest (first + works_in s) loops) (agree_among params scope around (number + loops_in s) rest (first + works_in s) loops both.1 (omega (arith, low))))

-- a form that names lower loops alone has the same value
dot_agrees : (pairs : List (ℕ × ℤ)) (n : ℕ) (xs ys : List ℤ) → 1 ≤ n → All (λ (p : ℕ × ℤ). p.0 ≤ n) pairs → AgreeBelow n xs ys → dot pairs xs ≡ dot pairs ys
dot_agrees [] n xs ys some low agree = refl
dot_agrees (p ∷ pairs) n xs ys some low agree =
    let here = agree (p.0 - 1) (omega (arith, All-head (λ (q : ℕ × ℤ). q.0 ≤ n) p pairs low, some)) in
    ap (λ z. p.1 *ℤ z +ℤ dot pairs xs) here ∙ ap (λ z. p.1 *ℤ numbered ys p.0 +ℤ z) (dot_agrees pairs n xs ys some (All-tail (λ (q : ℕ × ℤ). q.0 ≤ n) p pairs low) agree)

pub named_low : (n : ℕ) (around : List ℕ) (l : ℕ) → All (λ k. k ≤ n) around → list_any (λ k. k == l) around ≡ true → l ≤ n
named_low n [] l low h = absurd (true≢false (sym h))
named_low n (k ∷ around) l low h = elim (cases_Bool (k == l)) [
  | inl same ↦ omega (arith, eqb-true k l same, All-head (λ k. k ≤ n) k around low)
  | inr other ↦ named_low n around l (All-tail (λ k. k ≤ n) k around low) (sym (ap (λ b. b || list_any (λ k. k == l) around) other) ∙ h)
]

pairs_low : (n : ℕ) (around : List ℕ) (pairs : List (ℕ × ℤ)) → All (λ k. k ≤ n) around → list_all (λ (p : ℕ × ℤ). list_any (λ l. l == p.0) around) pairs ≡ true → All (λ (p : ℕ × ℤ). p.0 ≤ n) pairs
pairs_low n around [] low h = All-nil (λ (p : ℕ × ℤ). p.0 ≤ n)
pairs_low n around (p ∷ pairs) low h =
    let parts = and_parts (list_any (λ l. l == p.0) around) (list_all (λ (q : ℕ × ℤ). list_any (λ l. l == q.0) around) pairs) h in
    All-cons (λ (q : ℕ × ℤ). q.0 ≤ n) p pairs (named_low n around p.0 low parts.0) (pairs_low n around pairs low parts.1)

pub form_agrees : (constants n : ℕ) (around : List ℕ) (f : Form) (params xs ys : List ℤ) → 1 ≤ n → All (λ k. k ≤ n) around → names_only constants around f ≡ true → AgreeBelow n xs ys → form_value f xs params ≡ form_value f ys params
form_agrees constants n around f params xs ys some low named agree =
    let all = list_all (λ (p : ℕ × ℤ). list_any (λ l. l == p.0) around) f.loops in
    let last = and_parts (is_form f && all) (list_all (λ (p : ℕ × ℤ). is_number_of constants p.0) f.params) named in
    let loops = (and_parts (is_form f) all last.0).1 in
    ap (λ z. f.constant +ℤ z +ℤ dot f.params params) (dot_agrees f.loops n xs ys some (pairs_low n around f.loops low loops) agree)

-- ---- the anchors of a plan

-- each of a list of anchors is placed
pub placed_each : (tree : Tree) (marks : List Mark) (workers n : ℕ) (anchors : List Anchor) (rest : List (ℕ × Anchor)) (k : ℕ) (a : Anchor) → unplaced tree marks workers (numbered_anchors n anchors ++ rest) ≡ None → slice_get anchors k ≡ Some a →
    misplaced tree marks workers (n + k) a ≡ None
placed_each tree marks workers n [] rest k a none at = let clash : None ≡ Some a = at in absurd (cc)
placed_each tree marks workers n (b ∷ anchors) rest zero a none at =
    let same : Some b ≡ Some a = at in
    let equal : b ≡ a = cc in
    let here : n ≡ n + 0 = omega arith in
    subst (λ j. misplaced tree marks workers j a ≡ None) here (subst (λ x. misplaced tree marks workers n x ≡ None) equal (neither (misplaced tree marks workers n b) (unplaced tree marks workers (numbered_anchors (suc n) anchors ++ rest)) none).0)
placed_each tree marks workers n (b ∷ anchors) rest (suc k) a none at =
    let next_is : suc n + k ≡ n + suc k = omega arith in
    subst (λ j. misplaced tree marks workers j a ≡ None) next_is (placed_each tree marks workers (suc n) anchors rest k a (neither (misplaced tree marks workers n b) (unplaced tree marks workers (numbered_anchors (suc n) anchors ++ rest)) none).1 at)

-- each of a text's static phases has a good anchor
pub good_each : (constants : ℕ) (marks : List Mark) (text : List Placed) (anchors : List Anchor) (k : ℕ) (s : Placed) (a : Anchor) → are_good_anchors constants marks text anchors ≡ true → slice_get text k ≡ Some s → slice_get anchors k ≡ Some a →
    is_good_anchor constants (own_loops marks s.what s.around) a ≡ true
good_each constants marks [] anchors k s a good at at' = let clash : None ≡ Some s = at in absurd (cc)
good_each constants marks (t ∷ text) [] k s a good at at' = let clash : None ≡ Some a = at' in absurd (cc)
good_each constants marks (t ∷ text) (b ∷ anchors) zero s a good at at' =
    let same : Some t ≡ Some s = at in
    let same' : Some b ≡ Some a = at' in
    let equal : t ≡ s = cc in
    let equal' : b ≡ a = cc in
    let here = (and_parts (is_good_anchor constants (own_loops marks t.what t.around) b) (are_good_anchors constants marks text anchors) good).0 in
    subst (λ x. is_good_anchor constants (own_loops marks s.what s.around) x ≡ true) equal' (subst (λ (x : Placed). is_good_anchor constants (own_loops marks x.what x.around) b ≡ true) equal here)
good_each constants marks (t ∷ text) (b ∷ anchors) (suc k) s a good at at' =
    good_each constants marks text anchors k s a (and_parts (is_good_anchor constants (own_loops marks t.what t.around) b) (are_good_anchors constants marks text anchors) good).1 at at'

-- ---- the instances of a visit

-- what holds of each execution of phases holds of each instance of each
executions_all : (P : Execution → Type 0) (params : List ℤ) (e : ℕ) (vs : List Visit) → All (λ v. (n : ℕ) → All (λ i. P (record { phase = n; place = v.place; instance = i })) (visit_instances params v)) vs → All P (executions_from params e vs)
executions_all P params e [] all = All-nil P
executions_all P params e (v ∷ vs) all =
    let Q = λ (v : Visit). (n : ℕ) → All (λ i. P (record { phase = n; place = v.place; instance = i })) (visit_instances params v) in
    All-append P (map (λ i. record { phase = e; place = v.place; instance = i }) (visit_instances params v)) (executions_from params (suc e) vs)
    (All-map P (λ i. record { phase = e; place = v.place; instance = i }) (visit_instances params v) (All-head Q v vs all e)) (executions_all P params (suc e) vs (All-tail Q v vs all))

-- the loops that an anchor may name have numbers up to the loop's own
own_low : (marks : List Mark) (number : ℕ) (around : List ℕ) (s : Statement) → AreBelow number around → ((head : Head) (body : Statements) → s ≡ do_loop head body → head.number ≡ number) → All (λ k. k ≤ number) (own_loops marks s around)
own_low marks number around (do_loop head body) below at =
    let lower = All-weaker (λ k. k < number) (λ k. k ≤ number) (λ k lt. omega (arith, lt)) around below in
    elim (is_doall (mark_of marks head.number)) as (λ b. All (λ k. k ≤ number) (if b then head.number ∷ around else around)) [
      | true ↦ All-cons (λ k. k ≤ number) head.number around (omega (arith, at head body refl)) lower
      | false ↦ lower
    ]
own_low marks number around (work w) below at = All-weaker (λ k. k < number) (λ k. k ≤ number) (λ k lt. omega (arith, lt)) around below
own_low marks number around (continue line) below at = All-weaker (λ k. k < number) (λ k. k ≤ number) (λ k lt. omega (arith, lt)) around below

-- the anchor of a phase names a worker for each trip of its loop
trips_owned : (params : List ℤ) (scope : Scope) (workers phase number : ℕ) (head : Head) (body : Statements) (loops : List ℤ) (around : List ℕ) (ends : List (ℤ × ℤ)) (a : Anchor) → 1 ≤ workers → IsInEnds ends loops → is_good_statement scope around number (do_loop head body) ≡ true →
    1 ≤ number → number + loops_in (do_loop head body) ≤ suc (length loops) → misplaced_within params workers phase a (own_ends params ends (do_loop head body)) ≡ None → All (λ v. anchor_owner a workers (with_loop loops head.number v) params < workers) (head_trips params head loops)
trips_owned params scope workers phase number head body loops around ends a some h good low count placed_is =
    let t = good_trips params ends loops scope around number head body h (good_loop scope around number head body good) low count in
    let interval = head_interval params ends head in
    all_trips_are (λ v. anchor_owner a workers (with_loop loops head.number v) params < workers) params loops head (λ n lt.
    let v = form_value head.m1 loops params +ℤ (pos n *ℤ head.step) in
    placed_owner params workers phase a (with_ends ends head.number interval) (with_loop loops head.number v) some (in_ends-step ends loops head.number interval v h t.number (t.between n lt)) placed_is)

-- and for each of its instances
owned_in : (params : List ℤ) (constants : ℕ) (scope : Scope) (marks : List Mark) (workers phase first number : ℕ) (s : Statement) (loops : List ℤ) (around : List ℕ) (ends : List (ℤ × ℤ)) (a : Anchor) → 1 ≤ workers → IsInEnds ends loops →
    is_good_statement scope around number s ≡ true → AreBelow number around → 1 ≤ number → number + loops_in s ≤ suc (length loops) → misplaced_within params workers phase a (own_ends params ends s) ≡ None → is_good_anchor constants (own_loops marks s around) a ≡ true →
    All (λ (i : Instance). anchor_owner a workers i.loops params < workers) (instances_of params s first loops)
owned_in params constants scope marks workers phase first number (do_loop head body) loops around ends a some h good below low count placed_is named =
    let g = good_loop scope around number head body good in
    let P = λ (i : Instance). anchor_owner a workers i.loops params < workers in
    let inside = λ (v : ℤ). instances_in params body first (with_loop loops head.number v) in
    let names = (and_parts (names_only constants (own_loops marks (do_loop head body) around) a.form) (has_places a.dist) named).0 in
    let lower = own_low marks number around (do_loop head body) below (λ head' body' same. head_is head' body' same g.number) in
    All-flat_map P inside (head_trips params head loops) (All-weaker (λ v. anchor_owner a workers (with_loop loops head.number v) params < workers) (λ v. All P (inside v)) (λ v owner.
    let next_loops = with_loop loops head.number v in
    All-weaker (λ (i : Instance). AgreeBelow (number + 1 - 1) i.loops next_loops) P
    (λ i agree. subst (λ z. count_of (dealt a.dist workers z) < workers) (sym (form_agrees constants number (own_loops marks (do_loop head body) around) a.form params i.loops next_loops low lower names (λ k lt'. agree k (omega (arith, lt'))))) owner)
    (inside v) (agree_among params scope (head.number ∷ around) (number + 1) body first next_loops g.inside (omega arith))) (head_trips params head loops)
    (trips_owned params scope workers phase number head body loops around ends a some h good low count placed_is))
  where
    head_is : (head' : Head) (body' : Statements) → do_loop head body ≡ do_loop head' body' → head.number ≡ number → head'.number ≡ number
    head_is head' body' same is = let equal : head ≡ head' = cc in ap (λ (x : Head). x.number) (sym equal) ∙ is
owned_in params constants scope marks workers phase first number (work w) loops around ends a some h good below low count placed_is named =
    let P = λ (i : Instance). anchor_owner a workers i.loops params < workers in
    let here : Instance = record { statement = first; what = w; loops = loops } in
    elim (is_executed w loops params) as (λ b. All P (if b then here ∷ [] else [])) [ true ↦ All-cons P here [] (placed_owner params workers phase a ends loops some h placed_is) (All-nil P) | false ↦ All-nil P ]
owned_in params constants scope marks workers phase first number (continue line) loops around ends a some h good below low count placed_is named = All-nil (λ (i : Instance). anchor_owner a workers i.loops params < workers)

-- the anchor of a phase is placed within the intervals of the loops there
abbrev IsThereIn : Tree → Plan → Visit → Type 0
IsThereIn tree plan v = IsThereFrom (param_values tree) (scope_of tree) 1 (stops_of (enters_outer plan.cut.marks) tree.items) (placed tree (enters_outer plan.cut.marks)) (ends_among (param_values tree) (enters_outer plan.cut.marks) no_ends tree.items) v

placed_at : (tree : Tree) (plan : Plan) → FitParts tree plan → (v : Visit) (f : IsThereIn tree plan v) (a : Anchor) → slice_get plan.anchors (v.place - 1) ≡ Some a → misplaced_within (param_values tree) plan.workers (1 + f.k) a (own_ends (param_values tree) f.there.ends v.what) ≡ None
placed_at tree plan parts v f a at =
    let index : v.place - 1 ≡ f.k = omega (arith, f.place_is) in
    let anchor_at : slice_get plan.anchors f.k ≡ Some a = ap (slice_get plan.anchors) (sym index) ∙ at in
    let back : 1 + f.k - 1 ≡ f.k = omega arith in
    ap (misplaced_at (param_values tree) plan.workers (1 + f.k) a) (sym (ap (phase_ends tree plan.cut.marks) back ∙ f.there.ends_are)) ∙ placed_each tree plan.cut.marks plan.workers 1 plan.anchors (kind_anchors 1 plan.kinds) f.k a parts.placed anchor_at

pub owners_below : (tree : Tree) (plan : Plan) → IsWellFormed tree → IsFit tree plan → All (λ x. owner_under tree plan x < plan.workers) (executions tree plan.cut.marks)
owners_below tree plan formed fits =
    let params = param_values tree in
    let parts = fit_parts tree plan fits in
    executions_all (λ x. owner_under tree plan x < plan.workers) params 1 (phases tree plan.cut.marks)
    (All-weaker (IsThereFrom params (scope_of tree) 1 (stops_of (enters_outer plan.cut.marks) tree.items) (placed tree (enters_outer plan.cut.marks)) (ends_among params (enters_outer plan.cut.marks) no_ends tree.items))
    (λ (v : Visit). (n : ℕ) → All (λ i. owner_under tree plan (record { phase = n; place = v.place; instance = i }) < plan.workers) (visit_instances params v))
    (λ v f n. by_anchor parts v f (slice_get plan.anchors (v.place - 1)) refl) (phases tree plan.cut.marks) (all_there tree (enters_outer plan.cut.marks) formed))
  where
    by_anchor : FitParts tree plan → (v : Visit) → IsThereFrom (param_values tree) (scope_of tree) 1 (stops_of (enters_outer plan.cut.marks) tree.items) (placed tree (enters_outer plan.cut.marks)) (ends_among (param_values tree) (enters_outer plan.cut.marks) no_ends tree.items) v →
        (o : Option Anchor) → slice_get plan.anchors (v.place - 1) ≡ o → All (λ i. owner_by o plan.workers i.loops (param_values tree) < plan.workers) (visit_instances (param_values tree) v)
    by_anchor parts v f None at = All-from_get_or (λ (i : Instance). 0 < plan.workers) (visit_instances (param_values tree) v) (record { statement = 0; what = print (record { items = []; line = 0 }); loops = [] }) (λ i lt. omega (arith, parts.some))
    by_anchor parts v f (Some a) at =
        let t = f.there in
        let index : v.place - 1 ≡ f.k = omega (arith, f.place_is) in
        let anchor_at : slice_get plan.anchors f.k ≡ Some a = ap (slice_get plan.anchors) (sym index) ∙ at in
        let within = placed_at tree plan parts v f a at in
        owned_in (param_values tree) (length tree.params) (scope_of tree) plan.cut.marks plan.workers (1 + f.k) v.first t.number v.what v.loops t.around t.ends a parts.some t.inside t.good t.below t.low t.count within
        (good_each (length tree.params) plan.cut.marks (static_phases tree plan.cut.marks) plan.anchors f.k (record { what = v.what; around = t.around }) a parts.good_anchors t.at anchor_at)

-- each trip of a phase's loop has one of the processors as its owner, though nothing be executed in it
pub trip_owner : (tree : Tree) (plan : Plan) (k : ℕ) (v : Visit) (head : Head) (body : Statements) (x : ℤ) → IsWellFormed tree → IsFit tree plan → slice_get (phases tree plan.cut.marks) k ≡ Some v → v.what ≡ do_loop head body → Contains (head_trips (param_values tree) head v.loops) x →
    owner_by (slice_get plan.anchors (v.place - 1)) plan.workers (with_loop v.loops head.number x) (param_values tree) < plan.workers
trip_owner tree plan k v head body x formed fits at what among = by (slice_get plan.anchors (v.place - 1)) refl
  where
    parts : FitParts tree plan
    parts = fit_parts tree plan fits

    f : IsThereIn tree plan v
    f = visit_there tree plan.cut.marks k v formed at

    by : (o : Option Anchor) → slice_get plan.anchors (v.place - 1) ≡ o → owner_by o plan.workers (with_loop v.loops head.number x) (param_values tree) < plan.workers
    by None at = omega (arith, parts.some)
    by (Some a) at =
        let t = f.there in
        let good : is_good_statement (scope_of tree) t.around t.number (do_loop head body) ≡ true = ap (is_good_statement (scope_of tree) t.around t.number) (sym what) ∙ t.good in
        let count : t.number + loops_in (do_loop head body) ≤ suc (length v.loops) = subst (λ s. t.number + loops_in s ≤ suc (length v.loops)) what t.count in
        let within = ap (λ s. misplaced_within (param_values tree) plan.workers (1 + f.k) a (own_ends (param_values tree) t.ends s)) (sym what) ∙ placed_at tree plan parts v f a at in
        All-contains (λ z. anchor_owner a plan.workers (with_loop v.loops head.number z) (param_values tree) < plan.workers) (head_trips (param_values tree) head v.loops) x
        (trips_owned (param_values tree) (scope_of tree) plan.workers (1 + f.k) t.number head body v.loops t.around t.ends a parts.some t.inside good t.low count within) among

-- ---- PRINTs

mutual
  prints_in : (params : List ℤ) (s : Statement) (first : ℕ) (loops : List ℤ) → has_print s ≡ false → All (λ (i : Instance). (p : Printing) → i.what ≡ print p → ⊥) (instances_of params s first loops)
  prints_in params (do_loop head body) first loops none =
      let P = λ (i : Instance). (p : Printing) → i.what ≡ print p → ⊥ in
      All-flat_map P (λ v. instances_in params body first (with_loop loops head.number v)) (head_trips params head loops) (all_trips_are (λ v. All P (instances_in params body first (with_loop loops head.number v))) params loops head (λ n lt. prints_among params body first (with_loop loops head.number (form_value head.m1 loops params +ℤ (pos n *ℤ head.step))) none))
  prints_in params (work (assign a)) first loops none =
      let P = λ (i : Instance). (p : Printing) → i.what ≡ print p → ⊥ in
      let here : Instance = record { statement = first; what = assign a; loops = loops } in
      elim (is_executed (assign a) loops params) as (λ b. All P (if b then here ∷ [] else [])) [ true ↦ All-cons P here [] (λ p e. cc) (All-nil P) | false ↦ All-nil P ]
  prints_in params (work (print p)) first loops none = absurd (true≢false none)
  prints_in params (continue line) first loops none = All-nil (λ (i : Instance). (p : Printing) → i.what ≡ print p → ⊥)

  prints_among : (params : List ℤ) (ss : Statements) (first : ℕ) (loops : List ℤ) → have_print ss ≡ false → All (λ (i : Instance). (p : Printing) → i.what ≡ print p → ⊥) (instances_in params ss first loops)
  prints_among params done first loops none = All-nil (λ (i : Instance). (p : Printing) → i.what ≡ print p → ⊥)
  prints_among params (next s rest) first loops none =
      let P = λ (i : Instance). (p : Printing) → i.what ≡ print p → ⊥ in
      let parts = or_parts (has_print s) (have_print rest) none in
      All-append P (instances_of params s first loops) (instances_in params rest (first + works_in s) loops) (prints_in params s first loops parts.0) (prints_among params rest (first + works_in s) loops parts.1)

-- the anchor of a phase with a PRINT is the constant 0
print_anchor : (n : ℕ) (marks : List Mark) (text : List Placed) (anchors : List Anchor) (k : ℕ) (s : Placed) (a : Anchor) → misplaced_print n marks text anchors ≡ None → slice_get text k ≡ Some s → slice_get anchors k ≡ Some a → has_print s.what ≡ true → is_zero_form a.form ≡ true
print_anchor n marks [] anchors k s a none at at' prints = let clash : None ≡ Some s = at in absurd (cc)
print_anchor n marks (t ∷ text) [] k s a none at at' prints = let clash : None ≡ Some a = at' in absurd (cc)
print_anchor n marks (t ∷ text) (b ∷ anchors) zero s a none at at' prints =
    let same : Some t ≡ Some s = at in
    let same' : Some b ≡ Some a = at' in
    let equal : t ≡ s = cc in
    let equal' : b ≡ a = cc in
    passes (has_print t.what) (is_dealt marks t.what) (is_zero_form b.form) (misplaced_print (suc n) marks text anchors) none (ap (λ (x : Placed). has_print x.what) equal ∙ prints) (ap (λ (x : Anchor). is_zero_form x.form) (sym equal'))
  where
    passes : (p d z : Bool) (rest : Option ℕ) → (if p && (d || not z) then Some n else rest) ≡ None → p ≡ true → is_zero_form a.form ≡ z → is_zero_form a.form ≡ true
    passes true d true rest e h is = is
    passes true true false rest e h is = absurd (cc)
    passes true false false rest e h is = absurd (cc)
    passes false d z rest e h is = absurd (true≢false (sym h))
print_anchor n marks (t ∷ text) (b ∷ anchors) (suc k) s a none at at' prints = print_anchor (suc n) marks text anchors k s a (later (has_print t.what && (is_dealt marks t.what || not (is_zero_form b.form))) none) at at' prints
  where
    later : (c : Bool) → (if c then Some n else misplaced_print (suc n) marks text anchors) ≡ None → misplaced_print (suc n) marks text anchors ≡ None
    later true e = absurd (cc)
    later false e = e

-- the form 0 is 0, and processor 0 has what stands there
zero_owner : (a : Anchor) (workers : ℕ) (loops params : List ℤ) → is_zero_form a.form ≡ true → anchor_owner a workers loops params ≡ 0
zero_owner a workers loops params h =
    let last = and_parts (int_eq a.form.constant (pos 0) && length a.form.loops == 0) (length a.form.params == 0) h in
    let first = and_parts (int_eq a.form.constant (pos 0)) (length a.form.loops == 0) last.0 in
    let constant : a.form.constant ≡ pos 0 = is_zero a.form.constant first.0 in
    let loops_none = empty a.form.loops (eqb-true (length a.form.loops) 0 first.1) in
    let params_none = empty a.form.params (eqb-true (length a.form.params) 0 last.1) in
    let value : form_value a.form loops params ≡ pos 0 = ap (λ z. z +ℤ dot a.form.loops loops +ℤ dot a.form.params params) constant ∙ ap (λ ps. pos 0 +ℤ dot ps loops +ℤ dot a.form.params params) loops_none ∙ ap (λ ps. pos 0 +ℤ dot [] loops +ℤ dot ps params) params_none in
    ap (λ z. count_of (dealt a.dist workers z)) value ∙ at_zero a.dist
  where
    is_zero : (z : ℤ) → int_eq z (pos 0) ≡ true → z ≡ pos 0
    is_zero z h = (Decides-int_eq z (pos 0)).0 h

    empty : (pairs : List (ℕ × ℤ)) → length pairs ≡ 0 → pairs ≡ []
    empty [] h = refl
    empty (p ∷ pairs) h = absurd (omega (arith, h))

    at_zero : (dist : Dist) → count_of (dealt dist workers (pos 0)) ≡ 0
    at_zero (Block b) = omega arith
    at_zero Cyclic = omega arith

-- a PRINT's owner is processor 0
abbrev PrintsAtZero : Tree → Plan → Option Anchor → Instance → Type 0
PrintsAtZero tree plan o i = (p : Printing) → i.what ≡ print p → owner_by o plan.workers i.loops (param_values tree) ≡ 0

pub printers : (tree : Tree) (plan : Plan) → IsWellFormed tree → IsFit tree plan → All (λ (x : Execution). (p : Printing) → x.instance.what ≡ print p → owner_under tree plan x ≡ 0) (executions tree plan.cut.marks)
printers tree plan formed fits =
    let params = param_values tree in
    let parts = fit_parts tree plan fits in
    executions_all (λ (x : Execution). (p : Printing) → x.instance.what ≡ print p → owner_under tree plan x ≡ 0) params 1 (phases tree plan.cut.marks)
    (All-weaker (IsThereFrom params (scope_of tree) 1 (stops_of (enters_outer plan.cut.marks) tree.items) (placed tree (enters_outer plan.cut.marks)) (ends_among params (enters_outer plan.cut.marks) no_ends tree.items))
    (λ (v : Visit). (n : ℕ) → All (λ (i : Instance). (p : Printing) → i.what ≡ print p → owner_under tree plan (record { phase = n; place = v.place; instance = i }) ≡ 0) (visit_instances params v))
    (λ v f n. by_print parts v f (slice_get plan.anchors (v.place - 1)) refl) (phases tree plan.cut.marks) (all_there tree (enters_outer plan.cut.marks) formed))
  where
    by_print : FitParts tree plan → (v : Visit) → IsThereFrom (param_values tree) (scope_of tree) 1 (stops_of (enters_outer plan.cut.marks) tree.items) (placed tree (enters_outer plan.cut.marks)) (ends_among (param_values tree) (enters_outer plan.cut.marks) no_ends tree.items) v →
        (o : Option Anchor) → slice_get plan.anchors (v.place - 1) ≡ o → All (PrintsAtZero tree plan o) (visit_instances (param_values tree) v)
    by_print parts v f None at = All-from_get_or (PrintsAtZero tree plan None) (visit_instances (param_values tree) v) (record { statement = 0; what = print (record { items = []; line = 0 }); loops = [] }) (λ i lt p e. refl)
    by_print parts v f (Some a) at =
        let t = f.there in
        let index : v.place - 1 ≡ f.k = omega (arith, f.place_is) in
        let anchor_at : slice_get plan.anchors f.k ≡ Some a = ap (slice_get plan.anchors) (sym index) ∙ at in
        elim (cases_Bool (has_print v.what)) [
          | inl prints ↦
              let zero_form = print_anchor 1 plan.cut.marks (static_phases tree plan.cut.marks) plan.anchors f.k (record { what = v.what; around = t.around }) a parts.prints t.at anchor_at prints in
              All-from_get_or (PrintsAtZero tree plan (Some a)) (visit_instances (param_values tree) v) (record { statement = 0; what = print (record { items = []; line = 0 }); loops = [] }) (λ i lt p e. zero_owner a plan.workers _ (param_values tree) zero_form)
          | inr silent ↦ All-weaker (λ (i : Instance). (p : Printing) → i.what ≡ print p → ⊥) (PrintsAtZero tree plan (Some a)) (λ i never p e. absurd (never p e)) (visit_instances (param_values tree) v) (prints_in (param_values tree) v.what v.first v.loops silent)
        ]

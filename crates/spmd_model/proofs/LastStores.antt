-- A private scalar's first store in each trip of its loop, and that of the last trip.
use Rattle.std.proofs.Common.{◌≡◌, ℕ, ◌+◌, ◌-◌, ◌<◌, ◌≤◌, ℤ, pos, ◌+ℤ◌, ◌*ℤ◌, Bool, true, false, true≢false, ◌&&◌, ◌==◌, nat_lt, unsigned_abs, List, [], ◌∷◌, ◌++◌, length, take, Option, Some, None, if◌then◌else◌, refl, ap, sym, subst, ◌∙◌, inl, inr, arith, length-append, int_eq, not}
use Rattle.std.specs.Prelude.{Contains, is_none, slice_get, sum_by}
use Rattle.std.specs.List.{All, flat_map, list_all, list_any}
use Rattle.std.specs.Option.{option_map_or}
use Rattle.std.proofs.lemmas.Bool.{and_from, and_parts, cases_Bool, eq-eqb, ltb-true}
use Rattle.std.proofs.lemmas.Bool.Decides.{Decides-int_eq}
use Rattle.std.proofs.lemmas.Grind.{flat_map-append}
use Rattle.std.proofs.lemmas.List.{append_assoc, get_or-set_other, get_or-set_same, take-append-le}
use Rattle.std.proofs.lemmas.List.Elements.{All-append, All-cons, All-nil, All-weaker, Contains-append_right}
use Rattle.std.proofs.lemmas.List.Sums.{sum_by-append}
use Rattle.list_lemmas.proofs.Appending.{take-behind}
use Rattle.list_lemmas.proofs.Gets.{get-behind}
use Rattle.nest_tree.specs.declared.tree.Guard.{Guard}
use Rattle.nest_tree.specs.Form.{Form, dot, form_value, is_form, is_small, numbered, rises_above}
use Rattle.nest_tree.specs.Tree.{Work, assign, print, Head, Statement, Statements, do_loop, work, continue, done, next, Tree, param_values}
use Rattle.nest_tree.specs.WellFormed.{IsWellFormed, Scope, is_good_head, is_good_statement, is_number_of, names_only, scope_of, loops_in}
use Rattle.nest_tree.proofs.Good.{good_loop}
use Rattle.nest_model.specs.Instances.{Instance, head_trips, holds, instances_in, instances_of, is_executed, trips, with_loop, works_in, no_values}
use Rattle.nest_model.specs.Visits.{Visit, stops_in, visits_in, visits_of}
use Rattle.nest_walk.specs.Texts.{Placed, placed, placed_in, placed_of}
use Rattle.own_scalars.specs.OwnScalars.{has_access, is_of, is_plain_store, is_private, is_stored_first, loads, some_in, some_of}
use Rattle.own_scalars.proofs.Stored.{neither}
use Rattle.owner_partition.specs.Marks.{enters_outer}
use Rattle.owner_partition.specs.Phases.{visit_instances, phases}
use Rattle.owner_partition.proofs.Sites.{All-flat_map, all_at}
use Rattle.sync_plan.specs.declared.plan.Plan.{Plan}
use Rattle.sync_plan.specs.Conflicts.{first_work, is_last_store, is_last_trip, is_value, last_value, works_before, works_before_in}
use Rattle.sync_plan.specs.Own.{own_loop, own_loop_of, OwnLoop}
use Rattle.sync_plan.specs.Shape.{static_phases}
use Rattle.sync_plan.specs.Stored.{path_runs, path_runs_in}
use Rattle.sync_plan.proofs.FitOwners.{AgreeBelow, agree_among, form_agrees, named_low}
use Rattle.sync_plan.proofs.PhasePlaces.{placed_count, visit_there, placed_works}
use Rattle.spmd_model.proofs.CellsThere.{every}

-- ---- the last of some values

pub last_split : (vs : List ℤ) (x : ℤ) → last_value vs ≡ Some x → (front : List ℤ) × (vs ≡ front ++ x ∷ [])
last_split [] x e = let clash : None ≡ Some x = e in absurd (cc)
last_split (v ∷ []) x e = let same : Some v ≡ Some x = e in let is : v ≡ x = cc in ([], ap (λ y. y ∷ []) is)
last_split (v ∷ w ∷ ws) x e = let rest = last_split (w ∷ ws) x e in (v ∷ rest.0, ap (λ l. v ∷ l) rest.1)

pub last_among : (vs : List ℤ) (x : ℤ) → last_value vs ≡ Some x → Contains vs x
last_among vs x e =
    let s = last_split vs x e in
    subst (λ l. Contains l x) (sym s.1) (Contains-append_right s.0 (x ∷ []) x (0, omega arith, refl))

pub last_there : (front : List ℤ) (x : ℤ) → last_value (front ++ x ∷ []) ≡ Some x
last_there [] x = refl
last_there (v ∷ []) x = refl
last_there (v ∷ w ∷ ws) x = last_there (w ∷ ws) x

-- ---- a loop's trips don't depend on its own value

dot_set : (pairs : List (ℕ × ℤ)) (least n : ℕ) (loops : List ℤ) (v : ℤ) (around : List ℕ) → rises_above least pairs ≡ true → list_all (λ (p : ℕ × ℤ). list_any (λ l. l == p.0) around) pairs ≡ true → All (λ k. k ≤ n - 1) around → 1 ≤ n →
    dot pairs (with_loop loops n v) ≡ dot pairs loops
dot_set [] least n loops v around rises named below some = refl
dot_set ((m, c) ∷ pairs) least n loops v around rises named below some =
    let r = and_parts (nat_lt least m && nat_lt 0 (unsigned_abs c) && is_small c) (rises_above m pairs) rises in
    let q = and_parts (nat_lt least m && nat_lt 0 (unsigned_abs c)) (is_small c) r.0 in
    let low = ltb-true least m (and_parts (nat_lt least m) (nat_lt 0 (unsigned_abs c)) q.0).0 in
    let parts = and_parts (list_any (λ l. l == m) around) (list_all (λ (p : ℕ × ℤ). list_any (λ l. l == p.0) around) pairs) named in
    let high = named_low (n - 1) around m below parts.0 in
    let here = get_or-set_other loops (n - 1) (m - 1) v (pos 0) (λ e. absurd (omega (arith, e, low, high, some))) in
    ap (λ z. c *ℤ z +ℤ dot pairs (with_loop loops n v)) here ∙ ap (λ z. c *ℤ numbered loops m +ℤ z) (dot_set pairs m n loops v around r.1 parts.1 below some)

form_set : (constants n : ℕ) (around : List ℕ) (f : Form) (params loops : List ℤ) (v : ℤ) → names_only constants around f ≡ true → All (λ k. k ≤ n - 1) around → 1 ≤ n → form_value f (with_loop loops n v) params ≡ form_value f loops params
form_set constants n around f params loops v named below some =
    let all = list_all (λ (p : ℕ × ℤ). list_any (λ l. l == p.0) around) f.loops in
    let last = and_parts (is_form f && all) (list_all (λ (p : ℕ × ℤ). is_number_of constants p.0) f.params) named in
    let first = and_parts (is_form f) all last.0 in
    let form = and_parts (is_small f.constant && rises_above 0 f.loops) (rises_above 0 f.params) first.0 in
    let rises = and_parts (is_small f.constant) (rises_above 0 f.loops) form.0 in
    ap (λ z. f.constant +ℤ z +ℤ dot f.params params) (dot_set f.loops 0 n loops v around rises.1 first.1 below some)

pub trips_set : (scope : Scope) (around : List ℕ) (head : Head) (params loops : List ℤ) (v : ℤ) → is_good_head scope around head ≡ true → All (λ k. k ≤ head.number - 1) around → 1 ≤ head.number → head_trips params head (with_loop loops head.number v) ≡ head_trips params head loops
trips_set scope around head params loops v good below some =
    let a = and_parts (names_only scope.constants around head.m1 && names_only scope.constants around head.m2 && nat_lt 0 (unsigned_abs head.step)) (is_small head.step) good in
    let b = and_parts (names_only scope.constants around head.m1 && names_only scope.constants around head.m2) (nat_lt 0 (unsigned_abs head.step)) a.0 in
    let c = and_parts (names_only scope.constants around head.m1) (names_only scope.constants around head.m2) b.0 in
    ap (λ z. trips z (form_value head.m2 (with_loop loops head.number v) params) head.step) (form_set scope.constants head.number around head.m1 params loops v c.0 below some)
    ∙ ap (λ z. trips (form_value head.m1 loops params) z head.step) (form_set scope.constants head.number around head.m2 params loops v c.1 below some)

-- nor on those of the loops inside
trips_agree : (scope : Scope) (around : List ℕ) (head : Head) (params xs ys : List ℤ) → is_good_head scope around head ≡ true → All (λ k. k ≤ head.number) around → 1 ≤ head.number → AgreeBelow head.number xs ys → head_trips params head xs ≡ head_trips params head ys
trips_agree scope around head params xs ys good below some agree =
    let a = and_parts (names_only scope.constants around head.m1 && names_only scope.constants around head.m2 && nat_lt 0 (unsigned_abs head.step)) (is_small head.step) good in
    let b = and_parts (names_only scope.constants around head.m1 && names_only scope.constants around head.m2) (nat_lt 0 (unsigned_abs head.step)) a.0 in
    let c = and_parts (names_only scope.constants around head.m1) (names_only scope.constants around head.m2) b.0 in
    ap (λ z. trips z (form_value head.m2 xs params) head.step) (form_agrees scope.constants head.number around head.m1 params xs ys some below c.0 agree)
    ∙ ap (λ z. trips (form_value head.m1 ys params) z head.step) (form_agrees scope.constants head.number around head.m2 params xs ys some below c.1 agree)

-- ---- the number of a phase's first piece of work

abbrev works_of_all : List Placed → ℕ
works_of_all ps = sum_by (λ (p : Placed). works_in p.what) ps

-- a visit is of the k-th stop of a text, and has as many pieces of work in front as the stops before that
pub record IsBehind (text : List Placed) (place first : ℕ) (v : Visit) : Type 0 where
  pub k : ℕ
  pub within : k < length text
  pub place_is : v.place ≡ place + k
  pub first_is : v.first ≡ first + sum_by (λ (p : Placed). works_in p.what) (take k text)

one_behind : (s : Placed) (place first : ℕ) (v : Visit) → v.place ≡ place → v.first ≡ first → All (IsBehind (s ∷ []) place first) (v ∷ [])
one_behind s place first v at is = All-cons (IsBehind (s ∷ []) place first) v [] (record { k = 0; within = omega arith; place_is = omega (arith, at); first_is = omega (arith, is) }) (All-nil (IsBehind (s ∷ []) place first))

mutual
  behind_in : (params : List ℤ) (enters : ℕ → Bool) (around : List ℕ) (s : Statement) (place first : ℕ) (loops : List ℤ) → All (IsBehind (placed_in enters around s) place first) (visits_of params enters s place first loops)
  behind_in params enters around (do_loop head body) place first loops =
      let P = IsBehind (placed_of enters (head.number ∷ around) body) place first in
      let inside = λ (v : ℤ). visits_in params enters body place first (with_loop loops head.number v) in
      let entered = All-flat_map P inside (head_trips params head loops) (every (λ v. All P (inside v)) (λ v. behind_among params enters (head.number ∷ around) body place first (with_loop loops head.number v)) (head_trips params head loops)) in
      let here : Visit = record { place = place; first = first; what = do_loop head body; loops = loops } in
      elim (enters head.number) as (λ b. All (IsBehind (if b then placed_of enters (head.number ∷ around) body else record { what = do_loop head body; around = around } ∷ []) place first) (if b then flat_map inside (head_trips params head loops) else here ∷ []))
      [ true ↦ entered | false ↦ one_behind (record { what = do_loop head body; around = around }) place first here refl refl ]
  behind_in params enters around (work w) place first loops = one_behind (record { what = work w; around = around }) place first (record { place = place; first = first; what = work w; loops = loops }) refl refl
  behind_in params enters around (continue line) place first loops = All-nil (IsBehind [] place first)

  behind_among : (params : List ℤ) (enters : ℕ → Bool) (around : List ℕ) (ss : Statements) (place first : ℕ) (loops : List ℤ) → All (IsBehind (placed_of enters around ss) place first) (visits_in params enters ss place first loops)
  behind_among params enters around done place first loops = All-nil (IsBehind [] place first)
  behind_among params enters around (next s rest) place first loops =
      let text = placed_in enters around s in
      let later = placed_of enters around rest in
      let P = IsBehind (text ++ later) place first in
      let as_many = placed_count enters around s in
      let sums = placed_works enters around s in
      let works = λ (p : Placed). works_in p.what in
      All-append P (visits_of params enters s place first loops) (visits_in params enters rest (place + stops_in enters s) (first + works_in s) loops)
      (All-weaker (IsBehind text place first) P (λ v b. record {
        k = b.k;
        within = omega (arith, b.within, length-append text later);
        place_is = b.place_is;
        first_is = b.first_is ∙ ap (λ l. first + sum_by (λ (p : Placed). works_in p.what) l) (sym (take-append-le b.k text later (omega (arith, b.within))));
      }) (visits_of params enters s place first loops) (behind_in params enters around s place first loops))
      (All-weaker (IsBehind later (place + stops_in enters s) (first + works_in s)) P (λ v b.
      let sum = ap (sum_by works) (take-behind text later b.k) ∙ sum_by-append works text (take b.k later) in record {
        k = length text + b.k;
        within = omega (arith, b.within, length-append text later);
        place_is = omega (arith, b.place_is, as_many);
        first_is = omega (arith, b.first_is, sum, sums);
      }) (visits_in params enters rest (place + stops_in enters s) (first + works_in s) loops) (behind_among params enters around rest (place + stops_in enters s) (first + works_in s) loops))

pub first_work_is : (tree : Tree) (plan : Plan) (k : ℕ) (v : Visit) → slice_get (phases tree plan.cut.marks) k ≡ Some v → first_work tree plan v.place ≡ v.first
first_work_is tree plan k v at =
    let text = placed tree (enters_outer plan.cut.marks) in
    let b = all_at (IsBehind text 1 1) (phases tree plan.cut.marks) k v (behind_among (param_values tree) (enters_outer plan.cut.marks) [] tree.items 1 1 (no_values tree)) at in
    let index : v.place - 1 ≡ b.k = omega (arith, b.place_is) in
    ap (λ n. 1 + sum_by (λ (p : Placed). works_in p.what) (take n text)) index ∙ sym b.first_is

-- ---- where a private scalar is first stored

mutual
  pub none_in : (params : List ℤ) (test : Work → Bool) (s : Statement) (first : ℕ) (loops : List ℤ) → some_in test s ≡ false → All (λ (i : Instance). test i.what ≡ false) (instances_of params s first loops)
  none_in params test (do_loop head body) first loops none =
      let P = λ (i : Instance). test i.what ≡ false in
      let inside : ℤ → List Instance = λ v. instances_in params body first (with_loop loops head.number v) in
      All-flat_map P inside (head_trips params head loops) (every (λ v. All P (inside v)) (λ v. none_among params test body first (with_loop loops head.number v) none) (head_trips params head loops))
  none_in params test (work w) first loops none =
      let P = λ (i : Instance). test i.what ≡ false in
      let here : Instance = record { statement = first; what = w; loops = loops } in
      elim (is_executed w loops params) as (λ b. All P (if b then here ∷ [] else [])) [ true ↦ All-cons P here [] none (All-nil P) | false ↦ All-nil P ]
  none_in params test (continue line) first loops none = All-nil (λ (i : Instance). test i.what ≡ false)

  pub none_among : (params : List ℤ) (test : Work → Bool) (ss : Statements) (first : ℕ) (loops : List ℤ) → some_of test ss ≡ false → All (λ (i : Instance). test i.what ≡ false) (instances_in params ss first loops)
  none_among params test done first loops none = All-nil (λ (i : Instance). test i.what ≡ false)
  none_among params test (next s rest) first loops none =
      let parts = neither (some_in test s) (some_of test rest) none in
      All-append (λ (i : Instance). test i.what ≡ false) (instances_of params s first loops) (instances_in params rest (first + works_in s) loops) (none_in params test s first loops parts.0) (none_among params test rest (first + works_in s) loops parts.1)

-- instances of which the first that has the scalar is this piece of work's, a store without comparison
pub record StoresFirst (u number : ℕ) (is : List Instance) : Type 0 where
  pub before : List Instance
  pub store : Instance
  pub after : List Instance
  pub split : is ≡ before ++ store ∷ after
  pub statement_is : store.statement ≡ number
  pub plain : is_plain_store u store.what ≡ true
  pub away : All (λ (i : Instance). has_access u i.what ≡ false) before

plain_executed : (u : ℕ) (w : Work) (loops params : List ℤ) → is_plain_store u w ≡ true → is_executed w loops params ≡ true
plain_executed u (assign a) loops params plain = by a.guard (and_parts (is_of u a.target && not (loads u a.value)) (is_none a.guard) plain).1
  where
    by : (g : Option Guard) → is_none g ≡ true → holds g loops params ≡ true
    by None e = refl
    by (Some g) e = absurd (true≢false (sym e))
plain_executed u (print p) loops params plain = absurd (true≢false (sym plain))

stores_here : (params : List ℤ) (u : ℕ) (s : Statement) (rest : Statements) (first : ℕ) (loops : List ℤ) → some_in (has_access u) s ≡ true → StoresFirst u (first + works_before_in u s) (instances_of params s first loops) → StoresFirst u (first + works_before u (next s rest)) (instances_in params (next s rest) first loops)
stores_here params u s rest first loops held r =
    let later = instances_in params rest (first + works_in s) loops in
    record {
      before = r.before;
      store = r.store;
      after = r.after ++ later;
      split = ap (λ l. l ++ later) r.split ∙ append_assoc r.before (r.store ∷ r.after) later;
      statement_is = let here : works_before u (next s rest) ≡ works_before_in u s = ap (λ b. if b then works_before_in u s else works_in s + works_before u rest) held in omega (arith, r.statement_is, here);
      plain = r.plain;
      away = r.away;
    }

stores_later : (params : List ℤ) (u : ℕ) (s : Statement) (rest : Statements) (first : ℕ) (loops : List ℤ) → some_in (has_access u) s ≡ false → StoresFirst u (first + works_in s + works_before u rest) (instances_in params rest (first + works_in s) loops) →
    StoresFirst u (first + works_before u (next s rest)) (instances_in params (next s rest) first loops)
stores_later params u s rest first loops failed r = record {
  before = instances_of params s first loops ++ r.before;
  store = r.store;
  after = r.after;
  split = ap (λ l. instances_of params s first loops ++ l) r.split ∙ sym (append_assoc (instances_of params s first loops) r.before (r.store ∷ r.after));
  statement_is = let more : works_before u (next s rest) ≡ works_in s + works_before u rest = ap (λ b. if b then works_before_in u s else works_in s + works_before u rest) failed in omega (arith, r.statement_is, more);
  plain = r.plain;
  away = All-append (λ (i : Instance). has_access u i.what ≡ false) (instances_of params s first loops) r.before (none_in params (has_access u) s first loops failed) r.away;
}

-- a loop on the path makes a first trip
looped : (params : List ℤ) (u number : ℕ) (head : Head) (body : Statements) (first : ℕ) (loops : List ℤ) → ((x : ℤ) → path_runs params u body (with_loop loops head.number x) ≡ true → StoresFirst u number (instances_in params body first (with_loop loops head.number x))) →
    (xs : List ℤ) → option_map_or (λ x. path_runs params u body (with_loop loops head.number x)) (slice_get xs 0) false ≡ true → StoresFirst u number (flat_map (λ x. instances_in params body first (with_loop loops head.number x)) xs)
looped params u number head body first loops inner [] runs = absurd (true≢false (sym runs))
looped params u number head body first loops inner (x ∷ xs) runs =
    let r = inner x runs in
    let later = flat_map (λ x. instances_in params body first (with_loop loops head.number x)) xs in
    record {
      before = r.before;
      store = r.store;
      after = r.after ++ later;
      split = ap (λ l. l ++ later) r.split ∙ append_assoc r.before (r.store ∷ r.after) later;
      statement_is = r.statement_is;
      plain = r.plain;
      away = r.away;
    }

mutual
  stores_in : (params : List ℤ) (u : ℕ) (s : Statement) (first : ℕ) (loops : List ℤ) → is_stored_first u s ≡ true → path_runs_in params u s loops ≡ true → StoresFirst u (first + works_before_in u s) (instances_of params s first loops)
  stores_in params u (do_loop head body) first loops is runs =
      looped params u (first + works_before u body) head body first loops (λ x inside. stores_first params u body first (with_loop loops head.number x) is inside) (head_trips params head loops) runs
  stores_in params u (work w) first loops is runs = record {
    before = [];
    store = record { statement = first; what = w; loops = loops };
    after = [];
    split = ap (λ b. if b then record { statement = first; what = w; loops = loops } ∷ [] else []) (plain_executed u w loops params is);
    statement_is = omega arith;
    plain = is;
    away = All-nil (λ (i : Instance). has_access u i.what ≡ false);
  }
  stores_in params u (continue line) first loops is runs = absurd (true≢false (sym is))

  -- a private scalar's first store in a loop's body, where each loop on its path makes a first trip
  pub stores_first : (params : List ℤ) (u : ℕ) (body : Statements) (first : ℕ) (loops : List ℤ) → is_private u body ≡ true → path_runs params u body loops ≡ true → StoresFirst u (first + works_before u body) (instances_in params body first loops)
  stores_first params u done first loops is runs = absurd (true≢false (sym is))
  stores_first params u (next s rest) first loops is runs = elim (cases_Bool (some_in (has_access u) s)) [
    | inl held ↦ stores_here params u s rest first loops held
        (stores_in params u s first loops (sym (ap (λ b. if b then is_stored_first u s else is_private u rest) held) ∙ is) (sym (ap (λ b. if b then path_runs_in params u s loops else path_runs params u rest loops) held) ∙ runs))
    | inr failed ↦ stores_later params u s rest first loops failed
        (stores_first params u rest (first + works_in s) loops (sym (ap (λ b. if b then is_stored_first u s else is_private u rest) failed) ∙ is) (sym (ap (λ b. if b then path_runs_in params u s loops else path_runs params u rest loops) failed) ∙ runs))
  ]

-- ---- the one of the last trip

pub split_at : {X : Type 0} (before : List X) (x : X) (after xs : List X) → xs ≡ before ++ x ∷ after → slice_get xs (length before) ≡ Some x
split_at before x after xs is =
    let none : length before + 0 ≡ length before = omega arith in
    ap (λ l. slice_get l (length before)) is ∙ ap (slice_get (before ++ x ∷ after)) (sym none) ∙ get-behind before (x ∷ after) 0

-- an instance of a phase is a private scalar's first store in its loop's last trip, of the body with these values of the loops
pub record IsLastStore (tree : Tree) (plan : Plan) (e : ℕ) (v : Visit) (u : ℕ) (body : Statements) (loops : List ℤ) : Type 0 where
  pub index : ℕ
  pub instance : Instance
  pub at : slice_get (visit_instances (param_values tree) v) index ≡ Some instance
  pub within : ℕ
  pub trip : slice_get (instances_in (param_values tree) body v.first loops) within ≡ Some instance
  pub plain : is_plain_store u instance.what ≡ true
  pub last : is_last_store tree plan (record { phase = e; place = v.place; instance = instance }) u ≡ true

pub last_store : (tree : Tree) (plan : Plan) (e k : ℕ) (v : Visit) (head : Head) (body : Statements) (u : ℕ) (value : ℤ) → IsWellFormed tree → slice_get (phases tree plan.cut.marks) k ≡ Some v → v.what ≡ do_loop head body →
    own_loop tree plan v.place ≡ own_loop_of plan.cut v.what → is_private u body ≡ true → path_runs (param_values tree) u body (with_loop v.loops head.number value) ≡ true → last_value (head_trips (param_values tree) head v.loops) ≡ Some value → IsLastStore tree plan e v u body (with_loop v.loops head.number value)
last_store tree plan e k v head body u value formed at what loop_is private runs last =
    let params = param_values tree in
    let f = visit_there tree plan.cut.marks k v formed at in
    let good = good_loop (scope_of tree) f.there.around f.there.number head body (ap (is_good_statement (scope_of tree) f.there.around f.there.number) (sym what) ∙ f.there.good) in
    let inside : ℤ → List Instance = λ x. instances_in params body v.first (with_loop v.loops head.number x) in
    let trips = last_split (head_trips params head v.loops) value last in
    let loops = with_loop v.loops head.number value in
    let s = stores_first params u body v.first loops private runs in
    let front = flat_map inside trips.0 in
    let all : visit_instances params v ≡ (front ++ s.before) ++ s.store ∷ (s.after ++ []) =
    ap (λ (x : Statement). instances_of params x v.first v.loops) what ∙ ap (flat_map inside) trips.1 ∙ flat_map-append inside trips.0 (value ∷ [])
    ∙ ap (λ l. front ++ (l ++ [])) s.split ∙ ap (λ l. front ++ l) (append_assoc s.before (s.store ∷ s.after) []) ∙ sym (append_assoc front s.before (s.store ∷ (s.after ++ []))) in
    let low : 1 ≤ head.number = omega (arith, good.number, f.there.low) in
    let below = All-weaker (λ n. n < f.there.number) (λ n. n ≤ head.number - 1) (λ n lt. omega (arith, lt, good.number)) f.there.around f.there.below in
    let same_trips = trips_set (scope_of tree) f.there.around head params v.loops value good.bounds below low in
    let one : 1 ≤ loops_in v.what = omega (arith, ap loops_in what) in
    let room : head.number - 1 < length v.loops = omega (arith, good.number, f.there.count, one, f.there.low) in
    let number_is : numbered loops head.number ≡ value = get_or-set_same v.loops (head.number - 1) value (pos 0) room in
    let index : v.place - 1 ≡ f.k = omega (arith, f.place_is) in
    let static : slice_get (static_phases tree plan.cut.marks) (v.place - 1) ≡ Some (record { what = do_loop head body; around = f.there.around }) =
    ap (slice_get (static_phases tree plan.cut.marks)) index ∙ f.there.at ∙ ap (λ x. Some (record { what = x; around = f.there.around })) what in
    let within = split_at s.before s.store s.after (instances_in params body v.first loops) s.split in
    let agreed = all_at (λ (i : Instance). AgreeBelow (f.there.number + 1 - 1) i.loops loops) (instances_in params body v.first loops) (length s.before) s.store
    (agree_among params (scope_of tree) (head.number ∷ f.there.around) (f.there.number + 1) body v.first loops good.inside (omega arith)) within in
    let agree : AgreeBelow head.number s.store.loops loops = λ j lt. agreed j (omega (arith, lt, good.number)) in
    let low_around = All-weaker (λ n. n < f.there.number) (λ n. n ≤ head.number) (λ n lt. omega (arith, lt, good.number)) f.there.around f.there.below in
    let its_trips = trips_agree (scope_of tree) f.there.around head params s.store.loops loops good.bounds low_around low agree in
    let trip : is_last_trip params (slice_get (static_phases tree plan.cut.marks) (v.place - 1)) s.store.loops ≡ true =
    ap (λ o. is_last_trip params o s.store.loops) static ∙ ap (λ l. is_value (last_value l) (numbered s.store.loops head.number)) (its_trips ∙ same_trips)
    ∙ ap (λ o. is_value o (numbered s.store.loops head.number)) last ∙ ap (int_eq value) (agree (head.number - 1) (omega (arith, low)) ∙ number_is) ∙ same_value value in
    let body_is = ap (λ (l : OwnLoop). l.body) (loop_is ∙ ap (own_loop_of plan.cut) what) in
    let number : s.store.statement ≡ first_work tree plan v.place + works_before u (own_loop tree plan v.place).body =
    s.statement_is ∙ ap (λ n. n + works_before u body) (sym (first_work_is tree plan k v at)) ∙ ap (λ b. first_work tree plan v.place + works_before u b) (sym body_is) in
    record {
      index = length (front ++ s.before);
      instance = s.store;
      at = split_at (front ++ s.before) s.store (s.after ++ []) (visit_instances params v) all;
      within = length s.before;
      trip = within;
      plain = s.plain;
      last = and_from _ _ trip (eq-eqb s.store.statement (first_work tree plan v.place + works_before u (own_loop tree plan v.place).body) number);
    }
  where
    same_value : (z : ℤ) → int_eq z z ≡ true
    same_value z = (Decides-int_eq z z).1 refl

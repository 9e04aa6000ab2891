-- What the processors' turns print and load together is what the program's instances do.
use Rattle.std.proofs.Common.{◌≡◌, ◌==◌, ℕ, zero, suc, ◌+◌, ◌-◌, ◌<◌, ◌≤◌, ℤ, Bool, true, false, cond, if◌then◌else◌, List, [], ◌∷◌, ◌++◌, map, Option, Some, None, refl, sym, ◌∙◌, ap, inl, inr, arith, sum_by, zero-add}
use Rattle.std.specs.Prelude.{slice_get}
use Rattle.std.specs.List.{filter, flat_map, list_all, range_with_len}
use Rattle.std.proofs.lemmas.Bool.{and_from, and_parts, cases_Bool, eqb-true}
use Rattle.std.proofs.lemmas.List.{map-append}
use Rattle.std.proofs.lemmas.List.Folds.{list_all-append, list_all-map}
use Rattle.std.proofs.lemmas.List.Sums.{sum_by-append, sum_by-cons}
use Rattle.nest_tree.specs.Tree.{Tree, param_values}
use Rattle.nest_model.specs.Instances.{Instance, instances}
use Rattle.nest_model.specs.Ranges.{is_instance_inside}
use Rattle.nest_model.specs.Visits.{Visit}
use Rattle.owner_partition.specs.declared.anchor.Anchor.{Anchor}
use Rattle.owner_partition.specs.declared.cut.Mark.{Mark}
use Rattle.owner_partition.specs.Owners.{anchor_owner}
use Rattle.owner_partition.specs.Phases.{Execution, executions_from, visit_instances, phases}
use Rattle.owner_partition.proofs.Instances.{all_executed}
use Rattle.sync_plan.specs.declared.plan.Plan.{Plan}
use Rattle.sync_plan.specs.Waits.{posts_at, waits_for}
use Rattle.spmd_model.specs.Deeds.{owned_by}
use Rattle.instance_runs.specs.Rooms.{instance_room, longest_output}
use Rattle.turns.specs.CounterTurns.{counter_room, awaits, begins, boundary_turns, is_counter_inside, phase_turns, posts, counter_turns, works}

-- the phases' instances are the program's
executed_phases : (params : List ℤ) (e : ℕ) (vs : List Visit) → map (λ (x : Execution). x.instance) (executions_from params e vs) ≡ flat_map (visit_instances params) vs
executed_phases params e [] = refl
executed_phases params e (v ∷ vs) =
    map-append (λ (x : Execution). x.instance) (map (λ (i : Instance). record { phase = e; place = v.place; instance = i }) (visit_instances params v)) (executions_from params (suc e) vs)
    ∙ ap (λ l. l ++ map (λ (x : Execution). x.instance) (executions_from params (suc e) vs)) (own e v.place (visit_instances params v)) ∙ ap (λ l. visit_instances params v ++ l) (executed_phases params (suc e) vs)
  where
    own : (n place : ℕ) (is : List Instance) → map (λ (x : Execution). x.instance) (map (λ (i : Instance). record { phase = n; place = place; instance = i }) is) ≡ is
    own n place [] = refl
    own n place (i ∷ is) = ap (λ l. i ∷ l) (own n place is)

pub phases_whole : (tree : Tree) (marks : List Mark) → flat_map (visit_instances (param_values tree)) (phases tree marks) ≡ instances tree
phases_whole tree marks = sym (executed_phases (param_values tree) 1 (phases tree marks)) ∙ all_executed tree marks

-- ---- sums over processors

sums_add : (f g h : ℕ → ℕ) (a n : ℕ) → ((p : ℕ) → h p ≡ f p + g p) → sum_by h (range_with_len a n) ≡ sum_by f (range_with_len a n) + sum_by g (range_with_len a n)
sums_add f g h a zero same = refl
sums_add f g h a (suc n) same =
    omega (arith, sum_by-cons h a (range_with_len (a + 1) n), sum_by-cons f a (range_with_len (a + 1) n), sum_by-cons g a (range_with_len (a + 1) n), same a, sums_add f g h (a + 1) n same)

no_sum : (f : ℕ → ℕ) (a n : ℕ) → ((p : ℕ) → a ≤ p → f p ≡ 0) → sum_by f (range_with_len a n) ≡ 0
no_sum f a zero none = refl
no_sum f a (suc n) none = omega (arith, sum_by-cons f a (range_with_len (a + 1) n), none a (omega arith), no_sum f (a + 1) n (λ p le. none p (omega arith)))

-- one of them has a number
one_of : (k c : ℕ) (a n : ℕ) → sum_by (λ p. if k == p then c else 0) (range_with_len a n) ≤ c
one_of k c a zero = omega arith
one_of k c a (suc n) = elim (cases_Bool (k == a)) [
  | inl here ↦
      let first : (if k == a then c else 0) ≡ c = ap (λ b. if b then c else 0) here in
      let others : sum_by (λ p. if k == p then c else 0) (range_with_len (a + 1) n) ≡ 0 = no_sum (λ p. if k == p then c else 0) (a + 1) n (λ p le. ap (λ b. if b then c else 0) (not_same k p (omega (arith, eqb-true k a here)))) in
      omega (arith, sum_by-cons (λ p. if k == p then c else 0) a (range_with_len (a + 1) n), first, others)
  | inr other ↦
      let first : (if k == a then c else 0) ≡ 0 = ap (λ b. if b then c else 0) other in
      omega (arith, sum_by-cons (λ p. if k == p then c else 0) a (range_with_len (a + 1) n), first, one_of k c (a + 1) n)
]
  where
    not_same : (i j : ℕ) → i < j → (i == j) ≡ false
    not_same i j lt = elim (cases_Bool (i == j)) [
      | inl same ↦ absurd (let e : i ≡ j = eqb-true i j same in omega arith)
      | inr not_equal ↦ not_equal
    ]

filter_one : (r : Instance → ℕ) (test : Instance → Bool) (i : Instance) (is : List Instance) → sum_by r (filter test (i ∷ is)) ≡ (if test i then r i else 0) + sum_by r (filter test is)
filter_one r test i is = elim (cases_Bool (test i)) [
  | inl holds ↦
      ap (λ b. sum_by r (cond b (i ∷ filter test is) (filter test is))) holds ∙ sum_by-cons r i (filter test is) ∙ ap (λ b. (if b then r i else 0) + sum_by r (filter test is)) (sym holds)
  | inr fails ↦
      ap (λ b. sum_by r (cond b (i ∷ filter test is) (filter test is))) fails ∙ sym (zero-add (sum_by r (filter test is))) ∙ ap (λ b. (if b then r i else 0) + sum_by r (filter test is)) (sym fails)
]

-- each instance is of one processor at most
own_sums : (r : Instance → ℕ) (owner : Instance → ℕ) (is : List Instance) (n : ℕ) → sum_by (λ p. sum_by r (filter (λ i. owner i == p) is)) (range_with_len 0 n) ≤ sum_by r is
own_sums r owner [] n = omega (arith, no_sum (λ p. sum_by r []) 0 n (λ p le. refl))
own_sums r owner (i ∷ is) n =
    omega (
      arith,
      sums_add (λ p. if owner i == p then r i else 0) (λ p. sum_by r (filter (λ k. owner k == p) is)) (λ p. sum_by r (filter (λ k. owner k == p) (i ∷ is))) 0 n (λ p. filter_one r (λ k. owner k == p) i is),
      one_of (owner i) (r i) 0 n,
      own_sums r owner is n,
      sum_by-cons r i is,
    )

module _ (tree : Tree) (plan : Plan) where
  abbrev own : ℕ → Visit → List Instance
  own p v = owned_by tree (slice_get plan.anchors (v.place - 1)) plan.workers p v

  own_rooms : (v : Visit) → sum_by (λ p. sum_by (instance_room tree) (own p v)) (range_with_len 0 plan.workers) ≤ sum_by (instance_room tree) (visit_instances (param_values tree) v)
  own_rooms v = by (slice_get plan.anchors (v.place - 1))
    where
      by : (a : Option Anchor) → sum_by (λ p. sum_by (instance_room tree) (owned_by tree a plan.workers p v)) (range_with_len 0 plan.workers) ≤ sum_by (instance_room tree) (visit_instances (param_values tree) v)
      by None = omega (arith, no_sum (λ p. sum_by (instance_room tree) (owned_by tree None plan.workers p v)) 0 plan.workers (λ p le. refl))
      by (Some a) = own_sums (instance_room tree) (λ (i : Instance). anchor_owner a plan.workers i.loops (param_values tree)) (visit_instances (param_values tree) v) plan.workers

  -- ---- what turns print

  awaits_room : (n : ℕ) (qs : List ℕ) → sum_by (counter_room tree) (map (λ q. awaits q n) qs) ≡ 0
  awaits_room n [] = refl
  awaits_room n (q ∷ qs) = sum_by-cons (counter_room tree) (awaits q n) (map (λ k. awaits k n) qs) ∙ omega (arith, awaits_room n qs)

  boundary_room : (n : ℕ) (does : Bool) (qs : List ℕ) → sum_by (counter_room tree) (boundary_turns n does qs) ≡ 0
  boundary_room n true qs = sum_by-cons (counter_room tree) (posts n) (map (λ q. awaits q n) qs) ∙ omega (arith, awaits_room n qs)
  boundary_room n false qs = awaits_room n qs

  works_room : (is : List Instance) → sum_by (counter_room tree) (map works is) ≡ sum_by (instance_room tree) is
  works_room [] = refl
  works_room (i ∷ is) = sum_by-cons (counter_room tree) (works i) (map works is) ∙ omega (arith, works_room is, sum_by-cons (instance_room tree) i is)

  turns_room : (p e : ℕ) (v : Visit) (vs : List Visit) → sum_by (counter_room tree) (counter_turns tree plan p e (v ∷ vs)) ≡ sum_by (instance_room tree) (own p v) + sum_by (counter_room tree) (counter_turns tree plan p (suc e) vs)
  turns_room p e v vs =
      let front = boundary_turns (e - 1) (posts_at tree plan p v.place v.loops) (waits_for tree plan p v.place v.loops) in
      omega (
        arith,
        sum_by-append (counter_room tree) (phase_turns tree plan p e v) (counter_turns tree plan p (suc e) vs),
        sum_by-append (counter_room tree) front (begins e ∷ map works (own p v)),
        sum_by-cons (counter_room tree) (begins e) (map works (own p v)),
        boundary_room (e - 1) (posts_at tree plan p v.place v.loops) (waits_for tree plan p v.place v.loops),
        works_room (own p v),
      )

  all_rooms : (e : ℕ) (vs : List Visit) → sum_by (λ p. sum_by (counter_room tree) (counter_turns tree plan p e vs)) (range_with_len 0 plan.workers) ≤ sum_by (instance_room tree) (flat_map (visit_instances (param_values tree)) vs)
  all_rooms e [] = omega (arith, no_sum (λ p. sum_by (counter_room tree) (counter_turns tree plan p e [])) 0 plan.workers (λ p le. refl))
  all_rooms e (v ∷ vs) =
      omega (
        arith,
        sums_add (λ p. sum_by (instance_room tree) (own p v)) (λ p. sum_by (counter_room tree) (counter_turns tree plan p (suc e) vs)) (λ p. sum_by (counter_room tree) (counter_turns tree plan p e (v ∷ vs))) 0 plan.workers (λ p. turns_room p e v vs),
        own_rooms v,
        all_rooms (suc e) vs,
        sum_by-append (instance_room tree) (visit_instances (param_values tree) v) (flat_map (visit_instances (param_values tree)) vs),
      )

  pub rooms_below : sum_by (λ p. sum_by (counter_room tree) (counter_turns tree plan p 1 (phases tree plan.cut.marks))) (range_with_len 0 plan.workers) ≤ longest_output tree
  rooms_below = omega (arith, all_rooms 1 (phases tree plan.cut.marks), ap (sum_by (instance_room tree)) (phases_whole tree plan.cut.marks))

  -- ---- what turns load and store

  awaits_inside : (n : ℕ) (qs : List ℕ) → list_all (is_counter_inside tree) (map (λ q. awaits q n) qs) ≡ true
  awaits_inside n [] = refl
  awaits_inside n (q ∷ qs) = awaits_inside n qs

  boundary_inside : (n : ℕ) (does : Bool) (qs : List ℕ) → list_all (is_counter_inside tree) (boundary_turns n does qs) ≡ true
  boundary_inside n true qs = awaits_inside n qs
  boundary_inside n false qs = awaits_inside n qs

  some_inside : (test : Instance → Bool) (is : List Instance) → list_all (is_instance_inside tree) is ≡ true → list_all (is_instance_inside tree) (filter test is) ≡ true
  some_inside test [] h = refl
  some_inside test (i ∷ is) h =
      let parts = and_parts (is_instance_inside tree i) (list_all (is_instance_inside tree) is) h in
      let later = some_inside test is parts.1 in
      elim (cases_Bool (test i)) [
        | inl holds ↦ ap (λ b. list_all (is_instance_inside tree) (cond b (i ∷ filter test is) (filter test is))) holds ∙ and_from (is_instance_inside tree i) (list_all (is_instance_inside tree) (filter test is)) parts.0 later
        | inr fails ↦ ap (λ b. list_all (is_instance_inside tree) (cond b (i ∷ filter test is) (filter test is))) fails ∙ later
      ]

  own_inside : (p : ℕ) (v : Visit) → list_all (is_instance_inside tree) (visit_instances (param_values tree) v) ≡ true → list_all (is_instance_inside tree) (own p v) ≡ true
  own_inside p v h = by (slice_get plan.anchors (v.place - 1))
    where
      by : (a : Option Anchor) → list_all (is_instance_inside tree) (owned_by tree a plan.workers p v) ≡ true
      by None = refl
      by (Some a) = some_inside (λ (i : Instance). anchor_owner a plan.workers i.loops (param_values tree) == p) (visit_instances (param_values tree) v) h

  turns_inside : (p e : ℕ) (vs : List Visit) → list_all (is_instance_inside tree) (flat_map (visit_instances (param_values tree)) vs) ≡ true → list_all (is_counter_inside tree) (counter_turns tree plan p e vs) ≡ true
  turns_inside p e [] h = refl
  turns_inside p e (v ∷ vs) h =
      let here = visit_instances (param_values tree) v in
      let later = flat_map (visit_instances (param_values tree)) vs in
      let parts = and_parts (list_all (is_instance_inside tree) here) (list_all (is_instance_inside tree) later) (sym (list_all-append (is_instance_inside tree) here later) ∙ h) in
      let does = posts_at tree plan p v.place v.loops in
      let qs = waits_for tree plan p v.place v.loops in
      list_all-append (is_counter_inside tree) (phase_turns tree plan p e v) (counter_turns tree plan p (suc e) vs)
      ∙ and_from (list_all (is_counter_inside tree) (phase_turns tree plan p e v)) (list_all (is_counter_inside tree) (counter_turns tree plan p (suc e) vs))
      (list_all-append (is_counter_inside tree) (boundary_turns (e - 1) does qs) (begins e ∷ map works (own p v))
      ∙ and_from (list_all (is_counter_inside tree) (boundary_turns (e - 1) does qs)) (list_all (is_counter_inside tree) (map works (own p v))) (boundary_inside (e - 1) does qs) (list_all-map (is_counter_inside tree) works (own p v) ∙ own_inside p v parts.0))
      (turns_inside p (suc e) vs parts.1)

  pub all_inside : (p : ℕ) → list_all (is_instance_inside tree) (instances tree) ≡ true → list_all (is_counter_inside tree) (counter_turns tree plan p 1 (phases tree plan.cut.marks)) ≡ true
  all_inside p h = turns_inside p 1 (phases tree plan.cut.marks) (ap (list_all (is_instance_inside tree)) (phases_whole tree plan.cut.marks) ∙ h)

-- A processor's acts along the parts of a plan's timeline, by what they do.
use Rattle.std.proofs.Common.{◌≡◌, ◌≢◌, ◌==◌, ℕ, zero, suc, ◌+◌, ◌-◌, ◌*◌, ◌<◌, ◌≤◌, Bool, true, false, cond, List, [], ◌∷◌, ◌++◌, map, Option, Some, None, refl, ap, sym, subst, ◌∙◌, inl, inr, arith, if◌then◌else◌, zero-add}
use Rattle.std.specs.Prelude.{slice_get}
use Rattle.std.specs.List.{AllByRecursion, filter, flat_map, range_with_len}
use Rattle.std.proofs.lemmas.Bool.{cases_Bool, cases_eq, eq-eqb, eqb-true}
use Rattle.std.proofs.lemmas.Grind.{flat_map-append}
use Rattle.std.proofs.lemmas.List.{append-nil, map-append}
use Rattle.nest_tree.specs.Layout.{first_cell}
use Rattle.nest_tree.specs.Tree.{Tree, param_values}
use Rattle.nest_tree.specs.WellFormed.{IsWellFormed}
use Rattle.nest_model.specs.Instances.{Instance}
use Rattle.nest_model.specs.Visits.{Visit}
use Rattle.owner_partition.specs.declared.anchor.Anchor.{Anchor}
use Rattle.owner_partition.specs.Owners.{owner_by}
use Rattle.owner_partition.specs.Phases.{visit_instances, phases}
use Rattle.sync_plan.specs.declared.plan.Plan.{Plan}
use Rattle.sync_plan.specs.Fit.{IsFit}
use Rattle.sync_plan.specs.Own.{Own, own_cell, own_loop, own_of}
use Rattle.sync_plan.specs.Waits.{posts_at, waits_for}
use Rattle.spmd_model.specs.Timelines.{Job, counter, job}
use Rattle.spmd_model.specs.Acts.{acts_of}
use Rattle.spmd_model.specs.Closings.{closings_of, has_stored, keeping, keeping_of, last_owner, total_of, totalling, totalling_of}
use Rattle.spmd_model.specs.Deeds.{Deed, boundary_deeds, deed_of, job_deeds, moment_deeds, owned_by}
use Rattle.spmd_model.specs.Planned.{boundary_of}
use Rattle.spmd_model.specs.Rounds.{round_boundary, rounds_in, rounds_of}
use Rattle.spmd_model.specs.Machines.{boundaries_by, instance_jobs, is_by_signals, job_under, machine_by, moments_of, part_of, parts_from, signal_barriers, timeline_by}
use Rattle.spmd_model.specs.MachineDeeds.{closing_deeds, deeds_by, front_deeds, kept_by, keeping_deeds, own_deeds, part_deeds, round_deeds, totalled_by}
use Rattle.spmd_model.specs.declared.style.Style.{Style}
use Rattle.spmd_model.proofs.Deeds.{anchored, deeds_along}

-- ---- lists of jobs

abbrev jobs_deeds : ℕ → List Job → List Deed
jobs_deeds p js = flat_map (moment_deeds p) (map job js)

jobs_deeds-append : (p : ℕ) (is js : List Job) → jobs_deeds p (is ++ js) ≡ jobs_deeds p is ++ jobs_deeds p js
jobs_deeds-append p is js = ap (flat_map (moment_deeds p)) (map-append job is js) ∙ flat_map-append (moment_deeds p) (map job is) (map job js)

jobs_deeds-flat_map : {X : Type 0} (p : ℕ) (f : X → List Job) (g : X → List Deed) (xs : List X) → ((x : X) → jobs_deeds p (f x) ≡ g x) → jobs_deeds p (flat_map f xs) ≡ flat_map g xs
jobs_deeds-flat_map p f g [] same = refl
jobs_deeds-flat_map p f g (x ∷ xs) same =
    jobs_deeds-append p (f x) (flat_map f xs) ∙ ap (λ l. l ++ jobs_deeds p (flat_map f xs)) (same x) ∙ ap (λ l. g x ++ l) (jobs_deeds-flat_map p f g xs same)

-- jobs of one processor are all its own, and no other's
all_mine : (p : ℕ) (js : List Job) → AllByRecursion (λ (j : Job). j.owner ≡ p) js → jobs_deeds p js ≡ flat_map job_deeds js
all_mine p [] owners = refl
all_mine p (j ∷ js) owners = ap (λ b. (if b then job_deeds j else []) ++ jobs_deeds p js) (eq-eqb j.owner p owners.0) ∙ ap (λ l. job_deeds j ++ l) (all_mine p js owners.1)

none_mine : (p q : ℕ) (js : List Job) → q ≢ p → AllByRecursion (λ (j : Job). j.owner ≡ q) js → jobs_deeds p js ≡ []
none_mine p q [] ne owners = refl
none_mine p q (j ∷ js) ne owners = elim (cases_Bool (j.owner == p)) [
  | inl same ↦ absurd (ne (sym owners.0 ∙ eqb-true j.owner p same))
  | inr other ↦ ap (λ b. (if b then job_deeds j else []) ++ jobs_deeds p js) other ∙ none_mine p q js ne owners.1
]

-- ---- closings

kept_deeds : (o : Own) (c p : ℕ) (last : Option ℕ) → jobs_deeds p (keeping o c last) ≡ kept_by o c p last
kept_deeds o c p None = refl
kept_deeds o c p (Some q) = by (q == p)
  where
    by : (b : Bool) → (if b then keeping_deeds (own_cell o q c) c else []) ++ [] ≡ (if b then keeping_deeds (own_cell o q c) c else [])
    by true = refl
    by false = refl

pub total_owners : (o : Own) (c p : ℕ) (has : Bool) → AllByRecursion (λ (j : Job). j.owner ≡ p) (totalling o c p has)
total_owners o c p false = tt
total_owners o c p true = (refl, (refl, tt))

total_deeds : (o : Own) (c p : ℕ) (has : Bool) → flat_map job_deeds (totalling o c p has) ≡ totalled_by o c p has
total_deeds o c p false = refl
total_deeds o c p true = refl

-- of jobs for each of some processors, those for one
module _ (p : ℕ) (f : ℕ → List Job) (owners : (q : ℕ) → AllByRecursion (λ (j : Job). j.owner ≡ q) (f q)) where
  none_behind : (a n : ℕ) → p < a → jobs_deeds p (flat_map f (range_with_len a n)) ≡ []
  none_behind a zero lt = refl
  none_behind a (suc n) lt =
      jobs_deeds-append p (f a) (flat_map f (range_with_len (a + 1) n))
      ∙ ap (λ l. l ++ jobs_deeds p (flat_map f (range_with_len (a + 1) n))) (none_mine p a (f a) (λ e. omega (arith, e, lt)) (owners a))
      ∙ none_behind (a + 1) n (omega (arith, lt))

  only_here : (a n : ℕ) → a ≤ p → p < a + n → jobs_deeds p (flat_map f (range_with_len a n)) ≡ flat_map job_deeds (f p)
  only_here a zero le lt = absurd (omega (arith, le, lt))
  only_here a (suc n) le lt =
      let later = flat_map f (range_with_len (a + 1) n) in
      jobs_deeds-append p (f a) later
      ∙ (elim (cases_eq a p) [
        | inl is ↦
            ap (λ l. l ++ jobs_deeds p later) (all_mine p (f a) (subst (λ q. AllByRecursion (λ (j : Job). j.owner ≡ q) (f a)) is (owners a)))
            ∙ ap (λ l. flat_map job_deeds (f a) ++ l) (none_behind (a + 1) n (omega (arith, is)))
            ∙ append-nil (flat_map job_deeds (f a)) ∙ ap (λ q. flat_map job_deeds (f q)) is
        | inr ne ↦
            ap (λ l. l ++ jobs_deeds p later) (none_mine p a (f a) ne (owners a)) ∙ only_here (a + 1) n (omega (arith, le, ne)) (omega (arith, lt))
      ])

module _ (tree : Tree) (plan : Plan) (p : ℕ) (v : Visit) (worker : p < plan.workers) where
  closings_deeds : jobs_deeds p (closings_of tree plan v) ≡ closing_deeds tree plan p v
  closings_deeds =
      let o = own_of tree plan v.place in
      let own = own_loop tree plan v.place in
      let kept = jobs_deeds-flat_map p (keeping_of tree plan v) (λ s. kept_by o (first_cell tree s) p (last_owner tree plan v)) own.privates (λ s. kept_deeds o (first_cell tree s) p (last_owner tree plan v)) in
      let totals = jobs_deeds-flat_map p (totalling_of tree plan v) (λ s. totalled_by o (first_cell tree s) p (has_stored tree plan v (first_cell tree s) p)) own.sums one in
      jobs_deeds-append p (flat_map (keeping_of tree plan v) own.privates) (flat_map (totalling_of tree plan v) own.sums)
      ∙ ap (λ l. l ++ jobs_deeds p (flat_map (totalling_of tree plan v) own.sums)) kept
      ∙ ap (λ l. flat_map (λ s. kept_by o (first_cell tree s) p (last_owner tree plan v)) own.privates ++ l) totals
    where
      one : (s : ℕ) → jobs_deeds p (totalling_of tree plan v s) ≡ totalled_by (own_of tree plan v.place) (first_cell tree s) p (has_stored tree plan v (first_cell tree s) p)
      one s =
          let o = own_of tree plan v.place in
          only_here p (total_of tree plan v s) (λ q. total_owners o (first_cell tree s) q (has_stored tree plan v (first_cell tree s) q)) 0 plan.workers (omega arith) (omega (arith, worker))
          ∙ total_deeds o (first_cell tree s) p (has_stored tree plan v (first_cell tree s) p)

-- ---- instances

owned_jobs : (p : ℕ) (f : Instance → Job) (deeds : Instance → List Deed) (is : List Instance) → ((i : Instance) → (f i).owner ≡ p → job_deeds (f i) ≡ deeds i) → jobs_deeds p (map f is) ≡ flat_map deeds (filter (λ i. (f i).owner == p) is)
owned_jobs p f deeds [] same = refl
owned_jobs p f deeds (i ∷ is) same = elim (cases_Bool ((f i).owner == p)) [
  | inl own ↦
      ap (λ b. (if b then job_deeds (f i) else []) ++ jobs_deeds p (map f is)) own
      ∙ ap (λ l. l ++ jobs_deeds p (map f is)) (same i (eqb-true (f i).owner p own))
      ∙ ap (λ l. deeds i ++ l) (owned_jobs p f deeds is same)
      ∙ sym (ap (λ b. flat_map deeds (cond b (i ∷ filter (λ k. (f k).owner == p) is) (filter (λ k. (f k).owner == p) is))) own)
  | inr other ↦
      ap (λ b. (if b then job_deeds (f i) else []) ++ jobs_deeds p (map f is)) other
      ∙ owned_jobs p f deeds is same
      ∙ sym (ap (λ b. flat_map deeds (cond b (i ∷ filter (λ k. (f k).owner == p) is) (filter (λ k. (f k).owner == p) is))) other)
]

instances_deeds : (tree : Tree) (plan : Plan) (p e : ℕ) (v : Visit) (a : Anchor) → slice_get plan.anchors (v.place - 1) ≡ Some a →
    jobs_deeds p (instance_jobs tree plan e v) ≡ flat_map (own_deeds tree (own_of tree plan v.place) p) (owned_by tree (slice_get plan.anchors (v.place - 1)) plan.workers p v)
instances_deeds tree plan p e v a at =
    let deeds = own_deeds tree (own_of tree plan v.place) p in
    owned_jobs p (λ i. job_under tree plan (record { phase = e; place = v.place; instance = i })) deeds (visit_instances (param_values tree) v) (λ i is. ap (λ q. own_deeds tree (own_of tree plan v.place) q i) is)
    ∙ ap (λ o. flat_map deeds (filter (λ (i : Instance). owner_by o plan.workers i.loops (param_values tree) == p) (visit_instances (param_values tree) v))) at
    ∙ sym (ap (λ o. flat_map deeds (owned_by tree o plan.workers p v)) at)

-- ---- boundaries

rounds_deeds : (workers p first : ℕ) (rs : List ℕ) → flat_map (moment_deeds p) (map (round_boundary workers first) rs) ≡ flat_map (round_deeds workers p first) rs
rounds_deeds workers p first [] = refl
rounds_deeds workers p first (r ∷ rs) = ap (λ l. round_deeds workers p first r ++ l) (rounds_deeds workers p first rs)

fronts_deeds : (style : Style) (tree : Tree) (plan : Plan) (p e passed : ℕ) (v : Visit) → flat_map (moment_deeds p) (boundaries_by style tree plan e passed v) ≡ front_deeds style tree plan p e passed v
fronts_deeds style tree plan p e passed v = by (is_by_signals style plan v)
  where
    by : (b : Bool) → flat_map (moment_deeds p) (if b then rounds_in plan.workers (passed * rounds_of plan.workers + 1) (rounds_of plan.workers) else boundary_of tree plan e v ∷ [])
        ≡ (if b then flat_map (round_deeds plan.workers p (passed * rounds_of plan.workers + 1)) (range_with_len 0 (rounds_of plan.workers)) else boundary_deeds counter (e - 1) (posts_at tree plan p v.place v.loops) (waits_for tree plan p v.place v.loops))
    by true = rounds_deeds plan.workers p (passed * rounds_of plan.workers + 1) (range_with_len 0 (rounds_of plan.workers))
    by false = append-nil (boundary_deeds counter (e - 1) (posts_at tree plan p v.place v.loops) (waits_for tree plan p v.place v.loops))

-- ---- phases

phase_deeds : (style : Style) (tree : Tree) (plan : Plan) (p e passed : ℕ) (v : Visit) (a : Anchor) → p < plan.workers → slice_get plan.anchors (v.place - 1) ≡ Some a →
    flat_map (moment_deeds p) (moments_of (part_of style tree plan e passed v)) ≡ part_deeds style tree plan p e passed v
phase_deeds style tree plan p e passed v a worker at =
    let instances = instance_jobs tree plan e v in
    let closings = closings_of tree plan v in
    let owned = flat_map (own_deeds tree (own_of tree plan v.place) p) (owned_by tree (slice_get plan.anchors (v.place - 1)) plan.workers p v) in
    flat_map-append (moment_deeds p) (boundaries_by style tree plan e passed v) (map job (instances ++ closings))
    ∙ ap (λ l. l ++ jobs_deeds p (instances ++ closings)) (fronts_deeds style tree plan p e passed v)
    ∙ ap (λ l. front_deeds style tree plan p e passed v ++ l)
    (jobs_deeds-append p instances closings ∙ ap (λ l. l ++ jobs_deeds p closings) (instances_deeds tree plan p e v a at) ∙ ap (λ l. owned ++ l) (closings_deeds tree plan p v worker))

along_phases : (style : Style) (tree : Tree) (plan : Plan) (p e passed : ℕ) (vs : List Visit) → p < plan.workers → ((k : ℕ) (v : Visit) → slice_get vs k ≡ Some v → (a : Anchor) × (slice_get plan.anchors (v.place - 1) ≡ Some a)) →
    flat_map (moment_deeds p) (flat_map moments_of (parts_from style tree plan e passed vs)) ≡ deeds_by style tree plan p e passed vs
along_phases style tree plan p e passed [] worker anchors = refl
along_phases style tree plan p e passed (v ∷ vs) worker anchors =
    let here = anchors 0 v refl in
    let later = flat_map moments_of (parts_from style tree plan (suc e) (passed + signal_barriers style plan v) vs) in
    flat_map-append (moment_deeds p) (moments_of (part_of style tree plan e passed v)) later
    ∙ ap (λ l. l ++ flat_map (moment_deeds p) later) (phase_deeds style tree plan p e passed v here.0 worker here.1)
    ∙ ap (λ l. part_deeds style tree plan p e passed v ++ l) (along_phases style tree plan p (suc e) (passed + signal_barriers style plan v) vs worker (λ k w at. anchors (suc k) w at))

pub acts_do : (style : Style) (tree : Tree) (plan : Plan) (p : ℕ) → IsWellFormed tree → IsFit tree plan → p < plan.workers →
    map (deed_of (machine_by style tree plan)) (acts_of (machine_by style tree plan) p) ≡ deeds_by style tree plan p 1 0 (phases tree plan.cut.marks)
acts_do style tree plan p formed fits worker =
    deeds_along (machine_by style tree plan) p 0 (timeline_by style tree plan) (λ k x at. ap (slice_get (timeline_by style tree plan)) (zero-add k) ∙ at)
    ∙ along_phases style tree plan p 1 0 (phases tree plan.cut.marks) worker (anchored tree plan formed fits)

-- What the loads of an instance give along a plan's timeline in either style: what the program's memory has in front of it, but for a sum scalar of its phase.
use Rattle.std.proofs.Common.{◌≡◌, ℕ, zero, suc, ◌+◌, ◌-◌, ◌*◌, ◌≤◌, ℤ, pos, Bool, true, false, true≢false, List, [], ◌∷◌, ◌++◌, fold, length, map, replicate, take, Option, Some, None, if◌then◌else◌, refl, ap, sym, subst, ◌∙◌, inl, inr, arith, length-append}
use Rattle.std.specs.Prelude.{Contains, slice_get, sum_by}
use Rattle.std.specs.List.{All, flat_map, range_with_len}
use Rattle.std.specs.Option.{option_map}
use Rattle.std.proofs.lemmas.Bool.{cases_lt}
use Rattle.std.proofs.lemmas.List.{append_assoc, length-map, length-take-le, map-append, take-append-le, take-map}
use Rattle.std.proofs.lemmas.List.Elements.{Contains-append_cases, Contains-append_left, Contains-append_right}
use Rattle.std.proofs.lemmas.List.Sums.{fold-append, sum_by-append, sum_by-cons}
use Rattle.std.proofs.lemmas.Option.{slice_get-map, slice_get_within}
use Rattle.list_lemmas.proofs.Appending.{take-behind}
use Rattle.list_lemmas.proofs.Gets.{get-front, get-behind}
use Rattle.list_lemmas.proofs.Elements.{contains_at, Contains-flat_map_cases}
use Rattle.list_lemmas.proofs.Each.{all-contained, All-left}
use Rattle.nest_tree.specs.Layout.{first_cell}
use Rattle.nest_tree.specs.Tree.{Tree, param_values}
use Rattle.nest_tree.specs.WellFormed.{IsWellFormed}
use Rattle.nest_model.specs.Accesses.{loads_of}
use Rattle.nest_model.specs.Instances.{Instance, instances}
use Rattle.nest_model.specs.Memory.{cell_value, first_memory, memory_after, memory_before}
use Rattle.nest_model.specs.Ranges.{IsInRange}
use Rattle.nest_model.specs.Visits.{Visit}
use Rattle.owner_partition.specs.Phases.{Execution, executions, executions_from, visit_instances, phases}
use Rattle.owner_partition.proofs.Instances.{all_executed}
use Rattle.sync_plan.specs.declared.plan.Plan.{Plan}
use Rattle.sync_plan.specs.Fit.{IsFit}
use Rattle.sync_plan.specs.Own.{Own, own_cell, own_loop, own_of}
use Rattle.sync_plan.specs.Stored.{AreStoredFirst}
use Rattle.spmd_model.specs.Closings.{closings_of, has_stored, keeping, keeping_of, last_owner, phase_owner, total_of, totalling, totalling_of}
use Rattle.spmd_model.specs.OwnPhases.{IsGoodLoad, behind_job, own_job}
use Rattle.spmd_model.specs.Planned.{boundary_of}
use Rattle.spmd_model.specs.Rounds.{round_boundary, rounds_in, rounds_of}
use Rattle.spmd_model.specs.Sequential.{memory_at, memory_behind}
use Rattle.spmd_model.specs.Machines.{Part, boundaries_by, cells_under, instance_jobs, instances_in, instances_in_front, is_by_signals, job_under, machine_by, moments_of, part_of, part_place, parts_by, parts_from, signal_barriers, timeline_by}
use Rattle.spmd_model.specs.Timelines.{Job, Moment, job}
use Rattle.spmd_model.specs.Trips.{last_behind}
use Rattle.spmd_model.specs.declared.style.Style.{Style}
use Rattle.spmd_model.proofs.OwnClosings.{own_apart}
use Rattle.spmd_model.proofs.OwnPhases.{load_gives}
use Rattle.spmd_model.proofs.OwnRuns.{AreGoodJobs, IsGoodJob, no_store, to_shared, to_private, to_sum, along, assigned_behind}
use Rattle.spmd_model.proofs.OwnTexts.{own_in_phase}
use Rattle.spmd_model.proofs.Parts.{part_at, part_length, passed_before}
use Rattle.spmd_model.proofs.PhaseJobs.{all_fine, phase_good}
use Rattle.spmd_model.proofs.PhaseMemory.{at_first}
use Rattle.spmd_model.proofs.PlannedMemory.{job_behind}
use Rattle.spmd_model.proofs.Stands.{execution_place, execution_there, in_phase}
use Rattle.spmd_model.proofs.MachineMemory.{AreWithin, at_start, fold_front, fold_jobs, fold_own, fold_plain, has_along, jobs_within, map_map, phases_follow, plain_within, stripped, within_front}
use Rattle.spmd_model.proofs.MachinePlaces.{IsJobIn, front_length, job_in}
use Rattle.spmd_model.proofs.TripJobs.{IsFineIn, job_in_phase}

-- ---- fronts of lists

take_part : (ps : List Part) (k s : ℕ) (p : Part) → slice_get ps k ≡ Some p → s ≤ length (moments_of p) → take (part_place ps k + s) (flat_map moments_of ps) ≡ flat_map moments_of (take k ps) ++ take s (moments_of p)
take_part [] k s p at le = let clash : None ≡ Some p = at in absurd (cc)
take_part (q ∷ ps) zero s p at le =
    let same : Some q ≡ Some p = at in
    let is : q ≡ p = cc in
    let first : part_place (q ∷ ps) 0 + s ≡ s = omega arith in
    ap (λ n. take n (moments_of q ++ flat_map moments_of ps)) first ∙ take-append-le s (moments_of q) (flat_map moments_of ps) (omega (arith, le, ap (λ x. length (moments_of x)) is)) ∙ ap (λ x. take s (moments_of x)) is
take_part (q ∷ ps) (suc k) s p at le =
    let count : part_place (q ∷ ps) (suc k) + s ≡ length (moments_of q) + (part_place ps k + s) = omega (arith, length-append (moments_of q) (flat_map moments_of (take k ps))) in
    ap (λ n. take n (moments_of q ++ flat_map moments_of ps)) count ∙ take-behind (moments_of q) (flat_map moments_of ps) (part_place ps k + s)
    ∙ ap (λ l. moments_of q ++ l) (take_part ps k s p at le) ∙ sym (append_assoc (moments_of q) (flat_map moments_of (take k ps)) (take s (moments_of p)))

pub parts_take : (style : Style) (tree : Tree) (plan : Plan) (e passed : ℕ) (vs : List Visit) (k : ℕ) → take k (parts_from style tree plan e passed vs) ≡ parts_from style tree plan e passed (take k vs)
parts_take style tree plan e passed vs zero = refl
parts_take style tree plan e passed [] (suc k) = refl
parts_take style tree plan e passed (v ∷ vs) (suc k) = ap (λ l. part_of style tree plan e passed v ∷ l) (parts_take style tree plan (suc e) (passed + signal_barriers style plan v) vs k)

abbrev instances_along : List ℤ → ℕ → List Visit → List Instance
instances_along params e vs = map (λ (x : Execution). x.instance) (executions_from params e vs)

along_cons : (params : List ℤ) (e : ℕ) (v : Visit) (vs : List Visit) → instances_along params e (v ∷ vs) ≡ visit_instances params v ++ instances_along params (suc e) vs
along_cons params e v vs =
    map-append (λ (x : Execution). x.instance) (map (λ i. record { phase = e; place = v.place; instance = i }) (visit_instances params v)) (executions_from params (suc e) vs)
    ∙ ap (λ l. l ++ instances_along params (suc e) vs) (stripped e v.place (visit_instances params v))

take_instances : (params : List ℤ) (e : ℕ) (vs : List Visit) (k n : ℕ) (v : Visit) → slice_get vs k ≡ Some v → n ≤ length (visit_instances params v) →
    take (execution_place params vs k + n) (instances_along params e vs) ≡ instances_along params e (take k vs) ++ take n (visit_instances params v)
take_instances params e [] k n v at le = let clash : None ≡ Some v = at in absurd (cc)
take_instances params e (w ∷ vs) zero n v at le =
    let same : Some w ≡ Some v = at in
    let is : w ≡ v = cc in
    let first : execution_place params (w ∷ vs) 0 + n ≡ n = omega arith in
    ap (take (execution_place params (w ∷ vs) 0 + n)) (along_cons params e w vs) ∙ ap (λ m. take m (visit_instances params w ++ instances_along params (suc e) vs)) first
    ∙ take-append-le n (visit_instances params w) (instances_along params (suc e) vs) (omega (arith, le, ap (λ x. length (visit_instances params x)) is)) ∙ ap (λ x. take n (visit_instances params x)) is
take_instances params e (w ∷ vs) (suc k) n v at le =
    let count : execution_place params (w ∷ vs) (suc k) + n ≡ length (visit_instances params w) + (execution_place params vs k + n) = omega arith in
    ap (take (execution_place params (w ∷ vs) (suc k) + n)) (along_cons params e w vs) ∙ ap (λ m. take m (visit_instances params w ++ instances_along params (suc e) vs)) count
    ∙ take-behind (visit_instances params w) (instances_along params (suc e) vs) (execution_place params vs k + n)
    ∙ ap (λ l. visit_instances params w ++ l) (take_instances params (suc e) vs k n v at le)
    ∙ sym (append_assoc (visit_instances params w) (instances_along params (suc e) (take k vs)) (take n (visit_instances params v)))
    ∙ ap (λ l. l ++ take n (visit_instances params v)) (sym (along_cons params e w (take k vs)))

take_there : {X : Type 0} (xs : List X) (k n : ℕ) (x : X) → slice_get (take k xs) n ≡ Some x → slice_get xs n ≡ Some x
take_there xs zero n x at = let clash : None ≡ Some x = at in absurd (cc)
take_there [] (suc k) n x at = at
take_there (y ∷ xs) (suc k) zero x at = at
take_there (y ∷ xs) (suc k) (suc n) x at = take_there xs k n x at

split_there : {X : Type 0} (xs : List X) (n : ℕ) (x : X) → slice_get xs n ≡ Some x → (after : List X) × (xs ≡ take n xs ++ x ∷ after)
split_there [] n x at = let clash : None ≡ Some x = at in absurd (cc)
split_there (y ∷ xs) zero x at = let same : Some y ≡ Some x = at in let is : y ≡ x = cc in (xs, ap (λ z. z ∷ xs) is)
split_there (y ∷ xs) (suc n) x at = let r = split_there xs n x at in (r.0, ap (λ l. y ∷ l) r.1)

good_split : (o : Own) (last : ℕ → Option ℕ) (xs : List Job) (y : Job) (ys : List Job) → AreGoodJobs o last (xs ++ y ∷ ys) → AreGoodJobs o last xs × IsGoodJob o (fold (last_behind o) last xs) y
good_split o last [] y ys good = (tt, good.0)
good_split o last (x ∷ xs) y ys good = let rest = good_split o (last_behind o last x) xs y ys good.3 in ((good.0, good.1, good.2, rest.0), rest.1)

-- ---- what a load gives

-- a load of no sum scalar is a good one
load_of_good : (o : Own) (last : ℕ → Option ℕ) (j : Job) (c : ℕ) → IsGoodJob o last j → Contains j.loads c → o.is_sum c ≡ false → IsGoodLoad o last j.owner c
load_of_good o last j c (no_store good store) among plain = all-contained (IsGoodLoad o last j.owner) j.loads c good among
load_of_good o last j c (to_shared good d store inside free) among plain = all-contained (IsGoodLoad o last j.owner) j.loads c good among
load_of_good o last j c (to_private good d k store inside slot private) among plain = all-contained (IsGoodLoad o last j.owner) j.loads c good among
load_of_good o last j c (to_sum d k s good) among plain = elim (Contains-append_cases s.front (d ∷ s.rest) c (subst (λ l. Contains l c) s.loads among)) [
  | inl here ↦ all-contained (IsGoodLoad o last j.owner) (s.front ++ s.rest) c good (Contains-append_left s.front s.rest c here)
  | inr later ↦ by later
]
  where
    by : Contains (d ∷ s.rest) c → IsGoodLoad o last j.owner c
    by (zero, lt, e) = absurd (true≢false (sym s.sum ∙ ap o.is_sum e ∙ plain))
    by (suc n, lt, e) = all-contained (IsGoodLoad o last j.owner) (s.front ++ s.rest) c good (Contains-append_right s.front s.rest c (n, omega (arith, lt), e))

-- ---- an instance on the timeline

-- a job that counts as an instance is one of the program, whose number is that of the instances in front; each of its loads but of a sum scalar gives what the program has there
pub record IsInstanceIn (style : Style) (tree : Tree) (plan : Plan) (place : ℕ) (j : Job) : Type 0 where
  pub execution : Execution
  pub is : j ≡ job_under tree plan execution
  pub at : slice_get (instances tree) (instances_in_front style tree plan place) ≡ Some execution.instance
  pub gives : (c : ℕ) → Contains (loads_of tree execution.instance) c → (own_of tree plan execution.place).is_sum c ≡ false →
      cell_value (memory_at (machine_by style tree plan) place) (own_cell (own_of tree plan execution.place) j.owner c) ≡ cell_value (memory_before tree (instances_in_front style tree plan place)) c

-- closings count as none
closing_counts : (tree : Tree) (plan : Plan) (v : Visit) (j : Job) → Contains (closings_of tree plan v) j → j.counts ≡ 0
closing_counts tree plan v j among = elim (Contains-append_cases (flat_map (keeping_of tree plan v) (own_loop tree plan v.place).privates) (flat_map (totalling_of tree plan v) (own_loop tree plan v.place).sums) j among) [
  | inl kept ↦ let u = Contains-flat_map_cases (keeping_of tree plan v) (own_loop tree plan v.place).privates j kept in keeps u.0 (last_owner tree plan v) u.2
  | inr summed ↦
      let u = Contains-flat_map_cases (totalling_of tree plan v) (own_loop tree plan v.place).sums j summed in
      let p = Contains-flat_map_cases (total_of tree plan v u.0) (range_with_len 0 plan.workers) j u.2 in
      adds u.0 p.0 (has_stored tree plan v (first_cell tree u.0) p.0) p.2
]
  where
    keeps : (u : ℕ) (w : Option ℕ) → Contains (keeping (own_of tree plan v.place) (first_cell tree u) w) j → j.counts ≡ 0
    keeps u None (n, less, e) = absurd (omega (arith, less))
    keeps u (Some q) (zero, less, e) = ap (λ (i : Job). i.counts) (sym e)
    keeps u (Some q) (suc n, less, e) = absurd (omega (arith, less))

    adds : (u p : ℕ) (b : Bool) → Contains (totalling (own_of tree plan v.place) (first_cell tree u) p b) j → j.counts ≡ 0
    adds u p false (n, less, e) = absurd (omega (arith, less))
    adds u p true (zero, less, e) = ap (λ (i : Job). i.counts) (sym e)
    adds u p true (suc zero, less, e) = ap (λ (i : Job). i.counts) (sym e)
    adds u p true (suc (suc n), less, e) = absurd (omega (arith, less))

-- ---- how many instances stand in front

count_jobs : (js : List Job) → sum_by instances_in (map job js) ≡ sum_by (λ (j : Job). j.counts) js
count_jobs [] = refl
count_jobs (j ∷ js) =
    let a = sum_by-cons instances_in (job j) (map job js) in
    let b = sum_by-cons (λ (i : Job). i.counts) j js in
    omega (arith, a, b, count_jobs js)

count_instances : (tree : Tree) (plan : Plan) (e : ℕ) (v : Visit) (is : List Instance) → sum_by (λ (j : Job). j.counts) (map (λ i. job_under tree plan (in_phase e v i)) is) ≡ length is
count_instances tree plan e v [] = refl
count_instances tree plan e v (i ∷ is) =
    let a = sum_by-cons (λ (j : Job). j.counts) (job_under tree plan (in_phase e v i)) (map (λ x. job_under tree plan (in_phase e v x)) is) in
    omega (arith, a, count_instances tree plan e v is)

count_none : (js : List Job) → ((j : Job) → Contains js j → j.counts ≡ 0) → sum_by (λ (j : Job). j.counts) js ≡ 0
count_none [] h = refl
count_none (j ∷ js) h =
    let a = sum_by-cons (λ (i : Job). i.counts) j js in
    omega (arith, a, h j (0, omega arith, refl), count_none js (λ i among. h i (suc among.0, omega (arith, among.1), among.2)))

count_rounds : (workers first : ℕ) (rs : List ℕ) → sum_by instances_in (map (round_boundary workers first) rs) ≡ 0
count_rounds workers first [] = refl
count_rounds workers first (r ∷ rs) =
    let a = sum_by-cons instances_in (round_boundary workers first r) (map (round_boundary workers first) rs) in
    omega (arith, a, count_rounds workers first rs)

count_front : (style : Style) (tree : Tree) (plan : Plan) (e passed : ℕ) (v : Visit) → sum_by instances_in (boundaries_by style tree plan e passed v) ≡ 0
count_front style tree plan e passed v = by (is_by_signals style plan v)
  where
    by : (b : Bool) → sum_by instances_in (if b then rounds_in plan.workers (passed * rounds_of plan.workers + 1) (rounds_of plan.workers) else boundary_of tree plan e v ∷ []) ≡ 0
    by true = count_rounds plan.workers (passed * rounds_of plan.workers + 1) (range_with_len 0 (rounds_of plan.workers))
    by false = refl

count_part : (style : Style) (tree : Tree) (plan : Plan) (e passed : ℕ) (v : Visit) → sum_by instances_in (moments_of (part_of style tree plan e passed v)) ≡ length (visit_instances (param_values tree) v)
count_part style tree plan e passed v =
    let front = boundaries_by style tree plan e passed v in
    let jobs = instance_jobs tree plan e v in
    let closings = closings_of tree plan v in
    let a = sum_by-append instances_in front (map job (jobs ++ closings)) in
    let b = count_jobs (jobs ++ closings) in
    let c = sum_by-append (λ (j : Job). j.counts) jobs closings in
    omega (arith, a, b, c, count_front style tree plan e passed v, count_instances tree plan e v (visit_instances (param_values tree) v), count_none closings (closing_counts tree plan v))

count_parts : (style : Style) (tree : Tree) (plan : Plan) (e passed : ℕ) (vs : List Visit) (k : ℕ) → sum_by instances_in (flat_map moments_of (take k (parts_from style tree plan e passed vs))) ≡ execution_place (param_values tree) vs k
count_parts style tree plan e passed vs zero = refl
count_parts style tree plan e passed [] (suc k) = refl
count_parts style tree plan e passed (v ∷ vs) (suc k) =
    let later = flat_map moments_of (take k (parts_from style tree plan (suc e) (passed + signal_barriers style plan v) vs)) in
    let a = sum_by-append instances_in (moments_of (part_of style tree plan e passed v)) later in
    omega (arith, a, count_part style tree plan e passed v, count_parts style tree plan (suc e) (passed + signal_barriers style plan v) vs k)

module _ (style : Style) (tree : Tree) (plan : Plan) (formed : IsWellFormed tree) (fits : IsFit tree plan) (ranges : IsInRange tree) (stored : AreStoredFirst tree plan) where
  -- at an instance of a phase, by its number there
  module _ (k n : ℕ) (v : Visit) (i : Instance) (at : slice_get (phases tree plan.cut.marks) k ≡ Some v) (there : slice_get (visit_instances (param_values tree) v) n ≡ Some i) where
    abbrev passed : ℕ
    passed = 0 + passed_before style plan (phases tree plan.cut.marks) k

    abbrev front : List Moment
    front = boundaries_by style tree plan (1 + k) passed v

    abbrev own : Own
    own = own_of tree plan v.place

    abbrev plain : Instance → Job
    plain = job_in_phase tree plan (1 + k) v formed (own_in_phase tree plan k v formed fits at)

    abbrev before : List Instance
    before = take n (visit_instances (param_values tree) v)

    abbrev place : ℕ
    place = part_place (parts_by style tree plan) k + (length front + n)

    within : n ≤ length (visit_instances (param_values tree) v)
    within = let lt = slice_get_within (visit_instances (param_values tree) v) n i there in omega (arith, lt)

    -- what stands in front of it
    in_front_of : take place (timeline_by style tree plan) ≡ flat_map moments_of (parts_from style tree plan 1 0 (take k (phases tree plan.cut.marks))) ++ (front ++ map job (map (λ x. own_job own (plain x)) before))
    in_front_of =
        let vs = phases tree plan.cut.marks in
        let part = part_of style tree plan (1 + k) passed v in
        let jobs = instance_jobs tree plan (1 + k) v in
        let closings = closings_of tree plan v in
        let as_many : length jobs ≡ length (visit_instances (param_values tree) v) = length-map (visit_instances (param_values tree) v) (λ x. job_under tree plan (in_phase (1 + k) v x)) in
        let fits_in : length front + n ≤ length (moments_of part) = omega (arith, part_length part, length-append jobs closings, as_many, within) in
        take_part (parts_by style tree plan) k (length front + n) part (part_at style tree plan 1 0 vs k v at) fits_in
        ∙ ap (λ l. flat_map moments_of l ++ take (length front + n) (moments_of part)) (parts_take style tree plan 1 0 vs k)
        ∙ ap (λ l. flat_map moments_of (parts_from style tree plan 1 0 (take k vs)) ++ l)
        (take-behind front (map job (jobs ++ closings)) n ∙ ap (λ l. front ++ l)
        (take-map job n (jobs ++ closings) ∙ ap (map job) (take-append-le n jobs closings (omega (arith, as_many, within)) ∙ take-map (λ x. job_under tree plan (in_phase (1 + k) v x)) n (visit_instances (param_values tree) v))))

    number_is : instances_in_front style tree plan place ≡ execution_place (param_values tree) (phases tree plan.cut.marks) k + n
    number_is =
        let vs = phases tree plan.cut.marks in
        let early = flat_map moments_of (parts_from style tree plan 1 0 (take k vs)) in
        let jobs = map (λ x. own_job own (plain x)) before in
        let a = ap (sum_by instances_in) in_front_of ∙ sum_by-append instances_in early (front ++ map job jobs) in
        let b = sum_by-append instances_in front (map job jobs) in
        let c = count_parts style tree plan 1 0 vs k in
        let d = ap (λ l. sum_by instances_in (flat_map moments_of l)) (parts_take style tree plan 1 0 vs k) in
        let e = count_jobs jobs in
        let size : length before ≡ n = length-take-le n (visit_instances (param_values tree) v) within in
        omega (arith, a, b, c, d, e, count_front style tree plan (1 + k) passed v, count_instances tree plan (1 + k) v before, size)

    gives_here : (c : ℕ) → Contains (loads_of tree i) c → own.is_sum c ≡ false →
        cell_value (memory_at (machine_by style tree plan) place) (own_cell own (phase_owner tree plan v i.loops) c) ≡ cell_value (memory_before tree (execution_place (param_values tree) (phases tree plan.cut.marks) k + n)) c
    gives_here c among plain_load =
        let vs = phases tree plan.cut.marks in
        let params = param_values tree in
        let is = visit_instances params v in
        let o = own_in_phase tree plan k v formed fits at in
        let early = flat_map moments_of (parts_from style tree plan 1 0 (take k vs)) in
        let first = replicate (cells_under tree plan) (pos 0) in
        let M = fold (memory_after tree) (first_memory tree) (instances_along params 1 (take k vs)) in
        let F = fold memory_behind first early in
        let f = phases_follow style tree plan formed fits ranges stored 0 0 (take k vs) (first_memory tree) first (λ l w h. let same : 0 + l ≡ l = omega arith in ap (slice_get vs) same ∙ take_there vs k l w h) (at_start style tree plan formed fits ranges stored) in
        let split = split_there is n i there in
        let jobs = map plain before in
        let all_good = subst (AreGoodJobs own (λ d. None)) (ap (map plain) split.1 ∙ map-append plain before (i ∷ split.0)) (phase_good tree plan k v formed fits ranges at stored (λ d. None)) in
        let good = good_split own (λ d. None) jobs (plain i) (map plain split.0) all_good in
        let m = cell_value M in
        let g = cell_value F in
        let come = along own (own_apart tree plan v o) m g (λ d. None) (λ d p. false) jobs (at_first tree plan v o m g f.shared f.idle) good.0 in
        let load = load_of_good own (fold (last_behind own) (λ d. None) jobs) (plain i) c good.1 among plain_load in
        let given = load_gives own (own_apart tree plan v o) (fold behind_job m jobs) (fold (λ h j. behind_job h (own_job own j)) g jobs) (fold (last_behind own) (λ d. None) jobs) (fold (assigned_behind own) (λ d p. false) jobs) come (phase_owner tree plan v i.loops) c load in
        let fine = All-left (IsFineIn tree plan v) before (i ∷ split.0) (subst (All (IsFineIn tree plan v)) split.1 (all_fine tree plan k v formed fits ranges at)) in
        let has_plain = has_along M m jobs (λ d. refl) (subst (λ s. AreWithin s jobs) (sym f.size) (plain_within tree plan k v formed fits ranges at before fine)) in
        let own_jobs = map (λ x. own_job own (plain x)) before in
        let all_jobs : instance_jobs tree plan (1 + k) v ≡ own_jobs ++ map (λ x. own_job own (plain x)) (i ∷ split.0) = ap (map (λ x. own_job own (plain x))) split.1 ∙ map-append (λ x. own_job own (plain x)) before (i ∷ split.0) in
        let own_within = within_front (cells_under tree plan) own_jobs (map (λ x. own_job own (plain x)) (i ∷ split.0)) (subst (AreWithin (cells_under tree plan)) all_jobs (within_front (cells_under tree plan) (instance_jobs tree plan (1 + k) v) (closings_of tree plan v) (jobs_within tree plan k v formed fits ranges at))) in
        let has_own = has_along F g own_jobs (λ d. refl) (subst (λ s. AreWithin s own_jobs) (sym f.own_size) own_within) in
        let own_is : fold behind_job g own_jobs ≡ fold (λ h j. behind_job h (own_job own j)) g jobs = ap (fold behind_job g) (sym (map_map (own_job own) plain before)) ∙ fold_own own g jobs in
        let memory_is : memory_at (machine_by style tree plan) place ≡ fold job_behind F own_jobs =
        ap (fold memory_behind first) in_front_of ∙ fold-append memory_behind first early (front ++ map job own_jobs) ∙ fold-append memory_behind F front (map job own_jobs)
        ∙ ap (λ l. fold memory_behind l (map job own_jobs)) (fold_front style tree plan (1 + k) passed v F) ∙ fold_jobs F own_jobs in
        let program_is : memory_before tree (execution_place params vs k + n) ≡ fold job_behind M jobs =
        ap (λ l. fold (memory_after tree) (first_memory tree) (take (execution_place params vs k + n) l)) (sym (all_executed tree plan.cut.marks))
        ∙ ap (fold (memory_after tree) (first_memory tree)) (take_instances params 1 vs k n v at within)
        ∙ fold-append (memory_after tree) (first_memory tree) (instances_along params 1 (take k vs)) before
        ∙ sym (fold_plain tree plan k v formed fits ranges at M before) in
        let cell = own_cell own (phase_owner tree plan v i.loops) c in
        ap (λ l. cell_value l cell) memory_is ∙ has_own cell ∙ ap (λ h. h cell) own_is ∙ given ∙ sym (has_plain c) ∙ sym (ap (λ l. cell_value l c) program_is)

  pub instance_in : (place : ℕ) (j : Job) → slice_get (timeline_by style tree plan) place ≡ Some (job j) → j.counts ≡ 1 → IsInstanceIn style tree plan place j
  instance_in place j at counts =
      let x = job_in style tree plan place j at in
      let jobs = instance_jobs tree plan (1 + x.number) x.visit in
      let closings = closings_of tree plan x.visit in
      elim (cases_lt x.index (length jobs)) [
        | inl inside ↦ by x (slice_get (visit_instances (param_values tree) x.visit) x.index) refl (sym (slice_get-map (λ i. job_under tree plan (in_phase (1 + x.number) x.visit i)) (visit_instances (param_values tree) x.visit) x.index) ∙ sym (get-front jobs closings x.index inside) ∙ x.is)
        | inr past ↦
            let more : length jobs + (x.index - length jobs) ≡ x.index = omega (arith, past) in
            let among = contains_at closings (x.index - length jobs) j (sym (ap (slice_get (jobs ++ closings)) (sym more) ∙ get-behind jobs closings (x.index - length jobs)) ∙ x.is) in
            absurd (omega (arith, counts, closing_counts tree plan x.visit j among))
      ]
    where
      by : (x : IsJobIn style tree plan place j) → (w : Option Instance) → slice_get (visit_instances (param_values tree) x.visit) x.index ≡ w → option_map (λ i. job_under tree plan (in_phase (1 + x.number) x.visit i)) w ≡ Some j → IsInstanceIn style tree plan place j
      by x None there same = let clash : None ≡ Some j = same in absurd (cc)
      by x (Some i) there same =
          let equal : Some (job_under tree plan (in_phase (1 + x.number) x.visit i)) ≡ Some j = same in
          let is_j : job_under tree plan (in_phase (1 + x.number) x.visit i) ≡ j = cc in
          let vs = phases tree plan.cut.marks in
          let spot = part_place (parts_by style tree plan) x.number + (front_length style tree plan (1 + x.number) (0 + passed_before style plan vs x.number) x.visit + x.index) in
          let number = execution_place (param_values tree) vs x.number + x.index in
          let count : instances_in_front style tree plan place ≡ number = ap (instances_in_front style tree plan) x.place ∙ number_is x.number x.index x.visit i x.at there in
          let execution = execution_there (param_values tree) 1 vs x.number x.index x.visit i x.at there in
          record {
            execution = in_phase (1 + x.number) x.visit i;
            is = sym is_j;
            at = ap (slice_get (instances tree)) count ∙ ap (λ l. slice_get l number) (sym (all_executed tree plan.cut.marks)) ∙ slice_get-map (λ (y : Execution). y.instance) (executions tree plan.cut.marks) number ∙ ap (option_map (λ (y : Execution). y.instance)) execution;
            gives = λ c among plain_load.
                ap (λ p. cell_value (memory_at (machine_by style tree plan) p) (own_cell (own_of tree plan x.visit.place) j.owner c)) x.place
                ∙ ap (λ q. cell_value (memory_at (machine_by style tree plan) spot) (own_cell (own_of tree plan x.visit.place) q c)) (ap (λ (h : Job). h.owner) (sym is_j))
                ∙ gives_here x.number x.index x.visit i x.at there c among plain_load
                ∙ sym (ap (λ l. cell_value (memory_before tree l) c) count);
          }

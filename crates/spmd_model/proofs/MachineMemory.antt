-- Along a plan's timeline in either style, shared cells and the output are those of the program.
use Rattle.std.proofs.Common.{◌≡◌, ℕ, zero, suc, ◌+◌, ◌*◌, ◌<◌, ◌≤◌, ℤ, pos, Bool, true, false, List, [], ◌∷◌, ◌++◌, fold, length, map, replicate, take, Option, Some, None, if◌then◌else◌, refl, ap, sym, subst, ◌∙◌, inl, inr, arith}
use Rattle.std.specs.Prelude.{Contains, slice_get}
use Rattle.std.specs.List.{All, AllByRecursion, flat_map, range_with_len}
use Rattle.std.specs.Option.{option_to_list}
use Rattle.std.proofs.lemmas.Bool.{cases_lt}
use Rattle.std.proofs.lemmas.List.{length-replicate, length-set, map-append}
use Rattle.std.proofs.lemmas.List.Elements.{All-contains, All-head, All-tail, Contains-append_right}
use Rattle.std.proofs.lemmas.List.Sums.{fold-append}
use Rattle.nest_tree.specs.Layout.{cell_count}
use Rattle.nest_tree.specs.Tree.{Tree, param_values}
use Rattle.nest_tree.specs.WellFormed.{IsWellFormed}
use Rattle.nest_model.specs.Accesses.{cells_of, loads_of, store_of}
use Rattle.nest_model.specs.Instances.{Instance}
use Rattle.nest_model.specs.Memory.{cell_value, first_memory, memory_after}
use Rattle.nest_model.specs.Memory as Model
use Rattle.nest_model.specs.Ranges.{IsInRange}
use Rattle.nest_model.specs.Visits.{Visit}
use Rattle.owner_partition.specs.Phases.{Execution, executions_from, visit_instances, phases}
use Rattle.owner_partition.proofs.Instances.{all_executed}
use Rattle.sync_plan.specs.declared.plan.Plan.{Plan}
use Rattle.sync_plan.specs.Fit.{IsFit}
use Rattle.sync_plan.specs.Own.{Own, own_of}
use Rattle.sync_plan.specs.Stored.{AreStoredFirst}
use Rattle.spmd_model.specs.Cells.{with_change}
use Rattle.spmd_model.specs.Closings.{closings_of}
use Rattle.spmd_model.specs.OwnPhases.{behind_job, own_job}
use Rattle.spmd_model.specs.Planned.{boundary_of}
use Rattle.spmd_model.specs.Rounds.{round_boundary, rounds_in, rounds_of}
use Rattle.spmd_model.specs.Sequential.{memory_at_end, memory_behind}
use Rattle.spmd_model.specs.Machines.{boundaries_by, cells_under, instance_jobs, is_by_signals, machine_by, moments_of, part_of, parts_from, signal_barriers}
use Rattle.spmd_model.specs.Timelines.{Job, job}
use Rattle.spmd_model.specs.declared.style.Style.{Style}
use Rattle.spmd_model.proofs.CellsThere.{cells_there}
use Rattle.spmd_model.proofs.OwnRuns.{Has, has_behind}
use Rattle.spmd_model.proofs.OwnTexts.{own_in_phase}
use Rattle.spmd_model.proofs.PhaseEnds.{idle_behind, shared_behind}
use Rattle.spmd_model.proofs.PhaseJobs.{all_fine}
use Rattle.spmd_model.proofs.PhaseMemory.{IsIdle}
use Rattle.spmd_model.proofs.PlannedMemory.{behind_instance, job_behind}
use Rattle.spmd_model.proofs.Stands.{in_phase, job_owned}
use Rattle.spmd_model.proofs.TripJobs.{IsFineIn, job_in_phase}

-- ---- lists of jobs on lists of cells

pub length_behind : (memory : List ℤ) (j : Job) → length (job_behind memory j) ≡ length memory
length_behind memory j = by j.store
  where
    by : (s : Option ℕ) → length (with_change memory s j.adds (j.assigned (map (cell_value memory) j.loads))) ≡ length memory
    by None = refl
    by (Some c) = length-set memory c _

length_along : (memory : List ℤ) (js : List Job) → length (fold job_behind memory js) ≡ length memory
length_along memory [] = refl
length_along memory (j ∷ js) = length_along (job_behind memory j) js ∙ length_behind memory j

-- each cell that a job changes is among so many
abbrev pub AreWithin : ℕ → List Job → Type 0
AreWithin n js = AllByRecursion (λ (j : Job). (c : ℕ) → j.store ≡ Some c → c < n) js

pub has_along : (memory : List ℤ) (f : ℕ → ℤ) (js : List Job) → Has memory f → AreWithin (length memory) js → Has (fold job_behind memory js) (fold behind_job f js)
has_along memory f [] has within = has
has_along memory f (j ∷ js) has within =
    has_along (job_behind memory j) (behind_job f j) js (has_behind memory f j has within.0) (subst (λ n. AreWithin n js) (sym (length_behind memory j)) within.1)

within_behind : (n : ℕ) (is js : List Job) → AreWithin n is → AreWithin n js → AreWithin n (is ++ js)
within_behind n [] js a b = b
within_behind n (i ∷ is) js a b = (a.0, within_behind n is js a.1 b)

pub within_front : (n : ℕ) (is js : List Job) → AreWithin n (is ++ js) → AreWithin n is
within_front n [] js a = tt
within_front n (i ∷ is) js a = (a.0, within_front n is js a.1)

within_back : (n : ℕ) (is js : List Job) → AreWithin n (is ++ js) → AreWithin n js
within_back n [] js a = a
within_back n (i ∷ is) js a = within_back n is js a.1

within_all : (n : ℕ) (js : List Job) → ((k : ℕ) (j : Job) (c : ℕ) → slice_get js k ≡ Some j → j.store ≡ Some c → c < n) → AreWithin n js
within_all n [] h = tt
within_all n (j ∷ js) h = (λ c. h 0 j c refl, within_all n js (λ k i c at. h (suc k) i c at))

pub fold_own : (o : Own) (f : ℕ → ℤ) (js : List Job) → fold behind_job f (map (own_job o) js) ≡ fold (λ g j. behind_job g (own_job o j)) f js
fold_own o f [] = refl
fold_own o f (j ∷ js) = fold_own o (behind_job f (own_job o j)) js

pub map_map : {X Y Z : Type 0} (g : Y → Z) (h : X → Y) (xs : List X) → map g (map h xs) ≡ map (λ x. g (h x)) xs
map_map g h [] = refl
map_map g h (x ∷ xs) = ap (λ l. g (h x) ∷ l) (map_map g h xs)

-- ---- moments

pub fold_jobs : (memory : List ℤ) (js : List Job) → fold memory_behind memory (map job js) ≡ fold job_behind memory js
fold_jobs memory [] = refl
fold_jobs memory (j ∷ js) = fold_jobs (job_behind memory j) js

fold_rounds : (memory : List ℤ) (workers first : ℕ) (rs : List ℕ) → fold memory_behind memory (map (round_boundary workers first) rs) ≡ memory
fold_rounds memory workers first [] = refl
fold_rounds memory workers first (r ∷ rs) = fold_rounds memory workers first rs

pub fold_front : (style : Style) (tree : Tree) (plan : Plan) (e passed : ℕ) (v : Visit) (memory : List ℤ) → fold memory_behind memory (boundaries_by style tree plan e passed v) ≡ memory
fold_front style tree plan e passed v memory = by (is_by_signals style plan v)
  where
    by : (b : Bool) → fold memory_behind memory (if b then rounds_in plan.workers (passed * rounds_of plan.workers + 1) (rounds_of plan.workers) else boundary_of tree plan e v ∷ []) ≡ memory
    by true = fold_rounds memory plan.workers (passed * rounds_of plan.workers + 1) (range_with_len 0 (rounds_of plan.workers))
    by false = refl

fold_part : (style : Style) (tree : Tree) (plan : Plan) (e passed : ℕ) (v : Visit) (memory : List ℤ) →
    fold memory_behind memory (moments_of (part_of style tree plan e passed v)) ≡ fold job_behind memory (instance_jobs tree plan e v ++ closings_of tree plan v)
fold_part style tree plan e passed v memory =
    fold-append memory_behind memory (boundaries_by style tree plan e passed v) (map job (instance_jobs tree plan e v ++ closings_of tree plan v))
    ∙ ap (λ l. fold memory_behind l (map job (instance_jobs tree plan e v ++ closings_of tree plan v))) (fold_front style tree plan e passed v memory)
    ∙ fold_jobs memory (instance_jobs tree plan e v ++ closings_of tree plan v)

-- ---- a phase

-- memory with own cells has the shared cells of a memory, and no processor has anything left of a sum scalar
pub record Follows (tree : Tree) (plan : Plan) (memory with_own : List ℤ) : Type 0 where
  pub size : length memory ≡ cell_count tree
  pub own_size : length with_own ≡ cells_under tree plan
  pub shared : (c : ℕ) → c < cell_count tree → cell_value with_own c ≡ cell_value memory c
  pub idle : IsIdle tree (cell_value with_own)

module _ (tree : Tree) (plan : Plan) (k : ℕ) (v : Visit) (formed : IsWellFormed tree) (fits : IsFit tree plan) (ranges : IsInRange tree) (at : slice_get (phases tree plan.cut.marks) k ≡ Some v) where
  abbrev jobs : List Job
  jobs = instance_jobs tree plan (1 + k) v ++ closings_of tree plan v

  -- each job changes a cell that is there
  pub jobs_within : AreWithin (cells_under tree plan) jobs
  jobs_within = within_all (cells_under tree plan) jobs each
    where
      each : (n : ℕ) (j : Job) (c : ℕ) → slice_get jobs n ≡ Some j → j.store ≡ Some c → c < cells_under tree plan
      each n j c there stores =
          let owned = job_owned tree plan k v formed fits at n j there in
          elim (cases_lt c (cell_count tree)) [
            | inl below ↦ omega (arith, below)
            | inr past ↦ let own = owned.own ranges c (inr stores) past in omega (arith, own.1, own.2, owned.worker)
          ]

  abbrev job_of_instance : Instance → Job
  job_of_instance = job_in_phase tree plan (1 + k) v formed (own_in_phase tree plan k v formed fits at)

  pub plain_within : (is : List Instance) → All (IsFineIn tree plan v) is → AreWithin (cell_count tree) (map job_of_instance is)
  plain_within [] fine = tt
  plain_within (i ∷ is) fine =
      let f = All-head (IsFineIn tree plan v) i is fine in (
        λ c stores. All-contains (λ d. d < cell_count tree) (cells_of tree i) c (cells_there tree i formed f.good f.inside) (Contains-append_right (loads_of tree i) (option_to_list (store_of tree i)) c (subst (λ s. Contains (option_to_list s) c) (sym stores) (0, omega arith, refl))),
        plain_within is (All-tail (IsFineIn tree plan v) i is fine),
      )

  pub fold_plain : (memory : List ℤ) (is : List Instance) → fold job_behind memory (map job_of_instance is) ≡ fold (memory_after tree) memory is
  fold_plain memory [] = refl
  fold_plain memory (i ∷ is) =
      ap (λ l. fold job_behind l (map job_of_instance is)) (behind_instance tree plan memory (in_phase (1 + k) v i)) ∙ fold_plain (memory_after tree memory i) is

  -- memory behind a phase follows the program's behind its instances
  pub phase_follows : (stored : AreStoredFirst tree plan) (style : Style) (passed : ℕ) (memory with_own : List ℤ) → Follows tree plan memory with_own →
      Follows tree plan (fold (memory_after tree) memory (visit_instances (param_values tree) v)) (fold memory_behind with_own (moments_of (part_of style tree plan (1 + k) passed v)))
  phase_follows stored style passed memory with_own f =
      let is = visit_instances (param_values tree) v in
      let own = own_of tree plan v.place in
      let m = cell_value memory in
      let g = cell_value with_own in
      let plain = map job_of_instance is in
      let mapped : instance_jobs tree plan (1 + k) v ≡ map (own_job own) plain = sym (map_map (own_job own) job_of_instance is) in
      let fine = all_fine tree plan k v formed fits ranges at in
      let within = subst (λ n. AreWithin n jobs) (sym f.own_size) jobs_within in
      let has_plain : Has (fold job_behind memory plain) (fold behind_job m plain) = has_along memory m plain (λ c. refl) (subst (λ n. AreWithin n plain) (sym f.size) (plain_within is fine)) in
      let has_own : Has (fold job_behind with_own jobs) (fold behind_job g jobs) = has_along with_own g jobs (λ c. refl) within in
      let along : fold behind_job g jobs ≡ fold behind_job (fold (λ h j. behind_job h (own_job own j)) g plain) (closings_of tree plan v) =
      fold-append behind_job g (instance_jobs tree plan (1 + k) v) (closings_of tree plan v) ∙ ap (λ l. fold behind_job (fold behind_job g l) (closings_of tree plan v)) mapped ∙ ap (λ h. fold behind_job h (closings_of tree plan v)) (fold_own own g plain) in
      let after = fold_part style tree plan (1 + k) passed v with_own in
      let value = λ (c : ℕ). ap (λ l. cell_value l c) after ∙ has_own c ∙ ap (λ h. h c) along in
      record {
        size = ap length (sym (fold_plain memory is)) ∙ length_along memory plain ∙ f.size;
        own_size = ap length after ∙ length_along with_own jobs ∙ f.own_size;
        shared = λ c lt. value c ∙ shared_behind tree plan k v formed fits ranges at stored m g f.shared f.idle c lt ∙ sym (has_plain c) ∙ ap (λ l. cell_value l c) (fold_plain memory is);
        idle = λ p n le lt. value (cell_count tree + (32 * p + n)) ∙ idle_behind tree plan k v formed fits ranges at stored m g f.shared f.idle p n le lt;
      }

-- ---- all phases

pub stripped : (e place : ℕ) (is : List Instance) → map (λ (x : Execution). x.instance) (map (λ i. record { phase = e; place = place; instance = i }) is) ≡ is
stripped e place [] = refl
stripped e place (i ∷ is) = ap (λ l. i ∷ l) (stripped e place is)

module _ (style : Style) (tree : Tree) (plan : Plan) (formed : IsWellFormed tree) (fits : IsFit tree plan) (ranges : IsInRange tree) (stored : AreStoredFirst tree plan) where
  pub phases_follow : (k passed : ℕ) (vs : List Visit) (memory with_own : List ℤ) → ((n : ℕ) (w : Visit) → slice_get vs n ≡ Some w → slice_get (phases tree plan.cut.marks) (k + n) ≡ Some w) → Follows tree plan memory with_own →
      Follows tree plan (fold (memory_after tree) memory (map (λ (x : Execution). x.instance) (executions_from (param_values tree) (1 + k) vs))) (fold memory_behind with_own (flat_map moments_of (parts_from style tree plan (1 + k) passed vs)))
  phases_follow k passed [] memory with_own there f = f
  phases_follow k passed (v ∷ vs) memory with_own there f =
      let params = param_values tree in
      let here : k + 0 ≡ k = omega arith in
      let at = ap (slice_get (phases tree plan.cut.marks)) (sym here) ∙ there 0 v refl in
      let next : suc (1 + k) ≡ 1 + suc k = omega arith in
      let is = visit_instances params v in
      let executed = map (λ i. record { phase = 1 + k; place = v.place; instance = i }) is in
      let later = executions_from params (suc (1 + k)) vs in
      let part = moments_of (part_of style tree plan (1 + k) passed v) in
      let rest = flat_map moments_of (parts_from style tree plan (suc (1 + k)) (passed + signal_barriers style plan v) vs) in
      let one = phase_follows tree plan k v formed fits ranges at stored style passed memory with_own f in
      let all = phases_follow (suc k) (passed + signal_barriers style plan v) vs (fold (memory_after tree) memory is) (fold memory_behind with_own part)
      (λ n w at_w. let more : k + suc n ≡ suc k + n = omega arith in ap (slice_get (phases tree plan.cut.marks)) (sym more) ∙ there (suc n) w at_w) one in
      let moved = subst (λ e. Follows tree plan (fold (memory_after tree) (fold (memory_after tree) memory is) (map (λ (x : Execution). x.instance) (executions_from params e vs))) (fold memory_behind (fold memory_behind with_own part) (flat_map moments_of (parts_from style tree plan e (passed + signal_barriers style plan v) vs)))) (sym next) all in
      let left : fold (memory_after tree) memory (map (λ (x : Execution). x.instance) (executed ++ later)) ≡ fold (memory_after tree) (fold (memory_after tree) memory is) (map (λ (x : Execution). x.instance) later) =
      ap (fold (memory_after tree) memory) (map-append (λ (x : Execution). x.instance) executed later) ∙ fold-append (memory_after tree) memory (map (λ (x : Execution). x.instance) executed) (map (λ (x : Execution). x.instance) later)
      ∙ ap (λ l. fold (memory_after tree) (fold (memory_after tree) memory l) (map (λ (x : Execution). x.instance) later)) (stripped (1 + k) v.place is) in
      subst (λ a. Follows tree plan a (fold memory_behind with_own (part ++ rest))) (sym left) (subst (λ b. Follows tree plan (fold (memory_after tree) (fold (memory_after tree) memory is) (map (λ (x : Execution). x.instance) later)) b) (sym (fold-append memory_behind with_own part rest)) moved)

  -- at first all cells are 0
  pub at_start : Follows tree plan (first_memory tree) (replicate (cells_under tree plan) (pos 0))
  at_start = record {
    size = length-replicate (cell_count tree) (pos 0);
    own_size = length-replicate (cells_under tree plan) (pos 0);
    shared = λ c lt. zeros (cells_under tree plan) c ∙ sym (zeros (cell_count tree) c);
    idle = λ p n le lt. zeros (cells_under tree plan) (cell_count tree + (32 * p + n));
  }
    where
      zeros : (n c : ℕ) → cell_value (replicate n (pos 0)) c ≡ pos 0
      zeros zero c = refl
      zeros (suc n) zero = refl
      zeros (suc n) (suc c) = zeros n c

  -- the shared cells of the last memory are those of the program's
  pub last_follows : Follows tree plan (Model.last_memory tree) (memory_at_end (machine_by style tree plan))
  last_follows =
      let all = phases_follow 0 0 (phases tree plan.cut.marks) (first_memory tree) (replicate (cells_under tree plan) (pos 0)) (λ n w at. let same : 0 + n ≡ n = omega arith in ap (slice_get (phases tree plan.cut.marks)) same ∙ at) at_start in
      subst (λ is. Follows tree plan (fold (memory_after tree) (first_memory tree) is) (memory_at_end (machine_by style tree plan))) (all_executed tree plan.cut.marks) all

-- lists with the same cells
same_cells : (n : ℕ) (xs ys : List ℤ) → length ys ≡ n → n ≤ length xs → ((c : ℕ) → c < n → cell_value xs c ≡ cell_value ys c) → take n xs ≡ ys
same_cells zero xs [] size long same = refl
same_cells zero xs (y ∷ ys) size long same = absurd (omega (arith, size))
same_cells (suc n) xs [] size long same = absurd (omega (arith, size))
same_cells (suc n) [] (y ∷ ys) size long same = absurd (omega (arith, long))
same_cells (suc n) (x ∷ xs) (y ∷ ys) size long same = ap (λ z. z ∷ take n xs) (same 0 (omega arith)) ∙ ap (λ l. y ∷ l) (same_cells n xs ys (omega (arith, size)) (omega (arith, long)) (λ c lt. same (suc c) (omega (arith, lt))))

pub shared_last : (style : Style) (tree : Tree) (plan : Plan) → IsWellFormed tree → IsFit tree plan → IsInRange tree → AreStoredFirst tree plan → take (cell_count tree) (memory_at_end (machine_by style tree plan)) ≡ Model.last_memory tree
shared_last style tree plan formed fits ranges stored =
    let f = last_follows style tree plan formed fits ranges stored in
    same_cells (cell_count tree) (memory_at_end (machine_by style tree plan)) (Model.last_memory tree) f.size (omega (arith, f.own_size)) f.shared

-- Along a plan's timeline in either style the output is that of the program.
use Rattle.std.proofs.Common.{◌≡◌, ℕ, suc, ◌+◌, ◌*◌, ℤ, pos, Bool, true, false, List, [], ◌∷◌, ◌++◌, fold, length, map, replicate, Option, Some, None, if◌then◌else◌, refl, ap, sym, subst, ◌∙◌, arith}
use Rattle.std.specs.Prelude.{slice_get}
use Rattle.std.specs.List.{AllByRecursion, flat_map, range_with_len}
use Rattle.std.specs.Option.{option_map}
use Rattle.std.proofs.lemmas.List.{append_assoc, append-nil, map-append}
use Rattle.nest_tree.specs.Layout.{cell_count}
use Rattle.nest_tree.specs.Tree.{Work, assign, print, Tree, param_values}
use Rattle.nest_tree.specs.WellFormed.{IsWellFormed}
use Rattle.nest_model.specs.Accesses.{loads_of, store_of, work_store}
use Rattle.nest_model.specs.Instances.{Instance}
use Rattle.nest_model.specs.Memory.{cell_value, first_memory, line_of, loaded_in, memory_after, output_from, output_of, printed_text}
use Rattle.nest_model.specs.Ranges.{IsInRange}
use Rattle.nest_model.specs.Visits.{Visit}
use Rattle.nest_model.proofs.Outputs.{output_from-append}
use Rattle.owner_partition.specs.Phases.{Execution, executions_from, visit_instances, phases}
use Rattle.owner_partition.proofs.Instances.{all_executed}
use Rattle.sync_plan.specs.declared.plan.Plan.{Plan}
use Rattle.sync_plan.specs.Fit.{IsFit}
use Rattle.sync_plan.specs.Own.{Own, own_cell, own_of}
use Rattle.sync_plan.specs.Stored.{AreStoredFirst}
use Rattle.spmd_model.specs.Closings.{closings_of}
use Rattle.spmd_model.specs.OwnPhases.{Come, behind_job, own_job}
use Rattle.spmd_model.specs.Planned.{boundary_of}
use Rattle.spmd_model.specs.Rounds.{round_boundary, rounds_in, rounds_of}
use Rattle.spmd_model.specs.Sequential.{memory_behind, moment_line, output_along, printed_line, whole_output}
use Rattle.spmd_model.specs.Machines.{boundaries_by, cells_under, instance_jobs, is_by_signals, machine_by, moments_of, part_of, parts_from, signal_barriers}
use Rattle.spmd_model.specs.Timelines.{Job, Moment, job}
use Rattle.spmd_model.specs.Trips.{last_behind}
use Rattle.spmd_model.specs.declared.style.Style.{Style}
use Rattle.spmd_model.proofs.OwnClosings.{own_apart}
use Rattle.spmd_model.proofs.OwnPhases.{loads_give}
use Rattle.spmd_model.proofs.OwnRuns.{AreGoodJobs, IsGoodJob, no_store, to_shared, to_private, to_sum, Has, assigned_behind, has_behind, same_values, step}
use Rattle.spmd_model.proofs.OwnTexts.{own_in_phase}
use Rattle.spmd_model.proofs.PhaseEnds.{all_closings}
use Rattle.spmd_model.proofs.PhaseJobs.{all_fine, phase_good}
use Rattle.spmd_model.proofs.PhaseMemory.{IsClosing, changes_shared, sets, at_first}
use Rattle.spmd_model.proofs.PlannedMemory.{behind_instance, job_behind}
use Rattle.spmd_model.proofs.Stands.{in_phase}
use Rattle.spmd_model.proofs.MachineMemory.{AreWithin, Follows, at_start, fold_front, jobs_within, length_behind, phase_follows, plain_within, stripped, within_front}
use Rattle.spmd_model.proofs.TripJobs.{job_in_phase}

-- ---- lists of moments

output-append : (memory : List ℤ) (xs ys : List Moment) → output_along memory (xs ++ ys) ≡ output_along memory xs ++ output_along (fold memory_behind memory xs) ys
output-append memory [] ys = refl
output-append memory (x ∷ xs) ys =
    ap (λ l. moment_line memory x ++ l) (output-append (memory_behind memory x) xs ys)
    ∙ sym (append_assoc (moment_line memory x) (output_along (memory_behind memory x) xs) (output_along (fold memory_behind (memory_behind memory x) xs) ys))

rounds_silent : (memory : List ℤ) (workers first : ℕ) (rs : List ℕ) → output_along memory (map (round_boundary workers first) rs) ≡ []
rounds_silent memory workers first [] = refl
rounds_silent memory workers first (r ∷ rs) = rounds_silent memory workers first rs

front_silent : (style : Style) (tree : Tree) (plan : Plan) (e passed : ℕ) (v : Visit) (memory : List ℤ) → output_along memory (boundaries_by style tree plan e passed v) ≡ []
front_silent style tree plan e passed v memory = by (is_by_signals style plan v)
  where
    by : (b : Bool) → output_along memory (if b then rounds_in plan.workers (passed * rounds_of plan.workers + 1) (rounds_of plan.workers) else boundary_of tree plan e v ∷ []) ≡ []
    by true = rounds_silent memory plan.workers (passed * rounds_of plan.workers + 1) (range_with_len 0 (rounds_of plan.workers))
    by false = refl

closings_silent : (shared : ℕ) (memory : List ℤ) (js : List Job) → AllByRecursion (IsClosing shared) js → output_along memory (map job js) ≡ []
closings_silent shared memory [] all = refl
closings_silent shared memory (j ∷ js) all = ap (λ l. l ++ output_along (memory_behind memory (job j)) (map job js)) (silent all.0) ∙ closings_silent shared (memory_behind memory (job j)) js all.1
  where
    silent : IsClosing shared j → printed_line j j.store (map (cell_value memory) j.loads) ≡ []
    silent (changes_shared c store lt) = ap (λ s. printed_line j s (map (cell_value memory) j.loads)) store
    silent (sets c store plain value) = ap (λ s. printed_line j s (map (cell_value memory) j.loads)) store

-- ---- the instances of a phase

module _ (tree : Tree) (plan : Plan) (k : ℕ) (v : Visit) (formed : IsWellFormed tree) (fits : IsFit tree plan) (ranges : IsInRange tree) (at : slice_get (phases tree plan.cut.marks) k ≡ Some v) where
  abbrev own : Own
  own = own_of tree plan v.place

  abbrev plain : Instance → Job
  plain = job_in_phase tree plan (1 + k) v formed (own_in_phase tree plan k v formed fits at)

  -- what an instance prints
  line_is : (memory with_own : List ℤ) (m f : ℕ → ℤ) (last : ℕ → Option ℕ) (assigned : ℕ → ℕ → Bool) (i : Instance) → Has memory m → Has with_own f → Come own m f last assigned → IsGoodJob own last (plain i) →
      moment_line with_own (job (own_job own (plain i))) ≡ line_of tree i (loaded_in tree memory i)
  line_is memory with_own m f last assigned i has has_own come good = by i.what refl
    where
      given : List ℤ
      given = map (cell_value with_own) (map (own_cell own (plain i).owner) (loads_of tree i))

      stores_one : (a c : ℕ) → Some a ≡ None → ⊥
      stores_one a c e = cc

      by : (w : Work) → i.what ≡ w → printed_line (own_job own (plain i)) (option_map (own_cell own (plain i).owner) (store_of tree i)) (map (cell_value with_own) (map (own_cell own (plain i).owner) (loads_of tree i))) ≡ printed_text tree i.loops i.what (loaded_in tree memory i)
      by (assign a) what =
          ap (λ w. printed_line (own_job own (plain i)) (option_map (own_cell own (plain i).owner) (work_store tree i.loops w)) (map (cell_value with_own) (map (own_cell own (plain i).owner) (loads_of tree i)))) what
          ∙ sym (ap (λ w. printed_text tree i.loops w (loaded_in tree memory i)) what)
      by (print p) what =
          ap (λ w. printed_line (own_job own (plain i)) (option_map (own_cell own (plain i).owner) (work_store tree i.loops w)) (map (cell_value with_own) (map (own_cell own (plain i).owner) (loads_of tree i)))) what
          ∙ ap (line_of tree i) (values good)
        where
          no_store_is : store_of tree i ≡ None
          no_store_is = ap (work_store tree i.loops) what

          values : IsGoodJob own last (plain i) → map (cell_value with_own) (map (own_cell own (plain i).owner) (loads_of tree i)) ≡ map (cell_value memory) (loads_of tree i)
          values (no_store loads none) =
              same_values (cell_value with_own) f has_own (map (own_cell own (plain i).owner) (loads_of tree i))
              ∙ loads_give own (own_apart tree plan v (own_in_phase tree plan k v formed fits at)) m f last assigned come (plain i).owner (loads_of tree i) loads
              ∙ sym (same_values (cell_value memory) m has (loads_of tree i))
          values (to_shared loads c store inside free) = let clash : Some c ≡ None = sym store ∙ no_store_is in absurd (stores_one c c clash)
          values (to_private loads c n store inside slot private) = let clash : Some c ≡ None = sym store ∙ no_store_is in absurd (stores_one c c clash)
          values (to_sum c n s rest) = let clash : Some c ≡ None = sym s.store ∙ no_store_is in absurd (stores_one c c clash)

  lines : (is : List Instance) (memory with_own : List ℤ) (m f : ℕ → ℤ) (last : ℕ → Option ℕ) (assigned : ℕ → ℕ → Bool) → Has memory m → Has with_own f → Come own m f last assigned → AreGoodJobs own last (map plain is) →
      AreWithin (length memory) (map plain is) → AreWithin (length with_own) (map (λ i. own_job own (plain i)) is) → output_along with_own (map job (map (λ i. own_job own (plain i)) is)) ≡ output_from tree memory is
  lines [] memory with_own m f last assigned has has_own come good within within_own = refl
  lines (i ∷ is) memory with_own m f last assigned has has_own come good within within_own =
      let j = plain i in
      let j' = own_job own j in
      let next = step own (own_apart tree plan v (own_in_phase tree plan k v formed fits at)) m f last assigned j come good.0 good.1 good.2 in
      let memory_is = behind_instance tree plan memory (in_phase (1 + k) v i) in
      let has_next : Has (memory_after tree memory i) (behind_job m j) = subst (λ l. Has l (behind_job m j)) memory_is (has_behind memory m j has within.0) in
      let has_own_next : Has (job_behind with_own j') (behind_job f j') = has_behind with_own f j' has_own within_own.0 in
      let size = sym (length_behind memory j) ∙ ap length memory_is in
      ap (λ l. l ++ output_along (memory_behind with_own (job j')) (map job (map (λ x. own_job own (plain x)) is))) (line_is memory with_own m f last assigned i has has_own come good.0)
      ∙ ap (λ l. line_of tree i (loaded_in tree memory i) ++ l)
      (lines is (memory_after tree memory i) (job_behind with_own j') (behind_job m j) (behind_job f j') (last_behind own last j) (assigned_behind own assigned j) has_next has_own_next next good.3
      (subst (λ n. AreWithin n (map plain is)) size within.1) (subst (λ n. AreWithin n (map (λ x. own_job own (plain x)) is)) (sym (length_behind with_own j')) within_own.1))

  pub phase_output : (stored : AreStoredFirst tree plan) (style : Style) (passed : ℕ) (memory with_own : List ℤ) → Follows tree plan memory with_own →
      output_along with_own (moments_of (part_of style tree plan (1 + k) passed v)) ≡ output_from tree memory (visit_instances (param_values tree) v)
  phase_output stored style passed memory with_own f =
      let is = visit_instances (param_values tree) v in
      let o = own_in_phase tree plan k v formed fits at in
      let front = boundaries_by style tree plan (1 + k) passed v in
      let jobs = instance_jobs tree plan (1 + k) v in
      let closings = closings_of tree plan v in
      let m = cell_value memory in
      let g = cell_value with_own in
      let come = at_first tree plan v o m g f.shared f.idle in
      let within = subst (λ n. AreWithin n (map plain is)) (sym f.size) (plain_within tree plan k v formed fits ranges at is (all_fine tree plan k v formed fits ranges at)) in
      let within_own = within_front (length with_own) jobs closings (subst (λ n. AreWithin n (jobs ++ closings)) (sym f.own_size) (jobs_within tree plan k v formed fits ranges at)) in
      let behind = fold memory_behind with_own (map job jobs) in
      output-append with_own front (map job (jobs ++ closings))
      ∙ ap (λ l. l ++ output_along (fold memory_behind with_own front) (map job (jobs ++ closings))) (front_silent style tree plan (1 + k) passed v with_own)
      ∙ ap (λ l. output_along l (map job (jobs ++ closings))) (fold_front style tree plan (1 + k) passed v with_own)
      ∙ ap (output_along with_own) (map-append job jobs closings) ∙ output-append with_own (map job jobs) (map job closings)
      ∙ ap (λ l. output_along with_own (map job jobs) ++ l) (closings_silent (cell_count tree) behind closings (all_closings tree plan k v formed fits ranges at stored m g f.shared f.idle))
      ∙ append-nil (output_along with_own (map job jobs))
      ∙ lines is memory with_own m g (λ c. None) (λ c p. false) (λ c. refl) (λ c. refl) come (phase_good tree plan k v formed fits ranges at stored (λ c. None)) within within_own

-- ---- all phases

module _ (style : Style) (tree : Tree) (plan : Plan) (formed : IsWellFormed tree) (fits : IsFit tree plan) (ranges : IsInRange tree) (stored : AreStoredFirst tree plan) where
  outputs : (k passed : ℕ) (vs : List Visit) (memory with_own : List ℤ) → ((n : ℕ) (w : Visit) → slice_get vs n ≡ Some w → slice_get (phases tree plan.cut.marks) (k + n) ≡ Some w) → Follows tree plan memory with_own →
      output_along with_own (flat_map moments_of (parts_from style tree plan (1 + k) passed vs)) ≡ output_from tree memory (map (λ (x : Execution). x.instance) (executions_from (param_values tree) (1 + k) vs))
  outputs k passed [] memory with_own there f = refl
  outputs k passed (v ∷ vs) memory with_own there f =
      let params = param_values tree in
      let here : k + 0 ≡ k = omega arith in
      let at = ap (slice_get (phases tree plan.cut.marks)) (sym here) ∙ there 0 v refl in
      let next : suc (1 + k) ≡ 1 + suc k = omega arith in
      let is = visit_instances params v in
      let executed = map (λ i. record { phase = 1 + k; place = v.place; instance = i }) is in
      let later = executions_from params (suc (1 + k)) vs in
      let part = moments_of (part_of style tree plan (1 + k) passed v) in
      let rest = flat_map moments_of (parts_from style tree plan (suc (1 + k)) (passed + signal_barriers style plan v) vs) in
      let one = phase_follows tree plan k v formed fits ranges at stored style passed memory with_own f in
      let all = outputs (suc k) (passed + signal_barriers style plan v) vs (fold (memory_after tree) memory is) (fold memory_behind with_own part)
      (λ n w at_w. let more : k + suc n ≡ suc k + n = omega arith in ap (slice_get (phases tree plan.cut.marks)) (sym more) ∙ there (suc n) w at_w) one in
      let moved = subst (λ e. output_along (fold memory_behind with_own part) (flat_map moments_of (parts_from style tree plan e (passed + signal_barriers style plan v) vs)) ≡ output_from tree (fold (memory_after tree) memory is) (map (λ (x : Execution). x.instance) (executions_from params e vs))) (sym next) all in
      let names = map-append (λ (x : Execution). x.instance) executed later ∙ ap (λ l. l ++ map (λ (x : Execution). x.instance) later) (stripped (1 + k) v.place is) in
      output-append with_own part rest
      ∙ ap (λ l. l ++ output_along (fold memory_behind with_own part) rest) (phase_output tree plan k v formed fits ranges at stored style passed memory with_own f)
      ∙ ap (λ l. output_from tree memory is ++ l) moved
      ∙ sym (ap (output_from tree memory) names ∙ output_from-append tree memory is (map (λ (x : Execution). x.instance) later))

  pub output_by : whole_output (machine_by style tree plan) ≡ output_of tree
  output_by =
      outputs 0 0 (phases tree plan.cut.marks) (first_memory tree) (replicate (cells_under tree plan) (pos 0)) (λ n w at. let same : 0 + n ≡ n = omega arith in ap (slice_get (phases tree plan.cut.marks)) same ∙ at) (at_start style tree plan formed fits ranges stored)
      ∙ ap (output_from tree (first_memory tree)) (all_executed tree plan.cut.marks)

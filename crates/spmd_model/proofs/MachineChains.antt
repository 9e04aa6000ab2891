-- A chain of a plan's waits is one along its timeline, in either style.
use Rattle.std.proofs.Common.{◌≡◌, ℕ, suc, ◌+◌, ◌-◌, ◌<◌, ◌≤◌, true, List, [], ◌∷◌, length, map, Some, refl, ap, sym, subst, ◌∙◌, inl, inr, arith, if◌then◌else◌, zero-add}
use Rattle.std.specs.Prelude.{slice_get}
use Rattle.std.specs.List.{Contains}
use Rattle.std.proofs.lemmas.Bool.{cases_Bool}
use Rattle.std.proofs.lemmas.List.FromFn.{length-map-range_with_len}
use Rattle.std.proofs.lemmas.Option.{slice_get_within}
use Rattle.list_lemmas.proofs.Gets.{get-front}
use Rattle.nest_tree.specs.Tree.{Tree}
use Rattle.nest_model.specs.Visits.{Visit}
use Rattle.owner_partition.specs.Phases.{phases}
use Rattle.sync_plan.specs.declared.plan.Plan.{Plan}
use Rattle.sync_plan.specs.Ordered.{IsChain as IsPlanChain, Hop as PlanHop, awaited_in as awaited_in_plan}
use Rattle.spmd_model.specs.Timelines.{Machine, Moment, job}
use Rattle.spmd_model.specs.Ordered.{Hop, IsChain, awaited_in, number_in}
use Rattle.spmd_model.specs.Planned.{boundary_of}
use Rattle.spmd_model.specs.Rounds.{AreEnough, AreRounds, round_boundary, rounds_in, rounds_of}
use Rattle.spmd_model.specs.Machines.{boundaries_by, is_by_signals, machine_by, part_of, part_place, parts_by, timeline_by}
use Rattle.spmd_model.specs.declared.style.Style.{Style}
use Rattle.spmd_model.proofs.Parts.{part_at, part_length, part_rises, part_step, part_there, passed_before}
use Rattle.spmd_model.proofs.PlannedOrder.{awaited_below, from_worker, phase_there}
use Rattle.spmd_model.proofs.RoundChains.{rounds_lead}
use Rattle.spmd_model.proofs.MachinePlaces.{first_round, rounds_there}

-- a chain and one behind it
chains : (m : Machine) (q t : ℕ) (hs : List Hop) (r u p w : ℕ) → IsChain m q t hs r u → ((s : ℕ) → s < u → (hops : List Hop) × IsChain m r s hops p w) → (hops : List Hop) × IsChain m q t hops p w
chains m q t [] r u p w (same, lt) later = let rest = later t lt in (rest.0, subst (λ o. IsChain m o t rest.0 p w) (sym same) rest.1)
chains m q t (h ∷ hs) r u p w (lt, worker, some, among, c) later = let rest = chains m h.processor h.place hs r u p w c later in (h ∷ rest.0, (lt, worker, some, among, rest.1))

-- the phases of a chain lie up to its end
pub last_phase : (tree : Tree) (plan : Plan) (r g : ℕ) (gs : List PlanHop) (p f : ℕ) → IsPlanChain tree plan r g gs p f → g ≤ f
last_phase tree plan r g [] p f (same, le) = le
last_phase tree plan r g (x ∷ gs) p f (lt, among, rest) = let later = last_phase tree plan x.processor x.phase gs p f rest in omega (arith, lt, later)

module _ (style : Style) (tree : Tree) (plan : Plan) (enough : AreEnough plan.workers (rounds_of plan.workers)) where
  -- how many barriers by signals stand in front of the phase with this number, from 1
  abbrev passed_at : ℕ → ℕ
  passed_at e = 0 + passed_before style plan (phases tree plan.cut.marks) (e - 1)

  abbrev front_at : ℕ → Visit → List Moment
  front_at e v = boundaries_by style tree plan (1 + (e - 1)) (passed_at e) v

  -- where it begins, and where its jobs do
  abbrev pub begin_at : ℕ → ℕ
  begin_at e = part_place (parts_by style tree plan) (e - 1)

  abbrev pub jobs_at : ℕ → Visit → ℕ
  jobs_at e v = begin_at e + length (front_at e v)

  -- a boundary of its front on the timeline
  front_there : (e : ℕ) (v : Visit) (s : ℕ) (x : Moment) → slice_get (phases tree plan.cut.marks) (e - 1) ≡ Some v → slice_get (front_at e v) s ≡ Some x → slice_get (timeline_by style tree plan) (begin_at e + s) ≡ Some x
  front_there e v s x at is =
      let part = part_of style tree plan (1 + (e - 1)) (passed_at e) v in
      part_there (parts_by style tree plan) (e - 1) s part x (part_at style tree plan 1 0 (phases tree plan.cut.marks) (e - 1) v at) (get-front part.front (map job part.jobs) s (slice_get_within part.front s x is) ∙ is)

  -- it ends in front of the next one
  pub jobs_end : (e : ℕ) (v : Visit) → slice_get (phases tree plan.cut.marks) (e - 1) ≡ Some v → jobs_at e v ≤ part_place (parts_by style tree plan) (suc (e - 1))
  jobs_end e v at =
      let part = part_of style tree plan (1 + (e - 1)) (passed_at e) v in
      let step = part_step (parts_by style tree plan) (e - 1) part (part_at style tree plan 1 0 (phases tree plan.cut.marks) (e - 1) v at) in
      omega (arith, step, part_length part)

  -- one hop of the plan, from any place in front of the phase
  hop_along : (q p e t : ℕ) (v : Visit) → 1 < e → q < plan.workers → p < plan.workers → slice_get (phases tree plan.cut.marks) (e - 1) ≡ Some v → Contains (awaited_in_plan tree plan p (Some v)) q → t < begin_at e →
      (hops : List Hop) × IsChain (machine_by style tree plan) q t hops p (jobs_at e v)
  hop_along q p e t v some lt lt' at among here = elim (cases_Bool (is_by_signals style plan v)) [
    | inl held ↦ by_rounds (ap (λ b. if b then rounds_in plan.workers first (rounds_of plan.workers) else boundary_of tree plan (1 + (e - 1)) v ∷ []) held)
    | inr failed ↦ by_counter (ap (λ b. if b then rounds_in plan.workers first (rounds_of plan.workers) else boundary_of tree plan (1 + (e - 1)) v ∷ []) failed)
  ]
    where
      first : ℕ
      first = first_round plan (passed_at e)

      by_rounds : front_at e v ≡ rounds_in plan.workers (first_round plan (passed_at e)) (rounds_of plan.workers) → (hops : List Hop) × IsChain (machine_by style tree plan) q t hops p (jobs_at e v)
      by_rounds is =
          let start = first_round plan (passed_at e) in
          let count : length (front_at e v) ≡ rounds_of plan.workers = ap length is ∙ length-map-range_with_len (round_boundary plan.workers start) 0 (rounds_of plan.workers) in
          let there : AreRounds (machine_by style tree plan) (begin_at e) start (rounds_of plan.workers) = λ r less.
          front_there e v r (round_boundary plan.workers start r) at (ap (λ l. slice_get l r) is ∙ rounds_there plan.workers start 0 (rounds_of plan.workers) r less ∙ ap (λ k. Some (round_boundary plan.workers start k)) (zero-add r)) in
          rounds_lead (machine_by style tree plan) (begin_at e) start (rounds_of plan.workers) (jobs_at e v) there (omega arith) (omega (arith, count)) q p t enough.least enough.reach here lt lt'

      by_counter : front_at e v ≡ boundary_of tree plan (1 + (e - 1)) v ∷ [] → (hops : List Hop) × IsChain (machine_by style tree plan) q t hops p (jobs_at e v)
      by_counter is =
          let count : length (front_at e v) ≡ 1 = ap length is in
          let there = front_there e v 0 (boundary_of tree plan (1 + (e - 1)) v) at (ap (λ l. slice_get l 0) is) in
          let known : Contains (awaited_in (slice_get (timeline_by style tree plan) (begin_at e + 0)) p) q = subst (λ o. Contains (awaited_in o p) q) (sym there) among in
          let positive : 0 < number_in (slice_get (timeline_by style tree plan) (begin_at e + 0)) = subst (λ o. 0 < number_in o) (sym there) (omega (arith, some)) in
          (record { place = begin_at e + 0; processor = p } ∷ [], (omega (arith, here), lt', positive, known, (refl, omega (arith, count))))

  -- a barrier by signals is as many rounds
  rounds_at : (e : ℕ) (v : Visit) → slice_get (phases tree plan.cut.marks) (e - 1) ≡ Some v → is_by_signals style plan v ≡ true → AreRounds (machine_by style tree plan) (begin_at e) (first_round plan (passed_at e)) (rounds_of plan.workers)
  rounds_at e v at held r less =
      let first = first_round plan (passed_at e) in
      let is : front_at e v ≡ rounds_in plan.workers first (rounds_of plan.workers) = ap (λ b. if b then rounds_in plan.workers first (rounds_of plan.workers) else boundary_of tree plan (1 + (e - 1)) v ∷ []) held in
      front_there e v r (round_boundary plan.workers first r) at (ap (λ l. slice_get l r) is ∙ rounds_there plan.workers first 0 (rounds_of plan.workers) r less ∙ ap (λ n. Some (round_boundary plan.workers first n)) (zero-add r))

  pub barrier_rounds : (k : ℕ) (v : Visit) → slice_get (phases tree plan.cut.marks) k ≡ Some v → is_by_signals style plan v ≡ true → AreRounds (machine_by style tree plan) (part_place (parts_by style tree plan) k) (first_round plan (0 + passed_before style plan (phases tree plan.cut.marks) k)) (rounds_of plan.workers)
  barrier_rounds k v at held =
      let back : suc k - 1 ≡ k = omega arith in
      subst (λ n. AreRounds (machine_by style tree plan) (part_place (parts_by style tree plan) n) (first_round plan (0 + passed_before style plan (phases tree plan.cut.marks) n)) (rounds_of plan.workers)) back
      (rounds_at (suc k) v (ap (slice_get (phases tree plan.cut.marks)) back ∙ at) held)

  -- a chain of the plan, from a place in front of the next phase, to one behind the boundaries of its last phase
  pub chain_by : (q e t : ℕ) (hops : List PlanHop) (p f u : ℕ) → 1 ≤ e → p < plan.workers → IsPlanChain tree plan q e hops p f → ((k : ℕ) → e < k → t < begin_at k) →
      ((k : ℕ) (v : Visit) → 1 ≤ k → k ≤ f → slice_get (phases tree plan.cut.marks) (k - 1) ≡ Some v → jobs_at k v ≤ u) → t < u → (hs : List Hop) × IsChain (machine_by style tree plan) q t hs p u
  chain_by q e t [] p f u some inside (same, le) from to lt = ([], (same, lt))
  chain_by q e t (h ∷ hops) p f u some inside (lt, among, rest) from to less =
      let there = phase_there tree plan h.processor h.phase q among in
      let v = there.0 in
      let worker = from_worker tree plan h.processor h.phase hops p f inside rest in
      let first = hop_along q h.processor h.phase t v (omega (arith, lt, some)) (awaited_below tree plan h.processor h.phase q among) worker there.1 (subst (λ o. Contains (awaited_in_plan tree plan h.processor o) q) there.1 among) (from h.phase lt) in
      let up_to = to h.phase v (omega (arith, lt, some)) (last_phase tree plan h.processor h.phase hops p f rest) there.1 in
      let end = jobs_end h.phase v there.1 in
      chains (machine_by style tree plan) q t first.0 h.processor (jobs_at h.phase v) p u first.1 (λ s before.
      chain_by h.processor h.phase s hops p f u (omega (arith, lt, some)) inside rest
      (λ k next. let rise = part_rises (parts_by style tree plan) (suc (h.phase - 1)) (k - 1) (omega (arith, next, lt)) in omega (arith, before, end, rise)) to (omega (arith, before, up_to)))

-- Where the boundaries and the jobs of a plan stand on its timeline.
use Rattle.std.proofs.Common.{◌≡◌, ℕ, zero, suc, ◌+◌, ◌-◌, ◌*◌, ◌<◌, Bool, true, false, List, [], ◌∷◌, ◌++◌, length, map, Some, None, refl, ap, sym, ◌∙◌, inl, inr, arith, if◌then◌else◌, zero-add}
use Rattle.std.specs.Prelude.{slice_get}
use Rattle.std.specs.List.{range_with_len}
use Rattle.std.proofs.lemmas.Bool.{cases_Bool, cases_lt}
use Rattle.std.proofs.lemmas.Option.{slice_get_within}
use Rattle.nest_tree.specs.Tree.{Tree}
use Rattle.nest_model.specs.Visits.{Visit}
use Rattle.owner_partition.specs.Phases.{phases}
use Rattle.sync_plan.specs.declared.plan.Plan.{Plan}
use Rattle.spmd_model.specs.Timelines.{Job, Moment, Word, boundary, job}
use Rattle.spmd_model.specs.Closings.{closings_of}
use Rattle.spmd_model.specs.Planned.{boundary_of}
use Rattle.spmd_model.specs.Rounds.{round_boundary, rounds_in, rounds_of}
use Rattle.spmd_model.specs.Machines.{Part, boundaries_by, instance_jobs, is_by_signals, moments_of, part_place, parts_by, timeline_by}
use Rattle.spmd_model.specs.declared.style.Style.{Style}
use Rattle.spmd_model.proofs.Parts.{in_front, in_jobs, in_part, part_is, part_step, passed_before}

-- ---- the boundaries of a phase

rounds_get : (workers first a n k : ℕ) (x : Moment) → slice_get (map (round_boundary workers first) (range_with_len a n)) k ≡ Some x → (k < n) × (x ≡ round_boundary workers first (a + k))
rounds_get workers first a zero k x at = let clash : None ≡ Some x = at in absurd (cc)
rounds_get workers first a (suc n) zero x at =
    let same : Some (round_boundary workers first a) ≡ Some x = at in
    let is : round_boundary workers first a ≡ x = cc in
    let here : a ≡ a + 0 = omega arith in
    (omega arith, sym is ∙ ap (round_boundary workers first) here)
rounds_get workers first a (suc n) (suc k) x at =
    let rest = rounds_get workers first (a + 1) n k x at in
    let next : a + 1 + k ≡ a + suc k = omega arith in
    (omega (arith, rest.0), rest.1 ∙ ap (round_boundary workers first) next)

pub rounds_there : (workers first a n k : ℕ) → k < n → slice_get (map (round_boundary workers first) (range_with_len a n)) k ≡ Some (round_boundary workers first (a + k))
rounds_there workers first a zero k lt = absurd (omega (arith, lt))
rounds_there workers first a (suc n) zero lt = let here : a ≡ a + 0 = omega arith in ap (λ r. Some (round_boundary workers first r)) here
rounds_there workers first a (suc n) (suc k) lt = let next : a + 1 + k ≡ a + suc k = omega arith in rounds_there workers first (a + 1) n k (omega (arith, lt)) ∙ ap (λ r. Some (round_boundary workers first r)) next

-- the first number of the rounds behind so many barriers by signals
abbrev pub first_round : Plan → ℕ → ℕ
first_round plan passed = passed * rounds_of plan.workers + 1

-- the one boundary of a phase on the counters, or a round
pub data Fronts (style : Style) (tree : Tree) (plan : Plan) (e passed : ℕ) (v : Visit) (s : ℕ) (x : Moment) : Type 0 where
  by_counters : is_by_signals style plan v ≡ false → s ≡ 0 → x ≡ boundary_of tree plan e v → Fronts style tree plan e passed v s x
  by_signals : is_by_signals style plan v ≡ true → s < rounds_of plan.workers → x ≡ round_boundary plan.workers (first_round plan passed) s → Fronts style tree plan e passed v s x

one_there : (y x : Moment) (s : ℕ) → slice_get (y ∷ []) s ≡ Some x → (s ≡ 0) × (x ≡ y)
one_there y x zero at = let same : Some y ≡ Some x = at in let is : y ≡ x = cc in (refl, sym is)
one_there y x (suc s) at = let clash : None ≡ Some x = at in absurd (cc)

pub fronts : (style : Style) (tree : Tree) (plan : Plan) (e passed : ℕ) (v : Visit) (s : ℕ) (x : Moment) → slice_get (boundaries_by style tree plan e passed v) s ≡ Some x → Fronts style tree plan e passed v s x
fronts style tree plan e passed v s x at = elim (cases_Bool (is_by_signals style plan v)) [
  | inl held ↦
      let r = rounds_get plan.workers (first_round plan passed) 0 (rounds_of plan.workers) s x (sym (ap (λ b. slice_get (if b then rounds_in plan.workers (first_round plan passed) (rounds_of plan.workers) else boundary_of tree plan e v ∷ []) s) held) ∙ at) in
      by_signals held r.0 (r.1 ∙ ap (round_boundary plan.workers (first_round plan passed)) (zero-add s))
  | inr failed ↦
      let r = one_there (boundary_of tree plan e v) x s (sym (ap (λ b. slice_get (if b then rounds_in plan.workers (first_round plan passed) (rounds_of plan.workers) else boundary_of tree plan e v ∷ []) s) failed) ∙ at) in
      by_counters failed r.0 r.1
]

-- ---- on the timeline

-- a boundary on the timeline is one of a phase's
pub record IsBoundaryIn (style : Style) (tree : Tree) (plan : Plan) (t : ℕ) (x : Moment) : Type 0 where
  pub number : ℕ
  pub visit : Visit
  pub at : slice_get (phases tree plan.cut.marks) number ≡ Some visit
  pub spot : ℕ
  pub place : t ≡ part_place (parts_by style tree plan) number + spot
  pub is : Fronts style tree plan (1 + number) (0 + passed_before style plan (phases tree plan.cut.marks) number) visit spot x
  pub before_end : t < part_place (parts_by style tree plan) (suc number)

pub boundary_in : (style : Style) (tree : Tree) (plan : Plan) (t : ℕ) (w : Word) (n : ℕ) (f : ℕ → Bool) (a : ℕ → List ℕ) → slice_get (timeline_by style tree plan) t ≡ Some (boundary w n f a) → IsBoundaryIn style tree plan t (boundary w n f a)
boundary_in style tree plan t w n f a at =
    let vs = phases tree plan.cut.marks in
    let i = in_part (parts_by style tree plan) t (boundary w n f a) at in
    let p = part_is style tree plan 1 0 vs i.number i.part i.at in
    let within = slice_get_within (moments_of i.part) i.spot (boundary w n f a) i.is in
    let step = part_step (parts_by style tree plan) i.number i.part i.at in
    elim (cases_lt i.spot (length i.part.front)) [
      | inl inside ↦ record {
        number = i.number;
        visit = p.visit;
        at = p.at;
        spot = i.spot;
        place = i.place;
        is = fronts style tree plan (1 + i.number) (0 + passed_before style plan vs i.number) p.visit i.spot (boundary w n f a) (sym (ap (λ (q : Part). slice_get q.front i.spot) p.is) ∙ in_front i.part i.spot (boundary w n f a) i.is inside);
        before_end = omega (arith, i.place, within, step);
      }
      | inr past ↦ let j = in_jobs i.part i.spot (boundary w n f a) i.is past in let clash : boundary w n f a ≡ job j.0 = j.2 in absurd (cc)
    ]

-- where the jobs of a phase begin
abbrev pub front_length : Style → Tree → Plan → ℕ → ℕ → Visit → ℕ
front_length style tree plan e passed v = length (boundaries_by style tree plan e passed v)

-- a job on the timeline is one of a phase's, behind its boundaries and in front of the next phase
pub record IsJobIn (style : Style) (tree : Tree) (plan : Plan) (t : ℕ) (j : Job) : Type 0 where
  pub number : ℕ
  pub visit : Visit
  pub at : slice_get (phases tree plan.cut.marks) number ≡ Some visit
  pub index : ℕ
  pub is : slice_get (instance_jobs tree plan (1 + number) visit ++ closings_of tree plan visit) index ≡ Some j
  pub place : t ≡ part_place (parts_by style tree plan) number + (front_length style tree plan (1 + number) (0 + passed_before style plan (phases tree plan.cut.marks) number) visit + index)
  pub before_end : t < part_place (parts_by style tree plan) (suc number)

front_no_job : (style : Style) (tree : Tree) (plan : Plan) (e passed : ℕ) (v : Visit) (s : ℕ) (j : Job) → Fronts style tree plan e passed v s (job j) → ⊥
front_no_job style tree plan e passed v s j (by_counters failed first is) = cc
front_no_job style tree plan e passed v s j (by_signals held lt is) = cc

pub job_in : (style : Style) (tree : Tree) (plan : Plan) (t : ℕ) (j : Job) → slice_get (timeline_by style tree plan) t ≡ Some (job j) → IsJobIn style tree plan t j
job_in style tree plan t j at =
    let vs = phases tree plan.cut.marks in
    let i = in_part (parts_by style tree plan) t (job j) at in
    let p = part_is style tree plan 1 0 vs i.number i.part i.at in
    let within = slice_get_within (moments_of i.part) i.spot (job j) i.is in
    let step = part_step (parts_by style tree plan) i.number i.part i.at in
    let front_is : length i.part.front ≡ front_length style tree plan (1 + i.number) (0 + passed_before style plan vs i.number) p.visit = ap (λ (q : Part). length q.front) p.is in
    elim (cases_lt i.spot (length i.part.front)) [
      | inl inside ↦ absurd (front_no_job style tree plan (1 + i.number) (0 + passed_before style plan vs i.number) p.visit i.spot j
          (fronts style tree plan (1 + i.number) (0 + passed_before style plan vs i.number) p.visit i.spot (job j) (sym (ap (λ (q : Part). slice_get q.front i.spot) p.is) ∙ in_front i.part i.spot (job j) i.is inside)))
      | inr past ↦
          let k = in_jobs i.part i.spot (job j) i.is past in
          let same : job j ≡ job k.0 = k.2 in
          let equal : k.0 ≡ j = cc in
          record {
            number = i.number;
            visit = p.visit;
            at = p.at;
            index = i.spot - length i.part.front;
            is = sym (ap (λ (q : Part). slice_get q.jobs (i.spot - length i.part.front)) p.is) ∙ k.1 ∙ ap Some equal;
            place = omega (arith, i.place, front_is, past);
            before_end = omega (arith, i.place, within, step);
          }
    ]

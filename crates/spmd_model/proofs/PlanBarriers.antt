-- Barriers along a plan's timeline in a style: what is gathered there, and how often.
use Rattle.std.proofs.Common.{◌≡◌, nat_lt, ℕ, zero, suc, ◌+◌, ◌-◌, ◌<◌, ◌≤◌, Bool, true, false, true≢false, cond, List, [], ◌∷◌, ◌++◌, length, map, take, Some, refl, ap, sym, ◌∙◌, inl, inr, arith, if◌then◌else◌, length-append, zero-add}
use Rattle.std.specs.Prelude.{slice_get}
use Rattle.std.specs.List.{All, filter, flat_map, range_with_len}
use Rattle.std.proofs.lemmas.Bool.{and_parts, cases_Bool}
use Rattle.std.proofs.lemmas.List.{length-take-le}
use Rattle.std.proofs.lemmas.Option.{slice_get_within}
use Rattle.list_lemmas.proofs.Appending.{take-behind}
use Rattle.nest_tree.specs.Tree.{Tree}
use Rattle.nest_model.specs.Visits.{Visit}
use Rattle.owner_partition.specs.Phases.{phases}
use Rattle.sync_plan.specs.declared.plan.Plan.{Plan}
use Rattle.sync_plan.specs.Boundaries.{gathers, is_barrier, kind_before}
use Rattle.spmd_model.specs.Timelines.{Job, Moment, counter, signal, boundary, job}
use Rattle.spmd_model.specs.Acts.{await, post, act_at, acts_of}
use Rattle.spmd_model.specs.Closings.{closings_of}
use Rattle.spmd_model.specs.Planned.{boundary_of}
use Rattle.spmd_model.specs.Rounds.{round_boundary, rounds_in, rounds_of}
use Rattle.spmd_model.specs.Machines.{Part, boundaries_by, instance_jobs, is_by_signals, machine_by, moments_of, part_of, part_place, parts_by, parts_from, signal_barriers, timeline_by}
use Rattle.spmd_model.specs.declared.style.Style.{Style}
use Rattle.spmd_model.specs.declared.style.Style.TheVariants.{Arrive, Dissemination}
use Rattle.spmd_model.proofs.MomentActs.{IsAwaitIn, IsPostIn, tells}
use Rattle.spmd_model.proofs.Parts.{passed_before}
use Rattle.spmd_model.proofs.MachinePlaces.{Fronts, IsBoundaryIn, boundary_in, by_counters, by_signals, first_round}
use Rattle.spmd_model.specs.Viewed.{barriers_in_front}
use Rattle.spmd_model.proofs.Arrivals.{Joins, arrivals, await_reached, boundaries, post_reached, weights, weights-append}
use Rattle.spmd_model.proofs.Barriers.{AreAll, all_join}
use Rattle.spmd_model.proofs.Gathered.{all_at_boundary, no_weight, parts_of}
use Rattle.spmd_model.proofs.MachineLoads.{parts_take}

-- a round stands on signals
no_round : (workers first r n : ℕ) (posts : ℕ → Bool) (awaits : ℕ → List ℕ) → boundary counter n posts awaits ≡ round_boundary workers first r → ⊥
no_round workers first r n posts awaits same = cc

-- what a boundary on the counters stands in front of
record IsInFront (style : Style) (tree : Tree) (plan : Plan) (t n : ℕ) (posts : ℕ → Bool) (awaits : ℕ → List ℕ) : Type 0 where
  number : ℕ
  visit : Visit
  at : slice_get (phases tree plan.cut.marks) number ≡ Some visit
  place : t ≡ part_place (parts_by style tree plan) number
  plain : is_by_signals style plan visit ≡ false
  is : boundary counter n posts awaits ≡ boundary_of tree plan (1 + number) visit

in_front_at : (style : Style) (tree : Tree) (plan : Plan) (t n : ℕ) (posts : ℕ → Bool) (awaits : ℕ → List ℕ) → slice_get (timeline_by style tree plan) t ≡ Some (boundary counter n posts awaits) → IsInFront style tree plan t n posts awaits
in_front_at style tree plan t n posts awaits at = by x.is
  where
    x : IsBoundaryIn style tree plan t (boundary counter n posts awaits)
    x = boundary_in style tree plan t counter n posts awaits at

    by : Fronts style tree plan (1 + x.number) (0 + passed_before style plan (phases tree plan.cut.marks) x.number) x.visit x.spot (boundary counter n posts awaits) → IsInFront style tree plan t n posts awaits
    by (by_counters plain first is) = record { number = x.number; visit = x.visit; at = x.at; place = omega (arith, x.place, first); plain = plain; is = is }
    by (by_signals held lt is) = absurd (no_round plan.workers (first_round plan (0 + passed_before style plan (phases tree plan.cut.marks) x.number)) x.spot n posts awaits is)

pub all_by : (style : Style) (tree : Tree) (plan : Plan) → AreAll (machine_by style tree plan) (gathers tree plan)
all_by style tree plan t signal n p posts awaits at g inside = absurd (true≢false (sym g))
all_by style tree plan t counter n p posts awaits at g inside = let f = in_front_at style tree plan t n posts awaits at in all_at_boundary tree plan p f.number n f.visit posts awaits inside f.at f.is g

joins_by : (style : Style) (tree : Tree) (plan : Plan) (p : ℕ) → p < plan.workers → All (Joins (gathers tree plan) p) (timeline_by style tree plan)
joins_by style tree plan p inside = all_join (machine_by style tree plan) (gathers tree plan) (all_by style tree plan) p inside

-- ---- how many boundaries on counters there are

boundaries-append : (xs ys : List Moment) → boundaries (xs ++ ys) ≡ boundaries xs + boundaries ys
boundaries-append [] ys = omega arith
boundaries-append (boundary counter n posts awaits ∷ xs) ys = let rest = boundaries-append xs ys in omega (arith, rest)
boundaries-append (boundary signal n posts awaits ∷ xs) ys = boundaries-append xs ys
boundaries-append (job j ∷ xs) ys = boundaries-append xs ys

none_in_jobs : (js : List Job) → boundaries (map job js) ≡ 0
none_in_jobs [] = refl
none_in_jobs (j ∷ js) = none_in_jobs js

none_in_rounds : (workers first a n : ℕ) → boundaries (map (round_boundary workers first) (range_with_len a n)) ≡ 0
none_in_rounds workers first a zero = refl
none_in_rounds workers first a (suc n) = none_in_rounds workers first (a + 1) n

few_in_front : (style : Style) (tree : Tree) (plan : Plan) (e passed : ℕ) (v : Visit) → boundaries (boundaries_by style tree plan e passed v) ≤ 1
few_in_front style tree plan e passed v = elim (cases_Bool (is_by_signals style plan v)) [
  | inl held ↦
      let first = first_round plan passed in
      let here : boundaries (boundaries_by style tree plan e passed v) ≡ 0 = ap (λ b. boundaries (if b then rounds_in plan.workers first (rounds_of plan.workers) else boundary_of tree plan e v ∷ [])) held ∙ none_in_rounds plan.workers first 0 (rounds_of plan.workers) in
      omega (arith, here)
  | inr plain ↦
      let here : boundaries (boundaries_by style tree plan e passed v) ≡ 1 = ap (λ b. boundaries (if b then rounds_in plan.workers (first_round plan passed) (rounds_of plan.workers) else boundary_of tree plan e v ∷ [])) plain in
      omega (arith, here)
]

boundaries_few : (style : Style) (tree : Tree) (plan : Plan) (e passed : ℕ) (vs : List Visit) → boundaries (flat_map moments_of (parts_from style tree plan e passed vs)) ≤ length vs
boundaries_few style tree plan e passed [] = omega arith
boundaries_few style tree plan e passed (v ∷ vs) =
    let part = part_of style tree plan e passed v in
    let rest = boundaries_few style tree plan (suc e) (passed + signal_barriers style plan v) vs in
    let all = boundaries-append (moments_of part) (flat_map moments_of (parts_from style tree plan (suc e) (passed + signal_barriers style plan v) vs)) in
    let here = boundaries-append part.front (map job part.jobs) in
    omega (arith, all, here, none_in_jobs part.jobs, few_in_front style tree plan e passed v, rest)

pub timeline_few : (style : Style) (tree : Tree) (plan : Plan) → boundaries (timeline_by style tree plan) ≤ length (phases tree plan.cut.marks)
timeline_few style tree plan = boundaries_few style tree plan 1 0 (phases tree plan.cut.marks)

-- ---- which barriers a processor has arrived at

-- in front of a part
front_parts : (ps : List Part) (k : ℕ) → take (part_place ps k) (flat_map moments_of ps) ≡ flat_map moments_of (take k ps)
front_parts ps zero = refl
front_parts [] (suc k) = refl
front_parts (q ∷ ps) (suc k) =
    let count : part_place (q ∷ ps) (suc k) ≡ length (moments_of q) + part_place ps k = length-append (moments_of q) (flat_map moments_of (take k ps)) in
    ap (λ n. take n (moments_of q ++ flat_map moments_of ps)) count ∙ take-behind (moments_of q) (flat_map moments_of ps) (part_place ps k) ∙ ap (λ l. moments_of q ++ l) (front_parts ps k)

-- by counters, so many phases have the barriers of their numbers
weights_of : (tree : Tree) (plan : Plan) (e passed : ℕ) (vs : List Visit) → 1 ≤ e → weights (gathers tree plan) (flat_map moments_of (parts_from Arrive tree plan e passed vs)) ≡ length (filter (gathers tree plan) (range_with_len (e - 1) (length vs)))
weights_of tree plan e passed [] some = refl
weights_of tree plan e passed (v ∷ vs) some =
    let g = gathers tree plan in
    let jobs = instance_jobs tree plan e v ++ closings_of tree plan v in
    let later = flat_map moments_of (parts_from Arrive tree plan (suc e) (passed + 0) vs) in
    let less : suc e - 1 ≡ e - 1 + 1 = omega (arith, some) in
    let rest = weights_of tree plan (suc e) (passed + 0) vs (omega arith) ∙ ap (λ a. length (filter g (range_with_len a (length vs)))) less in
    let none = no_weight g (λ (j : Job). j) jobs in
    let behind : weights g (map job jobs ++ later) ≡ length (filter g (range_with_len (e - 1 + 1) (length vs))) = weights-append g (map job jobs) later ∙ ap (λ n. n + weights g later) none ∙ zero-add (weights g later) ∙ rest in
    ap (λ n. (if g (e - 1) then 1 else 0) + n) behind ∙ by (g (e - 1)) (filter g (range_with_len (e - 1 + 1) (length vs)))
  where
    by : (b : Bool) (xs : List ℕ) → (if b then 1 else 0) + length xs ≡ length (cond b ((e - 1) ∷ xs) xs)
    by true xs = omega arith
    by false xs = omega arith

-- in front of the boundary of a barrier stand those of the phases in front
counts_before : (style : Style) (tree : Tree) (plan : Plan) (t n : ℕ) (posts : ℕ → Bool) (awaits : ℕ → List ℕ) → slice_get (timeline_by style tree plan) t ≡ Some (boundary counter n posts awaits) → gathers tree plan n ≡ true →
    weights (gathers tree plan) (take t (timeline_by style tree plan)) ≡ barriers_in_front tree plan n
counts_before Arrive tree plan t n posts awaits at g =
    let f = in_front_at Arrive tree plan t n posts awaits at in
    let vs = phases tree plan.cut.marks in
    let number : n ≡ f.number = (parts_of tree plan (1 + f.number) n f.visit posts awaits f.is).0 ∙ omega arith in
    let within = slice_get_within vs f.number f.visit f.at in
    let many : length (take f.number vs) ≡ n = length-take-le f.number vs (omega (arith, within)) ∙ sym number in
    ap (λ k. weights (gathers tree plan) (take k (timeline_by Arrive tree plan))) f.place
    ∙ ap (weights (gathers tree plan)) (front_parts (parts_by Arrive tree plan) f.number ∙ ap (flat_map moments_of) (parts_take Arrive tree plan 1 0 vs f.number))
    ∙ weights_of tree plan 1 0 (take f.number vs) (omega arith)
    ∙ ap (λ k. length (filter (gathers tree plan) (range_with_len 0 k))) many
counts_before Dissemination tree plan t n posts awaits at g =
    let f = in_front_at Dissemination tree plan t n posts awaits at in
    let number : n ≡ f.number = (parts_of tree plan (1 + f.number) n f.visit posts awaits f.is).0 ∙ omega arith in
    let both = and_parts (is_barrier (kind_before plan (slice_get (phases tree plan.cut.marks) n))) (nat_lt 1 plan.workers) g in
    absurd (true≢false (sym both.0 ∙ ap (λ o. is_barrier (kind_before plan o)) (ap (slice_get (phases tree plan.cut.marks)) number ∙ f.at) ∙ f.plain))

pub await_counts : (style : Style) (tree : Tree) (plan : Plan) (p i o n : ℕ) → p < plan.workers → act_at (machine_by style tree plan) p i ≡ Some (await counter o n) → gathers tree plan n ≡ true → arrivals (gathers tree plan) (take i (acts_of (machine_by style tree plan) p)) ≡ barriers_in_front tree plan n + 1
await_counts style tree plan p i o n inside e g =
    let r = await_reached (gathers tree plan) p 0 (timeline_by style tree plan) (joins_by style tree plan p inside) i counter o n e g in
    let h : IsAwaitIn counter p o n r.moment = tells p (0 + r.at) r.index r.moment (await counter o n) r.is in
    r.count ∙ ap (λ k. k + 1) (counts_before style tree plan r.at n h.posts h.awaits (r.there ∙ ap Some h.moment) g)

pub post_counts : (style : Style) (tree : Tree) (plan : Plan) (p i n : ℕ) → p < plan.workers → act_at (machine_by style tree plan) p i ≡ Some (post counter n) → gathers tree plan n ≡ true → arrivals (gathers tree plan) (take i (acts_of (machine_by style tree plan) p)) ≡ barriers_in_front tree plan n
post_counts style tree plan p i n inside e g =
    let r = post_reached (gathers tree plan) p 0 (timeline_by style tree plan) (joins_by style tree plan p inside) i counter n e in
    let h : IsPostIn counter p r.index n r.moment = tells p (0 + r.at) r.index r.moment (post counter n) r.is in
    let same : weights (gathers tree plan) (take r.at (timeline_by style tree plan)) + 0 ≡ weights (gathers tree plan) (take r.at (timeline_by style tree plan)) = omega arith in
    r.count ∙ same ∙ counts_before style tree plan r.at n h.posts h.awaits (r.there ∙ ap Some h.moment) g

-- The boundaries of a plan's timeline: their numbers rise on each word, and whoever is awaited there posts.
use Rattle.std.proofs.Common.{◌≡◌, ℕ, zero, suc, ◌+◌, ◌-◌, ◌*◌, ◌^◌, ◌%◌, ◌<◌, ◌≤◌, Bool, true, List, [], ◌∷◌, Some, ap, sym, subst, ◌∙◌, inl, inr, arith, if◌then◌else◌}
use Rattle.std.specs.Prelude.{slice_get}
use Rattle.std.specs.List.{Contains}
use Rattle.std.proofs.lemmas.Bool.{cases_eq, cases_lt}
use Rattle.std.proofs.Math.Nat.{mul-le-mul_right}
use Rattle.nest_tree.specs.Tree.{Tree}
use Rattle.nest_model.specs.Visits.{Visit}
use Rattle.owner_partition.specs.Phases.{phases}
use Rattle.sync_plan.specs.declared.plan.Plan.{Plan}
use Rattle.sync_plan.specs.Waits.{posts_at, waits_for}
use Rattle.spmd_model.specs.Timelines.{Word, boundary, counter, signal}
use Rattle.spmd_model.specs.Planned.{boundary_of}
use Rattle.spmd_model.specs.Rounds.{awaited_in_round, round_boundary, rounds_of}
use Rattle.spmd_model.specs.Machines.{part_place, parts_by, signal_barriers, timeline_by}
use Rattle.spmd_model.specs.declared.style.Style.{Style}
use Rattle.spmd_model.proofs.Parts.{part_rises, passed_before, passed_rises, passed_step}
use Rattle.spmd_model.proofs.PlannedOrder.{awaited_posts}
use Rattle.spmd_model.proofs.MachinePlaces.{Fronts, by_counters, by_signals, IsBoundaryIn, boundary_in, first_round}

mod_less : (n k : ℕ) → 0 < k → n % k < k
mod_less n k some = grind arith

-- the word and the number of a boundary
counters_number : (tree : Tree) (plan : Plan) (e : ℕ) (w : Word) (n : ℕ) (v : Visit) (f : ℕ → Bool) (a : ℕ → List ℕ) → boundary w n f a ≡ boundary_of tree plan e v → (w ≡ counter) × (n ≡ e - 1)
counters_number tree plan e w n v f a same = (cc, cc)

round_number : (workers first s : ℕ) (w : Word) (n : ℕ) (f : ℕ → Bool) (a : ℕ → List ℕ) → boundary w n f a ≡ round_boundary workers first s → (w ≡ signal) × (n ≡ first + s)
round_number workers first s w n f a same = (cc, cc)

no_word : (w : Word) → w ≡ counter → w ≡ signal → ⊥
no_word w is is' = let clash : counter ≡ signal = sym is ∙ is' in cc

-- rounds behind more barriers have greater numbers
rounds_behind : (plan : Plan) (p q r s : ℕ) → suc p ≤ q → r < rounds_of plan.workers → first_round plan p + r < first_round plan q + s
rounds_behind plan p q r s le lt =
    let all = rounds_of plan.workers in
    let more : suc p * all ≤ q * all = mul-le-mul_right all le in
    let one : suc p * all ≡ all + p * all = grind arith in
    omega (arith, more, one, lt)

-- of two boundaries with one word the later one has the greater number
numbers : (style : Style) (tree : Tree) (plan : Plan) (w : Word) (s t n k : ℕ) (f g : ℕ → Bool) (a b : ℕ → List ℕ) → s < t → IsBoundaryIn style tree plan s (boundary w n f a) → IsBoundaryIn style tree plan t (boundary w k g b) → n < k
numbers style tree plan w s t n k f g a b lt x y = by x.is y.is
  where
    passed : ℕ → ℕ
    passed m = 0 + passed_before style plan (phases tree plan.cut.marks) m

    order : x.number ≤ y.number
    order = elim (cases_lt y.number x.number) [
      | inl before ↦ let rise = part_rises (parts_by style tree plan) (suc y.number) x.number before in absurd (omega (arith, x.place, y.before_end, lt, rise))
      | inr le ↦ le
    ]

    -- two of one phase stand in their order
    spots : x.number ≡ y.number → x.spot < y.spot
    spots same = let here = ap (part_place (parts_by style tree plan)) same in omega (arith, here, x.place, y.place, lt)

    by : Fronts style tree plan (1 + x.number) (0 + passed_before style plan (phases tree plan.cut.marks) x.number) x.visit x.spot (boundary w n f a) →
        Fronts style tree plan (1 + y.number) (0 + passed_before style plan (phases tree plan.cut.marks) y.number) y.visit y.spot (boundary w k g b) → n < k
    by (by_counters failed first is) (by_counters failed_too first' is') = elim (cases_eq x.number y.number) [
      | inl same ↦ absurd (omega (arith, spots same, first, first'))
      | inr ne ↦ let low = (counters_number tree plan (1 + x.number) w n x.visit f a is).1 in let high = (counters_number tree plan (1 + y.number) w k y.visit g b is').1 in omega (arith, low, high, order, ne)
    ]
    by (by_counters failed first is) (by_signals held_too lt' is') =
        absurd (no_word w (counters_number tree plan (1 + x.number) w n x.visit f a is).0 (round_number plan.workers (first_round plan (0 + passed_before style plan (phases tree plan.cut.marks) y.number)) y.spot w k g b is').0)
    by (by_signals held lt' is) (by_counters failed_too first' is') =
        absurd (no_word w (counters_number tree plan (1 + y.number) w k y.visit g b is').0 (round_number plan.workers (first_round plan (0 + passed_before style plan (phases tree plan.cut.marks) x.number)) x.spot w n f a is).0)
    by (by_signals held lt' is) (by_signals held_too lt'' is') =
        let p = 0 + passed_before style plan (phases tree plan.cut.marks) x.number in
        let q = 0 + passed_before style plan (phases tree plan.cut.marks) y.number in
        let low = (round_number plan.workers (first_round plan p) x.spot w n f a is).1 in
        let high = (round_number plan.workers (first_round plan q) y.spot w k g b is').1 in
        elim (cases_eq x.number y.number) [
          | inl same ↦
              let first_is : first_round plan p ≡ first_round plan q = ap (λ m. first_round plan (0 + passed_before style plan (phases tree plan.cut.marks) m)) same in
              omega (arith, low, high, first_is, spots same)
          | inr ne ↦
              let one : signal_barriers style plan x.visit ≡ 1 = ap (λ c. if c then 1 else 0) held in
              let step = passed_step style plan (phases tree plan.cut.marks) x.number x.visit x.at in
              let rise = passed_rises style plan (phases tree plan.cut.marks) (suc x.number) y.number (omega (arith, order, ne)) in
              let less = rounds_behind plan p q x.spot y.spot (omega (arith, one, step, rise)) lt' in
              omega (arith, low, high, less)
        ]

pub numbers_rise : (style : Style) (tree : Tree) (plan : Plan) (w : Word) (s t n k : ℕ) (f g : ℕ → Bool) (a b : ℕ → List ℕ) → s < t → slice_get (timeline_by style tree plan) s ≡ Some (boundary w n f a) → slice_get (timeline_by style tree plan) t ≡ Some (boundary w k g b) → n < k
numbers_rise style tree plan w s t n k f g a b lt at at' = numbers style tree plan w s t n k f g a b lt (boundary_in style tree plan s w n f a at) (boundary_in style tree plan t w k g b at')

-- ---- whoever is awaited posts

only_one : (x q : ℕ) → Contains (x ∷ []) q → q ≡ x
only_one x q (zero, lt, e) = sym e
only_one x q (suc k, lt, e) = absurd (omega (arith, lt))

counters_posts : (tree : Tree) (plan : Plan) (e : ℕ) (w : Word) (n : ℕ) (v : Visit) (f : ℕ → Bool) (a : ℕ → List ℕ) → boundary w n f a ≡ boundary_of tree plan e v →
    (f ≡ (λ q. posts_at tree plan q v.place v.loops)) × (a ≡ (λ p. waits_for tree plan p v.place v.loops))
counters_posts tree plan e w n v f a same = (cc, cc)

round_posts : (workers first s : ℕ) (w : Word) (n : ℕ) (f : ℕ → Bool) (a : ℕ → List ℕ) → boundary w n f a ≡ round_boundary workers first s → (f ≡ (λ q. true)) × (a ≡ (λ p. awaited_in_round workers s p ∷ []))
round_posts workers first s w n f a same = (cc, cc)

pub awaited_on : (style : Style) (tree : Tree) (plan : Plan) (w : Word) (t n p q : ℕ) (f : ℕ → Bool) (a : ℕ → List ℕ) → slice_get (timeline_by style tree plan) t ≡ Some (boundary w n f a) → p < plan.workers → Contains (a p) q → (q < plan.workers) × (f q ≡ true)
awaited_on style tree plan w t n p q f a at inside among = by x.is
  where
    x : IsBoundaryIn style tree plan t (boundary w n f a)
    x = boundary_in style tree plan t w n f a at

    by : Fronts style tree plan (1 + x.number) (0 + passed_before style plan (phases tree plan.cut.marks) x.number) x.visit x.spot (boundary w n f a) → (q < plan.workers) × (f q ≡ true)
    by (by_counters failed first is) =
        let same = counters_posts tree plan (1 + x.number) w n x.visit f a is in
        let r = awaited_posts tree plan x.visit p q inside (subst (λ h. Contains (h p) q) same.1 among) in
        (r.0, ap (λ h. h q) same.0 ∙ r.1)
    by (by_signals held lt is) =
        let same = round_posts plan.workers (first_round plan (0 + passed_before style plan (phases tree plan.cut.marks) x.number)) x.spot w n f a is in
        let one = only_one (awaited_in_round plan.workers x.spot p) q (subst (λ h. Contains (h p) q) same.1 among) in
        let less = mod_less (p + plan.workers - 2 ^ x.spot) plan.workers (omega (arith, inside)) in
        (omega (arith, one, less), ap (λ h. h q) same.0)

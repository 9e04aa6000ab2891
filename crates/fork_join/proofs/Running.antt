-- The phases of a run, one behind another.
use mathlib.Core.Logic.{∥∥₁_elim, ∥∥₁_map}
use Rattle.std.proofs.Common.{◌≡◌, ℕ, suc, ◌+◌, ◌<◌, ◌≤◌, ℤ, pos, List, [], ◌∷◌, ◌++◌, drop, get_or, length, length-drop, length-set, replicate, set, Some, sym, ◌∙◌, ap, subst, inl, inr, arith}
use Rattle.std.specs.Prelude.{slice_get}
use Rattle.std.proofs.Props.{props}
use Rattle.std.proofs.lemmas.Bool.{cases_eq, cases_lt}
use Rattle.std.proofs.lemmas.List.{get_or-set_other, get_or-set_same, length-map}
use Rattle.nest_tree.specs.Layout.{cell_count}
use Rattle.nest_tree.specs.Tree.{Tree}
use Rattle.nest_model.specs.Memory.{last_memory, output_of}
use Rattle.owner_partition.specs.Phases.{phases}
use Rattle.sync_plan.specs.declared.plan.Plan.{Plan}
use Rattle.nest_tree.specs.WellFormed.{IsWellFormed}
use Rattle.nest_model.specs.Ranges.{IsInRange}
use Rattle.sync_plan.specs.Fit.{IsFit}
use Rattle.nest_tree.specs.Limits.{IsWithinLimits}
use Rattle.spmd_model.specs.Laws.{Laws}
use Rattle.spmd_model.specs.Protocols.{act_at, held_at}
use Rattle.spmd_model.specs.PlanProtocols.{acts_by, printed_by}
use Rattle.spmd_model.specs.Deeds.{Deed, adding, deed_of, printing, storing}
use Rattle.spmd_model.specs.Machines.{machine_by}
use Rattle.spmd_model.specs.MachineDeeds.{deeds_by}
use Rattle.spmd_model.specs.Acts.{Act, acts_of, load}
use Rattle.spmd_model.specs.declared.style.Style.TheVariants.{Arrive}
use Rattle.spmd_model.specs.Lawful.{put}
use Rattle.spmd_model.proofs.MachineDeeds.{acts_do}
use Rattle.spmd_model.proofs.Places.{put_moves}
use Rattle.fork_join.specs.Joins.{Goes, IsSafe, all_deeds, begun, deeds_behind, in_front, joined, protocol}
use Rattle.fork_join.specs.Overlays.{laid_in}
use Rattle.fork_join.proofs.Crossing.{begun_none, cross, in_front_is, in_front_none, mixed_below, mixed_moves, mixed_past, same_at}
use Rattle.fork_join.proofs.Turning.{phase_there}

same_size : (a b : ℕ) → IsProp (a ≡ b)
same_size a b = Prim.hlevel props

ints : (xs ys : List ℤ) → IsProp (xs ≡ ys)
ints xs ys = Prim.hlevel props

module _ (tree : Tree) (plan : Plan) (safe : IsSafe tree plan) where
  pub sized : (cells : List ℤ) (at : ℕ → ℕ) → ∥ (protocol tree plan).lawful cells at ∥₁ → length cells ≡ cell_count tree
  sized cells at t = ∥∥₁_elim t (same_size (length cells) (cell_count tree)) (λ lawful. safe.laws.size cells at lawful)

  -- at first
  first_place : (q : ℕ) → q < plan.workers → in_front tree plan 0 q ≡ 0
  unfolding all_deeds
  first_place q lt = omega (arith, in_front_is tree plan q 0 lt)

  pub lawful_first : (memory : List ℤ) → memory ≡ replicate (cell_count tree) (pos 0) → ∥ (protocol tree plan).lawful memory (in_front tree plan 0) ∥₁
  lawful_first memory is = ∣ subst (λ (cells : List ℤ). (protocol tree plan).lawful cells (in_front tree plan 0)) (sym is) (safe.laws.first (in_front tree plan 0) first_place) ∣₁

  -- past the boundary of a phase
  pub lawful_begun : (n : ℕ) (memory : List ℤ) → n < length (phases tree plan.cut.marks) → ∥ (protocol tree plan).lawful memory (in_front tree plan n) ∥₁ → ∥ (protocol tree plan).lawful memory (begun tree plan n) ∥₁
  lawful_begun n memory lt t = let v = phase_there n (phases tree plan.cut.marks) lt in ∥∥₁_map t (cross tree plan safe n v.0 v.1 v.2 memory)

  -- the first j workers are through the phase
  abbrev pub Laid : ℕ → ℕ → List ℤ → Type 0
  Laid n j memory = ∥ (protocol tree plan).lawful memory (joined tree plan n j) ∥₁

  pub laid_first : (n : ℕ) (memory : List ℤ) → ∥ (protocol tree plan).lawful memory (begun tree plan n) ∥₁ → Laid n 0 memory
  laid_first n memory t = ∥∥₁_map t (same_at (protocol tree plan) memory (begun tree plan n) (joined tree plan n 0) (λ q. sym (mixed_past (begun tree plan n) (in_front tree plan (suc n)) 0 q (omega arith))))

  -- the stores of one more are laid in
  pub laid_stores : (n j done : ℕ) (memory new : List ℤ) (stores : List (ℕ × ℤ)) → Laid n j memory → ∥ Goes (protocol tree plan) j (begun tree plan n j) stores done ∥₁ → new ≡ laid_in stores memory → ∥ (protocol tree plan).lawful new (put (joined tree plan n j) j done) ∥₁
  laid_stores n j done memory new stores t goes is = ∥∥₁_elim goes squash₁ (λ g. ∥∥₁_map t (λ lawful.
      subst (λ (cells : List ℤ). (protocol tree plan).lawful cells (put (joined tree plan n j) j done)) (sym is)
      (g memory (joined tree plan n j) (put (joined tree plan n j) j done) lawful (mixed_past (begun tree plan n) (in_front tree plan (suc n)) j j (omega arith)) (put_moves (joined tree plan n j) j done))))

  -- and it is through the phase
  pub laid_more : (n j done : ℕ) (memory : List ℤ) → done ≡ in_front tree plan (suc n) j → ∥ (protocol tree plan).lawful memory (put (joined tree plan n j) j done) ∥₁ → Laid n (suc j) memory
  laid_more n j done memory is t = ∥∥₁_map t (same_at (protocol tree plan) memory (put (joined tree plan n j) j done) (joined tree plan n (suc j)) (λ q. elim (cases_eq q j) [
    | inl e ↦ ap (put (joined tree plan n j) j done) e ∙ (put_moves (joined tree plan n j) j done).here ∙ is ∙ sym (mixed_moves (begun tree plan n) (in_front tree plan (suc n)) j).here ∙ sym (ap (joined tree plan n (suc j)) e)
    | inr ne ↦ (put_moves (joined tree plan n j) j done).others q ne ∙ sym ((mixed_moves (begun tree plan n) (in_front tree plan (suc n)) j).others q ne)
  ]))

  pub laid_all : (n j : ℕ) (memory : List ℤ) → plan.workers ≤ j → Laid n j memory → ∥ (protocol tree plan).lawful memory (in_front tree plan (suc n)) ∥₁
  laid_all n j memory all t = ∥∥₁_map t (same_at (protocol tree plan) memory (joined tree plan n j) (in_front tree plan (suc n)) (λ q. elim (cases_lt q j) [
    | inl lt ↦ mixed_below (begun tree plan n) (in_front tree plan (suc n)) j q lt
    | inr le ↦ mixed_past (begun tree plan n) (in_front tree plan (suc n)) j q le ∙ begun_none tree plan q n (omega (arith, all, le)) ∙ sym (in_front_none tree plan q (suc n) (omega (arith, all, le)))
  ]))

  -- behind all phases
  last_place : (n q : ℕ) → q < plan.workers → drop n (phases tree plan.cut.marks) ≡ [] → in_front tree plan n q ≡ length (all_deeds tree plan q)
  last_place n q lt none =
      let nothing : deeds_behind tree plan n q ≡ [] = ap (deeds_by Arrive tree plan q (suc n) 0) none in
      omega (arith, in_front_is tree plan q n lt, ap length nothing)

  pub last_is : (n : ℕ) (memory : List ℤ) → drop n (phases tree plan.cut.marks) ≡ [] → ∥ (protocol tree plan).lawful memory (in_front tree plan n) ∥₁ → memory ≡ last_memory tree
  unfolding all_deeds
  last_is n memory none t = ∥∥₁_elim t (ints memory (last_memory tree)) (λ lawful.
      safe.laws.ended memory (in_front tree plan n) lawful (λ q lt. last_place n q lt none ∙ sym (safe.counted q lt)))

  pub output_is : (n : ℕ) → 0 < plan.workers → drop n (phases tree plan.cut.marks) ≡ [] → printed_by Arrive tree plan 0 (in_front tree plan n 0) ≡ output_of tree
  unfolding all_deeds
  output_is n some none = ap (printed_by Arrive tree plan 0) (last_place n 0 some none ∙ sym (safe.counted 0 some)) ∙ safe.laws.printed_whole

pub nothing_left : {X : Type 0} (n : ℕ) (xs : List X) → drop n xs ≡ [] → n ≤ length xs → n ≡ length xs
nothing_left n xs none within = omega (arith, ap length none, length-drop n xs, within)

pub some_left : {X : Type 0} (n : ℕ) (xs rest : List X) (x : X) → drop n xs ≡ x ∷ rest → n < length xs
some_left n xs rest x is = omega (arith, ap length is, length-drop n xs)

-- ---- one worker's stores more

module _ {W : Type 0} (P Q : ℕ → W → Type 0) (ws : List W) (j : ℕ) (new : W) (inside : j < length ws) where
  pub laid_up : ((q : ℕ) (d : W) → q < j → P q (get_or ws q d)) → P j new → (q : ℕ) (d : W) → q < j + 1 → P q (get_or (set ws j new) q d)
  laid_up all here q d lt = elim (cases_eq q j) [
    | inl e ↦ subst (P q) (sym (ap (λ k. get_or (set ws j new) k d) e ∙ get_or-set_same ws j new d inside)) (subst (λ k. P k new) (sym e) here)
    | inr ne ↦ subst (P q) (sym (get_or-set_other ws j q new d ne)) (all q d (omega (arith, lt, ne)))
  ]

  pub still_up : ((q : ℕ) (d : W) → j ≤ q → q < length ws → Q q (get_or ws q d)) → (q : ℕ) (d : W) → j + 1 ≤ q → q < length (set ws j new) → Q q (get_or (set ws j new) q d)
  still_up all q d le lt =
      let ne : q ≡ j → ⊥ = λ e. absurd (omega (arith, e, le)) in
      let long = length-set ws j new in
      subst (Q q) (sym (get_or-set_other ws j q new d ne)) (all q d (omega (arith, le)) (omega (arith, lt, long)))

pub safe_of : (tree : Tree) (plan : Plan) → Laws (protocol tree plan) → IsWellFormed tree → IsWithinLimits tree → IsInRange tree → IsFit tree plan
    → ((p n : ℕ) (d : Deed) → p < plan.workers → slice_get (deeds_by Arrive tree plan p 1 0 (phases tree plan.cut.marks)) n ≡ Some d → (a : Act) × (act_at (protocol tree plan) p n ≡ Some a) × (deed_of (machine_by Arrive tree plan) a ≡ d))
    → ((p n cell : ℕ) (value : List ℤ → ℤ) → p < plan.workers → slice_get (deeds_by Arrive tree plan p 1 0 (phases tree plan.cut.marks)) n ≡ Some (storing cell value) → (protocol tree plan).stored_at p n ≡ value ((protocol tree plan).registers_at p n))
    → ((p n cell : ℕ) (value : List ℤ → ℤ) → p < plan.workers → slice_get (deeds_by Arrive tree plan p 1 0 (phases tree plan.cut.marks)) n ≡ Some (adding cell value) → (protocol tree plan).stored_at p n ≡ value ((protocol tree plan).registers_at p n))
    → ((p n : ℕ) (line : List ℤ → List ℕ) → p < plan.workers → slice_get (deeds_by Arrive tree plan p 1 0 (phases tree plan.cut.marks)) n ≡ Some (printing line) → (protocol tree plan).printed_at p (n + 1) ≡ (protocol tree plan).printed_at p n ++ line ((protocol tree plan).registers_at p n))
    → ((p n place cell : ℕ) → cell_count tree ≤ cell → act_at (protocol tree plan) p n ≡ Some (load place cell) → (protocol tree plan).loaded_at p n ≡ held_at (protocol tree plan) p cell n) → IsSafe tree plan
unfolding acts_by
safe_of tree plan laws formed limits ranges fits acts stored added printed own = record {
  laws = laws;
  formed = formed;
  limits = limits;
  ranges = ranges;
  fits = fits;
  acts = acts;
  stored = stored;
  added = added;
  printed = printed;
  own = own;
  counted = λ p below. sym (length-map (acts_of (machine_by Arrive tree plan) p) (deed_of (machine_by Arrive tree plan))) ∙ ap length (acts_do Arrive tree plan p formed fits below);
}

-- Which places are marked behind a phase's instances.
use Rattle.std.proofs.Common.{◌≡◌, ◌==◌, ◌&&◌, ◌||◌, ℕ, zero, suc, ◌-◌, ◌<◌, ◌≤◌, nat_lt, Bool, true, false, List, [], ◌∷◌, ◌++◌, drop, get_or, length, replicate, set, Option, Some, None, refl, ap, sym, ◌∙◌, inl, inr, arith, length-set}
use Rattle.std.specs.Prelude.{slice_get}
use Rattle.std.specs.List.{filter, list_any, range_with_len}
use Rattle.std.proofs.lemmas.Bool.{cases_Bool, eqb-true, eqb-false, ltb-true, ltb-false}
use Rattle.std.proofs.lemmas.List.{get_or-set_other, get_or-set_same}
use Rattle.std.proofs.Math.Bool.{or_assoc}
use Rattle.nest_tree.proofs.FirstLimits.{at_replicate}
use Rattle.nest_tree.specs.Tree.{Tree, param_values}
use Rattle.nest_model.specs.Instances.{Instance}
use Rattle.sync_plan.specs.Own.{own_loop}
use Rattle.sync_plan.specs.Shape.{static_phases}
use Rattle.sync_plan.specs.declared.plan.Plan.{Plan}
use Rattle.sync_plan.proofs.ProcessorSets.{filter_range}
use Rattle.own_cells.specs.OwnCells.{place_assigned}
use Rattle.turns.specs.Turns.{behind, ends_phase, mark_first, mark_place, none_pending, places_pending}
use Rattle.turns.proofs.FrontDeeds.{behind_all}

pub or_none : (b : Bool) → (b || false) ≡ b
or_none true = refl
or_none false = refl

or_all : (b : Bool) → (b || true) ≡ true
or_all true = refl
or_all false = refl

-- ---- one mark more

abbrev pub is_at : Option ℕ → ℕ → Bool
is_at None k = false
is_at (Some j) k = j == k

marked : (bs : List Bool) (o : Option ℕ) (k : ℕ) → k < length bs → get_or (mark_place bs o) k false ≡ (get_or bs k false || is_at o k)
marked bs None k lt = sym (or_none (get_or bs k false))
marked bs (Some j) k lt = elim (cases_Bool (j == k)) [
  | inl yes_it_is ↦
      let same = eqb-true j k yes_it_is in
      ap (λ n. get_or (set bs n true) k false) same ∙ get_or-set_same bs k true false lt ∙ sym (ap (λ b. get_or bs k false || b) yes_it_is ∙ or_all (get_or bs k false))
  | inr fails ↦
      get_or-set_other bs j k true false (λ e. eqb-false j k fails (sym e)) ∙ sym (ap (λ b. get_or bs k false || b) fails ∙ or_none (get_or bs k false))
]

marked_length : (bs : List Bool) (o : Option ℕ) → length (mark_place bs o) ≡ length bs
marked_length bs None = refl
marked_length bs (Some j) = length-set bs j true

-- ---- the first so many

in_first : (n : ℕ) (bs : List Bool) (k : ℕ) → n ≤ length bs → k < n → get_or (replicate n true ++ drop n bs) k false ≡ true
in_first zero bs k le lt = absurd (omega (arith, lt))
in_first (suc n) [] k le lt = absurd (omega (arith, le))
in_first (suc n) (b ∷ bs) zero le lt = refl
in_first (suc n) (b ∷ bs) (suc k) le lt = in_first n bs k (omega (arith, le)) (omega (arith, lt))

past_first : (n : ℕ) (bs : List Bool) (k : ℕ) → n ≤ length bs → n ≤ k → get_or (replicate n true ++ drop n bs) k false ≡ get_or bs k false
past_first zero bs k le ge = refl
past_first (suc n) [] k le ge = absurd (omega (arith, le))
past_first (suc n) (b ∷ bs) zero le ge = absurd (omega (arith, ge))
past_first (suc n) (b ∷ bs) (suc k) le ge = past_first n bs k (omega (arith, le)) (omega (arith, ge))

first_length : (n : ℕ) (bs : List Bool) → n ≤ length bs → length (replicate n true ++ drop n bs) ≡ length bs
first_length zero bs le = refl
first_length (suc n) [] le = absurd (omega (arith, le))
first_length (suc n) (b ∷ bs) le = ap suc (first_length n bs (omega (arith, le)))

first_marked : (bs : List Bool) (n : ℕ) (ends : Bool) (k : ℕ) → n ≤ length bs → get_or (mark_first bs n ends) k false ≡ (get_or bs k false || (nat_lt k n && ends))
first_marked bs n false k le = sym (ap (λ b. get_or bs k false || b) (never (nat_lt k n)) ∙ or_none (get_or bs k false))
  where
    never : (b : Bool) → (b && false) ≡ false
    never true = refl
    never false = refl
first_marked bs n true k le = elim (cases_Bool (nat_lt k n)) [
  | inl yes_it_is ↦ in_first n bs k le (ltb-true k n yes_it_is) ∙ sym (ap (λ b. get_or bs k false || (b && true)) yes_it_is ∙ or_all (get_or bs k false))
  | inr fails ↦ past_first n bs k le (ltb-false k n fails) ∙ sym (ap (λ b. get_or bs k false || (b && true)) fails ∙ or_none (get_or bs k false))
]

first_marked_length : (bs : List Bool) (n : ℕ) (ends : Bool) → n ≤ length bs → length (mark_first bs n ends) ≡ length bs
first_marked_length bs n false le = refl
first_marked_length bs n true le = first_length n bs le

-- ---- all instances

module _ (tree : Tree) (plan : Plan) (p place : ℕ) (few : length (own_loop tree plan place).privates ≤ 32) where
  abbrev pub ends_here : Instance → Bool
  ends_here i = ends_phase (param_values tree) (slice_get (static_phases tree plan.cut.marks) (place - 1)) i.loops

  -- an instance marks a place
  abbrev pub marks : ℕ → Instance → Bool
  marks k i = is_at (place_assigned (own_loop tree plan place).sums i.what) k || (nat_lt k (length (own_loop tree plan place).privates) && ends_here i)

  pub behind_one : (bs : List Bool) (barriers k : ℕ) (i : Instance) → length bs ≡ 32 → k < 32 →
      get_or (behind tree plan (record { place = place; pending = bs; barriers = barriers }) i).pending k false ≡ (get_or bs k false || marks k i)
  behind_one bs barriers k i long lt =
      let own = own_loop tree plan place in
      let with_one = mark_place bs (place_assigned own.sums i.what) in
      let same = marked_length bs (place_assigned own.sums i.what) in
      first_marked with_one (length own.privates) (ends_here i) k (omega (arith, same, long, few))
      ∙ ap (λ b. b || (nat_lt k (length own.privates) && ends_here i)) (marked bs (place_assigned own.sums i.what) k (omega (arith, long, lt)))
      ∙ or_assoc (get_or bs k false) (is_at (place_assigned own.sums i.what) k) (nat_lt k (length own.privates) && ends_here i)

  pub behind_length : (bs : List Bool) (barriers : ℕ) (i : Instance) → length bs ≡ 32 → length (behind tree plan (record { place = place; pending = bs; barriers = barriers }) i).pending ≡ 32
  behind_length bs barriers i long =
      let own = own_loop tree plan place in
      let with_one = mark_place bs (place_assigned own.sums i.what) in
      let same = marked_length bs (place_assigned own.sums i.what) in
      omega (arith, first_marked_length with_one (length own.privates) (ends_here i) (omega (arith, same, long, few)), same, long)

  pub behind_them : (is : List Instance) (bs : List Bool) (barriers k : ℕ) → length bs ≡ 32 → k < 32 →
      get_or (behind_all tree plan p (record { place = place; pending = bs; barriers = barriers }) is).pending k false ≡ (get_or bs k false || list_any (marks k) is)
  behind_them [] bs barriers k long lt = sym (or_none (get_or bs k false))
  behind_them (i ∷ is) bs barriers k long lt =
      let next = (behind tree plan (record { place = place; pending = bs; barriers = barriers }) i).pending in
      behind_them is next barriers k (behind_length bs barriers i long) lt
      ∙ ap (λ b. b || list_any (marks k) is) (behind_one bs barriers k i long lt) ∙ or_assoc (get_or bs k false) (marks k i) (list_any (marks k) is)

  -- the places that pend behind all instances of a phase
  pub places_are : (is : List Instance) (barriers : ℕ) →
      places_pending (behind_all tree plan p (record { place = place; pending = none_pending; barriers = barriers }) is).pending ≡ filter (λ k. list_any (marks k) is) (range_with_len 0 32)
  places_are is barriers =
      filter_range (λ k. get_or (behind_all tree plan p (record { place = place; pending = none_pending; barriers = barriers }) is).pending k false) (λ k. list_any (marks k) is) 0 32
      (λ k ge lt. behind_them is none_pending barriers k refl (omega (arith, lt)) ∙ ap (λ b. b || list_any (marks k) is) (at_replicate 32 k false))

-- Memory with own cells along the jobs of a phase, and along its closings.
use Rattle.std.proofs.Common.{◌≡◌, ◌==◌, ℕ, ◌<◌, ℤ, pos, Bool, true, false, ◌&&◌, not, List, [], ◌∷◌, ◌++◌, fold, length, map, Option, Some, None, if◌then◌else◌, refl, ap, sym, subst, ◌∙◌, inl, inr, slice_set, option_map, true≢false}
use Rattle.std.specs.Prelude.{is_some}
use Rattle.std.specs.List.{AllByRecursion}
use Rattle.std.proofs.lemmas.Bool.{cases_Bool, eq-eqb, eqb-true}
use Rattle.std.proofs.lemmas.Grind.{get_or-set_at}
use Rattle.std.proofs.lemmas.List.{get_or-set_other}
use Rattle.nest_model.specs.Memory.{cell_value}
use Rattle.spmd_model.specs.Cells.{changed, with_change}
use Rattle.spmd_model.specs.Timelines.{Job}
use Rattle.spmd_model.specs.OwnPhases.{AreApart, Come, IsGoodLoad, IsSumJob, Own, behind_job, behind_store, own_job, put, own_cell}
use Rattle.spmd_model.specs.Trips.{kept_by, last_behind}
use Rattle.spmd_model.proofs.OwnPhases.{by_private_store, by_shared_store, by_sum}

-- which processors have assigned a sum scalar, behind a job
abbrev pub assigned_from : Own → (ℕ → ℕ → Bool) → Option ℕ → ℕ → ℕ → ℕ → Bool
assigned_from o assigned None p = assigned
assigned_from o assigned (Some c) p = if is_some (o.slot c) && o.is_sum c then put assigned c (put (assigned c) p true) else assigned

abbrev pub assigned_behind : Own → (ℕ → ℕ → Bool) → Job → ℕ → ℕ → Bool
assigned_behind o assigned j = assigned_from o assigned j.store j.owner

-- what a phase's instances do: they load what they may, and store nothing, or to a shared cell that is no own scalar's, or to a private scalar; or they add to a sum scalar
pub data IsGoodJob (o : Own) (last : ℕ → Option ℕ) (j : Job) : Type 0 where
  no_store : AllByRecursion (IsGoodLoad o last j.owner) j.loads → j.store ≡ None → IsGoodJob o last j
  to_shared : AllByRecursion (IsGoodLoad o last j.owner) j.loads → (c : ℕ) → j.store ≡ Some c → c < o.shared → o.slot c ≡ None → IsGoodJob o last j
  to_private : AllByRecursion (IsGoodLoad o last j.owner) j.loads → (c k : ℕ) → j.store ≡ Some c → c < o.shared → o.slot c ≡ Some k → o.is_sum c ≡ false → IsGoodJob o last j
  to_sum : (c k : ℕ) → (s : IsSumJob o j c k) → AllByRecursion (IsGoodLoad o last j.owner) (s.front ++ s.rest) → IsGoodJob o last j

abbrev pub AreGoodJobs : Own → (ℕ → Option ℕ) → List Job → Type 0
AreGoodJobs o last [] = Unit {0}
AreGoodJobs o last (j ∷ js) = IsGoodJob o last j × (j.adds ≡ false) × (j.owner < o.workers) × AreGoodJobs o (last_behind o last j) js

pub good_behind : (o : Own) (last : ℕ → Option ℕ) (is js : List Job) → AreGoodJobs o last is → AreGoodJobs o (fold (last_behind o) last is) js → AreGoodJobs o last (is ++ js)
good_behind o last [] js good later = later
good_behind o last (i ∷ is) js good later = (good.0, good.1, good.2, good_behind o (last_behind o last i) is js good.3 later)

module _ (o : Own) (apart : AreApart o) where
  pub step : (m f : ℕ → ℤ) (last : ℕ → Option ℕ) (assigned : ℕ → ℕ → Bool) (j : Job) → Come o m f last assigned → IsGoodJob o last j → j.adds ≡ false → j.owner < o.workers →
      Come o (behind_job m j) (behind_job f (own_job o j)) (last_behind o last j) (assigned_behind o assigned j)
  step m f last assigned j come (no_store good store) plain worker =
      let m_is : behind_job m j ≡ m = ap (λ s. behind_store m s j.adds (j.assigned (map m j.loads))) store in
      let f_is : behind_job f (own_job o j) ≡ f = ap (λ s. behind_store f (option_map (own_cell o j.owner) s) j.adds (j.assigned (map f (map (own_cell o j.owner) j.loads)))) store in
      let last_is : last_behind o last j ≡ last = ap (λ s. kept_by o last s j.owner) store in
      let assigned_is : assigned_behind o assigned j ≡ assigned = ap (λ s. assigned_from o assigned s j.owner) store in
      subst (λ x. Come o x (behind_job f (own_job o j)) (last_behind o last j) (assigned_behind o assigned j)) (sym m_is)
      (subst (λ x. Come o m x (last_behind o last j) (assigned_behind o assigned j)) (sym f_is)
      (subst (λ x. Come o m f x (assigned_behind o assigned j)) (sym last_is)
      (subst (λ x. Come o m f last x) (sym assigned_is) come)))
  step m f last assigned j come (to_shared good c store inside none) plain worker =
      let last_is : last_behind o last j ≡ last = ap (λ s. kept_by o last s j.owner) store ∙ ap (λ s. if is_some s && not (o.is_sum c) then put last c (Some j.owner) else last) none in
      let assigned_is : assigned_behind o assigned j ≡ assigned = ap (λ s. assigned_from o assigned s j.owner) store ∙ ap (λ s. if is_some s && o.is_sum c then put assigned c (put (assigned c) j.owner true) else assigned) none in
      subst (λ x. Come o (behind_job m j) (behind_job f (own_job o j)) x (assigned_behind o assigned j)) (sym last_is)
      (subst (λ x. Come o (behind_job m j) (behind_job f (own_job o j)) last x) (sym assigned_is) (by_shared_store o apart m f last assigned come j good plain c store inside none))
  step m f last assigned j come (to_private good c k store inside slot private) plain worker =
      let last_is : last_behind o last j ≡ put last c (Some j.owner) =
      ap (λ s. kept_by o last s j.owner) store ∙ ap (λ s. if is_some s && not (o.is_sum c) then put last c (Some j.owner) else last) slot ∙ ap (λ b. if not b then put last c (Some j.owner) else last) private in
      let assigned_is : assigned_behind o assigned j ≡ assigned =
      ap (λ s. assigned_from o assigned s j.owner) store ∙ ap (λ s. if is_some s && o.is_sum c then put assigned c (put (assigned c) j.owner true) else assigned) slot ∙ ap (λ b. if b then put assigned c (put (assigned c) j.owner true) else assigned) private in
      subst (λ x. Come o (behind_job m j) (behind_job f (own_job o j)) x (assigned_behind o assigned j)) (sym last_is)
      (subst (λ x. Come o (behind_job m j) (behind_job f (own_job o j)) (put last c (Some j.owner)) x) (sym assigned_is) (by_private_store o apart m f last assigned come j good plain c store inside k slot private))
  step m f last assigned j come (to_sum c k s good) plain worker =
      let last_is : last_behind o last j ≡ last =
      ap (λ x. kept_by o last x j.owner) s.store ∙ ap (λ x. if is_some x && not (o.is_sum c) then put last c (Some j.owner) else last) s.slot ∙ ap (λ b. if not b then put last c (Some j.owner) else last) s.sum in
      let assigned_is : assigned_behind o assigned j ≡ put assigned c (put (assigned c) j.owner true) =
      ap (λ x. assigned_from o assigned x j.owner) s.store ∙ ap (λ x. if is_some x && o.is_sum c then put assigned c (put (assigned c) j.owner true) else assigned) s.slot ∙ ap (λ b. if b then put assigned c (put (assigned c) j.owner true) else assigned) s.sum in
      subst (λ x. Come o (behind_job m j) (behind_job f (own_job o j)) x (assigned_behind o assigned j)) (sym last_is)
      (subst (λ x. Come o (behind_job m j) (behind_job f (own_job o j)) last x) (sym assigned_is) (by_sum o apart m f last assigned come j c k s plain worker good))

  -- along all instances of a phase
  pub along : (m f : ℕ → ℤ) (last : ℕ → Option ℕ) (assigned : ℕ → ℕ → Bool) (js : List Job) → Come o m f last assigned → AreGoodJobs o last js →
      Come o (fold behind_job m js) (fold (λ g j. behind_job g (own_job o j)) f js) (fold (last_behind o) last js) (fold (assigned_behind o) assigned js)
  along m f last assigned [] come good = come
  along m f last assigned (j ∷ js) come good =
      along (behind_job m j) (behind_job f (own_job o j)) (last_behind o last j) (assigned_behind o assigned j) js (step m f last assigned j come good.0 good.1 good.2) good.3

-- ---- lists of cells as memory

-- a memory has these values, cell by cell
abbrev pub Has : List ℤ → (ℕ → ℤ) → Type 0
Has memory f = (c : ℕ) → cell_value memory c ≡ f c

pub same_values : (f g : ℕ → ℤ) → ((c : ℕ) → f c ≡ g c) → (cs : List ℕ) → map f cs ≡ map g cs
same_values f g same [] = refl
same_values f g same (c ∷ cs) = ap (λ v. v ∷ map f cs) (same c) ∙ ap (λ vs. g c ∷ vs) (same_values f g same cs)

set_value : (memory : List ℤ) (c d : ℕ) (v : ℤ) → c < length memory → cell_value (slice_set memory c v) d ≡ (if c == d then v else cell_value memory d)
set_value memory c d v lt = elim (cases_Bool (c == d)) [
  | inl equal ↦
      let same : c ≡ d = eqb-true c d equal in
      get_or-set_at memory c d v (pos 0) (sym same) lt ∙ sym (ap (λ b. if b then v else cell_value memory d) equal)
  | inr other ↦ get_or-set_other memory c d v (pos 0) (λ e. absurd (true≢false (sym (eq-eqb c d (sym e)) ∙ other))) ∙ sym (ap (λ b. if b then v else cell_value memory d) other)
]

-- behind a job, where the cell that it changes is there
pub has_behind : (memory : List ℤ) (f : ℕ → ℤ) (j : Job) → Has memory f → ((c : ℕ) → j.store ≡ Some c → c < length memory) → Has (with_change memory j.store j.adds (j.assigned (map (cell_value memory) j.loads))) (behind_job f j)
has_behind memory f j has there d = by j.store refl
  where
    value_is : j.assigned (map (cell_value memory) j.loads) ≡ j.assigned (map f j.loads)
    value_is = ap j.assigned (same_values (cell_value memory) f has j.loads)

    by : (s : Option ℕ) → j.store ≡ s → cell_value (with_change memory s j.adds (j.assigned (map (cell_value memory) j.loads))) d ≡ behind_store f s j.adds (j.assigned (map f j.loads)) d
    by None at = has d
    by (Some c) at =
        set_value memory c d (changed j.adds (cell_value memory c) (j.assigned (map (cell_value memory) j.loads))) (there c at)
        ∙ ap (λ v. if c == d then v else cell_value memory d) (ap (λ x. changed j.adds x (j.assigned (map (cell_value memory) j.loads))) (has c) ∙ ap (changed j.adds (f c)) value_is)
        ∙ ap (λ v. if c == d then changed j.adds (f c) (j.assigned (map f j.loads)) else v) (has d)

-- In a trip a private that is loaded was stored last by the trip's processor, and behind it too.
use Rattle.std.proofs.Common.{◌≡◌, ℕ, ◌==◌, Bool, true, false, ◌&&◌, not, List, [], ◌∷◌, ◌++◌, fold, Option, Some, None, refl, ap, sym, subst, ◌∙◌, inl, inr, if◌then◌else◌}
use Rattle.std.specs.Prelude.{is_some}
use Rattle.std.specs.List.{AllByRecursion, Contains}
use Rattle.std.proofs.lemmas.Bool.{cases_Bool, eq-eqb}
use Rattle.spmd_model.specs.Timelines.{Job}
use Rattle.spmd_model.specs.OwnPhases.{Own, put}
use Rattle.spmd_model.specs.Trips.{IsAway, IsTrip, kept_by, last_behind}

module _ (o : Own) (c k p : ℕ) (slot : o.slot c ≡ Some k) (private : o.is_sum c ≡ false) where
  -- a store to the private by p
  stored : (last : ℕ → Option ℕ) (j : Job) → j.owner ≡ p → j.store ≡ Some c → last_behind o last j c ≡ Some p
  stored last j own store =
      ap (λ s. kept_by o last s j.owner c) store
      ∙ ap (λ s. (if is_some s && not (o.is_sum c) then put last c (Some j.owner) else last) c) slot
      ∙ ap (λ b. (if not b then put last c (Some j.owner) else last) c) private
      ∙ ap (λ b. if b then Some j.owner else last c) (eq-eqb c c refl) ∙ ap Some own

  -- any job of p keeps it p's
  kept : (last : ℕ → Option ℕ) (j : Job) → j.owner ≡ p → last c ≡ Some p → last_behind o last j c ≡ Some p
  kept last j own was = by j.store
    where
      inner : (d : ℕ) (b : Bool) → (if b then put last d (Some j.owner) else last) c ≡ Some p
      inner d false = was
      inner d true = elim (cases_Bool (d == c)) [
        | inl same ↦ ap (λ b. if b then Some j.owner else last c) same ∙ ap Some own
        | inr other ↦ ap (λ b. if b then Some j.owner else last c) other ∙ was
      ]

      by : (s : Option ℕ) → kept_by o last s j.owner c ≡ Some p
      by None = was
      by (Some d) = inner d (is_some (o.slot d) && not (o.is_sum d))

  kept_along : (last : ℕ → Option ℕ) (js : List Job) → AllByRecursion (λ (j : Job). j.owner ≡ p) js → last c ≡ Some p → fold (last_behind o) last js c ≡ Some p
  kept_along last [] owners was = was
  kept_along last (j ∷ js) owners was = kept_along (last_behind o last j) js owners.1 (kept last j owners.0 was)

  -- behind a front of the trip that has the first store
  behind_first : (last : ℕ → Option ℕ) (before : List Job) (first : Job) (zs : List Job) → AllByRecursion (λ (j : Job). j.owner ≡ p) (before ++ first ∷ zs) → first.store ≡ Some c → fold (last_behind o) last (before ++ first ∷ zs) c ≡ Some p
  behind_first last [] first zs owners store = kept_along (last_behind o last first) zs owners.1 (stored last first owners.0 store)
  behind_first last (b ∷ before) first zs owners store = behind_first (last_behind o last b) before first zs owners.1 store

  pub behind_trip : (last : ℕ → Option ℕ) (js : List Job) → IsTrip o c p js → fold (last_behind o) last js c ≡ Some p
  behind_trip last js t = ap (λ l. fold (last_behind o) last l c) t.is ∙ behind_first last t.before t.first t.after (subst (AllByRecursion (λ (j : Job). j.owner ≡ p)) t.is t.owners) t.stores

  -- in front of a job that loads it
  loads_behind : (last : ℕ → Option ℕ) (before : List Job) (first : Job) (after xs : List Job) (j : Job) (ys : List Job) → before ++ first ∷ after ≡ xs ++ j ∷ ys → AllByRecursion (IsAway c) before → (Contains first.loads c → ⊥) → first.store ≡ Some c → Contains j.loads c →
      AllByRecursion (λ (i : Job). i.owner ≡ p) (xs ++ j ∷ ys) → fold (last_behind o) last xs c ≡ Some p
  loads_behind last [] first after [] j ys same away clean store loads owners = let is : first ≡ j = cc in absurd (clean (subst (λ (i : Job). Contains i.loads c) (sym is) loads))
  loads_behind last [] first after (x ∷ xs) j ys same away clean store loads owners =
      let is : first ≡ x = cc in
      kept_along (last_behind o last x) xs (fronts xs (j ∷ ys) owners.1) (stored last x owners.0 (sym (ap (λ (i : Job). i.store) is) ∙ store))
    where
      fronts : (js is : List Job) → AllByRecursion (λ (i : Job). i.owner ≡ p) (js ++ is) → AllByRecursion (λ (i : Job). i.owner ≡ p) js
      fronts [] is h = tt
      fronts (a ∷ js) is h = (h.0, fronts js is h.1)
  loads_behind last (b ∷ before) first after [] j ys same away clean store loads owners = let is : b ≡ j = cc in absurd (away.0.loads (subst (λ (i : Job). Contains i.loads c) (sym is) loads))
  loads_behind last (b ∷ before) first after (x ∷ xs) j ys same away clean store loads owners =
      let rest : before ++ first ∷ after ≡ xs ++ j ∷ ys = cc in
      loads_behind (last_behind o last x) before first after xs j ys rest away.1 clean store loads owners.1

  pub before_load : (last : ℕ → Option ℕ) (js xs : List Job) (j : Job) (ys : List Job) → IsTrip o c p js → js ≡ xs ++ j ∷ ys → Contains j.loads c → fold (last_behind o) last xs c ≡ Some p
  before_load last js xs j ys t split loads = loads_behind last t.before t.first t.after xs j ys (sym t.is ∙ split) t.away t.clean t.stores loads (subst (AllByRecursion (λ (i : Job). i.owner ≡ p)) split t.owners)

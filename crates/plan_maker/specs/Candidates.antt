-- The candidates that are taken in front of the phases.
use Rattle.std.specs.Prelude.{ℕ, suc, ◌-◌, ◌<◌, length, List, [], ◌∷◌, ◌++◌, map, Option, Some, None, slice_get}
use Rattle.std.specs.List.{AllZip, range_with_len}
use Rattle.sync_plan.specs.declared.plan.Kind.{Kind}
use Rattle.sync_plan.specs.declared.plan.Kind.TheVariants.{Barrier}

-- the kinds that are taken, each by its place among the candidates
abbrev pub or_barrier : Option Kind → Kind
or_barrier None = Barrier
or_barrier (Some k) = k

abbrev pub kinds_taken : List (List Kind) → List ℕ → List Kind
kinds_taken [] taken = []
kinds_taken (ks ∷ candidates) [] = []
kinds_taken (ks ∷ candidates) (i ∷ taken) =
    or_barrier (slice_get ks i) ∷ kinds_taken candidates taken

-- the place of the last candidate of each phase
abbrev pub last_places : List (List Kind) → List ℕ
last_places candidates = map (λ ks. length ks - 1) candidates

-- a place for each phase, and each is that of a candidate
abbrev pub ArePlaces : List (List Kind) → List ℕ → Type 0
ArePlaces candidates taken = AllZip (λ ks i. i < length ks) candidates taken

-- a candidate by its phase, from 0, and its place among those of the phase
pub record Choice : Type 0 where
  pub phase : ℕ
  pub place : ℕ

-- those that are weaker than what is taken, phase by phase
abbrev pub weaker_at : ℕ → ℕ → List Choice
weaker_at t taken = map (λ i. record { phase = t; place = i }) (range_with_len 0 taken)

abbrev pub weaker_from : ℕ → List ℕ → List Choice
weaker_from t [] = []
weaker_from t (i ∷ taken) = weaker_at t i ++ weaker_from (suc t) taken

-- a candidate by its phase and place
abbrev pub kinds_at : Option (List Kind) → ℕ → Kind
kinds_at None i = Barrier
kinds_at (Some ks) i = or_barrier (slice_get ks i)

abbrev pub candidate : List (List Kind) → Choice → Kind
candidate candidates c = kinds_at (slice_get candidates c.phase) c.place

-- The trips of a loop as lists of jobs: in each, the first that has a private stores it.
use Rattle.std.specs.Prelude.{ℕ, ◌≡◌, ◌&&◌, not, is_some, List, ◌∷◌, ◌++◌, Option, Some, None, Contains, if◌then◌else◌}
use Rattle.std.specs.List.{AllByRecursion}
use Rattle.spmd_model.specs.Timelines.{Job}
use Rattle.spmd_model.specs.OwnPhases.{Own, put}

-- who stored a private last, behind a job
abbrev pub kept_by : Own → (ℕ → Option ℕ) → Option ℕ → ℕ → ℕ → Option ℕ
kept_by o last None p = last
kept_by o last (Some c) p =
    if is_some (o.slot c) && not (o.is_sum c) then put last c (Some p) else last

abbrev pub last_behind : Own → (ℕ → Option ℕ) → Job → ℕ → Option ℕ
last_behind o last j = kept_by o last j.store j.owner

-- a job doesn't touch a cell
pub record IsAway (c : ℕ) (j : Job) : Type 0 where
  pub loads : Contains j.loads c → ⊥
  pub store : j.store ≡ Some c → ⊥

-- the jobs of one trip, all of processor p: of those that have the private c the first stores it, and doesn't load it
pub record IsTrip (o : Own) (c p : ℕ) (js : List Job) : Type 0 where
  pub owners : AllByRecursion (λ (j : Job). j.owner ≡ p) js
  pub before : List Job
  pub first : Job
  pub after : List Job
  pub is : js ≡ before ++ first ∷ after
  pub away : AllByRecursion (IsAway c) before
  pub stores : first.store ≡ Some c
  pub clean : Contains first.loads c → ⊥

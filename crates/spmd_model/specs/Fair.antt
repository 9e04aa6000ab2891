-- Fair orders, in which each processor comes again and again, and how many acts are left to do.
use Rattle.std.specs.Prelude.{ℕ, ◌-◌, ◌≡◌, ◌≤◌, ◌<◌, ◌++◌, Bool, false, List, [], ◌∷◌, All, Contains, Option, Some, None, length, map, slice_index, sum_by}
use Rattle.std.specs.List.{range_with_len}
use Rattle.spmd_model.specs.Reached.{processors}
use Rattle.spmd_model.specs.States.{State, is_possible, next_act}
use Rattle.spmd_model.specs.Timelines.{Machine}
use Rattle.spmd_model.specs.Acts.{Act, acts_of}

-- processor p has a next act, and it is possible
abbrev pub can_go : State → Option Act → Bool
can_go s None = false
can_go s (Some act) = is_possible s act

abbrev pub can_step : Machine → State → ℕ → Bool
can_step m s p = can_go s (next_act m s p)

-- how many acts the processors have left
unfoldable pub acts_to_go : Machine → State → ℕ
acts_to_go m s = sum_by (λ p. length (acts_of m p) - slice_index s.positions p) (processors m)

-- ---- blocks: of processors alone, and each of them is there

pub record IsBlock (workers : ℕ) (block : List ℕ) : Type 0 where
  pub below : All (λ p. p < workers) block
  pub each : (p : ℕ) → p < workers → Contains block p

-- the schedule of blocks, one behind another
abbrev pub blocks_in : List (List ℕ) → List ℕ
blocks_in [] = []
blocks_in (block ∷ rest) = block ++ blocks_in rest

-- ---- endless orders: who is to do the step with this number, from 0

-- processors alone, and each comes again, at this number or behind it
pub record IsFair (workers : ℕ) (order : ℕ → ℕ) : Type 0 where
  pub below : (n : ℕ) → order n < workers
  pub again : (p n : ℕ) → p < workers → (k : ℕ) × (n ≤ k) × (order k ≡ p)

-- the schedule of its first n steps
abbrev pub first_of : (ℕ → ℕ) → ℕ → List ℕ
first_of order n = map order (range_with_len 0 n)

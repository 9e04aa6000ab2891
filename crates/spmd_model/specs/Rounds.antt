-- A barrier by signals, as boundaries in a row: in each round a processor awaits the one that stands a power of two before it.
use Rattle.std.specs.Prelude.{ℕ, zero, suc, ◌+◌, ◌-◌, ◌^◌, ◌%◌, ◌<◌, ◌≤◌, ◌≡◌, nat_le, true, List, [], ◌∷◌, Some, if◌then◌else◌, map, slice_get, refl}
use Rattle.std.specs.List.{range_with_len}
use Rattle.spmd_model.specs.Timelines.{Machine, Moment, boundary, signal}

-- the processor that stands 2 ^ r before p, of so many in a ring
abbrev pub awaited_in_round : ℕ → ℕ → ℕ → ℕ
awaited_in_round workers r p = (p + workers - 2 ^ r) % workers

abbrev pub round_boundary : ℕ → ℕ → ℕ → Moment
round_boundary workers first r =
    boundary signal (first + r) (λ q. true) (λ p. awaited_in_round workers r p ∷ [])

-- so many rounds from this place of the timeline on, whose first number this is
abbrev pub AreRounds : Machine → ℕ → ℕ → ℕ → Type 0
AreRounds m place first rounds = (r : ℕ) → r < rounds
    → slice_get m.timeline (place + r) ≡ Some (round_boundary m.workers first r)

-- as many rounds as reach every processor, and no more of them
pub record AreEnough (workers rounds : ℕ) : Type 0 where
  pub reach : workers ≤ 2 ^ rounds
  pub least : 2 ^ rounds ≤ workers + workers

-- the least number of rounds that reach so many processors, at most 64: from this one on, of so many that are tried
abbrev pub rounds_from : ℕ → ℕ → ℕ → ℕ
rounds_from zero workers r = r
rounds_from (suc more) workers r =
    if nat_le workers (2 ^ r) then r else rounds_from more workers (suc r)

abbrev pub rounds_of : ℕ → ℕ
rounds_of workers = rounds_from 6 workers 0

-- all rounds, of which the first has this number
abbrev pub rounds_in : ℕ → ℕ → ℕ → List Moment
rounds_in workers first rounds = map (round_boundary workers first) (range_with_len 0 rounds)

pub rounds_of-example : map rounds_of (1 ∷ 2 ∷ 3 ∷ 5 ∷ 64 ∷ []) ≡ 0 ∷ 1 ∷ 2 ∷ 3 ∷ 6 ∷ []
rounds_of-example = refl

-- of five processors, processor 0 awaits 4, 3 and 1
pub awaited_in_round-example : map (λ r. awaited_in_round 5 r 0) (range_with_len 0 3)
    ≡ 4 ∷ 3 ∷ 1 ∷ []
awaited_in_round-example = refl

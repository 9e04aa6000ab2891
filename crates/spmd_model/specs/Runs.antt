-- One step of one processor, and the run of a schedule.
use Rattle.std.specs.Prelude.{ℕ, ◌≡◌, ◌<◌, List, Option, Some, None, length, fold, slice_index, if◌then◌else◌}
use Rattle.spmd_model.specs.Timelines.{Machine}
use Rattle.spmd_model.specs.Acts.{Act, acts_of}
use Rattle.spmd_model.specs.States.{State, acted, first_state, is_possible, moved, next_act}

-- the state behind a step of p: nothing changes where it has no act or its act isn't possible
abbrev pub stepped_by : Machine → State → ℕ → Option Act → State
stepped_by m s p None = s
stepped_by m s p (Some act) = if is_possible s act then moved (acted m s p act) p else s

abbrev pub stepped : Machine → State → ℕ → State
stepped m s p = stepped_by m s p (next_act m s p)

-- the state behind a schedule, a list of processor numbers
abbrev pub run_of : Machine → List ℕ → State
run_of m schedule = fold (stepped m) (first_state m) schedule

-- each processor has done all its acts
abbrev pub IsEnded : Machine → State → Type 0
IsEnded m s = (p : ℕ) → p < m.workers → slice_index s.positions p ≡ length (acts_of m p)

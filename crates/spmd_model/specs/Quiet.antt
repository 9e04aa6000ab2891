-- Quiet acts, which touch only cells that are one processor's own, and turns: one act and then the quiet ones that stand next.
use Rattle.std.specs.Prelude.{ℕ, suc, Bool, false, nat_le, List, [], ◌∷◌, drop, fold, replicate, slice_index, if◌then◌else◌}
use Rattle.std.specs.List.{range_with_len}
use Rattle.spmd_model.specs.Timelines.{Machine}
use Rattle.spmd_model.specs.Acts.{Act, post, await, load, store, add, print, acts_of}
use Rattle.spmd_model.specs.States.{State, first_state}
use Rattle.spmd_model.specs.Runs.{stepped}

-- of so many cells that all share
abbrev pub is_quiet : ℕ → Act → Bool
is_quiet shared (post word number) = false
is_quiet shared (await word on wanted) = false
is_quiet shared (load place cell) = nat_le shared cell
is_quiet shared (store place cell) = nat_le shared cell
is_quiet shared (add place cell) = false
is_quiet shared (print place) = false

-- how many quiet acts stand first
abbrev pub quiet_first : ℕ → List Act → ℕ
quiet_first shared [] = 0
quiet_first shared (a ∷ rest) = if is_quiet shared a then suc (quiet_first shared rest) else 0

abbrev pub quiet_next : Machine → ℕ → State → ℕ → ℕ
quiet_next m shared s p = quiet_first shared (drop (slice_index s.positions p) (acts_of m p))

-- behind the quiet acts of p that stand next
abbrev pub past_quiet : Machine → ℕ → State → ℕ → State
past_quiet m shared s p = fold (stepped m) s (replicate (quiet_next m shared s p) p)

abbrev pub turned : Machine → ℕ → State → ℕ → State
turned m shared s p = past_quiet m shared (stepped m s p) p

-- the first state, with the leading quiet acts of each processor done, and the state behind a schedule of turns
abbrev pub first_turn : Machine → ℕ → State
first_turn m shared = fold (past_quiet m shared) (first_state m) (range_with_len 0 m.workers)

abbrev pub turns_of : Machine → ℕ → List ℕ → State
turns_of m shared schedule = fold (turned m shared) (first_turn m shared) schedule

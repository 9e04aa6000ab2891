-- How far a processor has come with its deeds, as its seat, its own cells and the turns that it has left show it.
use Rattle.std.specs.Prelude.{ℕ, ◌+◌, ◌*◌, ◌-◌, ◌==◌, ◌&&◌, ◌||◌, nat_le, nat_lt, ℤ, Bool, List, ◌∷◌, drop, length, map, if◌then◌else◌}
use Rattle.std.specs.Cmp.Lexicographic.{pointwise}
use Rattle.std.specs.List.{flat_map, range_with_len}
use Rattle.std.specs.Ordering.{int_eq}
use Rattle.nest_tree.specs.Layout.{cell_count}
use Rattle.nest_tree.specs.Tree.{Tree}
use Rattle.owner_partition.specs.Phases.{phases}
use Rattle.sync_plan.specs.declared.plan.Plan.{Plan}
use Rattle.spmd_model.specs.Deeds.{Deed, posting}
use Rattle.spmd_model.specs.Timelines.{signal}
use Rattle.spmd_model.specs.declared.style.Style.{Style}
use Rattle.spmd_model.specs.Protocols.{held_at}
use Rattle.turns.specs.CounterTurns.{counter_turns}
use Rattle.turns.specs.Turns.{Turn, first_standing, turns_by, turn_deeds}
use Rattle.turns.specs.TurnsLeft.{turns_left, turns_place}
use Rattle.turns.specs.declared.turns.Turns.{Turns}
use Rattle.fork_join.specs.SeenDeeds.{phase_deed}
use Rattle.shared_words.specs.Places.{settled_at}
use Rattle.shared_words.specs.Homes.{CellView, Home, plan_given, protocol_at, style_given, tree_given}

abbrev pub tree_at : Home → Tree
tree_at h = tree_given h.given

abbrev pub plan_at : Home → Plan
plan_at h = plan_given h.given

abbrev pub style_at : Home → Style
style_at h = style_given h.given

-- all turns of a processor, and all its deeds
abbrev pub turns_at : Home → ℕ → List Turn
turns_at h p = turns_by (style_at h) (tree_at h) (plan_at h) p first_standing
    (counter_turns (tree_at h) (plan_at h) p 1 (phases (tree_at h) (plan_at h).cut.marks))

-- its deeds in turns
abbrev pub deeds_in : Home → ℕ → List Turn → List Deed
deeds_in h p ts = flat_map (turn_deeds (tree_at h) (plan_at h) p) ts

unfoldable pub deeds_at : Home → ℕ → List Deed
deeds_at h p = deeds_in h p (turns_at h p)

-- how many deeds the processor of a seat has done that has these turns left
abbrev pub place_of : CellView → Turns → ℕ
place_of v t =
    length (deeds_at v.home v.processor) - length (deeds_in v.home v.processor (turns_left t))

-- ---- own cells

-- the cell that a processor has for the own scalar with a place
abbrev pub own_place : Home → ℕ → ℕ → ℕ
own_place h p k = cell_count (tree_at h) + (32 * p + k)

-- what a processor's own cells hold where it has done so many deeds
abbrev pub held_cells : Home → ℕ → ℕ → List ℤ
held_cells h p n = map (λ k. held_at (protocol_at h) p (own_place h p k) n) (range_with_len 0 32)

-- ---- what a seat shows

-- a seat stands where it stood, or further on, behind an act that was done
abbrev pub is_on : CellView → CellView → Bool
is_on old new = (new.position == old.position && (new.misses == old.misses && new.seen == old.seen))
    || (nat_lt old.position new.position && new.misses == 0)

-- a seat that stood there, and own cells, show that so many deeds are done, and those behind them that nobody else sees
abbrev pub is_behind : CellView → CellView → List ℤ → ℕ → Bool
is_behind from v own n =
    (settled_at (protocol_at v.home) v.processor n == v.position)
    && (nat_le n (length (deeds_at v.home v.processor))
    && (is_on from v && pointwise int_eq own (held_cells v.home v.processor n)))

-- what is left behind so many, or more than there is where the seat and the cells don't show it; what the loads since the last store, addition or PRINT gave, and what was printed
abbrev pub left_behind : CellView → CellView → List ℤ → ℕ → List Deed
left_behind from v own n = if is_behind from v own n
    then drop n (deeds_at v.home v.processor)
    else posting signal 0 ∷ deeds_at v.home v.processor

abbrev pub registers_behind : CellView → ℕ → List ℤ
registers_behind v n = (protocol_at v.home).registers_at v.processor n

abbrev pub printed_behind : CellView → ℕ → List ℕ
printed_behind v n = (protocol_at v.home).printed_at v.processor n

-- ---- as an instance has it

-- what is left, as an instance of the phase has it that these turns are in
abbrev pub left_seen : Turns → CellView → CellView → List ℤ → ℕ → List Deed
left_seen t from v own n = map (phase_deed (tree_at v.home) (plan_at v.home) (turns_place t)
    v.processor) (left_behind from v own n)

-- What the marks of loops say: where a walk of the phases stops, and which phases are dealt out.
use Rattle.std.specs.Prelude.{ℕ, ◌-◌, Bool, true, false, List, map, slice_get, Option, Some, None}
use Rattle.nest_tree.specs.Tree.{Statement, do_loop, work, continue}
use Rattle.nest_walk.specs.Walks.{enters_but}
use Rattle.owner_partition.specs.declared.cut.Mark.{Mark}
use Rattle.owner_partition.specs.declared.cut.Mark.TheVariants.{Outer, Doall, Sum, Single, Inner}

-- a walk of the phases goes into an Outer loop, and stops at any other
abbrev pub is_closed : Mark → Bool
is_closed Outer = false
is_closed Doall = true
is_closed Sum = true
is_closed Single = true
is_closed Inner = true

-- the loops that it enters, by their numbers from 1
abbrev pub enters_outer : List Mark → ℕ → Bool
enters_outer marks = enters_but (map is_closed marks)

-- the mark of the loop with this number, from 1; a loop without one counts as Inner
abbrev pub marked : Option Mark → Mark
marked None = Inner
marked (Some m) = m

abbrev pub mark_of : List Mark → ℕ → Mark
mark_of marks n = marked (slice_get marks (n - 1))

-- the trips of a loop with this mark are dealt to the processors
abbrev pub is_doall : Mark → Bool
is_doall Outer = false
is_doall Doall = true
is_doall Sum = true
is_doall Single = false
is_doall Inner = false

-- processors add up scalars of their own in a loop with this mark
abbrev pub is_sum_mark : Mark → Bool
is_sum_mark Outer = false
is_sum_mark Doall = false
is_sum_mark Sum = true
is_sum_mark Single = false
is_sum_mark Inner = false

-- a static phase is a loop whose trips are dealt
abbrev pub is_dealt : List Mark → Statement → Bool
is_dealt marks (do_loop head body) = is_doall (mark_of marks head.number)
is_dealt marks (work w) = false
is_dealt marks (continue line) = false

use Rattle.std.proofs.Common.{◌≡◌, ◌+◌, ◌++◌, drop, map}
use Rattle.comm_system.specs.Obligations.{slots_before}
use Rattle.comm_system.specs.PhaseViews.{phase_seen}
use Rattle.comm_system.specs.SlotViews.{slot_seen}
use Rattle.comm_system.proofs.slot_list.push_before.Given as goal

abbrev pub invariant-loop-index : goal.invariant-loop-index
invariant-loop-index l =
    map slot_seen l.found.items ++ slots_before (l.index + 1) (map phase_seen (drop l.index l.phases)) l.t (phase_seen l.second)
    ≡ map slot_seen l.initial.found.items ++ slots_before 1 (map phase_seen l.phases) l.t (phase_seen l.second)

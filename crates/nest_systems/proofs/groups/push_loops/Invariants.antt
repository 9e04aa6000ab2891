use Rattle.std.proofs.Common.{◌+◌, ◌*◌, drop}
use Rattle.nest_rows.specs.Groups.{loops_have}
use Rattle.nest_rows.specs.Views.{heads_of}
use Rattle.nest_rows.proofs.RowLists.{AreLeft}
use Rattle.nest_systems.proofs.groups.push_loops.Given as goal

abbrev pub invariant-loop-index : goal.invariant-loop-index
invariant-loop-index l =
    let heads = heads_of l.around in
    AreLeft (loops_have l.first heads l.first heads) l.initial.system l.system (loops_have l.first heads (l.first + 2 * l.index) (heads_of (drop l.index l.around)))

use Rattle.std.proofs.Common.{◌≡◌, ◌+◌, length, sum_by}
use Rattle.nest_tree.specs.View.{tree_of}
use Rattle.nest_model.specs.Visits.{visits}
use Rattle.nest_walk.specs.Cursors.{left_of}
use Rattle.nest_walk.specs.Walks.{enters_but}
use Rattle.instance_runs.specs.Rooms.{visit_room}
use Rattle.instance_runs.proofs.room.longest_output.Given as goal

abbrev pub invariant-loop-stop : goal.invariant-loop-stop
invariant-loop-stop l = l.room + sum_by (visit_room (tree_of l.program)) (left_of l.cursor) ≡ sum_by (visit_room (tree_of l.program)) (visits (tree_of l.program) (enters_but l.closed))

abbrev pub decreases-loop-stop : goal.decreases-loop-stop
decreases-loop-stop l = length (left_of l.cursor)

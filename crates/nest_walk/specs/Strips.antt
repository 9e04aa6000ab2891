-- The trips that are left of a loop round one assignment.
use Rattle.std.specs.Prelude.{ℤ, List, [], ◌∷◌, map}
use Rattle.std.specs.List.{flat_map}
use Rattle.nest_tree.specs.Tree.{Tree, param_values}
use Rattle.nest_tree.specs.View.{tree_of}
use Rattle.nest_model.specs.Instances.{Instance}
use Rattle.nest_model.specs.Visits.{Visit, instances_at}
use Rattle.nest_walk.specs.Cursors.{visit_at}
use Rattle.nest_walk.specs.Paths.{Round}
use Rattle.nest_walk.specs.RoundsOf.{rounds_of}
use Rattle.nest_walk.specs.TripsLeft.{trips_left}
use Rattle.nest_walk.specs.declared.strip.Strip.{Strip}

abbrev pub strip_tree : Strip → Tree
strip_tree s = tree_of s.program.now

-- the loops round the assignment, with their values, the innermost first
abbrev pub strip_rounds : Strip → List Round
strip_rounds s = rounds_of s.path

-- the same, where the innermost loop has this value
abbrev pub at_value : List Round → ℤ → List Round
at_value [] v = []
at_value (r ∷ rounds) v = record { number = r.number; value = v } ∷ rounds

-- the stops that are left: the assignment, once for each trip
abbrev pub strip_visits : Strip → List Visit
strip_visits s =
    map (λ v. visit_at (strip_tree s) (at_value (strip_rounds s) v) s.stop) (trips_left s.trips)

-- the instances that are left
abbrev pub strip_left : Strip → List Instance
strip_left s = flat_map (instances_at (param_values (strip_tree s))) (strip_visits s)

use Rattle.std.proofs.Common.{◌<◌, ◌++◌, ℤ, Option, None, Some, IfSome, List, [], ◌∷◌, length, map, ap, arith}
use Rattle.std.specs.List.{flat_map}
use Rattle.nest_tree.specs.Tree.{param_values}
use Rattle.nest_tree.specs.View.{statement_of}
use Rattle.nest_model.specs.Instances.{Instance}
use Rattle.nest_model.specs.Visits.{instances_at}
use Rattle.nest_walk.specs.Cursors.{loops_in, visit_at}
use Rattle.nest_walk.specs.Strips.{at_value, strip_left, strip_rounds, strip_tree}
use Rattle.nest_walk.specs.TripsLeft.{trips_left}
use Rattle.nest_walk.specs.declared.strip.Strip.{Strip}
use Rattle.nest_walk.proofs.Strips.{plain_executed}
use Rattle.nest_walk.proofs.instances.Instances.strip.Goals as goal

-- each trip has an instance
trips_some : (s : Strip) (vs : List ℤ) → 0 < length vs → 0 < length (flat_map (instances_at (param_values (strip_tree s))) (map (λ v. visit_at (strip_tree s) (at_value (strip_rounds s) v) s.stop) vs))
trips_some s [] h = absurd (omega arith)
trips_some s (v ∷ vs) h =
    let params = param_values (strip_tree s) in
    let one = plain_executed params (statement_of s.stop.item.now) s.stop.place s.stop.first (loops_in (strip_tree s) (at_value (strip_rounds s) v)) s.plain in
    let rest = flat_map (instances_at params) (map (λ w. visit_at (strip_tree s) (at_value (strip_rounds s) w) s.stop) vs) in
    omega (arith, ap (λ (xs : List Instance). length (xs ++ rest)) one.1)

strip_some : (o : Option Strip) → IfSome o (λ s. 0 < length (trips_left s.trips)) → IfSome o (λ s. 0 < length (strip_left s))
strip_some None h = h
strip_some (Some s) h = trips_some s (trips_left s.trips) h

pub returns-clause-some : goal.returns-clause-some
returns-clause-some c = strip_some c.strip.result c.strip.ensures.some

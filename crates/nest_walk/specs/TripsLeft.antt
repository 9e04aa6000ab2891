-- The values of trips that are left.
use Rattle.std.specs.Prelude.{ℤ, List}
use Rattle.nest_walk.specs.Progressions.{progression}
use Rattle.nest_walk.specs.declared.trips.Trips.{Trips}

abbrev pub trips_left : Trips → List ℤ
trips_left t = progression t.next t.step t.count

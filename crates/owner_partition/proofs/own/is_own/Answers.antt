use Rattle.std.proofs.Common.{◌≡◌, ◌==◌, pos, ◌+ℤ◌, ◌*ℤ◌, ap, ◌∙◌, FitsSigned, rules, arith}
use Rattle.std.specs.Int.{w128}
use Rattle.std.proofs.lemmas.Int.{ints, to_z-of_z}
use Rattle.nest_tree.specs.Layout.{count_of}
use Rattle.owner_partition.specs.Owners.{dealt}
use Rattle.owner_partition.specs.OwnTrips.{trip_owner}
use Rattle.owner_partition.proofs.Trips.{one_trip}
use Rattle.owner_partition.proofs.own.is_own.Goals as goal

pub returns-clause-owned : goal.returns-clause-owned
returns-clause-owned c =
    let a = c.args in
    let place = c.exact_value-place.result in
    let f : FitsSigned w128 place = search rules in
    let own = simp to_z-of_z at c.own_trips_from.ensures in
    let same : place +ℤ (pos 0 *ℤ pos 0) ≡ place = omega (arith, ints) in
    one_trip (trip_owner a.anchor.now.dist a.workers place (pos 0) 0 == a.p) c.own_trips_from.result.first c.own_trips_from.result.stride c.own_trips_from.result.count own
    ∙ ap (λ w. count_of (dealt a.anchor.now.dist a.workers w) == a.p) (same ∙ c.exact_value-place.ensures.value)

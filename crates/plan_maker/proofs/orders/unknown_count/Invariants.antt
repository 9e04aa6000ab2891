use Rattle.std.proofs.Common.{◌≡◌, ◌+◌, ◌*◌, ◌≤◌, drop}
use Rattle.plan_maker.specs.Orders.{unknowns_of}
use Rattle.plan_maker.proofs.orders.unknown_count.Given as goal

abbrev pub invariant-loop-dist : goal.invariant-loop-dist
invariant-loop-dist l = record { sum : l.count + unknowns_of (drop l.dist-index l.dists) ≡ unknowns_of l.dists; few : l.count ≤ 2 * l.dist-index }

use Rattle.std.proofs.Common.{◌≡◌, ◌+◌, ◌++◌, drop}
use Rattle.plan_maker.specs.Orders.{owners_from, unknowns_of}
use Rattle.plan_maker.proofs.orders.push_owners.Given as goal

abbrev pub invariant-loop-dist : goal.invariant-loop-dist
invariant-loop-dist l = record {
  order : l.order.items ++ owners_from l.owner (drop l.dist-index l.dists) ≡ l.initial.order.items ++ owners_from l.first l.dists;
  sum : l.owner + unknowns_of (drop l.dist-index l.dists) ≡ l.first + unknowns_of l.dists;
}

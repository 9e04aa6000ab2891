use Rattle.std.proofs.Common.{◌≡◌, ◌+◌, ◌<◌, ◌^◌, ℕ, IsTrue, drop}
use Rattle.nest_tree.specs.View.{statements_from}
use Rattle.nest_tree.specs.WellFormed.{Scope, are_good_statements}
use Rattle.nest_model.specs.Instances.{works_of}
use Rattle.nest_model.specs.Visits.{stops_of}
use Rattle.nest_walk.specs.Places.{numbers_of}
use Rattle.nest_walk.specs.RoundsOf.{rounds_of}
use Rattle.nest_walk.specs.Walks.{enters_but}
use Rattle.owner_partition.specs.Sites.{site_among}
use Rattle.owner_partition.proofs.site.+site.Given as goal

abbrev pub invariant-site_among-loop-item : goal.invariant-site_among-loop-item
invariant-site_among-loop-item l =
    let rest = statements_from (drop l.item-index l.items) in
    let enters = enters_but l.closed in record {
      good : (scope : Scope) × (number : ℕ) × IsTrue (are_good_statements scope (numbers_of (rounds_of l.path)) number rest);
      stops : stops_of enters rest < 2 ^ 32;
      works : l.number + works_of rest < 2 ^ 32;
      same : site_among enters l.outer (rounds_of l.path) rest l.left l.number ≡ site_among enters l.outer (rounds_of l.fn.path) (statements_from l.items) l.place l.first;
    }

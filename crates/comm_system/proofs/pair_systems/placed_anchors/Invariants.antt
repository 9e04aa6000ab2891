use Rattle.std.proofs.Common.{◌≡◌, ◌+◌, ◌≤◌, ◌++◌, ◌∷◌, drop, map, IsTrue, length}
use Rattle.std.specs.List.{list_all}
use Rattle.nest_tree.specs.Tree.{Tree}
use Rattle.conflict_rules.specs.Boundaries.{of_first, of_second}
use Rattle.comm_system.specs.Obligations.{placed_at}
use Rattle.comm_system.specs.OwnerViews.{fits_owner, placed_seen}
use Rattle.comm_system.specs.Seen.{pair_of}
use Rattle.conflict_rules.specs.SideViews.{producer_seen}
use Rattle.comm_system.specs.SystemViews.{AreUnknowns}
use Rattle.comm_system.proofs.pair_systems.placed_anchors.Given as goal

abbrev pub invariant-loop-producer : goal.invariant-loop-producer
invariant-loop-producer l = record {
  placed : (tree : Tree) → AreUnknowns tree (pair_of l.fn.a l.fn.b) l.fn.n →
      map placed_seen l.all.items ++ map (placed_at tree (pair_of l.fn.a l.fn.b)) (map producer_seen (drop l.producer-index l.fn.waits.producers.items))
      ≡ placed_at tree (pair_of l.fn.a l.fn.b) (l.fn.first, of_first) ∷ placed_at tree (pair_of l.fn.a l.fn.b) (l.fn.second, of_second) ∷ map (placed_at tree (pair_of l.fn.a l.fn.b)) (map producer_seen l.fn.waits.producers.items);
  fit : IsTrue (list_all fits_owner l.all.items);
  count : length l.all.items ≤ 2 + l.producer-index;
}

-- Where accesses meet, values solve a system of the plan.
use Rattle.std.proofs.Common.{ℕ, None, List, [], ◌∷◌, length, map}
use Rattle.std.specs.List.{Contains}
use Rattle.nest_tree.specs.Tree.{Tree}
use Rattle.nest_tree.specs.WellFormed.{IsWellFormed, scope_of}
use Rattle.farkas_cert.specs.Inequalities.{IsWholeSolution}
use Rattle.owner_partition.specs.declared.anchor.Anchor.{Anchor}
use Rattle.sync_plan.specs.declared.plan.Plan.{Plan}
use Rattle.sync_plan.specs.Fit.{IsFit}
use Rattle.conflict_rules.specs.Boundaries.{Side, of_first, of_second}
use Rattle.comm_system.specs.Levels.{common, order_at, two_trips}
use Rattle.comm_system.specs.Meetings.{AreHolders, Holder, LiesAmong, LiesBeside, Meet, Point, holders_values, values_of}
use Rattle.conflict_rules.specs.Slots.{Slot}
use Rattle.comm_system.specs.Obligations.{anchor_at, lasts_at, owners_of, piece_task, trips_task}
use Rattle.comm_system.specs.OwnerRows.{Piece, distance}
use Rattle.comm_system.specs.Pairs.{Pair, pairs_of, pairs_within}
use Rattle.conflict_rules.specs.References.{StaticPhase, phases_of}
use Rattle.comm_laws.proofs.PairLists.{fit_conditions, pair_good, within_good}
use Rattle.comm_laws.proofs.Systems.{holders_named, owners_solved, trips_solved}

pub trips_meet : (tree : Tree) (plan : Plan) (s : StaticPhase) (pair : Pair) (x y : Point) → IsWellFormed tree → IsFit tree plan → Contains (phases_of tree plan.cut.marks) s → Contains (pairs_within plan.cut s) pair → Meet tree (two_trips (length s.outer)) (None, None) pair x y →
    IsWholeSolution (trips_task tree plan s pair).system (values_of tree pair x y [])
trips_meet tree plan s pair x y formed fits here among meet =
    let known = fit_conditions tree plan fits in
    let good = within_good tree plan s pair formed here among in
    trips_solved tree plan.conditions (two_trips (length s.outer)) (None, None) pair x y (scope_of tree).ranks meet known.0 known.1 good.0 good.1

pub owners_meet : (tree : Tree) (plan : Plan) (slot : Slot) (pair : Pair) (x y : Point) (left right : ℕ) (producers : List (Anchor × Side)) (q p : Holder) (os : List Holder) (piece : Piece) (n : ℕ) → IsWellFormed tree → IsFit tree plan →
    Contains (phases_of tree plan.cut.marks) slot.first → Contains (phases_of tree plan.cut.marks) slot.second → Contains (pairs_of plan.cut slot.first slot.second) pair → Meet tree (order_at (common slot.first.outer slot.second.outer) slot.level) (lasts_at plan.cut slot pair) pair x y →
    AreHolders tree plan.workers pair x y ((anchor_at plan slot.s, of_first) ∷ (anchor_at plan slot.t, of_second) ∷ producers) (q ∷ p ∷ os) → LiesBeside piece.range (distance piece.range left right) q.owner p.owner → LiesAmong q.owner (map (λ (o : Holder). o.owner) os) piece.producers →
    IsWholeSolution (piece_task tree plan slot left right producers pair n piece).system (values_of tree pair x y (holders_values (owners_of tree plan slot producers pair) (q ∷ p ∷ os)))
owners_meet tree plan slot pair x y left right producers q p os piece n formed fits here there among meet holders range sides =
    let known = fit_conditions tree plan fits in
    let good = pair_good tree plan slot.first slot.second pair formed here there among in
    let us = (anchor_at plan slot.s, of_first) ∷ (anchor_at plan slot.t, of_second) ∷ producers in
    let named = holders_named tree plan.workers pair x y us (q ∷ p ∷ os) holders in
    owners_solved tree plan.conditions (order_at (common slot.first.outer slot.second.outer) slot.level) (lasts_at plan.cut slot pair) pair x y (scope_of tree).ranks meet known.0 known.1 good.0 good.1 plan.workers left right producers (anchor_at plan slot.s) (anchor_at plan slot.t) q p os piece named.0 named.1 range sides

use Rattle.std.proofs.Common.{◌≡◌, ◌+◌, ◌-◌, ◌≤◌, ◌∷◌, arith, length, map, ap, ap₂, ◌∙◌}
use Rattle.std.specs.List.{range_with_len}
use Rattle.farkas_cert.specs.Inequalities.{Inequalities}
use Rattle.nest_tree.specs.View.{tree_of}
use Rattle.conflict_rules.specs.Boundaries.{of_first, of_second}
use Rattle.comm_system.specs.Obligations.{anchor_at, placed_at}
use Rattle.comm_system.specs.OwnerRows.{owners_unknowns}
use Rattle.comm_system.specs.OwnerViews.{placed_seen}
use Rattle.comm_system.specs.RowViews.{order_seen}
use Rattle.comm_system.specs.Seen.{pair_of}
use Rattle.conflict_rules.specs.SideViews.{producer_seen}
use Rattle.comm_system.specs.SlotViews.{slot_seen}
use Rattle.comm_system.proofs.ShapeParts.{shaped}
use Rattle.comm_system.proofs.SystemParts.{shared_numbers, shared_system}
use Rattle.comm_system.proofs.pair_systems.make_shared.Goals as goal

pub anchor_at-first-requires-clause-places : goal.anchor_at-first-requires-clause-places
anchor_at-first-requires-clause-places c = (shaped (tree_of c.args.program.now) c.args.plan.now c.requires).anchors

pub anchor_at-second-requires-clause-places : goal.anchor_at-second-requires-clause-places
anchor_at-second-requires-clause-places c = (shaped (tree_of c.args.program.now) c.args.plan.now c.requires).anchors

pub returns-clause-shared : goal.returns-clause-shared
returns-clause-shared c =
    let tree = tree_of c.args.program.now in
    let plan = c.args.plan.now in
    let slot = slot_seen c.args.slot.now in
    let producers = map producer_seen c.args.waits.now.producers.items in
    let pair = pair_of c.args.a.now c.args.b.now in
    let n = c.in_ok-n.n in
    let are = c.in_ok-n.ensures.are in
    let placed = c.in_ok-placed.placed.items in
    let owners = c.in_ok-placed.ensures.placed tree are
    ∙ ap (λ x. placed_at tree pair (x, of_first) ∷ placed_at tree pair (c.anchor_at-second.result.now, of_second) ∷ map (placed_at tree pair) producers) c.anchor_at-first.ensures.anchor
    ∙ ap (λ x. placed_at tree pair (anchor_at plan slot.s, of_first) ∷ placed_at tree pair (x, of_second) ∷ map (placed_at tree pair) producers) c.anchor_at-second.ensures.anchor in
    let first = ap (map placed_seen) c.as_slice.ensures.value ∙ owners in
    let second = ap (map placed_seen) c.as_slice-2.ensures.value ∙ owners in
    record {
      system = shared_system tree plan slot producers pair n (map placed_seen c.as_slice-2.result.now) (order_seen c.in_ok-order.order) (c.last_in.result, c.last_in-2.result) c.empty-system.result c.push_pair.new.system c.push_owners.new.system c.owners_unknowns.result
          are second c.in_ok-order.ensures.order (ap₂ (λ x y. (x, y)) c.last_in.ensures c.last_in-2.ensures) (c.owners_unknowns.ensures.unknowns ∙ ap owners_unknowns first) c.empty-system.ensures c.in_ok-push_pair.ensures c.in_ok-owners.ensures.rows;
      owners = c.in_ok-owners.ensures.numbers ∙ shared_numbers tree plan slot producers pair n (map placed_seen c.as_slice-2.result.now) are second;
      owned =
          let count = c.owners_unknowns.ensures.unknowns ∙ ap owners_unknowns first in
          let some : 1 ≤ n.behind = let b = are.behind in omega (arith, b) in
          let many : n.behind + c.owners_unknowns.result - 1 + 1 - n.behind ≡ c.owners_unknowns.result = omega (arith, some) in
          c.in_ok-owned.ensures ∙ ap₂ range_with_len are.behind (many ∙ count);
    }

pub empty-system-requires : goal.empty-system-requires
empty-system-requires c = let are = c.in_ok-n.ensures.are in omega (arith, are.first, are.second, are.behind)

pub push_pair-requires-clause-none : goal.push_pair-requires-clause-none
push_pair-requires-clause-none c = ap (λ (s : Inequalities). s.rows) c.empty-system.ensures

pub push_pair-requires-clause-constants : goal.push_pair-requires-clause-constants
push_pair-requires-clause-constants c =
    let are = c.in_ok-n.ensures.are in
    let empty = ap (λ (s : Inequalities). s.vars) c.empty-system.ensures in
    omega (arith, are.behind, empty)

pub unknowns_from-requires-clause-first : goal.unknowns_from-requires-clause-first
unknowns_from-requires-clause-first c = let are = c.in_ok-n.ensures.are in omega (arith, are.behind)

pub unknowns_from-requires-clause-room : goal.unknowns_from-requires-clause-room
unknowns_from-requires-clause-room c =
    let long = ap length c.as_slice.ensures.value in
    omega (arith, long, c.in_ok-n.ensures.are.few, c.owners_unknowns.ensures.few, c.in_ok-placed.ensures.count)

pub returns-clause-few : goal.returns-clause-few
returns-clause-few c =
    let owned = ap (λ (s : Inequalities). s.vars) c.in_ok-owners.ensures.rows in
    let paired = ap (λ (s : Inequalities). s.vars) c.in_ok-push_pair.ensures in
    let empty = ap (λ (s : Inequalities). s.vars) c.empty-system.ensures in
    let long = ap length c.as_slice.ensures.value in
    omega (arith, owned, paired, empty, long, c.in_ok-n.ensures.are.few, c.owners_unknowns.ensures.few, c.in_ok-placed.ensures.count)

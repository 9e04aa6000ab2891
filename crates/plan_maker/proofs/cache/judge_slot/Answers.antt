use Rattle.std.proofs.Common.{ℕ, ◌≤◌, rules, map, ap, ◌∙◌, subst, ◌≡◌, length, sym, arith}
use Rattle.std.specs.Prelude.{IfOk}
use Rattle.std.specs.List.{flat_map}
use Rattle.std.proofs.lemmas.List.{length-map}
use Rattle.nest_tree.specs.View.{tree_of}
use Rattle.owner_partition.specs.declared.anchor.Anchor.{Anchor}
use Rattle.comm_system.specs.GroupViews.{group_seen, listed_seen}
use Rattle.comm_system.specs.Obligations.{slot_tasks}
use Rattle.comm_system.specs.SideViews.{producer_seen}
use Rattle.comm_system.specs.SlotViews.{slot_seen}
use Rattle.comm_system.specs.Subjects.{obligations_in, of_slot}
use Rattle.comm_system.proofs.GroupLists.{of_waits}
use Rattle.comm_system.specs.Pairs.{Pair, pairs_of}
use Rattle.comm_system.specs.Boundaries.{Side}
use Rattle.plan_maker.specs.Asked.{owners_dealt}
use Rattle.plan_maker.specs.Judged.{IsVerdict, asked_about, asked_in}
use Rattle.plan_maker.specs.Caches.{waits_seen}
use Rattle.plan_maker.proofs.Numbered.{asked_flat, asked_numbered}
use Rattle.plan_maker.proofs.Askable.{groups_dealt}
use Rattle.plan_maker.proofs.cache.judge_slot.Goals as goal

pub returns : goal.returns
returns c =
    let tree = tree_of c.args.problem.program.now in
    let plan = c.args.problem.plan.now in
    let slot = slot_seen c.args.slot.now in
    let seen = waits_seen c.args.waits.now in
    let dealt = owners_dealt plan slot (map producer_seen c.args.waits.now.producers.items) in
    let most : ℕ = 18446744073709551615 in
    let within : c.in_ok-groups.groups.next ≤ most = search rules in
    let groups = map group_seen c.as_slice.result.now in
    let obligations = ap (λ gs. flat_map (obligations_in tree plan) (map group_seen gs)) c.as_slice.ensures.value ∙ of_waits tree plan most 1 slot seen (listed_seen c.in_ok-groups.groups) c.in_ok-groups.ensures within in
    let same = ap (λ ds. flat_map (asked_in tree plan ds) groups) (c.as_slice-2.ensures.value ∙ c.in_ok-dists.ensures) ∙ asked_flat tree plan dealt groups ∙ ap (map (asked_about dealt)) obligations ∙ asked_numbered dealt 1 (slot_tasks tree plan slot seen) in
    subst (λ qs. IfOk c.judge_groups.result (IsVerdict qs)) same c.judge_groups.ensures

pub judge_groups-requires-clause-few : goal.judge_groups-requires-clause-few
judge_groups-requires-clause-few c =
    let producers = c.args.waits.now.producers.items in
    let long = ap length (c.as_slice-2.ensures.value ∙ c.in_ok-dists.ensures) in
    omega (arith, long, length-map (map producer_seen producers) (λ (p : Anchor × Side). p.0.dist), length-map producers producer_seen, c.args.waits.now.three)

pub judge_groups-requires-clause-dealt : goal.judge_groups-requires-clause-dealt
judge_groups-requires-clause-dealt c =
    let plan = c.args.problem.plan.now in
    let slot = slot_seen c.args.slot.now in
    let waits = c.args.waits.now in
    let producers = map producer_seen waits.producers.items in
    let dists = c.as_slice-2.result.now in
    let is : dists ≡ owners_dealt plan slot producers = c.as_slice-2.ensures.value ∙ c.in_ok-dists.ensures in
    groups_dealt plan dists (of_slot slot waits.left waits.right producers) (λ (pair : Pair). is) 18446744073709551615 1 (pairs_of plan.cut slot.first slot.second) c.as_slice.result.now (listed_seen c.in_ok-groups.groups) (ap (map group_seen) (sym c.as_slice.ensures.value)) c.in_ok-groups.ensures

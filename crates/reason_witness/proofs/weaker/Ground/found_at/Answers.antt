use Rattle.std.proofs.Common.{ℕ, ◌≤◌, rules, map, ap, ◌∙◌, subst}
use Rattle.std.specs.Result.{IfOk}
use Rattle.std.specs.List.{flat_map}
use Rattle.nest_tree.specs.View.{tree_of}
use Rattle.comm_system.specs.GroupViews.{group_seen, listed_seen}
use Rattle.comm_system.specs.SlotViews.{slot_seen}
use Rattle.comm_system.specs.Subjects.{obligations_in}
use Rattle.comm_system.proofs.GroupLists.{of_waits}
use Rattle.plan_maker.specs.Caches.{waits_seen}
use Rattle.reason_witness.specs.Findings.{IsSearched}
use Rattle.reason_witness.proofs.weaker.Ground.found_at.Goals as goal

pub returns : goal.returns
returns c =
    let tree = tree_of c.args.self.now.program.now in
    let plan = c.args.self.now.plan.now in
    let signature = waits_seen c.args.waits.now in
    let most : ℕ = 18446744073709551615 in
    let within : c.in_ok-groups.groups.next ≤ most = search rules in
    let same = ap (λ gs. flat_map (obligations_in tree plan) (map group_seen gs)) c.as_slice.ensures.value
    ∙ of_waits tree plan most 1 (slot_seen c.args.slot.now) signature (listed_seen c.in_ok-groups.groups) c.in_ok-groups.ensures within in
    subst (λ os. IfOk c.found_among.result (IsSearched c.args.self.now.is_whole os c.args.wanted.now)) same c.found_among.ensures

use Rattle.std.proofs.Common.{◌≡◌, ℕ, ◌≤◌, IfOk, rules, map, ap, ◌∙◌, subst}
use Rattle.std.specs.List.{flat_map}
use Rattle.nest_tree.specs.View.{tree_of}
use Rattle.comm_system.specs.GroupViews.{group_seen, listed_seen}
use Rattle.comm_system.specs.Subjects.{obligations_in}
use Rattle.comm_system.proofs.GroupLists.{of_plan}
use Rattle.comm_system.proofs.obligations.obligations.Goals as goal

pub returns : goal.returns
returns c =
    let tree = tree_of c.args.program.now in
    let plan = c.args.plan.now in
    let most : ℕ = 18446744073709551615 in
    let within : c.in_ok-groups.groups.next ≤ most = search rules in
    let same = ap (λ gs. flat_map (obligations_in tree plan) (map group_seen gs)) c.as_slice-2.ensures.value ∙ of_plan tree plan most (listed_seen c.in_ok-groups.groups) c.in_ok-groups.ensures within in
    subst (λ os. IfOk c.obligations_in_groups.result (λ v. v.items ≡ os)) same c.obligations_in_groups.ensures

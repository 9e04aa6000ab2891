use Rattle.std.proofs.Common.{◌+◌, drop, map, ap}
use Rattle.std.specs.List.{flat_map}
use Rattle.nest_tree.specs.View.{tree_of}
use Rattle.comm_system.specs.GroupViews.{group_seen}
use Rattle.comm_system.specs.Subjects.{obligations_in}
use Rattle.comm_system.proofs.ListSteps.{lists_more}
use Rattle.comm_system.proofs.RowSteps.{left_more}
use Rattle.comm_system.proofs.obligations.obligations_in_groups.Goals as goal

pub loop-group-preserved : goal.loop-group-preserved
loop-group-preserved c =
    let groups = c.args.groups.now in
    let f = obligations_in (tree_of c.args.program.now) c.args.plan.now in
    let k = c.loop-group.group-index in
    let g = c.group-item.result in
    lists_more (flat_map f (map group_seen groups)) c.loop-group.found.items c.push_group.new.found.items (flat_map f (map group_seen (drop k groups))) (flat_map f (map group_seen (drop (k + 1) groups))) (f (group_seen g))
    c.loop-group.invariant (ap (flat_map f) (left_more group_seen groups k g c.loop-group-test.true c.group-item.is)) c.in_ok-push_group.ensures

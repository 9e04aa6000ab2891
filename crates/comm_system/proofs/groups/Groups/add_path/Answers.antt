use Rattle.std.proofs.Common.{◌+◌, [], ◌∷◌, length}
use Rattle.conflict_rules.specs.Seen.{reference_seen}
use Rattle.comm_system.specs.GroupViews.{listed_seen}
use Rattle.comm_system.specs.Subjects.{of_path, with_subjects}
use Rattle.comm_system.proofs.GroupSteps.{listed_more}
use Rattle.comm_system.proofs.PathGroups.{loops_left, loops_more}
use Rattle.comm_system.proofs.groups.Groups.add_path.Goals as goal

pub loop-outside-preserved : goal.loop-outside-preserved
loop-outside-preserved c =
    let r = reference_seen c.in-Some.store.now in
    let k = c.loop-outside.outside in
    let end = c.len-outside-end.result in
    listed_more c.args.most (listed_seen c.loop-outside.self) (listed_seen c.add.new.self) (with_subjects c.args.most (listed_seen c.args.self.now) (loops_left r (length c.as_slice.result.now + 1) end)) (loops_left r k end) (of_path (record { store = r; outside = k }) ∷ []) (loops_left r (k + 1) end)
    c.loop-outside.invariant (loops_more r k end c.loop-outside-test.true) c.in_ok-add.ensures

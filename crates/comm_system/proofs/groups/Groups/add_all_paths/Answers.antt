use Rattle.std.proofs.Common.{◌+◌, drop, map}
use Rattle.std.specs.List.{flat_map}
use Rattle.comm_system.specs.GroupViews.{listed_seen}
use Rattle.comm_system.specs.PhaseViews.{phase_seen}
use Rattle.comm_system.specs.Subjects.{paths_subjects, with_subjects}
use Rattle.comm_system.proofs.GroupSteps.{flat_more, listed_more}
use Rattle.comm_system.proofs.groups.Groups.add_all_paths.Goals as goal

pub loop-phase-preserved : goal.loop-phase-preserved
loop-phase-preserved c =
    let phases = c.args.phases.now in
    let f = paths_subjects c.args.cut.now in
    let k = c.loop-phase.phase-index in
    let p = c.phase-item.result in
    listed_more c.args.most (listed_seen c.loop-phase.self) (listed_seen c.add_paths.new.self) (with_subjects c.args.most (listed_seen c.args.self.now) (flat_map f (map phase_seen phases))) (flat_map f (map phase_seen (drop k phases))) (f (phase_seen p)) (flat_map f (map phase_seen (drop (k + 1) phases)))
    c.loop-phase.invariant (flat_more phase_seen f phases k p c.loop-phase-test.true c.phase-item.is) c.in_ok-add_paths.ensures

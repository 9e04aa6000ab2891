use Rattle.std.proofs.Common.{map, ap, ◌∙◌}
use Rattle.comm_system.specs.GroupViews.{group_seen}
use Rattle.comm_system.specs.PhaseViews.{phase_seen}
use Rattle.comm_system.specs.Subjects.{paths_subjects, with_subjects}
use Rattle.comm_system.proofs.paths.path_groups.Goals as goal

pub returns : goal.returns
returns c =
    let s = phase_seen c.args.phase.now in
    c.in_ok-add_paths.ensures ∙ ap (λ gs. with_subjects 18446744073709551615 (record { groups = map group_seen gs; next = 1 }) (paths_subjects c.args.cut.now s)) c.new.ensures.items

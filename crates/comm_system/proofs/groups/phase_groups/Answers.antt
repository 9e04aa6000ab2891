use Rattle.std.proofs.Common.{map, ap, ◌∙◌}
use Rattle.comm_system.specs.GroupViews.{group_seen}
use Rattle.comm_system.specs.Pairs.{pairs_within}
use Rattle.comm_system.specs.PhaseViews.{phase_seen}
use Rattle.comm_system.specs.Subjects.{of_trips, with_subjects}
use Rattle.comm_system.proofs.groups.phase_groups.Goals as goal

pub returns : goal.returns
returns c =
    let s = phase_seen c.args.phase.now in
    c.in_ok-add_phase.ensures ∙ ap (λ gs. with_subjects c.args.most (record { groups = map group_seen gs; next = c.args.number }) (map (of_trips s) (pairs_within c.args.cut.now s))) c.new.ensures.items

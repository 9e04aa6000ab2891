use Rattle.std.proofs.Common.{◌++◌, map, ap, ◌∙◌}
use Rattle.conflict_rules.specs.Boundaries.{of_first, of_second}
use Rattle.comm_system.specs.Certain.{certain_on}
use Rattle.comm_system.specs.PhaseViews.{phase_seen}
use Rattle.comm_system.specs.SideViews.{boundary_seen}
use Rattle.conflict_rules.specs.SlotViews.{level_seen}
use Rattle.comm_system.proofs.boundary.certain_boundaries.Goals as goal

pub returns-clause-boundaries : goal.returns-clause-boundaries
returns-clause-boundaries c =
    let phases = map phase_seen c.args.phases.now in
    let level = level_seen c.in_text-level.result in
    c.in_ok-push_certain-2.ensures.found
    ∙ ap (λ us. us ++ certain_on of_second level phases) c.in_ok-push_certain.ensures.found
    ∙ ap (λ us. (map boundary_seen us ++ certain_on of_first level phases) ++ certain_on of_second level phases) c.new-found.ensures.items
    ∙ ap (λ x. certain_on of_first x phases ++ certain_on of_second x phases) c.in_text-level.ensures

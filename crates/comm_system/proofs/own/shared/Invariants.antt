use Rattle.std.proofs.Common.{◌≡◌, ◌++◌, drop, map, not}
use Rattle.std.specs.List.{filter}
use Rattle.comm_system.specs.PhaseViews.{phase_seen}
use Rattle.comm_system.specs.KeptViews.{kept_seen}
use Rattle.conflict_rules.specs.Seen.{reference_seen}
use Rattle.comm_system.specs.Shown.{is_own_in}
use Rattle.comm_system.proofs.own.shared.Given as goal

abbrev pub invariant-loop-reference : goal.invariant-loop-reference
invariant-loop-reference l =
    map kept_seen l.found.items ++ filter (λ r. not (is_own_in l.cut (phase_seen l.phase) r)) (map reference_seen (drop l.reference-index l.references))
    ≡ filter (λ r. not (is_own_in l.cut (phase_seen l.phase) r)) (map reference_seen l.references)

use Rattle.std.proofs.Common.{◌≡◌, drop, map}
use Rattle.nest_tree.specs.Tree.{param_values}
use Rattle.nest_tree.specs.View.{tree_of}
use Rattle.conflict_rules.specs.Seen.{reference_seen}
use Rattle.comm_system.specs.PhaseViews.{phase_seen}
use Rattle.maker_candidates.specs.Candidates.{accessed_owners, each_once}
use Rattle.maker_candidates.proofs.producers.push_accessed.Given as goal

abbrev pub invariant-loop-reference : goal.invariant-loop-reference
invariant-loop-reference l =
    let tree = tree_of l.site.program.now in
    let phase = l.site.phase.now in
    let owners = accessed_owners tree l.site.plan.now.cut.marks l.site.plan.now.workers l.site.number (phase_seen phase) in
    let once = each_once (param_values tree) l.site.plan.now.workers in
    once l.found.items (owners (map reference_seen (drop l.reference-index phase.references.items))) ≡ once l.initial.found.items (owners (map reference_seen phase.references.items))

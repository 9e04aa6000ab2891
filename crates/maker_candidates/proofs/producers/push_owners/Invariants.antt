use Rattle.std.proofs.Common.{◌≡◌, drop, map}
use Rattle.nest_tree.specs.Tree.{param_values}
use Rattle.nest_tree.specs.View.{tree_of}
use Rattle.comm_system.specs.PhaseViews.{phase_seen}
use Rattle.maker_candidates.specs.Candidates.{each_once, phase_owners}
use Rattle.maker_candidates.proofs.producers.push_owners.Given as goal

abbrev pub invariant-loop-place : goal.invariant-loop-place
invariant-loop-place l =
    let once = each_once (param_values (tree_of l.site.program.now)) l.site.plan.now.workers in
    let owners = phase_owners (phase_seen l.site.phase.now) in
    once l.found.items (owners (map phase_seen (drop l.place l.phases)) (drop l.place l.site.plan.now.anchors)) ≡ once l.initial.found.items (owners (map phase_seen l.phases) l.site.plan.now.anchors)

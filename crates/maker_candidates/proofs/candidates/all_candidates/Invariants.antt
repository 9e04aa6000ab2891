use Rattle.std.proofs.Common.{◌≡◌, ◌+◌, ◌++◌, drop, map}
use Rattle.nest_tree.specs.View.{tree_of}
use Rattle.comm_system.specs.PhaseViews.{phase_seen}
use Rattle.maker_candidates.specs.Candidates.{candidates_from, candidates_in}
use Rattle.maker_candidates.proofs.candidates.all_candidates.Given as goal

abbrev pub invariant-loop-place : goal.invariant-loop-place
invariant-loop-place l =
    let tree = tree_of l.program in
    l.all.items ++ candidates_from tree l.plan.cut.marks l.plan.workers l.plan.anchors (map phase_seen l.phases) (l.place + 1) (map phase_seen (drop l.place l.phases)) ≡ candidates_in tree l.plan

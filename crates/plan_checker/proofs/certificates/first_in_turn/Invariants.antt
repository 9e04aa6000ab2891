use Rattle.std.proofs.Common.{◌≡◌, drop, map}
use Rattle.nest_tree.specs.View.{tree_of}
use Rattle.comm_system.specs.GroupViews.{group_seen}
use Rattle.plan_checker.specs.Certificates.{fault_in, first_of}
use Rattle.plan_checker.proofs.certificates.first_in_turn.Given as goal

abbrev pub invariant-loop-group : goal.invariant-loop-group
invariant-loop-group l =
    let fault = fault_in (tree_of l.program) l.plan in
    first_of fault (map group_seen (drop l.group-index l.groups)) ≡ first_of fault (map group_seen l.groups)

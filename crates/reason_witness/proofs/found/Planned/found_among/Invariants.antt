use Rattle.std.proofs.Common.{IsTrue, map, take}
use Rattle.std.specs.List.{flat_map}
use Rattle.nest_tree.specs.View.{tree_of}
use Rattle.comm_system.specs.GroupViews.{group_seen}
use Rattle.comm_system.specs.Subjects.{obligations_in}
use Rattle.reason_witness.specs.Findings.{AreCertified}
use Rattle.reason_witness.proofs.found.Planned.found_among.Given as goal

abbrev pub invariant-loop-group : goal.invariant-loop-group
invariant-loop-group l = IsTrue l.self.is_whole → AreCertified (flat_map (obligations_in (tree_of l.self.program.now) l.self.plan.now) (map group_seen (take l.group-index l.groups))) l.wanted

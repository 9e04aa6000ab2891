use Rattle.std.proofs.Common.{drop, map}
use Rattle.comm_system.specs.OwnerRows.{beside}
use Rattle.comm_system.specs.PieceViews.{direction_seen}
use Rattle.comm_system.proofs.Growings.{AreBehind}
use Rattle.comm_system.proofs.pair_systems.push_beside.Given as goal

abbrev pub invariant-loop-index : goal.invariant-loop-index
invariant-loop-index l = AreBehind (beside l.q l.others (map direction_seen l.sides)) l.initial.system l.system (beside l.q (drop l.index l.others) (map direction_seen (drop l.index l.sides)))

use Rattle.std.proofs.Common.{◌≡◌, take}
use Rattle.comm_system.specs.SystemViews.{obligations_seen}
use Rattle.comm_system.proofs.in_place.pair_obligations.Given as goal

abbrev pub invariant-loop-index : goal.invariant-loop-index
invariant-loop-index l = record {
  same : obligations_seen l.systems ≡ obligations_seen l.initial.systems;
  found : l.found.items ≡ take l.index (obligations_seen l.initial.systems);
}

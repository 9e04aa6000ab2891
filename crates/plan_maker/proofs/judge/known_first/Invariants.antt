use Rattle.std.proofs.Common.{◌≡◌, List, length, map, take}
use Rattle.comm_system.specs.SystemViews.{kept_columns, obligations_seen}
use Rattle.owner_partition.specs.declared.anchor.Dist.{Dist}
use Rattle.plan_maker.specs.Asked.{AreRefuted}
use Rattle.plan_maker.specs.Judged.{asked_about}
use Rattle.plan_maker.proofs.judge.known_first.Given as goal

abbrev pub invariant-loop-index : goal.invariant-loop-index
invariant-loop-index l = record {
  same : obligations_seen l.systems ≡ obligations_seen l.initial.systems;
  columns : kept_columns l.systems ≡ kept_columns l.initial.systems;
  count : length l.certificates.items ≡ l.index;
  refuted : (dists : List Dist) → AreRefuted (map (asked_about dists) (take (length l.certificates.items) (obligations_seen l.initial.systems))) l.certificates.items;
}

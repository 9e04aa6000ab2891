use Rattle.std.proofs.Common.{◌≡◌, map, take}
use Rattle.comm_system.specs.SystemViews.{kept_columns, obligations_seen}
use Rattle.plan_maker.specs.Asked.{AreRefuted}
use Rattle.plan_maker.specs.Judged.{asked_about}
use Rattle.plan_maker.proofs.judge.judge_from.Given as goal

abbrev pub invariant-loop-index : goal.invariant-loop-index
invariant-loop-index l = record {
  same : obligations_seen l.systems ≡ obligations_seen l.initial.systems;
  columns : kept_columns l.systems ≡ kept_columns l.initial.systems;
  refuted : AreRefuted (map (asked_about l.dists) (take l.index (obligations_seen l.initial.systems))) l.certificates.items;
}

use Rattle.std.proofs.Common.{◌≡◌}
use Rattle.fm_elim.specs.Advances.{IsLevel, gone_of, order_of, system_of}
use Rattle.plan_maker.proofs.beginnings.level_without.Given as goal

abbrev pub invariant-loop-gone : goal.invariant-loop-gone
invariant-loop-gone l = record {
  level : IsLevel l.level;
  system : system_of l.level ≡ l.system;
  order : order_of l.level ≡ l.order;
  gone : gone_of l.level ≡ l.gone;
}

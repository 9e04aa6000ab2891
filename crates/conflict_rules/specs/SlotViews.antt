-- Two static phases at a level as plain data.
use Rattle.conflict_rules.specs.Slots.{Slot}
use Rattle.conflict_rules.specs.StaticViews.{static_phase_seen}
use Rattle.conflict_rules.specs.declared.level.Level.{Level}

abbrev pub level_seen : Level → Slot
level_seen x = record {
  s = x.s;
  first = static_phase_seen x.first.now;
  t = x.t;
  second = static_phase_seen x.second.now;
  level = x.level;
}

-- Slots as plain data.
use Rattle.std.specs.Prelude.{ℕ}
pub use Rattle.conflict_rules.specs.SlotViews.{level_seen}
use Rattle.conflict_rules.specs.Slots.{Slot}
use Rattle.comm_system.specs.PhaseViews.{phase_seen}
use Rattle.comm_system.specs.declared.slot.Slot.{Slot as Held}

abbrev pub slot_seen : Held → Slot
slot_seen x = record {
  s = x.s;
  first = phase_seen x.first.now;
  t = x.t;
  second = phase_seen x.second.now;
  level = x.level;
}

-- the same phases at another level
abbrev pub at_level : Slot → ℕ → Slot
at_level x level = record { s = x.s; first = x.first; t = x.t; second = x.second; level = level }

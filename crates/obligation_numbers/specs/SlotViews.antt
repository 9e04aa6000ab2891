-- Two phases as plain data.
use Rattle.std.specs.Prelude.{ℕ, List}
use Rattle.nest_tree.specs.View.{tree_of}
use Rattle.comm_system.specs.Obligations.{Slot}
use Rattle.comm_system.specs.References.{StaticPhase, phases_of}
use Rattle.comm_system.specs.StaticViews.{static_phase_seen}
use Rattle.obligation_numbers.specs.declared.scene.Both.{Both}
use Rattle.obligation_numbers.specs.declared.scene.Second.{Second}

abbrev pub second_of : Second → StaticPhase
second_of x = static_phase_seen x.phase.now

abbrev pub first_of : Both → StaticPhase
first_of x = static_phase_seen x.first.now

-- all of the program
abbrev pub phases_at : Both → List StaticPhase
phases_at x = phases_of (tree_of x.second.scene.program.now) x.second.scene.plan.now.cut.marks

-- the two at a level
abbrev pub slot_at : Both → ℕ → Slot
slot_at x level = record {
  s = x.s;
  first = first_of x;
  t = x.second.t;
  second = second_of x.second;
  level = level;
}

-- The certain boundaries of a slot, on both sides and on one.
use Rattle.std.specs.Prelude.{List}
pub use Rattle.conflict_rules.specs.Slots.{is_certain}
use Rattle.conflict_rules.specs.Boundaries.{Boundary, Side, boundaries_where, certain_boundaries}
use Rattle.conflict_rules.specs.Slots.{Slot}
use Rattle.conflict_rules.specs.References.{StaticPhase}

abbrev pub certain_of : Slot → List StaticPhase → List Boundary
certain_of x phases = certain_boundaries phases x.first.outer x.second.outer x.s x.t x.level

abbrev pub certain_on : Side → Slot → List StaticPhase → List Boundary
certain_on side x phases = boundaries_where (is_certain side x) side 1 phases

-- Sides, boundaries and producers as plain data.
pub use Rattle.conflict_rules.specs.SideViews.{side_seen, producer_seen}
use Rattle.conflict_rules.specs.Boundaries.{Boundary}
use Rattle.comm_system.specs.declared.boundary.Boundary.{Boundary as HeldBoundary}

abbrev pub boundary_seen : HeldBoundary → Boundary
boundary_seen u = record { phase = u.phase; side = side_seen u.side }

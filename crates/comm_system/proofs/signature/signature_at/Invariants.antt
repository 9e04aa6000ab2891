use Rattle.std.proofs.Common.{◌≤◌, map, take}
use Rattle.comm_system.specs.SideViews.{boundary_seen}
use Rattle.comm_system.specs.SignatureViews.{HasSeen}
use Rattle.comm_system.proofs.signature.signature_at.Given as goal

abbrev pub invariant-loop-boundary : goal.invariant-loop-boundary
invariant-loop-boundary l = record {
  seen : HasSeen l.kinds (map boundary_seen (take l.boundary-index l.boundaries)) l.seen;
  left : l.seen.left ≤ l.boundary-index;
  right : l.seen.right ≤ l.boundary-index;
}

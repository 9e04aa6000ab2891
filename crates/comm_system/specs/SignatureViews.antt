-- What is seen of kinds, as plain data.
use Rattle.std.specs.Prelude.{◌+◌, ◌≡◌, ◌||◌, List, ◌++◌, map, sum_by}
use Rattle.std.specs.List.{flat_map, list_any}
use Rattle.sync_plan.specs.declared.plan.Kind.{Kind}
use Rattle.conflict_rules.specs.Boundaries.{Boundary}
use Rattle.comm_system.specs.Signatures.{Signature, blocked, waits, is_barrier, kind_at, left_waits, producers_at, right_waits}
use Rattle.conflict_rules.specs.SideViews.{producer_seen, side_seen}
use Rattle.comm_system.specs.declared.signature.Seen.{Seen}
use Rattle.conflict_rules.specs.declared.producer.Side.{Side}
use Rattle.comm_system.specs.declared.signature.Signature.{Signature as Held}
use Rattle.comm_system.specs.declared.signature.Signature.TheVariants.{Blocked, Waits as Wait}

abbrev pub signature_seen : Held → Signature
signature_seen Blocked = blocked
signature_seen (Wait w) = waits w.left w.right (map producer_seen w.producers.items)

-- what was seen of these boundaries
pub record HasSeen (kinds : List Kind) (boundaries : List Boundary) (seen : Seen) : Type 0 where
  pub barrier : seen.barrier ≡ list_any (λ u. is_barrier (kind_at kinds u)) boundaries
  pub left : seen.left ≡ sum_by (λ u. left_waits (kind_at kinds u)) boundaries
  pub right : seen.right ≡ sum_by (λ u. right_waits (kind_at kinds u)) boundaries
  pub producers : map producer_seen seen.producers.items
      ≡ flat_map (λ (u : Boundary). producers_at u.side (kind_at kinds u)) boundaries

-- a kind more, in front of a boundary on this side
pub record Adds (kind : Kind) (side : Side) (old new : Seen) : Type 0 where
  pub barrier : new.barrier ≡ (old.barrier || is_barrier kind)
  pub left : new.left ≡ old.left + left_waits kind
  pub right : new.right ≡ old.right + right_waits kind
  pub producers : map producer_seen new.producers.items
      ≡ map producer_seen old.producers.items ++ producers_at (side_seen side) kind

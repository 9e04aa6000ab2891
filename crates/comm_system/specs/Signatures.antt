-- What the certain boundaries of a slot make of the plan's kinds.
use Rattle.std.specs.Prelude.{ℕ, ◌-◌, min, Bool, true, false, List, drop, length, Option, Some, None, slice_get, if◌then◌else◌, sum_by}
use Rattle.std.specs.List.{flat_map, list_any}
use Rattle.std.specs.Option.{option_map, option_map_or, option_to_list}
use Rattle.owner_partition.specs.declared.anchor.Anchor.{Anchor}
use Rattle.sync_plan.specs.declared.plan.Kind.{Kind}
use Rattle.sync_plan.specs.declared.plan.Kind.TheVariants.{Nothing, Producer, Left, Right, Both, Barrier, Join}
use Rattle.sync_plan.specs.declared.plan.Version.{Version}
use Rattle.sync_plan.specs.declared.plan.Version.TheVariants.{One, Two, Three, Four, Five}
use Rattle.sync_plan.specs.Kinds.{anchor_in}
use Rattle.sync_plan.specs.Shape.{has_places}
use Rattle.conflict_rules.specs.Boundaries.{Boundary, Side}

-- a barrier stands between the instances; or so many waits for the processor to the left, so many for the one to the right, and the last three producers that are waited for, each with the side of its boundary
pub data Signature : Type 0 where
  blocked : Signature
  waits : (left right : ℕ) (producers : List (Anchor × Side)) → Signature

abbrev pub is_barrier : Kind → Bool
is_barrier Nothing = false
is_barrier (Producer a) = false
is_barrier Left = false
is_barrier Right = false
is_barrier Both = false
is_barrier Barrier = true
is_barrier Join = true

-- a producer's blocks have 1 to 2147483647 places
abbrev pub has_places_in : Kind → Bool
has_places_in kind = option_map_or (λ (a : Anchor). has_places a.dist) (anchor_in kind) true

abbrev pub left_waits : Kind → ℕ
left_waits Nothing = 0
left_waits (Producer a) = 0
left_waits Left = 1
left_waits Right = 0
left_waits Both = 1
left_waits Barrier = 0
left_waits Join = 0

abbrev pub right_waits : Kind → ℕ
right_waits Nothing = 0
right_waits (Producer a) = 0
right_waits Left = 0
right_waits Right = 1
right_waits Both = 1
right_waits Barrier = 0
right_waits Join = 0

-- the kind in front of a phase; Nothing where there is none
abbrev pub or_nothing : Option Kind → Kind
or_nothing None = Nothing
or_nothing (Some k) = k

abbrev pub kind_at : List Kind → Boundary → Kind
kind_at kinds u = or_nothing (slice_get kinds (u.phase - 1))

abbrev pub producers_at : Side → Kind → List (Anchor × Side)
producers_at side kind = option_to_list (option_map (λ a. (a, side)) (anchor_in kind))

abbrev pub last_three : List (Anchor × Side) → List (Anchor × Side)
last_three all = drop (length all - 3) all

-- in version One neighbours don't add up
abbrev pub counted : Version → ℕ → ℕ
counted One n = min n 1
counted Two n = n
counted Three n = n
counted Four n = n
counted Five n = n

abbrev pub signature_of : Version → List Kind → List Boundary → Signature
signature_of version kinds boundaries =
    if list_any (λ u. is_barrier (kind_at kinds u)) boundaries then blocked
    else waits (counted version (sum_by (λ u. left_waits (kind_at kinds u)) boundaries))
    (counted version (sum_by (λ u. right_waits (kind_at kinds u)) boundaries))
    (last_three (flat_map (λ (u : Boundary). producers_at u.side (kind_at kinds u)) boundaries))

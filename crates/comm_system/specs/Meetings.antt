-- Two instances that access one element, and what the unknowns of their system are there.
use Rattle.std.specs.Prelude.{ℕ, zero, suc, ◌+◌, ◌<◌, ◌≤◌, ◌≡◌, ℤ, pos, ◌+ℤ◌, ◌-ℤ◌, ◌*ℤ◌, ◌≤ℤ◌, Bool, true, false, IsTrue, int_le, List, [], ◌∷◌, ◌++◌, length, map, slice_get, Option, Some, None}
use Rattle.nest_tree.specs.Form.{form_value, numbered}
use Rattle.nest_tree.specs.Guards.{holds}
use Rattle.nest_tree.specs.Tree.{Head, Tree, param_values}
use Rattle.nest_tree.specs.WellFormed.{names_only}
use Rattle.nest_model.specs.Accesses.{subscript_values}
use Rattle.nest_walk.specs.Tables.{Loaded, element, array}
use Rattle.nest_rows.specs.Nested.{AreTrips}
use Rattle.nest_rows.specs.Places.{laid}
use Rattle.owner_partition.specs.declared.anchor.Anchor.{Anchor}
use Rattle.owner_partition.specs.declared.anchor.Dist.{Dist}
use Rattle.owner_partition.specs.declared.anchor.Dist.TheVariants.{Block, Cyclic}
use Rattle.conflict_rules.specs.Boundaries.{Side, of_first, of_second}
use Rattle.comm_system.specs.Levels.{Order}
use Rattle.comm_system.specs.OwnerRows.{Direction, Placed, below, above}
use Rattle.comm_system.specs.PairRows.{free_bounds}
use Rattle.comm_system.specs.Pairs.{Pair}
use Rattle.conflict_rules.specs.References.{Reference}

-- where an access is made: the loops' values by number, the trips of those round it from the outermost, and its free subscripts
pub record Point : Type 0 where
  pub loops : List ℤ
  pub trips : List ℕ
  pub free : List ℤ

-- free subscripts lie within their bounds
abbrev pub AreFree : List (ℤ × ℤ) → List ℤ → Type 0
AreFree [] [] = Unit {0}
AreFree [] (d ∷ ds) = ⊥
AreFree (b ∷ bounds) [] = ⊥
AreFree (b ∷ bounds) (d ∷ ds) = (b.0 ≤ℤ d) × (d ≤ℤ b.1) × AreFree bounds ds

-- an access is made at a point: each loop round it is at its trip, its statement's comparison holds, and its free subscripts are within their bounds
pub record IsMadeAt (tree : Tree) (a : Reference) (x : Point) : Type 0 where
  pub trips : AreTrips (param_values tree) x.loops a.around x.trips
  pub executed : IsTrue (holds a.guard x.loops (param_values tree))
  pub free : AreFree (free_bounds tree a.what) x.free

-- its subscripts there
abbrev pub subscripts_at : Tree → Loaded → Point → List ℤ
subscripts_at tree (element a) x = subscript_values tree x.loops a.subscripts
subscripts_at tree (array variable) x = x.free

-- a value is behind a loop's end, in rising order or in falling one; a loop is in its last trip: with one step more its value is past its end
abbrev pub IsBehind : Bool → ℤ → ℤ → Type 0
IsBehind true value end = (end +ℤ pos 1) ≤ℤ value
IsBehind false value end = (value +ℤ pos 1) ≤ℤ end

abbrev pub IsPast : ℤ → ℤ → ℤ → Type 0
IsPast step value end = IsBehind (int_le (pos 0) step) value end

abbrev pub IsInLastTrip : List ℤ → List ℤ → Option Head → Type 0
IsInLastTrip params loops None = Unit {0}
IsInLastTrip params loops (Some h) =
    IsPast h.step (numbered loops h.number +ℤ h.step) (form_value h.m2 loops params)

-- of these loops that inside so many, if one is
abbrev pub IsInLastTripWhere : Option ℕ → List ℤ → List ℤ → List Head → Type 0
IsInLastTripWhere None params loops heads = Unit {0}
IsInLastTripWhere (Some k) params loops heads = IsInLastTrip params loops (slice_get heads k)

-- so many loops from the outermost have equal values
abbrev pub AreSame : ℕ → List Head → List Head → List ℤ → List ℤ → Type 0
AreSame zero heads others loops loops' = Unit {0}
AreSame (suc k) [] others loops loops' = ⊥
AreSame (suc k) (h ∷ heads) [] loops loops' = ⊥
AreSame (suc k) (h ∷ heads) (g ∷ others) loops loops' =
    (numbered loops h.number ≡ numbered loops' g.number) × AreSame k heads others loops loops'

-- the loop inside so many is at an earlier trip
abbrev pub IsEarlier : ℕ → List ℕ → List ℕ → Type 0
IsEarlier k [] ms = ⊥
IsEarlier k (n ∷ ns) [] = ⊥
IsEarlier zero (n ∷ ns) (m ∷ ms) = n < m
IsEarlier (suc k) (n ∷ ns) (m ∷ ms) = IsEarlier k ns ms

abbrev pub IsEarlierWhere : Bool → ℕ → List ℕ → List ℕ → Type 0
IsEarlierWhere true k ns ms = IsEarlier k ns ms
IsEarlierWhere false k ns ms = Unit {0}

-- two points at which the accesses of a pair meet: both are made there, in the last trip where they are made in that alone, at one element, and the loops round them stand in this order
pub record Meet (tree : Tree) (order : Order) (lasts : Option ℕ × Option ℕ) (pair : Pair)
    (x y : Point) : Type 0 where
  pub first : IsMadeAt tree pair.first x
  pub second : IsMadeAt tree pair.second y
  pub first_last : IsInLastTripWhere lasts.0 (param_values tree) x.loops pair.first.around
  pub second_last : IsInLastTripWhere lasts.1 (param_values tree) y.loops pair.second.around
  pub element : subscripts_at tree pair.first.what x ≡ subscripts_at tree pair.second.what y
  pub same : AreSame order.equal pair.first.around pair.second.around x.loops y.loops
  pub earlier : IsEarlierWhere order.earlier order.equal x.trips y.trips

-- a processor, and the round in which it has a place where places are dealt in turn
pub record Holder : Type 0 where
  pub owner : ℕ
  pub round : ℤ

-- it is the owner of what stands at this value, and a processor
abbrev pub Holds : Dist → ℕ → ℤ → Holder → Type 0
Holds (Block b) workers w o = (o.owner < workers) × ((pos b *ℤ pos o.owner) ≤ℤ w)
    × (w ≤ℤ (pos b *ℤ pos o.owner +ℤ pos b -ℤ pos 1))
Holds Cyclic workers w o = (o.owner < workers) × (w ≡ pos workers *ℤ o.round +ℤ pos o.owner)

-- the values of an owner's unknowns, and of those of owners one behind another
abbrev pub holder_values : Dist → Holder → List ℤ
holder_values (Block b) o = pos o.owner ∷ []
holder_values Cyclic o = pos o.owner ∷ o.round ∷ []

abbrev pub holders_values : List Placed → List Holder → List ℤ
holders_values [] holders = []
holders_values (p ∷ placed) [] = []
holders_values (p ∷ placed) (o ∷ holders) =
    holder_values p.anchor.dist o ++ holders_values placed holders

-- the values of a point's unknowns
abbrev pub point_values : List Head → Point → List ℤ
point_values around x = laid x.loops around x.trips ++ x.free

-- the values of all unknowns: the named constants, the two points, and the owners
abbrev pub values_of : Tree → Pair → Point → Point → List ℤ → List ℤ
values_of tree pair x y owners = param_values tree
    ++ (point_values pair.first.around x ++ (point_values pair.second.around y ++ owners))

-- an owner lies so far from another on a side of it
abbrev pub LiesBeside : Direction → ℕ → ℕ → ℕ → Type 0
LiesBeside below far q p = (q + far) ≤ p
LiesBeside above far q p = (p + far) ≤ q

-- and on these sides of the others
abbrev pub LiesAmong : ℕ → List ℕ → List Direction → Type 0
LiesAmong q [] ds = Unit {0}
LiesAmong q (o ∷ os) [] = ⊥
LiesAmong q (o ∷ os) (d ∷ ds) = LiesBeside d 1 q o × LiesAmong q os ds

-- the loops round the access on a side of a pair, and the values of all loops there
abbrev pub around_at : Pair → Side → List Head
around_at pair of_first = pair.first.around
around_at pair of_second = pair.second.around

abbrev pub loops_at : Point → Point → Side → List ℤ
loops_at x y of_first = x.loops
loops_at x y of_second = y.loops

-- the owner of an anchor at the point of its side: the anchor names only the loops round the access there, and named constants that are there
pub record IsHolder (tree : Tree) (workers : ℕ) (pair : Pair) (x y : Point) (u : Anchor × Side)
    (o : Holder) : Type 0 where
  pub named : IsTrue (names_only (length (param_values tree))
      (map (λ (h : Head). h.number) (around_at pair u.1)) u.0.form)
  pub holds : Holds u.0.dist workers (form_value u.0.form (loops_at x y u.1) (param_values tree)) o

-- these are the owners of anchors
abbrev pub AreHolders : Tree → ℕ → Pair → Point → Point → List (Anchor × Side) → List Holder
    → Type 0
AreHolders tree workers pair x y [] [] = Unit {0}
AreHolders tree workers pair x y [] (o ∷ os) = ⊥
AreHolders tree workers pair x y (u ∷ us) [] = ⊥
AreHolders tree workers pair x y (u ∷ us) (o ∷ os) =
    IsHolder tree workers pair x y u o × AreHolders tree workers pair x y us os

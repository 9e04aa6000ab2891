-- The certain boundaries of a slot stand between its two instances.
use Rattle.std.proofs.Common.{◌≡◌, ℕ, suc, ◌+◌, ◌-◌, ◌<◌, ◌≤◌, ◌⊎◌, ◌&&◌, not, nat_le, nat_lt, ℤ, Bool, true, false, Some, List, [], ◌∷◌, length, if◌then◌else◌, refl, ap, sym, ◌∙◌, subst, inl, inr, arith}
use Rattle.std.specs.List.{AllByRecursion, slice_get}
use Rattle.std.proofs.lemmas.Bool.{and_parts, cases_lt, leb-true, ltb-true}
use Rattle.nest_tree.specs.Tree.{Head, Tree, param_values}
use Rattle.nest_tree.specs.WellFormed.{IsWellFormed, loops_of, scope_of}
use Rattle.nest_tree.proofs.Cells.{well_formed_parts}
use Rattle.nest_model.specs.Instances.{no_values}
use Rattle.nest_rows.proofs.Nesting.{all-at, all-weaker}
use Rattle.owner_partition.specs.Marks.{enters_outer}
use Rattle.owner_partition.specs.Phases.{phases}
use Rattle.sync_plan.specs.declared.plan.Plan.{Plan}
use Rattle.conflict_rules.specs.Boundaries.{Boundary, Side, is_before_second, is_behind_first, is_prefix, of_first, of_second}
use Rattle.comm_system.specs.Levels.{common}
use Rattle.comm_system.specs.Meetings.{IsEarlier}
use Rattle.conflict_rules.specs.References.{StaticPhase}
use Rattle.comm_laws.proofs.Accesses.{station_known, visits_are}
use Rattle.comm_laws.proofs.Between.{AreRising, Pairs, outer_in, pairs_rising, side_heads, side_trips}
use Rattle.comm_laws.proofs.Chains.{AreHops, HopAt, IsBetween}
use Rattle.comm_system.proofs.Contexts.{at_first}
use Rattle.comm_system.proofs.KnownHeads.{AreKnown, IsKnown, heads_among, known_among}
use Rattle.comm_system.proofs.Lists.{mapped_get}
use Rattle.comm_system.proofs.StationFacts.{AreValid, IsStation}
use Rattle.comm_system.proofs.FewLoops.{common_within}
use Rattle.comm_system.proofs.StationOrder.{Rises, comes, comes_at, comes_back, differ_test, never_both, rises_in}
use Rattle.comm_system.proofs.Stations.{Station, at_trip, stations_in, text_among, visit_in}
use Rattle.comm_laws.proofs.StationsThere.{IsStop, there_in}
use Rattle.comm_system.proofs.Timeline.{Agree, IsFrontOf, agree_turned, carried_comes, front_itself, front_valid, one_side_comes, plain_comes, taken, taken_all, taken_same}

-- ---- what the tests of boundaries say

and_three : (a b c : Bool) → a && b && c ≡ true → (a ≡ true) × (b ≡ true) × (c ≡ true)
and_three a b c h = let last = and_parts (a && b) c h in let first = and_parts a b last.0 in (first.0, first.1, last.1)

pub plain_first : (around : List Head) (s t u : ℕ) (outer : List Head) → is_behind_first around s t 0 u outer ≡ true → (s < u) × (u ≤ t) × (is_prefix outer around ≡ true)
plain_first around s t u outer h = let p = and_three (nat_lt s u) (nat_le u t) (is_prefix outer around) h in (ltb-true s u p.0, leb-true u t p.1, p.2)

pub plain_second : (around around' : List Head) (s t u : ℕ) (outer : List Head) → is_before_second around around' s t 0 u outer ≡ true → (s < u) × (u ≤ t) × (is_prefix outer around' ≡ true)
plain_second around around' s t u outer h =
    let p = and_three (nat_le u t) (nat_lt s u && not (is_prefix outer around)) (is_prefix outer around') h in
    (ltb-true s u (and_parts (nat_lt s u) (not (is_prefix outer around)) p.1).0, leb-true u t p.0, p.2)

pub plain_apart : (around around' : List Head) (s t u : ℕ) (outer : List Head) → is_behind_first around s t 0 u outer ≡ true → is_before_second around around' s t 0 u outer ≡ false
plain_apart around around' s t u outer h =
    let p = and_three (nat_lt s u) (nat_le u t) (is_prefix outer around) h in
    ap (λ b. nat_le u t && (nat_lt s u && not b) && is_prefix outer around') p.2 ∙ never (nat_le u t) (nat_lt s u) (is_prefix outer around')
  where
    never : (a b c : Bool) → a && (b && false) && c ≡ false
    never true true c = refl
    never true false c = refl
    never false b c = refl

pub carried_first : (around : List Head) (s t k u : ℕ) (outer : List Head) → is_behind_first around s t (suc k) u outer ≡ true → (s < u) × (k < length outer) × (is_prefix outer around ≡ true)
carried_first around s t k u outer h =
    let some = differ_test (suc k) 0 (λ e. omega (arith, e)) in
    let p = and_three (nat_lt s u) (nat_le (suc k) (length outer)) (is_prefix outer around) (sym (ap (λ b. nat_lt s u && (if b then nat_le u t else nat_le (suc k) (length outer)) && is_prefix outer around) some) ∙ h) in
    (ltb-true s u p.0, leb-true (suc k) (length outer) p.1, p.2)

pub carried_second : (around around' : List Head) (s t k u : ℕ) (outer : List Head) → is_before_second around around' s t (suc k) u outer ≡ true → (u ≤ t) × (k < length outer) × (is_prefix outer around' ≡ true)
carried_second around around' s t k u outer h =
    let some = differ_test (suc k) 0 (λ e. omega (arith, e)) in
    let p = and_three (nat_le u t) (nat_le (suc k) (length outer)) (is_prefix outer around')
    (sym (ap (λ b. nat_le u t && (if b then nat_lt s u && not (is_prefix outer around) else nat_le (suc k) (length outer)) && is_prefix outer around') some) ∙ h) in
    (leb-true u t p.0, leb-true (suc k) (length outer) p.1, p.2)

pub valid-length : (params loops : List ℤ) (hs : List Head) (ns : List ℕ) → AreValid params loops hs ns → length ns ≡ length hs
valid-length params loops [] [] v = refl
valid-length params loops [] (n ∷ ns) v = absurd v
valid-length params loops (h ∷ hs) [] v = absurd v
valid-length params loops (h ∷ hs) (n ∷ ns) v = ap suc (valid-length params (at_trip params h loops n) hs ns v.1)

-- ---- two stations

pub record AreTwo (tree : Tree) (plan : Plan) (ex ey : ℕ) (sx sy : Station) : Type 0 where
  pub formed : IsWellFormed tree
  pub first : slice_get (stations_in (param_values tree) (enters_outer plan.cut.marks) tree.items 1 1 (no_values tree)) ex ≡ Some sx
  pub second : slice_get (stations_in (param_values tree) (enters_outer plan.cut.marks) tree.items 1 1 (no_values tree)) ey ≡ Some sy

module _ (tree : Tree) (plan : Plan) (ex ey : ℕ) (sx sy : Station) (two : AreTwo tree plan ex ey sx sy) where
  abbrev S : List Station
  S = stations_in (param_values tree) (enters_outer plan.cut.marks) tree.items 1 1 (no_values tree)

  abbrev pub T : List StaticPhase
  T = text_among (enters_outer plan.cut.marks) tree.items

  -- the loops round the phase of a boundary, and their trips on its side
  abbrev pub outer : Boundary → List Head
  outer b = outer_in (slice_get (text_among (enters_outer plan.cut.marks) tree.items) (b.phase - 1))

  abbrev pub trips : Boundary → List ℕ
  trips b = taken (outer b) (side_trips sx.trips sy.trips b.side)

  abbrev Before : Boundary → Boundary → Type 0
  Before b c = comes (outer b) (trips b) b.phase (outer c) (trips c) c.phase ≡ true

  -- a boundary between the two
  pub record IsSided (b : Boundary) : Type 0 where
    pub phase : StaticPhase
    pub at : slice_get (text_among (enters_outer plan.cut.marks) tree.items) (b.phase - 1) ≡ Some phase
    pub low : 1 ≤ b.phase
    pub front : IsFrontOf (outer b) (side_heads sx.heads sy.heads b.side)
    pub behind : comes sx.heads sx.trips sx.visit.place (outer b) (trips b) b.phase ≡ true
    pub until : (comes (outer b) (trips b) b.phase sy.heads sy.trips sy.visit.place ≡ true) ⊎ ((outer b ≡ sy.heads) × (trips b ≡ sy.trips) × (b.phase ≡ sy.visit.place))

  known_x : IsStation (param_values tree) (scope_of tree) [] [] (no_values tree) 1 (1 + loops_of tree.items) 1 (text_among (enters_outer plan.cut.marks) tree.items) sx
  known_x = station_known tree plan.cut.marks two.formed ex sx two.first

  known_y : IsStation (param_values tree) (scope_of tree) [] [] (no_values tree) 1 (1 + loops_of tree.items) 1 (text_among (enters_outer plan.cut.marks) tree.items) sy
  known_y = station_known tree plan.cut.marks two.formed ey sy two.second

  pub all_known : AllByRecursion (AreKnown (heads_among tree.items) 1) (text_among (enters_outer plan.cut.marks) tree.items)
  all_known = known_among (scope_of tree) (enters_outer plan.cut.marks) [] 1 tree.items (well_formed_parts tree two.formed).statements

  pub known_at : (n : ℕ) (p : StaticPhase) → slice_get (text_among (enters_outer plan.cut.marks) tree.items) n ≡ Some p → AllByRecursion (IsKnown (heads_among tree.items) 1) p.outer
  known_at n p at = all-at (AreKnown (heads_among tree.items) 1) (text_among (enters_outer plan.cut.marks) tree.items) n p all_known at

  pub heads_x : AllByRecursion (IsKnown (heads_among tree.items) 1) sx.heads
  heads_x = known_at (sx.visit.place - 1) (record { what = sx.visit.what; outer = sx.heads }) known_x.at

  pub heads_y : AllByRecursion (IsKnown (heads_among tree.items) 1) sy.heads
  heads_y = known_at (sy.visit.place - 1) (record { what = sy.visit.what; outer = sy.heads }) known_y.at

  pub long_x : length sx.trips ≡ length sx.heads
  long_x = valid-length (param_values tree) (no_values tree) sx.heads sx.trips known_x.valid

  pub long_y : length sy.trips ≡ length sy.heads
  long_y = valid-length (param_values tree) (no_values tree) sy.heads sy.trips known_y.valid

  side_valid : (side : Side) → AreValid (param_values tree) (no_values tree) (side_heads sx.heads sy.heads side) (side_trips sx.trips sy.trips side)
  side_valid of_first = known_x.valid
  side_valid of_second = known_y.valid

  -- the walk stops there
  pub stop_of : (b : Boundary) → IsSided b → IsStop (stations_in (param_values tree) (enters_outer plan.cut.marks) tree.items 1 1 (no_values tree)) b.phase (outer b) (trips b)
  stop_of b h =
      let same : outer b ≡ h.phase.outer = ap outer_in h.at in
      let valid = front_valid (param_values tree) (no_values tree) (outer b) (side_heads sx.heads sy.heads b.side) (side_trips sx.trips sy.trips b.side) h.front (side_valid b.side) in
      let stop = there_in (param_values tree) (enters_outer plan.cut.marks) tree.items 1 1 (no_values tree) (b.phase - 1) h.phase (trips b) h.at (subst (λ hs. AreValid (param_values tree) (no_values tree) hs (trips b)) same valid) in
      let place : 1 + (b.phase - 1) ≡ b.phase = omega (arith, h.low) in
      subst (λ n. IsStop S n (outer b) (trips b)) place (subst (λ hs. IsStop S (1 + (b.phase - 1)) hs (trips b)) (sym same) stop)

  abbrev pub hop_of : (b : Boundary) → IsSided b → HopAt tree plan b
  hop_of b h =
      let stop = stop_of b h in
      let back : suc stop.index - 1 ≡ stop.index = omega arith in
      record {
        phase = suc stop.index;
        visit = stop.station.visit;
        at = ap (slice_get (phases tree plan.cut.marks)) back ∙ ap (λ vs. slice_get vs stop.index) (sym (visits_are tree plan.cut.marks)) ∙ mapped_get visit_in S stop.index stop.station stop.at;
        place_is = stop.place_is;
      }

  rises : Rises (stations_in (param_values tree) (enters_outer plan.cut.marks) tree.items 1 1 (no_values tree))
  rises = rises_in (param_values tree) (scope_of tree) (enters_outer plan.cut.marks) [] [] (no_values tree) 1 1 1 tree.items (at_first tree two.formed)

  -- the key of a stop
  key_comes : (b : Boundary) (h : IsSided b) (hs : List Head) (ns : List ℕ) (n : ℕ) → comes hs ns n (outer b) (trips b) b.phase ≡ true → comes hs ns n (stop_of b h).station.heads (stop_of b h).station.trips (stop_of b h).station.visit.place ≡ true
  key_comes b h hs ns n c =
      let stop = stop_of b h in
      ap (λ x. comes hs ns n x stop.station.trips stop.station.visit.place) stop.heads_are ∙ ap (λ x. comes hs ns n (outer b) x stop.station.visit.place) stop.trips_are ∙ ap (comes hs ns n (outer b) (trips b)) stop.place_is ∙ c

  comes_key : (b : Boundary) (h : IsSided b) (hs : List Head) (ns : List ℕ) (n : ℕ) → comes (outer b) (trips b) b.phase hs ns n ≡ true → comes (stop_of b h).station.heads (stop_of b h).station.trips (stop_of b h).station.visit.place hs ns n ≡ true
  comes_key b h hs ns n c =
      let stop = stop_of b h in
      ap (λ x. comes x stop.station.trips stop.station.visit.place hs ns n) stop.heads_are ∙ ap (λ x. comes (outer b) x stop.station.visit.place hs ns n) stop.trips_are ∙ ap (λ x. comes (outer b) (trips b) x hs ns n) stop.place_is ∙ c

  pub above_of : (b : Boundary) (h : IsSided b) → ex < (stop_of b h).index
  above_of b h = comes_back S ex (stop_of b h).index sx (stop_of b h).station rises two.first (stop_of b h).at (key_comes b h sx.heads sx.trips sx.visit.place h.behind)

  pub until_of : (b : Boundary) (h : IsSided b) → (stop_of b h).index ≤ ey
  until_of b h = elim (cases_lt ey (stop_of b h).index) [
    | inl less ↦ absurd (never (comes_at S ey (stop_of b h).index sy (stop_of b h).station rises less two.second (stop_of b h).at) h.until)
    | inr past ↦ past
  ]
    where
      never : comes sy.heads sy.trips sy.visit.place (stop_of b h).station.heads (stop_of b h).station.trips (stop_of b h).station.visit.place ≡ true →
          (comes (outer b) (trips b) b.phase sy.heads sy.trips sy.visit.place ≡ true) ⊎ ((outer b ≡ sy.heads) × (trips b ≡ sy.trips) × (b.phase ≡ sy.visit.place)) → ⊥
      never c (inl d) = never_both sy.heads sy.trips sy.visit.place (stop_of b h).station.heads (stop_of b h).station.trips (stop_of b h).station.visit.place c (comes_key b h sy.heads sy.trips sy.visit.place d)
      never c (inr e) =
          let stop = stop_of b h in
          let one : stop.station.heads ≡ sy.heads = stop.heads_are ∙ e.0 in
          let two' : stop.station.trips ≡ sy.trips = stop.trips_are ∙ e.1 in
          let three : stop.station.visit.place ≡ sy.visit.place = stop.place_is ∙ e.2 in
          let itself : comes sy.heads sy.trips sy.visit.place sy.heads sy.trips sy.visit.place ≡ true =
          sym (ap (λ x. comes sy.heads sy.trips sy.visit.place x stop.station.trips stop.station.visit.place) one ∙ ap (λ x. comes sy.heads sy.trips sy.visit.place sy.heads x stop.station.visit.place) two' ∙ ap (comes sy.heads sy.trips sy.visit.place sy.heads sy.trips) three) ∙ c in
          never_both sy.heads sy.trips sy.visit.place sy.heads sy.trips sy.visit.place itself itself

  abbrev pub between_of : (b : Boundary) → IsSided b → IsBetween tree plan (suc ex) (suc ey) b
  between_of b h = record { hop = hop_of b h; above = omega (arith, above_of b h); until = omega (arith, until_of b h) }

  -- boundaries in order are hops
  hops_from : (e : ℕ) (hs : List Head) (ns : List ℕ) (n : ℕ) (st : Station) → slice_get S e ≡ Some st → st.heads ≡ hs → st.trips ≡ ns → st.visit.place ≡ n → e ≤ ey → (bs : List Boundary) → AllByRecursion IsSided bs →
      AllByRecursion (λ b. comes hs ns n (outer b) (trips b) b.phase ≡ true) bs → Pairs Before bs → AreHops tree plan (suc e) (suc ey) bs
  hops_from e hs ns n st at is_hs is_ns is_n le [] all first pairs = omega (arith, le)
  hops_from e hs ns n st at is_hs is_ns is_n le (b ∷ bs) all first pairs =
      let stop = stop_of b all.0 in
      let from : comes st.heads st.trips st.visit.place stop.station.heads stop.station.trips stop.station.visit.place ≡ true =
      ap (λ x. comes x st.trips st.visit.place stop.station.heads stop.station.trips stop.station.visit.place) is_hs ∙ ap (λ x. comes hs x st.visit.place stop.station.heads stop.station.trips stop.station.visit.place) is_ns
      ∙ ap (λ x. comes hs ns x stop.station.heads stop.station.trips stop.station.visit.place) is_n ∙ key_comes b all.0 hs ns n first.0 in
      let less = comes_back S e stop.index st stop.station rises at stop.at from in
      (hop_of b all.0, omega (arith, less), hops_from stop.index (outer b) (trips b) b.phase stop.station stop.at stop.heads_are stop.trips_are stop.place_is (until_of b all.0) bs all.1 pairs.0 pairs.1)

  pub hops_of : (bs : List Boundary) → ex ≤ ey → AllByRecursion IsSided bs → Pairs Before bs → AreHops tree plan (suc ex) (suc ey) bs
  hops_of bs le all pairs =
      hops_from ex sx.heads sx.trips sx.visit.place sx two.first refl refl refl le bs all (all-weaker IsSided (λ b. comes sx.heads sx.trips sx.visit.place (outer b) (trips b) b.phase ≡ true) bs (λ b h. h.behind) all) pairs

  -- ---- at level 0

  outer_y : (n : ℕ) → n ≡ sy.visit.place → outer_in (slice_get (text_among (enters_outer plan.cut.marks) tree.items) (n - 1)) ≡ sy.heads
  outer_y n same = ap (λ m. outer_in (slice_get (text_among (enters_outer plan.cut.marks) tree.items) (m - 1))) same ∙ ap outer_in known_y.at

  -- the facts of a boundary on a side, before they are put on the timeline
  pub record IsBeside (b : Boundary) : Type 0 where
    pub phase : StaticPhase
    pub at : slice_get (text_among (enters_outer plan.cut.marks) tree.items) (b.phase - 1) ≡ Some phase
    pub low : 1 ≤ b.phase
    pub front : IsFrontOf (outer b) (side_heads sx.heads sy.heads b.side)

  whole_x : taken sx.heads sx.trips ≡ sx.trips
  whole_x = taken_all sx.heads sx.trips long_x

  whole_y : taken sy.heads sy.trips ≡ sy.trips
  whole_y = taken_all sy.heads sy.trips long_y

  from_x : (hs : List Head) (ns : List ℕ) (n : ℕ) → comes sx.heads (taken sx.heads sx.trips) sx.visit.place hs ns n ≡ true → comes sx.heads sx.trips sx.visit.place hs ns n ≡ true
  from_x hs ns n c = ap (λ x. comes sx.heads x sx.visit.place hs ns n) (sym whole_x) ∙ c

  to_y : (hs : List Head) (ns : List ℕ) (n : ℕ) → comes hs ns n sy.heads (taken sy.heads sy.trips) sy.visit.place ≡ true → comes hs ns n sy.heads sy.trips sy.visit.place ≡ true
  to_y hs ns n c = ap (λ x. comes hs ns n sy.heads x sy.visit.place) (sym whole_y) ∙ c

  module _ (agree : Agree (common sx.heads sy.heads) sx.heads sx.trips sy.heads sy.trips) where
    plain_front : (side : Side) (hs : List Head) (n : ℕ) → IsFrontOf hs (side_heads sx.heads sy.heads side) → sx.visit.place < n → comes sx.heads sx.trips sx.visit.place hs (taken hs (side_trips sx.trips sy.trips side)) n ≡ true
    plain_front of_first hs n f lt = from_x hs (taken hs sx.trips) n (one_side_comes sx.heads hs sx.heads sx.trips sx.visit.place n (front_itself sx.heads) f long_x lt)
    plain_front of_second hs n f lt = from_x hs (taken hs sy.trips) n (plain_comes sx.heads hs sx.heads sx.trips sy.heads sy.trips sx.visit.place n (front_itself sx.heads) f agree lt)

    plain_back : (side : Side) (hs : List Head) (n : ℕ) → IsFrontOf hs (side_heads sx.heads sy.heads side) → n < sy.visit.place → comes hs (taken hs (side_trips sx.trips sy.trips side)) n sy.heads sy.trips sy.visit.place ≡ true
    plain_back of_first hs n f lt = to_y hs (taken hs sx.trips) n (plain_comes hs sy.heads sx.heads sx.trips sy.heads sy.trips n sy.visit.place f (front_itself sy.heads) agree lt)
    plain_back of_second hs n f lt = to_y hs (taken hs sy.trips) n (one_side_comes hs sy.heads sy.heads sy.trips n sy.visit.place f (front_itself sy.heads) long_y lt)

    plain_same : (side : Side) → IsFrontOf sy.heads (side_heads sx.heads sy.heads side) → taken sy.heads (side_trips sx.trips sy.trips side) ≡ sy.trips
    plain_same of_first f = taken_same sx.heads sx.trips sy.heads sy.trips f agree long_y
    plain_same of_second f = whole_y

    plain_pair : (side side' : Side) (hs gs : List Head) (n m : ℕ) → IsFrontOf hs (side_heads sx.heads sy.heads side) → IsFrontOf gs (side_heads sx.heads sy.heads side') → n < m →
        comes hs (taken hs (side_trips sx.trips sy.trips side)) n gs (taken gs (side_trips sx.trips sy.trips side')) m ≡ true
    plain_pair of_first of_first hs gs n m f g lt = one_side_comes hs gs sx.heads sx.trips n m f g long_x lt
    plain_pair of_first of_second hs gs n m f g lt = plain_comes hs gs sx.heads sx.trips sy.heads sy.trips n m f g agree lt
    plain_pair of_second of_first hs gs n m f g lt = plain_comes hs gs sy.heads sy.trips sx.heads sx.trips n m f g (agree_turned sx.heads sx.trips sy.heads sy.trips agree) lt
    plain_pair of_second of_second hs gs n m f g lt = one_side_comes hs gs sy.heads sy.trips n m f g long_y lt

    pub record IsPlainBeside (b : Boundary) : Type 0 where
      pub beside : IsBeside b
      pub above : sx.visit.place < b.phase
      pub until : b.phase ≤ sy.visit.place

    pub plain_sided : (b : Boundary) → IsPlainBeside b → IsSided b
    plain_sided b h = record {
      phase = h.beside.phase;
      at = h.beside.at;
      low = h.beside.low;
      front = h.beside.front;
      behind = plain_front b.side (outer b) b.phase h.beside.front h.above;
      until = elim (cases_lt b.phase sy.visit.place) [
        | inl less ↦ inl (plain_back b.side (outer b) b.phase h.beside.front less)
        | inr past ↦ inr (last (omega (arith, past, h.until)))
      ];
    }
      where
        last : b.phase ≡ sy.visit.place → (outer b ≡ sy.heads) × (trips b ≡ sy.trips) × (b.phase ≡ sy.visit.place)
        last same =
            let heads = outer_y b.phase same in
            let front = subst (λ hs. IsFrontOf hs (side_heads sx.heads sy.heads b.side)) heads h.beside.front in
            (heads, ap (λ hs. taken hs (side_trips sx.trips sy.trips b.side)) heads ∙ plain_same b.side front, same)

    pub plain_before : (b c : Boundary) → IsPlainBeside b → IsPlainBeside c → b.phase < c.phase → comes (outer b) (trips b) b.phase (outer c) (trips c) c.phase ≡ true
    plain_before b c h k lt = plain_pair b.side c.side (outer b) (outer c) b.phase c.phase h.beside.front k.beside.front lt

  -- ---- where a loop is at an earlier trip

  module _ (k : ℕ) (agree : Agree k sx.heads sx.trips sy.heads sy.trips) (earlier : IsEarlier k sx.trips sy.trips) (less : k < common sx.heads sy.heads) where
    pub record IsCarriedBeside (side : Side) (b : Boundary) : Type 0 where
      pub beside : IsBeside b
      pub side_is : b.side ≡ side
      pub deep : k < length (outer b)

    carried_front : (side : Side) (hs : List Head) (n : ℕ) → IsFrontOf hs (side_heads sx.heads sy.heads side) → k < length hs → (side ≡ of_first → sx.visit.place < n) → comes sx.heads sx.trips sx.visit.place hs (taken hs (side_trips sx.trips sy.trips side)) n ≡ true
    carried_front of_first hs n f deep lt = from_x hs (taken hs sx.trips) n (one_side_comes sx.heads hs sx.heads sx.trips sx.visit.place n (front_itself sx.heads) f long_x (lt refl))
    carried_front of_second hs n f deep lt =
        from_x hs (taken hs sy.trips) n (carried_comes k sx.heads hs sx.heads sx.trips sy.heads sy.trips sx.visit.place n (front_itself sx.heads) f agree earlier less (omega (arith, less, (common_within sx.heads sy.heads).0)) deep)

    pub first_sided : (b : Boundary) → IsCarriedBeside of_first b → sx.visit.place < b.phase → IsSided b
    first_sided b h lt =
        let front : IsFrontOf (outer b) sx.heads = subst (λ s. IsFrontOf (outer b) (side_heads sx.heads sy.heads s)) h.side_is h.beside.front in
        let trips_are : trips b ≡ taken (outer b) sx.trips = ap (λ s. taken (outer b) (side_trips sx.trips sy.trips s)) h.side_is in
        record {
          phase = h.beside.phase;
          at = h.beside.at;
          low = h.beside.low;
          front = h.beside.front;
          behind = ap (λ ns. comes sx.heads sx.trips sx.visit.place (outer b) ns b.phase) trips_are ∙ carried_front of_first (outer b) b.phase front h.deep (λ e. lt);
          until = inl (ap (λ ns. comes (outer b) ns b.phase sy.heads sy.trips sy.visit.place) trips_are
              ∙ to_y (outer b) (taken (outer b) sx.trips) b.phase (carried_comes k (outer b) sy.heads sx.heads sx.trips sy.heads sy.trips b.phase sy.visit.place front (front_itself sy.heads) agree earlier less h.deep (omega (arith, less, (common_within sx.heads sy.heads).1))));
        }

    pub second_sided : (b : Boundary) → IsCarriedBeside of_second b → b.phase ≤ sy.visit.place → IsSided b
    second_sided b h le =
        let front : IsFrontOf (outer b) sy.heads = subst (λ s. IsFrontOf (outer b) (side_heads sx.heads sy.heads s)) h.side_is h.beside.front in
        let trips_are : trips b ≡ taken (outer b) sy.trips = ap (λ s. taken (outer b) (side_trips sx.trips sy.trips s)) h.side_is in
        record {
          phase = h.beside.phase;
          at = h.beside.at;
          low = h.beside.low;
          front = h.beside.front;
          behind = ap (λ ns. comes sx.heads sx.trips sx.visit.place (outer b) ns b.phase) trips_are
              ∙ from_x (outer b) (taken (outer b) sy.trips) b.phase (carried_comes k sx.heads (outer b) sx.heads sx.trips sy.heads sy.trips sx.visit.place b.phase (front_itself sx.heads) front agree earlier less (omega (arith, less, (common_within sx.heads sy.heads).0)) h.deep);
          until = elim (cases_lt b.phase sy.visit.place) [
            | inl lt ↦ inl (ap (λ ns. comes (outer b) ns b.phase sy.heads sy.trips sy.visit.place) trips_are ∙ to_y (outer b) (taken (outer b) sy.trips) b.phase (one_side_comes (outer b) sy.heads sy.heads sy.trips b.phase sy.visit.place front (front_itself sy.heads) long_y lt))
            | inr past ↦ inr (last (omega (arith, past, le)) trips_are)
          ];
        }
      where
        last : b.phase ≡ sy.visit.place → trips b ≡ taken (outer b) sy.trips → (outer b ≡ sy.heads) × (trips b ≡ sy.trips) × (b.phase ≡ sy.visit.place)
        last same trips_are = let heads = outer_y b.phase same in (heads, trips_are ∙ ap (λ hs. taken hs sy.trips) heads ∙ whole_y, same)

    side_pair : (side : Side) (b c : Boundary) → IsCarriedBeside side b → IsCarriedBeside side c → b.phase < c.phase → comes (outer b) (trips b) b.phase (outer c) (trips c) c.phase ≡ true
    side_pair side b c h j lt =
        let f = subst (λ s. IsFrontOf (outer b) (side_heads sx.heads sy.heads s)) h.side_is h.beside.front in
        let g = subst (λ s. IsFrontOf (outer c) (side_heads sx.heads sy.heads s)) j.side_is j.beside.front in
        ap (λ s. comes (outer b) (taken (outer b) (side_trips sx.trips sy.trips s)) b.phase (outer c) (trips c) c.phase) h.side_is
        ∙ ap (λ s. comes (outer b) (taken (outer b) (side_trips sx.trips sy.trips side)) b.phase (outer c) (taken (outer c) (side_trips sx.trips sy.trips s)) c.phase) j.side_is ∙ on side f g
      where
        on : (side : Side) → IsFrontOf (outer b) (side_heads sx.heads sy.heads side) → IsFrontOf (outer c) (side_heads sx.heads sy.heads side) →
            comes (outer b) (taken (outer b) (side_trips sx.trips sy.trips side)) b.phase (outer c) (taken (outer c) (side_trips sx.trips sy.trips side)) c.phase ≡ true
        on of_first f g = one_side_comes (outer b) (outer c) sx.heads sx.trips b.phase c.phase f g long_x lt
        on of_second f g = one_side_comes (outer b) (outer c) sy.heads sy.trips b.phase c.phase f g long_y lt

    pub one_side_before : (side : Side) (u : ℕ) (bs : List Boundary) → AllByRecursion (IsCarriedBeside side) bs → AreRising u bs → Pairs (λ b c. comes (outer b) (trips b) b.phase (outer c) (trips c) c.phase ≡ true) bs
    one_side_before side u bs all rising = pairs_rising (λ b c. comes (outer b) (trips b) b.phase (outer c) (trips c) c.phase ≡ true) (IsCarriedBeside side) u bs (side_pair side) all rising

    pub across : (b c : Boundary) → IsCarriedBeside of_first b → IsCarriedBeside of_second c → comes (outer b) (trips b) b.phase (outer c) (trips c) c.phase ≡ true
    across b c h j =
        let f : IsFrontOf (outer b) sx.heads = subst (λ s. IsFrontOf (outer b) (side_heads sx.heads sy.heads s)) h.side_is h.beside.front in
        let g : IsFrontOf (outer c) sy.heads = subst (λ s. IsFrontOf (outer c) (side_heads sx.heads sy.heads s)) j.side_is j.beside.front in
        ap (λ s. comes (outer b) (taken (outer b) (side_trips sx.trips sy.trips s)) b.phase (outer c) (trips c) c.phase) h.side_is
        ∙ ap (λ s. comes (outer b) (taken (outer b) sx.trips) b.phase (outer c) (taken (outer c) (side_trips sx.trips sy.trips s)) c.phase) j.side_is
        ∙ carried_comes k (outer b) (outer c) sx.heads sx.trips sy.heads sy.trips b.phase c.phase f g agree earlier less h.deep j.deep

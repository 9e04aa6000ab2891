-- Of two executions in different phases that conflict, the second waits for the first where each system has no whole solution.
use Rattle.std.proofs.Common.{◌≡◌, ℕ, suc, ◌+◌, ◌-◌, ◌<◌, ◌≤◌, ◌⊎◌, ◌==◌, ◌||◌, ℤ, true, false, Option, Some, None, List, [], ◌∷◌, ◌++◌, length, map, if◌then◌else◌, refl, ap, sym, ◌∙◌, subst, inl, inr, arith}
use Rattle.std.specs.Prelude.{sum_by}
use Rattle.std.specs.List.{AllByRecursion, Contains, flat_map, list_any, slice_get}
use Rattle.std.proofs.lemmas.Bool.{cases_Bool, cases_eq, cases_lt}
use Rattle.list_lemmas.proofs.Elements.{contains_at}
use Rattle.nest_tree.specs.Form.{form_value, numbered}
use Rattle.nest_tree.specs.Tree.{Head, Tree, param_values}
use Rattle.nest_tree.specs.WellFormed.{loops_of, names_only, scope_of}
use Rattle.nest_model.specs.Instances.{Instance, no_values}
use Rattle.nest_model.specs.Visits.{Visit}
use Rattle.nest_rows.proofs.Dots.{numbers}
use Rattle.nest_rows.proofs.GoodNesting.{AreAmong, form-among}
use Rattle.nest_rows.proofs.Nesting.{all-append, all-weaker, IsBefore}
use Rattle.farkas_cert.specs.Inequalities.{HasNoWholeSolution}
use Rattle.owner_partition.specs.declared.anchor.Anchor.{Anchor}
use Rattle.owner_partition.specs.Marks.{enters_outer}
use Rattle.sync_plan.specs.declared.plan.Kind.{Kind}
use Rattle.sync_plan.specs.declared.plan.Kind.TheVariants.{Nothing, Producer, Left, Right, Both, Barrier, Join}
use Rattle.sync_plan.specs.declared.plan.Plan.{Plan}
use Rattle.sync_plan.specs.declared.plan.Version.{Version}
use Rattle.sync_plan.specs.declared.plan.Version.TheVariants.{One, Two, Three, Four, Five}
use Rattle.sync_plan.specs.Fit.{IsFit}
use Rattle.sync_plan.specs.Ordered.{Hop, IsChain}
use Rattle.conflict_rules.specs.Boundaries.{Boundary, Side, certain_boundaries, of_first, of_second}
use Rattle.comm_system.specs.Levels.{common, order_at}
use Rattle.comm_system.specs.Meetings.{AreHolders, AreSame, Holder, Holds, IsHolder, LiesBeside, Meet, Point, around_at, loops_at}
use Rattle.conflict_rules.specs.Slots.{Slot}
use Rattle.comm_system.specs.Obligations.{Task, anchor_at, lasts_at, piece_task, slot_signature, slots_of, tasks_of}
use Rattle.comm_system.specs.OwnerRows.{Direction, Piece, above, below, distance, pieces}
use Rattle.comm_system.specs.Pairs.{Pair, pairs_of}
use Rattle.conflict_rules.specs.References.{phases_of}
use Rattle.comm_system.specs.Signatures.{blocked, counted, is_barrier, kind_at, last_three, left_waits, producers_at, right_waits, signature_of, waits}
use Rattle.comm_laws.proofs.Accesses.{phase_there, phases_are, station_known}
use Rattle.comm_laws.proofs.Between.{side_heads, side_trips}
use Rattle.comm_laws.proofs.Certain.{AreTwo, IsSided, between_of, outer, stop_of, trips, valid-length}
use Rattle.comm_laws.proofs.CertainLists.{AreCertain}
use Rattle.comm_laws.proofs.Chains.{IsBetween, barrier_chain, kind_of, left_chain, producer_chain, right_chain}
use Rattle.comm_laws.proofs.Holders.{form_keeps}
use Rattle.comm_system.proofs.Lists.{all_dropped}
use Rattle.comm_laws.proofs.Meets.{owners_meet}
use Rattle.comm_laws.proofs.Owners.{holder_of, kept_heads, producer_holds}
use Rattle.comm_system.proofs.Places.{IsPlaced}
use Rattle.comm_laws.proofs.Slots.{pieces_tasks, slot_at}
use Rattle.comm_system.proofs.StationFacts.{Deepens, loops_after}
use Rattle.comm_system.proofs.Stations.{Station, stations_in, text_among}
use Rattle.comm_laws.proofs.Systems.{all_pieces, lies_on_sides, sides_of}
use Rattle.comm_system.proofs.Timeline.{IsFrontOf, agree_values, front_agrees, taken}
use Rattle.comm_laws.proofs.Zips.{among_more}

-- ---- values at loops that are the first of others

front_among : (us hs : List Head) → IsFrontOf us hs → AreAmong (numbers us) (numbers hs)
front_among [] hs f n h = absurd (let no : false ≡ true = h in cc)
front_among (u ∷ us) [] f n h = absurd f
front_among (u ∷ us) (g ∷ hs) f n h = elim (cases_Bool (g.number == n)) [
  | inl same ↦ ap (λ b. b || list_any (λ l. l == n) (numbers hs)) same
  | inr other ↦
      let here : (u.number == n) ≡ false = ap (λ (x : Head). x.number == n) f.0 ∙ other in
      ap (λ b. b || list_any (λ l. l == n) (numbers hs)) other ∙ front_among us hs f.1 n (sym (ap (λ b. b || list_any (λ l. l == n) (numbers us)) here) ∙ h)
]

front_values : (us hs : List Head) (L M N : List ℤ) → IsFrontOf us hs → AreSame (length us) us hs L M → AllByRecursion (λ h. numbered N h.number ≡ numbered M h.number) hs → AllByRecursion (λ h. numbered L h.number ≡ numbered N h.number) us
front_values [] hs L M N f same all = tt
front_values (u ∷ us) [] L M N f same all = absurd f
front_values (u ∷ us) (g ∷ hs) L M N f same all =
    let number : u.number ≡ g.number = ap (λ (x : Head). x.number) f.0 in
    (same.0 ∙ sym all.0 ∙ ap (numbered N) (sym number), front_values us hs L M N f.1 same.1 all.1)

-- ---- lists of items

counted_few : (v : Version) (n : ℕ) → counted v n ≤ n
counted_few One n = omega arith
counted_few Two n = omega arith
counted_few Three n = omega arith
counted_few Four n = omega arith
counted_few Five n = omega arith

-- the loops round an execution have their values in its instance
pub keeps : (tree : Tree) (heads : List Head) (ns : List ℕ) (v : Visit) (i : Instance) (p : IsPlaced (param_values tree) (scope_of tree) heads ns v i) → AllByRecursion (λ h. numbered i.loops h.number ≡ numbered v.loops h.number) heads
keeps tree heads ns v i p =
    subst (λ l. AllByRecursion (λ h. numbered l h.number ≡ numbered v.loops h.number) heads) (sym p.loops_are) (kept_heads (param_values tree) v.loops heads p.inner.heads p.inner.trips p.low p.high (below heads p.before) p.deepens)
  where
    below : (hs : List Head) → AllByRecursion (IsBefore p.low) hs → AllByRecursion (λ h. (1 ≤ h.number) × (h.number < p.low)) hs
    below [] all = tt
    below (h ∷ hs) all = ((all.0.low, all.0.high), below hs all.1)

-- ---- two executions

module _ (tree : Tree) (plan : Plan) (ex ey : ℕ) (sx sy : Station) (two : AreTwo tree plan ex ey sx sy) (fits : IsFit tree plan) (x y : Instance)
    (px : IsPlaced (param_values tree) (scope_of tree) sx.heads sx.trips sx.visit x) (py : IsPlaced (param_values tree) (scope_of tree) sy.heads sy.trips sy.visit y) where
  -- the values of the loops round the phase of a boundary are those of a station in whose loops they are the first
  boundary_values : (b : Boundary) (h : IsSided tree plan ex ey sx sy two b) (e : ℕ) (s : Station) → slice_get (stations_in (param_values tree) (enters_outer plan.cut.marks) tree.items 1 1 (no_values tree)) e ≡ Some s →
      IsFrontOf (outer tree plan ex ey sx sy two b) s.heads → trips tree plan ex ey sx sy two b ≡ taken (outer tree plan ex ey sx sy two b) s.trips → (i : Instance) → AllByRecursion (λ h. numbered i.loops h.number ≡ numbered s.visit.loops h.number) s.heads →
      AllByRecursion (λ g. numbered (stop_of tree plan ex ey sx sy two b h).station.visit.loops g.number ≡ numbered i.loops g.number) (outer tree plan ex ey sx sy two b)
  boundary_values b h e s at front taken_so i keep =
      let params = param_values tree in
      let stop = stop_of tree plan ex ey sx sy two b h in
      let us = outer tree plan ex ey sx sy two b in
      let here = station_known tree plan.cut.marks two.formed stop.index stop.station stop.at in
      let there = station_known tree plan.cut.marks two.formed e s at in
      let long = valid-length params (no_values tree) s.heads s.trips there.valid in
      let agree = front_agrees us s.heads s.trips front long in
      let deepens : Deepens 1 (1 + loops_of tree.items) us = subst (λ hs. Deepens 1 (1 + loops_of tree.items) hs) stop.heads_are here.deepens in
      let same = agree_values params (no_values tree) (length us) 1 (1 + loops_of tree.items) us (taken us s.trips) s.heads s.trips agree deepens there.deepens (omega arith) in
      let loops_here : stop.station.visit.loops ≡ loops_after params (no_values tree) us (taken us s.trips) = here.loops_are ∙ ap (λ hs. loops_after params (no_values tree) hs stop.station.trips) stop.heads_are ∙ ap (loops_after params (no_values tree) us) (stop.trips_are ∙ taken_so) in
      front_values us s.heads stop.station.visit.loops s.visit.loops i.loops front
      (subst (λ l. AreSame (length us) us s.heads l s.visit.loops) (sym loops_here) (subst (λ m. AreSame (length us) us s.heads (loops_after params (no_values tree) us (taken us s.trips)) m) (sym there.loops_are) same)) keep

  module _ (pair : Pair) (X Y : Point) (around_x : pair.first.around ≡ sx.heads ++ px.inner.heads) (around_y : pair.second.around ≡ sy.heads ++ py.inner.heads) (loops_x : X.loops ≡ x.loops) (loops_y : Y.loops ≡ y.loops) where
    -- on a side
    pub record IsOnSide (b : Boundary) (h : IsSided tree plan ex ey sx sy two b) : Type 0 where
      pub among : AreAmong (numbers (outer tree plan ex ey sx sy two b)) (numbers (around_at pair b.side))
      pub values : AllByRecursion (λ g. numbered (stop_of tree plan ex ey sx sy two b h).station.visit.loops g.number ≡ numbered (loops_at X Y b.side) g.number) (outer tree plan ex ey sx sy two b)

    on_side : (b : Boundary) (h : IsSided tree plan ex ey sx sy two b) → IsOnSide b h
    on_side b h = by b.side refl
      where
        by : (side : Side) → b.side ≡ side → IsOnSide b h
        by of_first is =
            let front : IsFrontOf (outer tree plan ex ey sx sy two b) sx.heads = subst (λ s. IsFrontOf (outer tree plan ex ey sx sy two b) (side_heads sx.heads sy.heads s)) is h.front in
            let taken_so : trips tree plan ex ey sx sy two b ≡ taken (outer tree plan ex ey sx sy two b) sx.trips = ap (λ s. taken (outer tree plan ex ey sx sy two b) (side_trips sx.trips sy.trips s)) is in
            let values = boundary_values b h ex sx two.first front taken_so x (keeps tree sx.heads sx.trips sx.visit x px) in
            record {
              among = λ n named. ap (λ s. list_any (λ l. l == n) (numbers (around_at pair s))) is ∙ ap (λ hs. list_any (λ l. l == n) (numbers hs)) around_x ∙ among_more (numbers (outer tree plan ex ey sx sy two b)) sx.heads px.inner.heads (front_among (outer tree plan ex ey sx sy two b) sx.heads front) n named;
              values = subst (λ s. AllByRecursion (λ g. numbered (stop_of tree plan ex ey sx sy two b h).station.visit.loops g.number ≡ numbered (loops_at X Y s) g.number) (outer tree plan ex ey sx sy two b)) (sym is)
                  (subst (λ l. AllByRecursion (λ g. numbered (stop_of tree plan ex ey sx sy two b h).station.visit.loops g.number ≡ numbered l g.number) (outer tree plan ex ey sx sy two b)) (sym loops_x) values);
            }
        by of_second is =
            let front : IsFrontOf (outer tree plan ex ey sx sy two b) sy.heads = subst (λ s. IsFrontOf (outer tree plan ex ey sx sy two b) (side_heads sx.heads sy.heads s)) is h.front in
            let taken_so : trips tree plan ex ey sx sy two b ≡ taken (outer tree plan ex ey sx sy two b) sy.trips = ap (λ s. taken (outer tree plan ex ey sx sy two b) (side_trips sx.trips sy.trips s)) is in
            let values = boundary_values b h ey sy two.second front taken_so y (keeps tree sy.heads sy.trips sy.visit y py) in
            record {
              among = λ n named. ap (λ s. list_any (λ l. l == n) (numbers (around_at pair s))) is ∙ ap (λ hs. list_any (λ l. l == n) (numbers hs)) around_y ∙ among_more (numbers (outer tree plan ex ey sx sy two b)) sy.heads py.inner.heads (front_among (outer tree plan ex ey sx sy two b) sy.heads front) n named;
              values = subst (λ s. AllByRecursion (λ g. numbered (stop_of tree plan ex ey sx sy two b h).station.visit.loops g.number ≡ numbered (loops_at X Y s) g.number) (outer tree plan ex ey sx sy two b)) (sym is)
                  (subst (λ l. AllByRecursion (λ g. numbered (stop_of tree plan ex ey sx sy two b h).station.visit.loops g.number ≡ numbered l g.number) (outer tree plan ex ey sx sy two b)) (sym loops_y) values);
            }

    -- ---- producers

    -- a producer with its owner, for whom the second processor waits
    pub record IsItem (q p : ℕ) (u : Anchor × Side) : Type 0 where
      pub holder : Holder
      pub is : IsHolder tree plan.workers pair X Y u holder
      pub chain : q ≡ holder.owner → (hops : List Hop) × IsChain tree plan q (suc ex) hops p (suc ey)

    producer_item : (q p : ℕ) → q < plan.workers → (p ≡ q → ⊥) → (b : Boundary) → IsSided tree plan ex ey sx sy two b → (a : Anchor) → slice_get plan.kinds (b.phase - 1) ≡ Some (Producer a) → IsItem q p (a, b.side)
    producer_item q p less ne b h a kind =
        let params = param_values tree in
        let stop = stop_of tree plan ex ey sx sy two b h in
        let us = outer tree plan ex ey sx sy two b in
        let kind' : slice_get plan.kinds (stop.station.visit.place - 1) ≡ Some (Producer a) = ap (λ n. slice_get plan.kinds (n - 1)) stop.place_is ∙ kind in
        let held = producer_holds tree plan two.formed fits stop.index stop.station stop.at a kind' in
        let side = on_side b h in
        let named : names_only (length params) (numbers us) a.form ≡ true = subst (λ hs. names_only (length params) (numbers hs) a.form ≡ true) stop.heads_are held.0 in
        let same = form_keeps (length params) us stop.station.visit.loops (loops_at X Y b.side) params a.form named side.values in
        let w = form_value a.form stop.station.visit.loops params in
        record {
          holder = holder_of a.dist plan.workers w;
          is = record { named = form-among (length params) (numbers us) (numbers (around_at pair b.side)) a.form side.among named; holds = subst (λ z. Holds a.dist plan.workers z (holder_of a.dist plan.workers w)) same held.1 };
          chain = λ e. producer_chain tree plan (suc ex) (suc ey) b (between_of tree plan ex ey sx sy two b h) a q p kind less ne (sym e);
        }

    boundary_items : (q p : ℕ) → q < plan.workers → (p ≡ q → ⊥) → (b : Boundary) → IsSided tree plan ex ey sx sy two b → AllByRecursion (IsItem q p) (producers_at b.side (kind_at plan.kinds b))
    boundary_items q p less ne b h = by (slice_get plan.kinds (b.phase - 1)) refl
      where
        kinds : (k : Kind) → slice_get plan.kinds (b.phase - 1) ≡ Some k → AllByRecursion (IsItem q p) (producers_at b.side k)
        kinds Nothing e = tt
        kinds (Producer a) e = (producer_item q p less ne b h a e, tt)
        kinds Left e = tt
        kinds Right e = tt
        kinds Both e = tt
        kinds Barrier e = tt
        kinds Join e = tt

        by : (o : Option Kind) → slice_get plan.kinds (b.phase - 1) ≡ o → AllByRecursion (IsItem q p) (producers_at b.side (kind_of o))
        by None e = tt
        by (Some k) e = kinds k e

    all_items : (q p : ℕ) → q < plan.workers → (p ≡ q → ⊥) → (us : List Boundary) → AllByRecursion (IsSided tree plan ex ey sx sy two) us → AllByRecursion (IsItem q p) (flat_map (λ (u : Boundary). producers_at u.side (kind_at plan.kinds u)) us)
    all_items q p less ne [] all = tt
    all_items q p less ne (b ∷ us) all =
        let first : List (Anchor × Side) = producers_at b.side (kind_at plan.kinds b) in
        let later : List (Anchor × Side) = flat_map (λ (u : Boundary). producers_at u.side (kind_at plan.kinds u)) us in
        all-append (IsItem q p) first later (boundary_items q p less ne b all.0) (all_items q p less ne us all.1)

    -- the producers' owners; and one of them is the first processor, or none
    pub record AreItems (q p : ℕ) (us : List (Anchor × Side)) : Type 0 where
      pub holders : List Holder
      pub are : AreHolders tree plan.workers pair X Y us holders
      pub many : length (map (λ (o : Holder). o.owner) holders) ≡ length us
      pub which : ((hops : List Hop) × IsChain tree plan q (suc ex) hops p (suc ey)) ⊎ AllByRecursion (λ o. q ≡ o → ⊥) (map (λ (o : Holder). o.owner) holders)

    items_are : (q p : ℕ) (us : List (Anchor × Side)) → AllByRecursion (IsItem q p) us → AreItems q p us
    items_are q p [] all = record { holders = []; are = tt; many = refl; which = inr tt }
    items_are q p (u ∷ us) all =
        let rest = items_are q p us all.1 in
        record { holders = all.0.holder ∷ rest.holders; are = (all.0.is, rest.are); many = ap suc rest.many; which = choose rest (cases_eq q all.0.holder.owner) }
      where
        choose : (rest : AreItems q p us) → (q ≡ all.0.holder.owner) ⊎ (q ≡ all.0.holder.owner → ⊥) → ((hops : List Hop) × IsChain tree plan q (suc ex) hops p (suc ey)) ⊎ AllByRecursion (λ o. q ≡ o → ⊥) (all.0.holder.owner ∷ map (λ (o : Holder). o.owner) rest.holders)
        choose rest (inl same) = inl (all.0.chain same)
        choose rest (inr ne) = later ne rest.which
          where
            later : (q ≡ all.0.holder.owner → ⊥) → ((hops : List Hop) × IsChain tree plan q (suc ex) hops p (suc ey)) ⊎ AllByRecursion (λ o. q ≡ o → ⊥) (map (λ (o : Holder). o.owner) rest.holders) →
                ((hops : List Hop) × IsChain tree plan q (suc ex) hops p (suc ey)) ⊎ AllByRecursion (λ o. q ≡ o → ⊥) (all.0.holder.owner ∷ map (λ (o : Holder). o.owner) rest.holders)
            later ne (inl c) = inl c
            later ne (inr d) = inr (ne, d)

    -- ---- a chain, where no system has a whole solution

    module _ (level : ℕ) (le : ex ≤ ey) (certain : AreCertain tree plan ex ey sx sy two (certain_boundaries (text_among (enters_outer plan.cut.marks) tree.items) sx.heads sy.heads sx.visit.place sy.visit.place level))
        (there : Contains (slots_of (phases_of tree plan.cut.marks)) (slot_at sx.visit.place (record { what = sx.visit.what; outer = sx.heads }) sy.visit.place (record { what = sy.visit.what; outer = sy.heads }) level))
        (among : Contains (pairs_of plan.cut (record { what = sx.visit.what; outer = sx.heads }) (record { what = sy.visit.what; outer = sy.heads })) pair)
        (meet : Meet tree (order_at (common sx.heads sy.heads) level) (lasts_at plan.cut (slot_at sx.visit.place (record { what = sx.visit.what; outer = sx.heads }) sy.visit.place (record { what = sy.visit.what; outer = sy.heads }) level) pair) pair X Y)
        (first : Holder) (second : Holder) (is_first : IsHolder tree plan.workers pair X Y (anchor_at plan sx.visit.place, of_first) first) (is_second : IsHolder tree plan.workers pair X Y (anchor_at plan sy.visit.place, of_second) second)
        (less : first.owner < plan.workers) (less' : second.owner < plan.workers) (apart : second.owner ≡ first.owner → ⊥) (none : (task : Task) → Contains (tasks_of tree plan) task → HasNoWholeSolution task.system) where
      abbrev us : List Boundary
      us = certain_boundaries (text_among (enters_outer plan.cut.marks) tree.items) sx.heads sy.heads sx.visit.place sy.visit.place level

      abbrev slot : Slot
      slot = slot_at sx.visit.place (record { what = sx.visit.what; outer = sx.heads }) sy.visit.place (record { what = sy.visit.what; outer = sy.heads }) level

      abbrev left : ℕ
      left = counted plan.version (sum_by (λ u. left_waits (kind_at plan.kinds u)) us)

      abbrev right : ℕ
      right = counted plan.version (sum_by (λ u. right_waits (kind_at plan.kinds u)) us)

      abbrev producers : List (Anchor × Side)
      producers = last_three (flat_map (λ (u : Boundary). producers_at u.side (kind_at plan.kinds u)) us)

      abbrev Waited : Type 0
      Waited = (hops : List Hop) × IsChain tree plan first.owner (suc ex) hops second.owner (suc ey)

      open_signature : list_any (λ u. is_barrier (kind_at plan.kinds u)) us ≡ false → slot_signature plan.version plan.kinds (phases_of tree plan.cut.marks) slot ≡ waits left right producers
      open_signature e =
          ap (λ ps. signature_of plan.version plan.kinds (certain_boundaries ps sx.heads sy.heads sx.visit.place sy.visit.place level)) (phases_are tree plan.cut.marks)
          ∙ ap (λ b. if b then blocked else waits left right producers) e

      -- on each side of the neighbours a system would have a solution
      never : list_any (λ u. is_barrier (kind_at plan.kinds u)) us ≡ false → (items : AreItems first.owner second.owner producers) → AllByRecursion (λ o. first.owner ≡ o → ⊥) (map (λ (o : Holder). o.owner) items.holders) → (d : Direction) → LiesBeside d (distance d left right) first.owner second.owner → ⊥
      never e items beside d range =
          let os = map (λ (o : Holder). o.owner) items.holders in
          let P = λ (piece : Piece). (k : ℕ) × Contains (tasks_of tree plan) (piece_task tree plan slot left right producers pair k piece) in
          let tasks = pieces_tasks tree plan slot left right producers pair there (open_signature e) among in
          let found = all_pieces P d first.owner os (subst (λ n. AllByRecursion P (pieces n)) (sym items.many) tasks) in
          let here = contains_at (phases_of tree plan.cut.marks) (sx.visit.place - 1) (record { what = sx.visit.what; outer = sx.heads }) (phase_there tree plan.cut.marks two.formed ex sx two.first) in
          let here' = contains_at (phases_of tree plan.cut.marks) (sy.visit.place - 1) (record { what = sy.visit.what; outer = sy.heads }) (phase_there tree plan.cut.marks two.formed ey sy two.second) in
          let solved = owners_meet tree plan slot pair X Y left right producers first second items.holders (record { range = d; producers = sides_of first.owner os }) found.0 two.formed fits here here' among meet (is_first, (is_second, items.are)) range (lies_on_sides first.owner os beside) in
          none (piece_task tree plan slot left right producers pair found.0 (record { range = d; producers = sides_of first.owner os })) found.1 _ solved

      neighbours : list_any (λ u. is_barrier (kind_at plan.kinds u)) us ≡ false → (items : AreItems first.owner second.owner producers) → AllByRecursion (λ o. first.owner ≡ o → ⊥) (map (λ (o : Holder). o.owner) items.holders) → (hops : List Hop) × IsChain tree plan first.owner (suc ex) hops second.owner (suc ey)
      neighbours e items beside = elim (cases_lt first.owner second.owner) [
        | inl below_it ↦ elim (cases_lt left (second.owner - first.owner)) [
          | inl far ↦ absurd (never e items beside below (omega (arith, far, below_it)))
          | inr near ↦
              let d = second.owner - first.owner in
              let to : first.owner + d ≡ second.owner = omega (arith, below_it) in
              let few : d ≤ sum_by (λ u. left_waits (kind_at plan.kinds u)) certain.hops = omega (arith, near, counted_few plan.version (sum_by (λ u. left_waits (kind_at plan.kinds u)) us), certain.left) in
              let chain = left_chain tree plan (suc ex) (suc ey) certain.hops first.owner d certain.are few (omega (arith, to, less')) in
              (chain.0, subst (λ p. IsChain tree plan first.owner (suc ex) chain.0 p (suc ey)) to chain.1)
        ]
        | inr past ↦ elim (cases_lt right (first.owner - second.owner)) [
          | inl far ↦ absurd (never e items beside above (omega (arith, far, past)))
          | inr near ↦
              let d = first.owner - second.owner in
              let from : second.owner + d ≡ first.owner = omega (arith, past) in
              let few : d ≤ sum_by (λ u. right_waits (kind_at plan.kinds u)) certain.hops = omega (arith, near, counted_few plan.version (sum_by (λ u. right_waits (kind_at plan.kinds u)) us), certain.right) in
              let chain = right_chain tree plan (suc ex) (suc ey) certain.hops second.owner d certain.are few (omega (arith, from, less)) in
              (chain.0, subst (λ q. IsChain tree plan q (suc ex) chain.0 second.owner (suc ey)) from chain.1)
        ]
      ]

      pub waited : (hops : List Hop) × IsChain tree plan first.owner (suc ex) hops second.owner (suc ey)
      waited = elim (cases_Bool (list_any (λ u. is_barrier (kind_at plan.kinds u)) us)) [
        | inl barrier ↦ barrier_chain tree plan (suc ex) (suc ey) us first.owner second.owner (all-weaker (IsSided tree plan ex ey sx sy two) (IsBetween tree plan (suc ex) (suc ey)) us (between_of tree plan ex ey sx sy two) certain.sided) barrier less apart
        | inr free ↦ by free (items_are first.owner second.owner producers (all_dropped (IsItem first.owner second.owner) (length (flat_map (λ (u : Boundary). producers_at u.side (kind_at plan.kinds u)) us) - 3) (flat_map (λ (u : Boundary). producers_at u.side (kind_at plan.kinds u)) us) (all_items first.owner second.owner less apart us certain.sided)))
      ]
        where
          by : list_any (λ u. is_barrier (kind_at plan.kinds u)) (certain_boundaries (text_among (enters_outer plan.cut.marks) tree.items) sx.heads sy.heads sx.visit.place sy.visit.place level) ≡ false → AreItems first.owner second.owner producers → (hops : List Hop) × IsChain tree plan first.owner (suc ex) hops second.owner (suc ey)
          by free items = which items.which
            where
              which : ((hops : List Hop) × IsChain tree plan first.owner (suc ex) hops second.owner (suc ey)) ⊎ AllByRecursion (λ o. first.owner ≡ o → ⊥) (map (λ (o : Holder). o.owner) items.holders) → (hops : List Hop) × IsChain tree plan first.owner (suc ex) hops second.owner (suc ey)
              which (inl chain) = chain
              which (inr beside) = neighbours free items beside

-- At each static phase, and at each trip of the loops round it, a walk stops.
use Rattle.std.proofs.Common.{◌≡◌, ℕ, zero, suc, ◌+◌, ◌-◌, ◌<◌, ◌≤◌, ℤ, Bool, true, false, Some, None, List, [], ◌∷◌, ◌++◌, length, map, if◌then◌else◌, refl, ap, sym, ◌∙◌, subst, inl, inr, arith}
use Rattle.std.specs.List.{flat_map, range_with_len, slice_get}
use Rattle.std.proofs.lemmas.Bool.{cases_lt}
use Rattle.std.proofs.lemmas.Option.{slice_get_within}
use Rattle.list_lemmas.proofs.Gets.{get-front, get-behind}
use Rattle.nest_tree.specs.Tree.{Head, Statement, Statements, do_loop, work, continue, done, next}
use Rattle.nest_model.specs.Instances.{works_in}
use Rattle.nest_model.specs.Visits.{stops_in}
use Rattle.conflict_rules.specs.References.{StaticPhase}
use Rattle.comm_system.proofs.Lists.{mapped_get}
use Rattle.comm_system.proofs.Stations.{Station, at_trip, inside, push, stations_in, stations_of, text-length, text_among, text_of, trips_of}
use Rattle.comm_system.proofs.StationFacts.{AreValid}
use Rattle.sync_plan.proofs.BarrierOrder.{mapped}

-- a station of a list with this place, these loops and these trips
pub record IsStop (stations : List Station) (place : ℕ) (heads : List Head) (trips : List ℕ) : Type 0 where
  pub index : ℕ
  pub station : Station
  pub at : slice_get stations index ≡ Some station
  pub place_is : station.visit.place ≡ place
  pub heads_are : station.heads ≡ heads
  pub trips_are : station.trips ≡ trips

stop_front : (xs ys : List Station) (place : ℕ) (heads : List Head) (trips : List ℕ) → IsStop xs place heads trips → IsStop (xs ++ ys) place heads trips
stop_front xs ys place heads trips h = record { index = h.index; station = h.station; at = get-front xs ys h.index (slice_get_within xs h.index h.station h.at) ∙ h.at; place_is = h.place_is; heads_are = h.heads_are; trips_are = h.trips_are }

stop_behind : (xs ys : List Station) (place : ℕ) (heads : List Head) (trips : List ℕ) → IsStop ys place heads trips → IsStop (xs ++ ys) place heads trips
stop_behind xs ys place heads trips h = record { index = length xs + h.index; station = h.station; at = get-behind xs ys h.index ∙ h.at; place_is = h.place_is; heads_are = h.heads_are; trips_are = h.trips_are }

stop_pushed : (g : Head) (n : ℕ) (xs : List Station) (place : ℕ) (heads : List Head) (trips : List ℕ) → IsStop xs place heads trips → IsStop (map (push g n) xs) place (g ∷ heads) (n ∷ trips)
stop_pushed g n xs place heads trips h = record {
  index = h.index;
  station = push g n h.station;
  at = mapped_get (push g n) xs h.index h.station h.at;
  place_is = h.place_is;
  heads_are = ap (λ hs. g ∷ hs) h.heads_are;
  trips_are = ap (λ ts. n ∷ ts) h.trips_are;
}

stop_at_trip : (f : ℕ → List Station) (a n i : ℕ) (place : ℕ) (heads : List Head) (trips : List ℕ) → a ≤ i → i < a + n → IsStop (f i) place heads trips → IsStop (flat_map f (range_with_len a n)) place heads trips
stop_at_trip f a zero i place heads trips low high h = absurd (omega (arith, low, high))
stop_at_trip f a (suc n) i place heads trips low high h = elim (cases_lt a i) [
  | inl less ↦ stop_behind (f a) (flat_map f (range_with_len (a + 1) n)) place heads trips (stop_at_trip f (a + 1) n i place heads trips (omega (arith, less)) (omega (arith, high)) h)
  | inr past ↦
      let same : i ≡ a = omega (arith, low, past) in
      stop_front (f a) (flat_map f (range_with_len (a + 1) n)) place heads trips (subst (λ k. IsStop (f k) place heads trips) same h)
]

alone_back : (p q : StaticPhase) (k : ℕ) → slice_get (p ∷ []) k ≡ Some q → (k ≡ 0) × (p ≡ q)
alone_back p q zero at = (refl, let same : p ≡ q = cc in same)
alone_back p q (suc k) at = absurd (let no : None ≡ Some q = at in cc)

no_trips : (params loops : List ℤ) (ms : List ℕ) → AreValid params loops [] ms → [] ≡ ms
no_trips params loops [] h = refl
no_trips params loops (m ∷ ms) h = absurd h

module _ (params : List ℤ) (enters : ℕ → Bool) where
  alone_there : (s : Statement) (place first : ℕ) (loops : List ℤ) (k : ℕ) (p : StaticPhase) (ms : List ℕ) → slice_get (record { what = s; outer = [] } ∷ []) k ≡ Some p → AreValid params loops p.outer ms →
      IsStop (record { visit = record { place = place; first = first; what = s; loops = loops }; heads = []; trips = [] } ∷ []) (place + k) p.outer ms
  alone_there s place first loops k p ms at valid =
      let back = alone_back (record { what = s; outer = [] }) p k at in
      let outer_is : [] ≡ p.outer = ap (λ (q : StaticPhase). q.outer) back.1 in
      record {
        index = 0;
        station = record { visit = record { place = place; first = first; what = s; loops = loops }; heads = []; trips = [] };
        at = refl;
        place_is = omega (arith, back.0);
        heads_are = outer_is;
        trips_are = no_trips params loops ms (subst (λ hs. AreValid params loops hs ms) (sym outer_is) valid);
      }

  mutual
    pub there_of : (s : Statement) (place first : ℕ) (loops : List ℤ) (k : ℕ) (p : StaticPhase) (ms : List ℕ) → slice_get (text_of enters s) k ≡ Some p → AreValid params loops p.outer ms → IsStop (stations_of params enters s place first loops) (place + k) p.outer ms
    there_of (do_loop head body) place first loops k p ms at valid = by (enters head.number) (λ q at' m ms v. there_in body place first (at_trip params head loops m) k q ms at' v) at
      where
        inner : ((q : StaticPhase) → slice_get (text_among enters body) k ≡ Some q → (m : ℕ) (ms : List ℕ) → AreValid params (at_trip params head loops m) q.outer ms → IsStop (stations_in params enters body place first (at_trip params head loops m)) (place + k) q.outer ms) → (q : StaticPhase) → slice_get (text_among enters body) k ≡ Some q → (ms : List ℕ) → AreValid params loops (head ∷ q.outer) ms → IsStop (flat_map (λ n. map (push head n) (stations_in params enters body place first (at_trip params head loops n))) (range_with_len 0 (trips_of params head loops))) (place + k) (head ∷ q.outer) ms
        inner later q at' [] v = absurd v
        inner later q at' (m ∷ ms) v =
            stop_at_trip (λ n. map (push head n) (stations_in params enters body place first (at_trip params head loops n))) 0 (trips_of params head loops) m (place + k) (head ∷ q.outer) (m ∷ ms) (omega arith) (omega (arith, v.0))
            (stop_pushed head m (stations_in params enters body place first (at_trip params head loops m)) (place + k) q.outer ms (later q at' m ms v.1))

        by : (b : Bool) → ((q : StaticPhase) → slice_get (text_among enters body) k ≡ Some q → (m : ℕ) (ms : List ℕ) → AreValid params (at_trip params head loops m) q.outer ms → IsStop (stations_in params enters body place first (at_trip params head loops m)) (place + k) q.outer ms) → slice_get (if b then map (inside head) (text_among enters body) else record { what = do_loop head body; outer = [] } ∷ []) k ≡ Some p →
            IsStop (if b then flat_map (λ n. map (push head n) (stations_in params enters body place first (at_trip params head loops n))) (range_with_len 0 (trips_of params head loops)) else record { visit = record { place = place; first = first; what = do_loop head body; loops = loops }; heads = []; trips = [] } ∷ []) (place + k) p.outer ms
        by true later at' =
            let back = mapped (inside head) (text_among enters body) k p at' in
            let outer_is : head ∷ back.0.outer ≡ p.outer = ap (λ (q : StaticPhase). q.outer) back.2 in
            subst (λ hs. IsStop (flat_map (λ n. map (push head n) (stations_in params enters body place first (at_trip params head loops n))) (range_with_len 0 (trips_of params head loops))) (place + k) hs ms) outer_is
            (inner later back.0 back.1 ms (subst (λ hs. AreValid params loops hs ms) (sym outer_is) valid))
        by false later at' = alone_there (do_loop head body) place first loops k p ms at' valid
    there_of (work w) place first loops k p ms at valid = alone_there (work w) place first loops k p ms at valid
    there_of (continue line) place first loops k p ms at valid = absurd (let no : None ≡ Some p = at in cc)

    pub there_in : (ss : Statements) (place first : ℕ) (loops : List ℤ) (k : ℕ) (p : StaticPhase) (ms : List ℕ) → slice_get (text_among enters ss) k ≡ Some p → AreValid params loops p.outer ms → IsStop (stations_in params enters ss place first loops) (place + k) p.outer ms
    there_in done place first loops k p ms at valid = absurd (let no : None ≡ Some p = at in cc)
    there_in (next s rest) place first loops k p ms at valid =
        let here = text_of enters s in
        let later = text_among enters rest in
        let xs = stations_of params enters s place first loops in
        let ys = stations_in params enters rest (place + stops_in enters s) (first + works_in s) loops in
        let long = text-length enters s in
        elim (cases_lt k (length here)) [
          | inl less ↦ stop_front xs ys (place + k) p.outer ms (there_of s place first loops k p ms (sym (get-front here later k less) ∙ at) valid)
          | inr past ↦
              let more : length here + (k - length here) ≡ k = omega (arith, past) in
              let far : place + stops_in enters s + (k - length here) ≡ place + k = omega (arith, long, past) in
              stop_behind xs ys (place + k) p.outer ms (subst (λ u. IsStop ys u p.outer ms) far
              (there_in rest (place + stops_in enters s) (first + works_in s) loops (k - length here) p ms (sym (get-behind here later (k - length here)) ∙ ap (slice_get (here ++ later)) more ∙ at) valid))
        ]

-- The systems that values solve where accesses meet: of two trips, and of a piece.
use Rattle.std.proofs.Common.{◌≡◌, ℕ, ◌+◌, ◌-◌, ◌≤◌, nat_lt, ℤ, Bool, true, false, Option, None, List, [], ◌∷◌, ◌++◌, map, length, if◌then◌else◌, sym, subst, inl, inr, arith}
use Rattle.std.specs.List.{AllByRecursion}
use Rattle.std.proofs.lemmas.Bool.{cases_lt, le-ltb, lt-ltb}
use Rattle.nest_tree.specs.Form.{form_value}
use Rattle.nest_tree.specs.Tree.{Tree, param_values}
use Rattle.nest_tree.specs.WellFormed.{names_only}
use Rattle.nest_rows.specs.Constraints.{system_of}
use Rattle.nest_rows.proofs.Dots.{numbers}
use Rattle.nest_rows.proofs.GroupsMet.{both_met}
use Rattle.nest_rows.proofs.Sums.{solves}
use Rattle.farkas_cert.specs.Inequalities.{IsWholeSolution}
use Rattle.owner_partition.specs.declared.anchor.Anchor.{Anchor}
use Rattle.sync_plan.specs.declared.plan.Conditions.{Conditions}
use Rattle.sync_plan.specs.Fit.{unmet}
use Rattle.conflict_rules.specs.Boundaries.{Side, of_first, of_second}
use Rattle.comm_system.specs.Levels.{Order}
use Rattle.comm_system.specs.Meetings.{AreHolders, Holder, Holds, LiesAmong, LiesBeside, Meet, Point, around_at, holders_values, loops_at, values_of}
use Rattle.comm_system.specs.Obligations.{last_of, placed_at}
use Rattle.comm_system.specs.OwnerRows.{Direction, Piece, Placed, above, below, choices, distance, owner_numbers, owners_have, owners_unknowns, pieces}
use Rattle.comm_system.specs.PairRows.{behind_pair, first_of, pair_rows, second_of}
use Rattle.comm_system.specs.Pairs.{Pair}
use Rattle.comm_laws.proofs.OwnersMet.{AreSeated, Seated, last_met, owners_in, owners_met, owners_numbered}
use Rattle.comm_laws.proofs.PairOver.{HasRoom, last_over, lists_over, numbers_among, owners_over}
use Rattle.comm_laws.proofs.Solved.{AreGoodConditions, IsGoodReference, as_many, constants_known, first_lies, loops_laid, owners_lie, pair_met, pair_over, seated-length, second_lies, values-long}

-- owners hold what stands at their anchors' values
abbrev pub DoHold : Tree → ℕ → Point → Point → List (Anchor × Side) → List Holder → Type 0
DoHold tree workers x y [] [] = Unit {0}
DoHold tree workers x y [] (o ∷ os) = ⊥
DoHold tree workers x y (u ∷ us) [] = ⊥
DoHold tree workers x y (u ∷ us) (o ∷ os) = Holds u.0.dist workers (form_value u.0.form (loops_at x y u.1) (param_values tree)) o × DoHold tree workers x y us os

-- the anchors of producers name the loops round the access on their side
abbrev pub AreNamedAt : Tree → Pair → List (Anchor × Side) → Type 0
AreNamedAt tree pair us = AllByRecursion (λ u. names_only (length (param_values tree)) (numbers (around_at pair u.1)) u.0.form ≡ true) us

pub holders_named : (tree : Tree) (workers : ℕ) (pair : Pair) (x y : Point) (us : List (Anchor × Side)) (os : List Holder) → AreHolders tree workers pair x y us os → AreNamedAt tree pair us × DoHold tree workers x y us os
holders_named tree workers pair x y [] [] h = (tt, tt)
holders_named tree workers pair x y [] (o ∷ os) h = absurd h
holders_named tree workers pair x y (u ∷ us) [] h = absurd h
holders_named tree workers pair x y (u ∷ us) (o ∷ os) h = let rest = holders_named tree workers pair x y us os h.1 in ((h.0.named, rest.0), (h.0.holds, rest.1))

module _ (tree : Tree) (conditions : Conditions) (order : Order) (lasts : Option ℕ × Option ℕ) (pair : Pair) (x y : Point) (ranks : List ℕ) (meet : Meet tree order lasts pair x y) (goods : AreGoodConditions (length (param_values tree)) conditions) (none : unmet (param_values tree) conditions ≡ None)
    (good : IsGoodReference (length (param_values tree)) ranks pair.first) (good' : IsGoodReference (length (param_values tree)) ranks pair.second) where
  -- two trips of a loop
  pub trips_solved : IsWholeSolution (system_of (behind_pair tree pair - 1) (pair_rows tree conditions order lasts pair)) (values_of tree pair x y [])
  trips_solved =
      let long = values-long tree conditions order lasts pair x y ranks meet goods none good good' [] in
      solves (behind_pair tree pair - 1) (pair_rows tree conditions order lasts pair) (values_of tree pair x y []) (omega (arith, long)) (pair_over tree conditions order lasts pair x y ranks meet goods none good good' [] (behind_pair tree pair - 1) (omega arith))
      (pair_met tree conditions order lasts pair x y ranks meet goods none good good' [])

  module _ (owners : List ℤ) (workers vars : ℕ) (few : length (param_values tree) ≤ vars) (room : behind_pair tree pair ≤ vars + 1) where
    abbrev vs : List ℤ
    vs = values_of tree pair x y owners

    one_seated : (a : Anchor) (side : Side) (o : Holder) → names_only (length (param_values tree)) (numbers (around_at pair side)) a.form ≡ true → Holds a.dist workers (form_value a.form (loops_at x y side) (param_values tree)) o → Seated vs (param_values tree) workers (placed_at tree pair (a, side)) o
    one_seated a of_first o named holds = record {
      loops = x.loops;
      trips = x.trips;
      laid = loops_laid tree vs (first_of tree) pair.first x ranks (constants_known tree conditions order lasts pair x y ranks meet goods none good good' owners) good meet.first (first_lies tree conditions order lasts pair x y ranks meet goods none good good' owners);
      named = named;
      holds = holds;
    }
    one_seated a of_second o named holds = record {
      loops = y.loops;
      trips = y.trips;
      laid = loops_laid tree vs (second_of tree pair) pair.second y ranks (constants_known tree conditions order lasts pair x y ranks meet goods none good good' owners) good' meet.second (second_lies tree conditions order lasts pair x y ranks meet goods none good good' owners);
      named = named;
      holds = holds;
    }

    pub all_seated : (us : List (Anchor × Side)) (os : List Holder) → AreNamedAt tree pair us → DoHold tree workers x y us os → AreSeated vs (param_values tree) workers (map (placed_at tree pair) us) os
    all_seated [] [] named holds = tt
    all_seated [] (o ∷ os) named holds = absurd holds
    all_seated (u ∷ us) [] named holds = absurd holds
    all_seated (u ∷ us) (o ∷ os) named holds = (one_seated u.0 u.1 o named.0 holds.0, all_seated us os named.1 holds.1)

    one_room : (a : Anchor) (side : Side) → names_only (length (param_values tree)) (numbers (around_at pair side)) a.form ≡ true → HasRoom vars (length (param_values tree)) (placed_at tree pair (a, side))
    one_room a of_first named = record { low = omega arith; room = omega (arith, room); named = named }
    one_room a of_second named = record { low = omega arith; room = omega (arith, room); named = named }

    pub all_room : (us : List (Anchor × Side)) → AreNamedAt tree pair us → AllByRecursion (HasRoom vars (length (param_values tree))) (map (placed_at tree pair) us)
    all_room [] named = tt
    all_room (u ∷ us) named = (one_room u.0 u.1 named.0, all_room us named.1)

  -- the anchors of both instances, and the producers
  module _ (workers left right : ℕ) (us : List (Anchor × Side)) (a b : Anchor) (q p : Holder) (os : List Holder) (piece : Piece) (named : AreNamedAt tree pair ((a, of_first) ∷ (b, of_second) ∷ us)) (holders : DoHold tree workers x y ((a, of_first) ∷ (b, of_second) ∷ us) (q ∷ p ∷ os))
      (range : LiesBeside piece.range (distance piece.range left right) q.owner p.owner) (among : LiesAmong q.owner (owners_in os) piece.producers) where
    abbrev placed : List Placed
    placed = map (placed_at tree pair) ((a, of_first) ∷ (b, of_second) ∷ us)

    abbrev owned : List ℤ
    owned = holders_values placed (q ∷ p ∷ os)

    pub owners_solved : IsWholeSolution (system_of (behind_pair tree pair + owners_unknowns placed - 1) (pair_rows tree conditions order lasts pair ++ owners_have workers (behind_pair tree pair) placed ++ last_of left right (owner_numbers (behind_pair tree pair) placed) piece)) (values_of tree pair x y owned)
    owners_solved =
        let vars = behind_pair tree pair + owners_unknowns placed - 1 in
        let n = behind_pair tree pair in
        let params = param_values tree in
        let whole = values_of tree pair x y owned in
        let few : length params ≤ vars = omega (arith, as_many tree conditions order lasts pair x y ranks meet goods none good good' owned) in
        let room : n ≤ vars + 1 = omega arith in
        let seated = all_seated owned workers vars few room ((a, of_first) ∷ (b, of_second) ∷ us) (q ∷ p ∷ os) named holders in
        let lie = owners_lie tree conditions order lasts pair x y ranks meet goods none good good' owned in
        let constants = constants_known tree conditions order lasts pair x y ranks meet goods none good good' owned in
        let long = values-long tree conditions order lasts pair x y ranks meet goods none good good' owned in
        let many = seated-length whole params workers placed (q ∷ p ∷ os) seated in
        let P = pair_rows tree conditions order lasts pair in
        let O = owners_have workers n placed in
        let L = last_of left right (owner_numbers n placed) piece in
        let known = owners_numbered whole params workers n placed (q ∷ p ∷ os) seated lie in
        let ns = owner_numbers n placed in
        let met = both_met whole (P ++ O) L (both_met whole P O (pair_met tree conditions order lasts pair x y ranks meet goods none good good' owned) (owners_met whole params workers n placed (q ∷ p ∷ os) constants seated lie))
        (last_met whole left right _ _ q.owner p.owner _ os piece known.0 known.1.0 known.1.1 range among) in
        let over = lists_over vars (P ++ O) L (lists_over vars P O (pair_over tree conditions order lasts pair x y ranks meet goods none good good' owned vars room)
        (owners_over vars (length params) workers n placed few (all_room owned workers vars few room ((a, of_first) ∷ (b, of_second) ∷ us) named) (omega arith) (omega arith)))
        (last_over vars left right _ _ _ piece (numbers_among vars n placed (omega arith) (omega arith))) in
        solves vars (P ++ O ++ L) whole (omega (arith, long, many)) over met

-- ---- the sides of the producers

-- on which side of each an owner lies
abbrev pub sides_of : ℕ → List ℕ → List Direction
sides_of q [] = []
sides_of q (o ∷ os) = (if nat_lt q o then below else above) ∷ sides_of q os

pub lies_on_sides : (q : ℕ) (os : List ℕ) → AllByRecursion (λ o. q ≡ o → ⊥) os → LiesAmong q os (sides_of q os)
lies_on_sides q [] apart = tt
lies_on_sides q (o ∷ os) apart = (
  elim (cases_lt q o) [
    | inl less ↦ subst (λ b. LiesBeside (if b then below else above) 1 q o) (sym (lt-ltb q o less)) (omega (arith, less))
    | inr past ↦ subst (λ b. LiesBeside (if b then below else above) 1 q o) (sym (le-ltb q o past)) (more past apart.0)
  ],
  lies_on_sides q os apart.1,
)
  where
    more : o ≤ q → (q ≡ o → ⊥) → (o + 1) ≤ q
    more le ne = omega (arith, le, ne)

pub all_choices : (P : List Direction → Type 0) (q : ℕ) (os : List ℕ) → AllByRecursion P (choices (length os)) → P (sides_of q os)
all_choices P q [] all = all.0
all_choices P q (o ∷ os) all =
    let fronts = halves (λ ds. below ∷ ds) (λ ds. above ∷ ds) (choices (length os)) (choices (length os)) all in
    by (nat_lt q o) (all_choices (λ ds. P (below ∷ ds)) q os) (all_choices (λ ds. P (above ∷ ds)) q os) fronts
  where
    mapped : (f : List Direction → List Direction) (xs : List (List Direction)) → AllByRecursion P (map f xs) → AllByRecursion (λ ds. P (f ds)) xs
    mapped f [] h = tt
    mapped f (x ∷ xs) h = (h.0, mapped f xs h.1)

    halves : (f g : List Direction → List Direction) (xs ys : List (List Direction)) → AllByRecursion P (map f xs ++ map g ys) → AllByRecursion (λ ds. P (f ds)) xs × AllByRecursion (λ ds. P (g ds)) ys
    halves f g [] ys h = (tt, mapped g ys h)
    halves f g (x ∷ xs) ys h = let rest = halves f g xs ys h.1 in ((h.0, rest.0), rest.1)

    by : (b : Bool) → (AllByRecursion (λ ds. P (below ∷ ds)) (choices (length os)) → P (below ∷ sides_of q os)) → (AllByRecursion (λ ds. P (above ∷ ds)) (choices (length os)) → P (above ∷ sides_of q os)) →
        AllByRecursion (λ ds. P (below ∷ ds)) (choices (length os)) × AllByRecursion (λ ds. P (above ∷ ds)) (choices (length os)) → P ((if b then below else above) ∷ sides_of q os)
    by true f g h = f h.0
    by false f g h = g h.1

pub all_pieces : (P : Piece → Type 0) (d : Direction) (q : ℕ) (os : List ℕ) → AllByRecursion P (pieces (length os)) → P (record { range = d; producers = sides_of q os })
all_pieces P d q os all = all_choices (λ ds. P (record { range = d; producers = ds })) q os (pick d all)
  where
    mapped : (f : List Direction → Piece) (xs : List (List Direction)) (rest : List Piece) → AllByRecursion P (map f xs ++ rest) → AllByRecursion (λ ds. P (f ds)) xs
    mapped f [] rest h = tt
    mapped f (x ∷ xs) rest h = (h.0, mapped f xs rest h.1)

    behind : (f : List Direction → Piece) (xs : List (List Direction)) (rest : List Piece) → AllByRecursion P (map f xs ++ rest) → AllByRecursion P rest
    behind f [] rest h = h
    behind f (x ∷ xs) rest h = behind f xs rest h.1

    pick : (d : Direction) → AllByRecursion P (pieces (length os)) → AllByRecursion (λ ds. P (record { range = d; producers = ds })) (choices (length os))
    pick below h = mapped (λ ds. record { range = below; producers = ds }) (choices (length os)) _ h
    pick above h = mapped (λ ds. record { range = above; producers = ds }) (choices (length os)) _ (behind (λ ds. record { range = below; producers = ds }) (choices (length os)) _ h)

-- Where accesses meet, the values of the unknowns solve the system.
use Rattle.std.proofs.Common.{◌≡◌, ℕ, zero, suc, ◌+◌, ◌*◌, ◌-◌, ◌<◌, ◌≤◌, ◌&&◌, ℤ, pos, ◌≤ℤ◌, int_le, Bool, true, false, Option, Some, None, List, [], ◌∷◌, ◌++◌, append_assoc, map, length, length-append, get_or, slice_index_or, if◌then◌else◌, refl, ap, sym, ◌∙◌, subst, arith}
use Rattle.std.specs.List.{AllByRecursion, list_all}
use Rattle.std.proofs.lemmas.Bool.{and_from, and_parts, leb-true}
use Rattle.std.proofs.lemmas.Int.{ints}
use Rattle.std.proofs.lemmas.List.{append-nil, get_or_append_left, get_or_default, length-map}
use Rattle.nest_tree.specs.Form.{Form, dot, numbered}
use Rattle.nest_tree.specs.Layout.{bounds_of}
use Rattle.nest_tree.specs.Tree.{Constant, Head, Tree, param_values}
use Rattle.nest_tree.specs.WellFormed.{is_good_guard, is_number_of, names_only}
use Rattle.nest_walk.specs.Tables.{Loaded, element, array}
use Rattle.nest_rows.specs.Constraints.{IsMet}
use Rattle.nest_rows.specs.Groups.{guard_has, loops_have}
use Rattle.nest_rows.specs.Nested.{AreTrips}
use Rattle.nest_rows.specs.Places.{AreLaid, laid}
use Rattle.nest_rows.proofs.Dots.{AreConstants, numbers, constants-in-front, dot-constants}
use Rattle.nest_rows.proofs.GroupsMet.{both_met, constants_met, guard_met, is_head_among, loops_met}
use Rattle.nest_rows.proofs.Over.{constants_have-over, form-over, guard-over, loops_have-over, number-from}
use Rattle.nest_rows.proofs.Sums.{is_over}
use Rattle.sync_plan.specs.declared.plan.ConditionRow.{ConditionRow}
use Rattle.sync_plan.specs.declared.plan.Conditions.{Conditions}
use Rattle.sync_plan.specs.declared.plan.Conditions.TheVariants.{Values, Rows}
use Rattle.sync_plan.specs.Fit.{meets, unmet, unmet_among}
use Rattle.sync_plan.specs.Shape.{is_good_row}
use Rattle.comm_system.specs.Levels.{Order}
use Rattle.comm_system.specs.Meetings.{AreFree, AreSame, Holder, IsEarlier, IsEarlierWhere, IsInLastTripWhere, IsMadeAt, Meet, Point, holder_values, holders_values, point_values, subscripts_at, values_of}
use Rattle.comm_system.specs.OwnerRows.{Placed, owners_unknowns}
use Rattle.comm_system.specs.PairRows.{behind_pair, conditions_have, first_of, free_bounds, free_have, instance_has, last_has, ordered_so, pair_rows, same_element, second_of, subscripts_of, sum_of, unknowns_of}
use Rattle.comm_system.specs.Pairs.{Pair}
use Rattle.conflict_rules.specs.References.{Reference}
use Rattle.comm_laws.proofs.Lies.{LiesAt, laid-length, laid_there, lies-left, lies-right, lies_behind}
use Rattle.comm_laws.proofs.OwnersMet.{AreSeated, holder-length}
use Rattle.comm_laws.proofs.PairMet.{element_met, forms_valued, free_met, free_valued, last_trip_met, order_met, sum_value}
use Rattle.comm_laws.proofs.PairOver.{IsSumOver, are_over, depth_of, element_over, free_over, free_sums_over, last_trip_over, lists_over, order_over}

-- ---- the conditions on the named constants

-- the named constants that a good row names are there
row_named : (constants : ℕ) (r : ConditionRow) → is_good_row constants r ≡ true → list_all (λ p. is_number_of constants p.0) r.coefs ≡ true
row_named constants r good = (and_parts _ (list_all (λ (p : ℕ × ℤ). is_number_of constants p.0) r.coefs) (and_parts (_ && list_all (λ (p : ℕ × ℤ). is_number_of constants p.0) r.coefs) _ good).0).1

-- conditions that are good and met
abbrev pub AreGoodConditions : ℕ → Conditions → Type 0
AreGoodConditions constants Values = Unit {0}
AreGoodConditions constants (Rows rows) = list_all (is_good_row constants) rows ≡ true

rows_met : (values params : List ℤ) (n : ℕ) (rows : List ConditionRow) → AreConstants values params → list_all (is_good_row (length params)) rows ≡ true → unmet_among n params rows ≡ None →
    AllByRecursion (IsMet values) (map (λ (r : ConditionRow). record { terms = r.coefs; bound = r.bound }) rows)
rows_met values params n [] are good none = tt
rows_met values params n (r ∷ rows) are good none =
    let parts = and_parts (is_good_row (length params) r) (list_all (is_good_row (length params)) rows) good in
    let met = row_meets (meets params r) none in
    let here : dot r.coefs params ≤ℤ r.bound = at_most (dot r.coefs params) r.bound met.0 in
    (subst (λ z. z ≤ℤ r.bound) (sym (dot-constants values params r.coefs are (row_named (length params) r parts.0))) here, rows_met values params (suc n) rows are parts.1 met.1)
  where
    row_meets : (b : Bool) → (if b then unmet_among (suc n) params rows else Some n) ≡ None → (b ≡ true) × (unmet_among (suc n) params rows ≡ None)
    row_meets true h = (refl, h)
    row_meets false h = absurd (cc)

    at_most : (a b : ℤ) → int_le a b ≡ true → a ≤ℤ b
    at_most a b h = grind (arith, ints, h)

rows_over : (vars constants : ℕ) (rows : List ConditionRow) → constants ≤ vars → list_all (is_good_row constants) rows ≡ true → list_all (is_over vars) (map (λ (r : ConditionRow). record { terms = r.coefs; bound = r.bound }) rows) ≡ true
rows_over vars constants [] few good = refl
rows_over vars constants (r ∷ rows) few good =
    let parts = and_parts (is_good_row constants r) (list_all (is_good_row constants) rows) good in
    and_from _ _ (named_over r.coefs (row_named constants r parts.0)) (rows_over vars constants rows few parts.1)
  where
    named_over : (pairs : List (ℕ × ℤ)) → list_all (λ p. is_number_of constants p.0) pairs ≡ true → are_over vars pairs ≡ true
    named_over [] h = refl
    named_over (p ∷ pairs) h =
        let ps = and_parts (is_number_of constants p.0) (list_all (λ (p : ℕ × ℤ). is_number_of constants p.0) pairs) h in
        let number = and_parts _ _ ps.0 in
        and_from _ _ (number-from vars p.0 (leb-true 1 p.0 number.0) (omega (arith, few, leb-true p.0 constants number.1))) (named_over pairs ps.1)

pub conditions_met : (values params : List ℤ) (conditions : Conditions) → AreConstants values params → ((k : ℕ) (d : ℤ) → k < length params → numbered values (1 + k) ≡ slice_index_or params k d) → AreGoodConditions (length params) conditions → unmet params conditions ≡ None →
    AllByRecursion (IsMet values) (conditions_have params conditions)
conditions_met values params Values are at good none = constants_met values 1 params at
conditions_met values params (Rows rows) are at good none = rows_met values params 1 rows are good none

pub conditions_over : (vars : ℕ) (params : List ℤ) (conditions : Conditions) → length params ≤ vars → AreGoodConditions (length params) conditions → list_all (is_over vars) (conditions_have params conditions) ≡ true
conditions_over vars params Values few good = constants_have-over vars 1 params (omega arith) (omega (arith, few))
conditions_over vars params (Rows rows) few good = rows_over vars (length params) rows few good

-- ---- one access

-- the subscripts of an access name the loops round it
abbrev pub AreNamed : ℕ → List ℕ → Loaded → Type 0
AreNamed constants loops (element a) = list_all (names_only constants loops) a.subscripts ≡ true
AreNamed constants loops (array variable) = Unit {0}

-- an access of a well-formed program, of so many named constants
pub record IsGoodReference (constants : ℕ) (ranks : List ℕ) (a : Reference) : Type 0 where
  pub heads : AllByRecursion (λ h. is_head_among constants (numbers a.around) h ≡ true) a.around
  pub guard : is_good_guard (record { constants = constants; ranks = ranks }) (numbers a.around) a.guard ≡ true
  pub named : AreNamed constants (numbers a.around) a.what

pub free-length : (bounds : List (ℤ × ℤ)) (ds : List ℤ) → AreFree bounds ds → length ds ≡ length bounds
free-length [] [] h = refl
free-length [] (d ∷ ds) h = absurd h
free-length (b ∷ bounds) [] h = absurd h
free-length (b ∷ bounds) (d ∷ ds) h = ap suc (free-length bounds ds h.2)

pub trips-length : (params loops : List ℤ) (heads : List Head) (ns : List ℕ) → AreTrips params loops heads ns → length ns ≡ length heads
trips-length params loops [] [] h = refl
trips-length params loops [] (n ∷ ns) h = absurd h
trips-length params loops (g ∷ heads) [] h = absurd h
trips-length params loops (g ∷ heads) (n ∷ ns) h = ap suc (trips-length params loops heads ns h.1)

module _ (tree : Tree) (values : List ℤ) (first : ℕ) (a : Reference) (x : Point) (ranks : List ℕ) (constants : AreConstants values (param_values tree)) (good : IsGoodReference (length (param_values tree)) ranks a) (made : IsMadeAt tree a x) (lies : LiesAt values first (point_values a.around x)) where
  pub loops_laid : AreLaid values first x.loops a.around x.trips
  loops_laid = laid_there values first (param_values tree) x.loops a.around x.trips made.trips (lies-left values first (laid x.loops a.around x.trips) x.free lies)

  free_lies : LiesAt values (first + 2 * length a.around) x.free
  free_lies =
      let place : first + length (laid x.loops a.around x.trips) ≡ first + 2 * length a.around = omega (arith, laid-length (param_values tree) x.loops a.around x.trips made.trips) in
      subst (λ n. LiesAt values n x.free) place (lies-right values first (laid x.loops a.around x.trips) x.free lies)

  pub access_met : (last : Option ℕ) → IsInLastTripWhere last (param_values tree) x.loops a.around → AllByRecursion (IsMet values) (instance_has tree first last a)
  access_met last is =
      let params = param_values tree in
      let L = loops_have first a.around first a.around in
      let F = free_have (first + 2 * length a.around) (free_bounds tree a.what) in
      let G = guard_has first a.around a.guard in
      let l = loops_met values first x.loops a.around x.trips params loops_laid constants first a.around x.trips loops_laid good.heads made.trips in
      let f = free_met values (first + 2 * length a.around) (free_bounds tree a.what) x.free free_lies made.free in
      let g = guard_met values first x.loops a.around x.trips params loops_laid constants ranks a.guard good.guard made.executed in
      let t = last_trip_met values first x.loops a.around x.trips params loops_laid constants last good.heads is in
      both_met values ((L ++ F) ++ G) (last_has last first a.around) (both_met values (L ++ F) G (both_met values L F l f) g) t

  pub access_valued : map (sum_value values) (subscripts_of tree first a.around a.what) ≡ subscripts_at tree a.what x
  access_valued = by a.what good.named made.free
    where
      by : (w : Loaded) → AreNamed (length (param_values tree)) (numbers a.around) w → AreFree (free_bounds tree w) x.free → map (sum_value values) (subscripts_of tree first a.around w) ≡ subscripts_at tree w x
      by (element e) named free = forms_valued values first x.loops a.around x.trips (param_values tree) loops_laid constants e.subscripts named
      by (array variable) named free = free_valued values (first + 2 * length a.around) (bounds_of tree variable) x.free free_lies free

module _ (tree : Tree) (vars first : ℕ) (a : Reference) (ranks : List ℕ) (good : IsGoodReference (length (param_values tree)) ranks a) (few : length (param_values tree) ≤ vars) (low : 1 ≤ first) (room : first + unknowns_of tree a ≤ vars + 1) where
  access_over : (last : Option ℕ) → list_all (is_over vars) (instance_has tree first last a) ≡ true
  access_over last =
      let C = length (param_values tree) in
      let L = loops_have first a.around first a.around in
      let F = free_have (first + 2 * length a.around) (free_bounds tree a.what) in
      let G = guard_has first a.around a.guard in
      let inside : first + 2 * length a.around ≤ vars + 1 = omega (arith, room) in
      let l = loops_have-over vars C first a.around low few inside first a.around low inside good.heads in
      let f = free_over vars (first + 2 * length a.around) (free_bounds tree a.what) (omega (arith, low)) (omega (arith, room)) in
      let g = guard-over vars C first a.around low few inside a.guard (λ x e. sym (ap (is_good_guard (record { constants = C; ranks = ranks }) (numbers a.around)) e) ∙ good.guard) in
      let t = last_trip_over vars C first a.around low few inside last good.heads in
      lists_over vars ((L ++ F) ++ G) (last_has last first a.around) (lists_over vars (L ++ F) G (lists_over vars L F l f) g) t

  subscripts_over : AllByRecursion (IsSumOver vars) (subscripts_of tree first a.around a.what)
  subscripts_over = by a.what good.named (omega (arith, room))
    where
      forms : (fs : List Form) → list_all (names_only (length (param_values tree)) (numbers a.around)) fs ≡ true → AllByRecursion (IsSumOver vars) (map (sum_of first a.around) fs)
      forms [] h = tt
      forms (f ∷ fs) h =
          let parts = and_parts (names_only (length (param_values tree)) (numbers a.around) f) (list_all (names_only (length (param_values tree)) (numbers a.around)) fs) h in
          (λ sign. form-over vars (length (param_values tree)) first a.around low few (omega (arith, room)) sign f parts.0, forms fs parts.1)

      by : (w : Loaded) → AreNamed (length (param_values tree)) (numbers a.around) w → first + 2 * length a.around + length (free_bounds tree w) ≤ vars + 1 → AllByRecursion (IsSumOver vars) (subscripts_of tree first a.around w)
      by (element e) named r = forms e.subscripts named
      by (array variable) named r = free_sums_over vars (first + 2 * length a.around) (bounds_of tree variable) (omega (arith, low)) r

-- ---- the order of the loops speaks of loops that are there

same_within : (k : ℕ) (heads others : List Head) (loops loops' : List ℤ) → AreSame k heads others loops loops' → (k ≤ length heads) × (k ≤ length others)
same_within zero heads others loops loops' h = (omega arith, omega arith)
same_within (suc k) [] others loops loops' h = absurd h
same_within (suc k) (g ∷ heads) [] loops loops' h = absurd h
same_within (suc k) (g ∷ heads) (g' ∷ others) loops loops' h = let w = same_within k heads others loops loops' h.1 in (omega (arith, w.0), omega (arith, w.1))

earlier_within : (k : ℕ) (ns ms : List ℕ) → IsEarlier k ns ms → (k < length ns) × (k < length ms)
earlier_within k [] ms h = absurd h
earlier_within k (n ∷ ns) [] h = absurd h
earlier_within zero (n ∷ ns) (m ∷ ms) h = (omega arith, omega arith)
earlier_within (suc k) (n ∷ ns) (m ∷ ms) h = let w = earlier_within k ns ms h in (omega (arith, w.0), omega (arith, w.1))

depth_within : (order : Order) (heads others : List Head) (loops loops' : List ℤ) (ns ms : List ℕ) → length ns ≡ length heads → length ms ≡ length others → AreSame order.equal heads others loops loops' → IsEarlierWhere order.earlier order.equal ns ms →
    (depth_of order ≤ length heads) × (depth_of order ≤ length others)
depth_within order heads others loops loops' ns ms long long' same earlier = by order.earlier earlier
  where
    by : (b : Bool) → IsEarlierWhere b order.equal ns ms → ((if b then order.equal + 1 else order.equal) ≤ length heads) × ((if b then order.equal + 1 else order.equal) ≤ length others)
    by true h = let w = earlier_within order.equal ns ms h in (omega (arith, w.0, long), omega (arith, w.1, long'))
    by false h = same_within order.equal heads others loops loops' same

-- ---- the whole

pub seated-length : (values params : List ℤ) (workers : ℕ) (placed : List Placed) (os : List Holder) → AreSeated values params workers placed os → length (holders_values placed os) ≡ owners_unknowns placed
seated-length values params workers [] [] h = refl
seated-length values params workers [] (o ∷ os) h = absurd h
seated-length values params workers (p ∷ placed) [] h = absurd h
seated-length values params workers (p ∷ placed) (o ∷ os) h = omega (arith, length-append (holder_values p.anchor.dist o) (holders_values placed os), holder-length p.anchor.dist o, seated-length values params workers placed os h.1)

-- what is known of a pair whose accesses meet
module _ (tree : Tree) (conditions : Conditions) (order : Order) (lasts : Option ℕ × Option ℕ) (pair : Pair) (x y : Point) (ranks : List ℕ) (meet : Meet tree order lasts pair x y) (goods : AreGoodConditions (length (param_values tree)) conditions) (none : unmet (param_values tree) conditions ≡ None)
    (good : IsGoodReference (length (param_values tree)) ranks pair.first) (good' : IsGoodReference (length (param_values tree)) ranks pair.second) (owners : List ℤ) where
  abbrev vs : List ℤ
  vs = values_of tree pair x y owners

  pub as_many : length (param_values tree) ≡ length tree.params
  as_many = length-map tree.params (λ (p : Constant). p.value)

  point-length : (a : Reference) (z : Point) → IsMadeAt tree a z → length (point_values a.around z) ≡ unknowns_of tree a
  point-length a z made =
      omega (arith, length-append (laid z.loops a.around z.trips) z.free, laid-length (param_values tree) z.loops a.around z.trips made.trips, free-length (free_bounds tree a.what) z.free made.free)

  pub constants_known : AreConstants vs (param_values tree)
  constants_known = constants-in-front (param_values tree) (point_values pair.first.around x ++ (point_values pair.second.around y ++ owners))

  pub first_lies : LiesAt vs (first_of tree) (point_values pair.first.around x)
  first_lies = subst (λ n. LiesAt vs (n + 1) (point_values pair.first.around x)) as_many (lies_behind (param_values tree) (point_values pair.first.around x) (point_values pair.second.around y ++ owners))

  pub second_lies : LiesAt vs (second_of tree pair) (point_values pair.second.around y)
  second_lies =
      let A = point_values pair.first.around x in
      let B = point_values pair.second.around y in
      let place : length (param_values tree ++ A) + 1 ≡ second_of tree pair = omega (arith, as_many, length-append (param_values tree) A, point-length pair.first x meet.first) in
      subst (λ zs. LiesAt zs (second_of tree pair) B) (append_assoc (param_values tree) A (B ++ owners)) (subst (λ n. LiesAt ((param_values tree ++ A) ++ (B ++ owners)) n B) place (lies_behind (param_values tree ++ A) B owners))

  pub owners_lie : LiesAt vs (behind_pair tree pair) owners
  owners_lie =
      let A = point_values pair.first.around x in
      let B = point_values pair.second.around y in
      let place : length ((param_values tree ++ A) ++ B) + 1 ≡ behind_pair tree pair =
      omega (arith, as_many, length-append (param_values tree) A, length-append (param_values tree ++ A) B, point-length pair.first x meet.first, point-length pair.second y meet.second) in
      let whole : ((param_values tree ++ A) ++ B) ++ (owners ++ []) ≡ vs =
      ap (λ zs. ((param_values tree ++ A) ++ B) ++ zs) (append-nil owners) ∙ append_assoc (param_values tree ++ A) B owners ∙ append_assoc (param_values tree) A (B ++ owners) in
      subst (λ zs. LiesAt zs (behind_pair tree pair) owners) whole (subst (λ n. LiesAt (((param_values tree ++ A) ++ B) ++ (owners ++ [])) n owners) place (lies_behind ((param_values tree ++ A) ++ B) owners []))

  pub values-long : length vs + 1 ≡ behind_pair tree pair + length owners
  values-long =
      let A = point_values pair.first.around x in
      let B = point_values pair.second.around y in
      omega (arith, as_many, length-append (param_values tree) (A ++ (B ++ owners)), length-append A (B ++ owners), length-append B owners, point-length pair.first x meet.first, point-length pair.second y meet.second)

  pub pair_met : AllByRecursion (IsMet vs) (pair_rows tree conditions order lasts pair)
  pair_met =
      let m = first_of tree in
      let n = second_of tree pair in
      let a = pair.first in
      let b = pair.second in
      let C = conditions_have (param_values tree) conditions in
      let I = instance_has tree m lasts.0 a in
      let J = instance_has tree n lasts.1 b in
      let E = same_element (subscripts_of tree m a.around a.what) (subscripts_of tree n b.around b.what) in
      let O = ordered_so m n order in
      let rest = point_values a.around x ++ (point_values b.around y ++ owners) in
      let values_at = λ (k : ℕ) (d : ℤ) (lt : k < length (param_values tree)).
      let place : 1 + k - 1 ≡ k = omega arith in
      ap (λ j. get_or vs j (pos 0)) place ∙ get_or_append_left (param_values tree) rest (pos 0) k lt ∙ get_or_default (param_values tree) k (pos 0) d lt in
      let c = conditions_met vs (param_values tree) conditions constants_known values_at goods none in
      let i = access_met tree vs m a x ranks constants_known good meet.first first_lies lasts.0 meet.first_last in
      let j = access_met tree vs n b y ranks constants_known good' meet.second second_lies lasts.1 meet.second_last in
      let e = element_met vs (subscripts_of tree m a.around a.what) (subscripts_of tree n b.around b.what)
      (access_valued tree vs m a x ranks constants_known good meet.first first_lies ∙ meet.element ∙ sym (access_valued tree vs n b y ranks constants_known good' meet.second second_lies)) in
      let o = order_met vs m n order x.loops y.loops a.around b.around x.trips y.trips (loops_laid tree vs m a x ranks constants_known good meet.first first_lies) (loops_laid tree vs n b y ranks constants_known good' meet.second second_lies)
      (trips-length (param_values tree) x.loops a.around x.trips meet.first.trips) (trips-length (param_values tree) y.loops b.around y.trips meet.second.trips) meet.same meet.earlier in
      both_met vs (((C ++ I) ++ J) ++ E) O (both_met vs ((C ++ I) ++ J) E (both_met vs (C ++ I) J (both_met vs C I c i) j) e) o

  pub pair_over : (vars : ℕ) → behind_pair tree pair ≤ vars + 1 → list_all (is_over vars) (pair_rows tree conditions order lasts pair) ≡ true
  pair_over vars room =
      let m = first_of tree in
      let n = second_of tree pair in
      let a = pair.first in
      let b = pair.second in
      let C = conditions_have (param_values tree) conditions in
      let I = instance_has tree m lasts.0 a in
      let J = instance_has tree n lasts.1 b in
      let E = same_element (subscripts_of tree m a.around a.what) (subscripts_of tree n b.around b.what) in
      let O = ordered_so m n order in
      let few : length (param_values tree) ≤ vars = omega (arith, room, as_many) in
      let room_a : m + unknowns_of tree a ≤ vars + 1 = omega (arith, room) in
      let room_b : n + unknowns_of tree b ≤ vars + 1 = omega (arith, room) in
      let deep = depth_within order a.around b.around x.loops y.loops x.trips y.trips (trips-length (param_values tree) x.loops a.around x.trips meet.first.trips) (trips-length (param_values tree) y.loops b.around y.trips meet.second.trips) meet.same meet.earlier in
      let c = conditions_over vars (param_values tree) conditions few goods in
      let i = access_over tree vars m a ranks good few (omega arith) room_a lasts.0 in
      let j = access_over tree vars n b ranks good' few (omega arith) room_b lasts.1 in
      let e = element_over vars (subscripts_of tree m a.around a.what) (subscripts_of tree n b.around b.what) (subscripts_over tree vars m a ranks good few (omega arith) room_a) (subscripts_over tree vars n b ranks good' few (omega arith) room_b) in
      let o = order_over vars m n order (omega arith) (omega (arith, room_a, deep.0)) (omega arith) (omega (arith, room_b, deep.1)) in
      lists_over vars (((C ++ I) ++ J) ++ E) O (lists_over vars ((C ++ I) ++ J) E (lists_over vars (C ++ I) J (lists_over vars C I c i) j) e) o

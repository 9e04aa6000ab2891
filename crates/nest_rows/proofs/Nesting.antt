-- Each instance is of a piece of work of the text, and the loops round it are at trips of theirs.
use Rattle.std.proofs.Common.{◌≡◌, ℕ, zero, suc, ◌+◌, ◌-◌, ◌<◌, ◌≤◌, ◌&&◌, ◌==◌, nat_le, nat_lt, ℤ, pos, ◌+ℤ◌, ◌*ℤ◌, Bool, true, false, unsigned_abs, Some, None, List, [], ◌∷◌, ◌++◌, length, length-append, map, if◌then◌else◌, refl, ap, sym, ◌∙◌, subst, arith}
use Rattle.std.specs.List.{AllByRecursion, flat_map, list_all, list_any, range_with_len, slice_get}
use Rattle.std.proofs.lemmas.Bool.{and_from, and_parts, le-leb, leb-true, ltb-true}
use Rattle.std.proofs.lemmas.List.{get_or-set_other, get_or-set_same, length-replicate, length-set}
use Rattle.nest_tree.specs.Form.{Form, dot, form_value, is_form, is_small, numbered, reach_within, rises_above}
use Rattle.nest_tree.specs.Tree.{Head, Work, Statement, Statements, do_loop, work, continue, done, next, Tree, param_values}
use Rattle.nest_tree.specs.WellFormed.{IsWellFormed, Scope, are_good_statements, is_good_statement, is_number_of, loops_in, loops_of, names_only, scope_of}
use Rattle.nest_tree.proofs.Cells.{well_formed_parts}
use Rattle.nest_tree.proofs.Good.{AreWithin, form-given, good_loop}
use Rattle.nest_model.specs.Instances.{instances, instances_in, instances_of, is_executed, no_values, trip_count, trips, with_loop, works_in, works_of}
use Rattle.nest_rows.specs.Nested.{AreTrips, IsNestedInstance, IsTrip, Nested, nested_among, nested_in, nested_works}

-- all of a list, and of lists one behind another
pub all-append : {X : Type 0} (P : X → Type 0) (xs ys : List X) → AllByRecursion P xs → AllByRecursion P ys → AllByRecursion P (xs ++ ys)
all-append P [] ys h k = k
all-append P (x ∷ xs) ys h k = (h.0, all-append P xs ys h.1 k)

pub all-weaker : {X : Type 0} (P Q : X → Type 0) (xs : List X) → ((x : X) → P x → Q x) → AllByRecursion P xs → AllByRecursion Q xs
all-weaker P Q [] f h = tt
all-weaker P Q (x ∷ xs) f h = (f x h.0, all-weaker P Q xs f h.1)

pub all-at : {X : Type 0} (P : X → Type 0) (xs : List X) (k : ℕ) (x : X) → AllByRecursion P xs → slice_get xs k ≡ Some x → P x
all-at P [] k x h at = absurd (let no : None ≡ Some x = at in cc)
all-at P (y ∷ xs) zero x h at = let same : y ≡ x = cc in subst P same h.0
all-at P (y ∷ xs) (suc k) x h at = all-at P xs k x h.1 at

all-range : {X : Type 0} (P : X → Type 0) (f : ℤ → List X) (value : ℕ → ℤ) (a n : ℕ) → ((i : ℕ) → i < n → AllByRecursion P (f (value (a + i)))) → AllByRecursion P (flat_map f (map value (range_with_len a n)))
all-range P f value a zero h = tt
all-range P f value a (suc n) h =
    let here : AllByRecursion P (f (value a)) = subst (λ k. AllByRecursion P (f (value k))) (omega arith) (h 0 (omega arith)) in
    let later : (i : ℕ) → i < n → AllByRecursion P (f (value (a + 1 + i))) = λ i lt. subst (λ k. AllByRecursion P (f (value k))) (omega arith) (h (suc i) (omega (arith, lt))) in
    all-append P (f (value a)) (flat_map f (map value (range_with_len (a + 1) n))) here (all-range P f value (a + 1) n later)

-- the loops that a form names are among the first ones
abbrev pub is_below : ℕ → Form → Bool
is_below number f = list_all (λ p. nat_lt 0 p.0 && nat_lt p.0 number) f.loops

more-above : (least middle : ℕ) (qs : List (ℕ × ℤ)) → least ≤ middle → list_all (λ q. nat_lt middle q.0) qs ≡ true → list_all (λ q. nat_lt least q.0) qs ≡ true
more-above least middle [] above h = refl
more-above least middle (q ∷ qs) above h =
    let parts = and_parts (nat_lt middle q.0) (list_all (λ (q : ℕ × ℤ). nat_lt middle q.0) qs) h in
    and_from (nat_lt least q.0) (list_all (λ (q : ℕ × ℤ). nat_lt least q.0) qs) (le-leb (suc least) q.0 (omega (arith, above, ltb-true middle q.0 parts.0))) (more-above least middle qs above parts.1)

rises-some : (least : ℕ) (pairs : List (ℕ × ℤ)) → rises_above least pairs ≡ true → list_all (λ p. nat_lt least p.0) pairs ≡ true
rises-some least [] h = refl
rises-some least (p ∷ pairs) h =
    let a = and_parts _ (rises_above p.0 pairs) h in
    let b = and_parts _ (is_small p.1) a.0 in
    let c = and_parts (nat_lt least p.0) _ b.0 in
    let above = ltb-true least p.0 c.0 in
    and_from (nat_lt least p.0) (list_all (λ (p : ℕ × ℤ). nat_lt least p.0) pairs) c.0 (more-above least p.0 pairs (omega (arith, above)) (rises-some p.0 pairs a.1))

below-pairs : (number : ℕ) (pairs : List (ℕ × ℤ)) → 1 ≤ number → list_all (λ p. nat_lt 0 p.0) pairs ≡ true → reach_within (number - 1) pairs ≡ true → list_all (λ p. nat_lt 0 p.0 && nat_lt p.0 number) pairs ≡ true
below-pairs number [] low some reach = refl
below-pairs number (p ∷ pairs) low some reach =
    let a = and_parts (nat_lt 0 p.0) (list_all (λ (p : ℕ × ℤ). nat_lt 0 p.0) pairs) some in
    let b = and_parts (nat_le p.0 (number - 1)) (reach_within (number - 1) pairs) reach in
    and_from (nat_lt 0 p.0 && nat_lt p.0 number) (list_all (λ (p : ℕ × ℤ). nat_lt 0 p.0 && nat_lt p.0 number) pairs)
    (and_from (nat_lt 0 p.0) (nat_lt p.0 number) a.0 (le-leb (suc p.0) number (omega (arith, low, leb-true p.0 (number - 1) b.0)))) (below-pairs number pairs low a.1 b.1)

pub form-below : (constants number : ℕ) (around : List ℕ) (f : Form) → 1 ≤ number → AreWithin (number - 1) around → names_only constants around f ≡ true → is_below number f ≡ true
form-below constants number around f low within named =
    let given = and_parts (reach_within (number - 1) f.loops) (reach_within constants f.params) (form-given (number - 1) constants around f within named) in
    let last = and_parts (is_form f && list_all (λ (p : ℕ × ℤ). list_any (λ l. l == p.0) around) f.loops) (list_all (λ (p : ℕ × ℤ). is_number_of constants p.0) f.params) named in
    let form = (and_parts (is_form f) (list_all (λ (p : ℕ × ℤ). list_any (λ l. l == p.0) around) f.loops) last.0).0 in
    let a = and_parts (is_small f.constant && rises_above 0 f.loops) (rises_above 0 f.params) form in
    let b = and_parts (is_small f.constant) (rises_above 0 f.loops) a.0 in
    below-pairs number f.loops low (rises-some 0 f.loops b.1) given.0

-- another loop's value doesn't change it
pub kept-number : (loops : List ℤ) (n : ℕ) (v : ℤ) (m : ℕ) → 1 ≤ m → m < n → numbered (with_loop loops n v) m ≡ numbered loops m
kept-number loops n v m low high = get_or-set_other loops (n - 1) (m - 1) v (pos 0) (λ (e : m - 1 ≡ n - 1). omega (arith, low, high, e))

kept-dot : (loops : List ℤ) (n : ℕ) (v : ℤ) (pairs : List (ℕ × ℤ)) → list_all (λ p. nat_lt 0 p.0 && nat_lt p.0 n) pairs ≡ true → dot pairs (with_loop loops n v) ≡ dot pairs loops
kept-dot loops n v [] h = refl
kept-dot loops n v (p ∷ pairs) h =
    let a = and_parts (nat_lt 0 p.0 && nat_lt p.0 n) (list_all (λ (p : ℕ × ℤ). nat_lt 0 p.0 && nat_lt p.0 n) pairs) h in
    let b = and_parts (nat_lt 0 p.0) (nat_lt p.0 n) a.0 in
    ap (λ z. p.1 *ℤ z +ℤ dot pairs (with_loop loops n v)) (kept-number loops n v p.0 (ltb-true 0 p.0 b.0) (ltb-true p.0 n b.1)) ∙ ap (λ z. p.1 *ℤ numbered loops p.0 +ℤ z) (kept-dot loops n v pairs a.1)

pub kept-form : (loops params : List ℤ) (n : ℕ) (v : ℤ) (f : Form) → is_below n f ≡ true → form_value f (with_loop loops n v) params ≡ form_value f loops params
kept-form loops params n v f h = ap (λ z. f.constant +ℤ z +ℤ dot f.params params) (kept-dot loops n v f.loops h)

-- a loop stands before the one with this number
pub record IsBefore (number : ℕ) (h : Head) : Type 0 where
  pub low : 1 ≤ h.number
  pub high : h.number < number
  pub m1 : is_below number h.m1 ≡ true
  pub m2 : is_below number h.m2 ≡ true

pub below-more : (n m : ℕ) (pairs : List (ℕ × ℤ)) → n ≤ m → list_all (λ p. nat_lt 0 p.0 && nat_lt p.0 n) pairs ≡ true → list_all (λ p. nat_lt 0 p.0 && nat_lt p.0 m) pairs ≡ true
below-more n m [] more h = refl
below-more n m (p ∷ pairs) more h =
    let a = and_parts (nat_lt 0 p.0 && nat_lt p.0 n) (list_all (λ (p : ℕ × ℤ). nat_lt 0 p.0 && nat_lt p.0 n) pairs) h in
    let b = and_parts (nat_lt 0 p.0) (nat_lt p.0 n) a.0 in
    and_from (nat_lt 0 p.0 && nat_lt p.0 m) (list_all (λ (p : ℕ × ℤ). nat_lt 0 p.0 && nat_lt p.0 m) pairs) (and_from (nat_lt 0 p.0) (nat_lt p.0 m) b.0 (le-leb (suc p.0) m (omega (arith, more, ltb-true p.0 n b.1)))) (below-more n m pairs more a.1)

pub before-more : (n m : ℕ) (h : Head) → n ≤ m → IsBefore n h → IsBefore m h
before-more n m h more b = record { low = b.low; high = omega (arith, b.high, more); m1 = below-more n m h.m1.loops more b.m1; m2 = below-more n m h.m2.loops more b.m2 }

pub kept-trip : (params loops : List ℤ) (n : ℕ) (v : ℤ) (h : Head) (k : ℕ) → IsBefore n h → IsTrip params loops h k → IsTrip params (with_loop loops n v) h k
kept-trip params loops n v h k before trip =
    let one = kept-form loops params n v h.m1 before.m1 in
    let two = kept-form loops params n v h.m2 before.m2 in
    record {
      value = kept-number loops n v h.number before.low before.high ∙ trip.value ∙ ap (λ z. z +ℤ (pos k *ℤ h.step)) (sym one);
      within = subst (λ z. k < trip_count z (form_value h.m2 (with_loop loops n v) params) h.step) (sym one) (subst (λ z. k < trip_count (form_value h.m1 loops params) z h.step) (sym two) trip.within);
    }

pub trips-inside : (params loops : List ℤ) (n : ℕ) (v : ℤ) (heads : List Head) (ns : List ℕ) (h : Head) (k : ℕ) → AllByRecursion (IsBefore n) heads → AreTrips params loops heads ns → IsTrip params (with_loop loops n v) h k →
    AreTrips params (with_loop loops n v) (heads ++ h ∷ []) (ns ++ k ∷ [])
trips-inside params loops n v [] [] h k before trips here = (here, tt)
trips-inside params loops n v [] (m ∷ ns) h k before trips here = absurd trips
trips-inside params loops n v (g ∷ heads) [] h k before trips here = absurd trips
trips-inside params loops n v (g ∷ heads) (m ∷ ns) h k before trips here = (kept-trip params loops n v g m before.0 trips.0, trips-inside params loops n v heads ns h k before.1 trips.1 here)

pub within-more : (n m : ℕ) (around : List ℕ) → n ≤ m → AreWithin n around → AreWithin m around
within-more n m [] more h = refl
within-more n m (l ∷ around) more h =
    let parts = and_parts (nat_le l n) (list_all (λ l. nat_le l n) around) h in
    and_from (nat_le l m) (list_all (λ l. nat_le l m) around) (le-leb l m (omega (arith, more, leb-true l n parts.0))) (within-more n m around more parts.1)

-- these stand in a list from this place on
abbrev StandsAt : List Nested → ℕ → List Nested → Type 0
StandsAt all k xs = (j : ℕ) → j < length xs → slice_get all (k + j) ≡ slice_get xs j

get-left : (xs ys : List Nested) (j : ℕ) → j < length xs → slice_get (xs ++ ys) j ≡ slice_get xs j
get-left [] ys j lt = absurd (omega arith)
get-left (x ∷ xs) ys zero lt = refl
get-left (x ∷ xs) ys (suc j) lt = get-left xs ys j (omega (arith, lt))

get-right : (xs ys : List Nested) (j : ℕ) → slice_get (xs ++ ys) (length xs + j) ≡ slice_get ys j
get-right [] ys j = let n : 0 + j ≡ j = omega arith in ap (slice_get ys) n
get-right (x ∷ xs) ys j = let n : length (x ∷ xs) + j ≡ suc (length xs + j) = omega arith in ap (slice_get (x ∷ (xs ++ ys))) n ∙ get-right xs ys j

stands-front : (all : List Nested) (k : ℕ) (xs ys : List Nested) → StandsAt all k (xs ++ ys) → StandsAt all k xs
stands-front all k xs ys h j lt = h j (omega (arith, lt, length-append xs ys)) ∙ get-left xs ys j lt

stands-back : (all : List Nested) (k : ℕ) (xs ys : List Nested) → StandsAt all k (xs ++ ys) → StandsAt all (k + length xs) ys
stands-back all k xs ys h j lt =
    let n : k + length xs + j ≡ k + (length xs + j) = omega arith in
    ap (slice_get all) n ∙ h (length xs + j) (omega (arith, lt, length-append xs ys)) ∙ get-right xs ys j

-- as many as there are pieces of work
mutual
  nested_in-length : (heads : List Head) (s : Statement) → length (nested_in heads s) ≡ works_in s
  nested_in-length heads (do_loop head body) = nested_among-length (heads ++ head ∷ []) body
  nested_in-length heads (work w) = omega arith
  nested_in-length heads (continue line) = refl

  nested_among-length : (heads : List Head) (ss : Statements) → length (nested_among heads ss) ≡ works_of ss
  nested_among-length heads done = refl
  nested_among-length heads (next s rest) = omega (arith, nested_in-length heads s, nested_among-length heads rest, length-append (nested_in heads s) (nested_among heads rest))

stand_first : (all : List Nested) (first : ℕ) (n : Nested) → 1 ≤ first → StandsAt all (first - 1) (n ∷ []) → slice_get all (first - 1) ≡ Some n
stand_first all first n from stands = let at : first - 1 ≡ first - 1 + 0 = omega arith in ap (slice_get all) at ∙ stands 0 (omega arith)

executed_nested : (params loops : List ℤ) (all : List Nested) (heads : List Head) (ns : List ℕ) (w : Work) (first : ℕ) (b : Bool) → is_executed w loops params ≡ b → slice_get all (first - 1) ≡ Some (record { what = w; around = heads }) → AreTrips params loops heads ns →
    AllByRecursion (IsNestedInstance params all) (if b then record { statement = first; what = w; loops = loops } ∷ [] else [])
executed_nested params loops all heads ns w first true e at trips = (record { nested = record { what = w; around = heads }; at = at; what = refl; executed = e; ns = ns; trips = trips }, tt)
executed_nested params loops all heads ns w first false e at trips = tt

mutual
  statement_nested : (all : List Nested) (params : List ℤ) (scope : Scope) (around : List ℕ) (number : ℕ) (heads : List Head) (ns : List ℕ) (s : Statement) (first : ℕ) (loops : List ℤ) → 1 ≤ first → StandsAt all (first - 1) (nested_in heads s) →
      is_good_statement scope around number s ≡ true → 1 ≤ number → number + loops_in s ≤ suc (length loops) → AreWithin (number - 1) around → AllByRecursion (IsBefore number) heads → AreTrips params loops heads ns →
      AllByRecursion (IsNestedInstance params all) (instances_of params s first loops)
  statement_nested all params scope around number heads ns (do_loop head body) first loops from stands good low count within before trips =
      let g = good_loop scope around number head body good in
      let d = and_parts _ (is_small head.step) g.bounds in
      let e = and_parts _ (nat_lt 0 (unsigned_abs head.step)) d.0 in
      let f = and_parts (names_only scope.constants around head.m1) (names_only scope.constants around head.m2) e.0 in
      let below1 = form-below scope.constants number around head.m1 low within f.0 in
      let below2 = form-below scope.constants number around head.m2 low within f.1 in
      let here : IsBefore (number + 1) head = record {
        low = omega (arith, g.number, low);
        high = omega (arith, g.number);
        m1 = below-more number (number + 1) head.m1.loops (omega arith) below1;
        m2 = below-more number (number + 1) head.m2.loops (omega arith) below2;
      } in
      let inner = and_from (nat_le head.number (number + 1 - 1)) (list_all (λ l. nat_le l (number + 1 - 1)) around) (le-leb head.number (number + 1 - 1) (omega (arith, g.number))) (within-more (number - 1) (number + 1 - 1) around (omega arith) within) in
      let all_before = all-append (IsBefore (number + 1)) heads (head ∷ []) (all-weaker (IsBefore number) (IsBefore (number + 1)) heads (λ h b. before-more number (number + 1) h (omega arith) b) before) (here, tt) in
      let m1 = form_value head.m1 loops params in
      let m2 = form_value head.m2 loops params in
      let trip = λ (n : ℕ) (lt : n < trip_count m1 m2 head.step).
      let v = m1 +ℤ (pos n *ℤ head.step) in
      let inside = with_loop loops head.number v in
      let same1 = kept-form loops params head.number v head.m1 (subst (λ k. is_below k head.m1 ≡ true) (sym g.number) below1) in
      let same2 = kept-form loops params head.number v head.m2 (subst (λ k. is_below k head.m2 ≡ true) (sym g.number) below2) in
      let short : head.number - 1 < length loops = omega (arith, g.number, low, count) in
      let at : IsTrip params inside head n = record {
        value = get_or-set_same loops (head.number - 1) v (pos 0) short ∙ ap (λ z. z +ℤ (pos n *ℤ head.step)) (sym same1);
        within = subst (λ z. n < trip_count z (form_value head.m2 inside params) head.step) (sym same1) (subst (λ z. n < trip_count m1 z head.step) (sym same2) lt);
      } in
      let earlier = all-weaker (IsBefore number) (IsBefore head.number) heads (λ h b. before-more number head.number h (omega (arith, g.number)) b) before in
      statements_nested all params scope (head.number ∷ around) (number + 1) (heads ++ head ∷ []) (ns ++ n ∷ []) body first inside from stands g.inside (omega arith)
      (omega (arith, count, length-set loops (head.number - 1) v)) inner all_before (trips-inside params loops head.number v heads ns head n earlier trips at) in
      all-range (IsNestedInstance params all) (λ v. instances_in params body first (with_loop loops head.number v)) (λ n. m1 +ℤ (pos n *ℤ head.step)) 0 (trip_count m1 m2 head.step)
      (λ i lt. subst (λ k. AllByRecursion (IsNestedInstance params all) (instances_in params body first (with_loop loops head.number (m1 +ℤ (pos k *ℤ head.step))))) (omega arith) (trip i lt))
  statement_nested all params scope around number heads ns (work w) first loops from stands good low count within before trips =
      let at : slice_get all (first - 1) ≡ Some (record { what = w; around = heads }) = stand_first all first (record { what = w; around = heads }) from stands in
      executed_nested params loops all heads ns w first (is_executed w loops params) refl at trips
  statement_nested all params scope around number heads ns (continue line) first loops from stands good low count within before trips = tt

  statements_nested : (all : List Nested) (params : List ℤ) (scope : Scope) (around : List ℕ) (number : ℕ) (heads : List Head) (ns : List ℕ) (ss : Statements) (first : ℕ) (loops : List ℤ) → 1 ≤ first → StandsAt all (first - 1) (nested_among heads ss) →
      are_good_statements scope around number ss ≡ true → 1 ≤ number → number + loops_of ss ≤ suc (length loops) → AreWithin (number - 1) around → AllByRecursion (IsBefore number) heads → AreTrips params loops heads ns →
      AllByRecursion (IsNestedInstance params all) (instances_in params ss first loops)
  statements_nested all params scope around number heads ns done first loops from stands good low count within before trips = tt
  statements_nested all params scope around number heads ns (next s rest) first loops from stands good low count within before trips =
      let both = and_parts (is_good_statement scope around number s) (are_good_statements scope around (number + loops_in s) rest) good in
      let front = stands-front all (first - 1) (nested_in heads s) (nested_among heads rest) stands in
      let behind : first - 1 + length (nested_in heads s) ≡ first + works_in s - 1 = omega (arith, nested_in-length heads s, from) in
      let back = subst (λ k. StandsAt all k (nested_among heads rest)) behind (stands-back all (first - 1) (nested_in heads s) (nested_among heads rest) stands) in
      all-append (IsNestedInstance params all) (instances_of params s first loops) (instances_in params rest (first + works_in s) loops)
      (statement_nested all params scope around number heads ns s first loops from front both.0 low (omega (arith, count)) within before trips)
      (statements_nested all params scope around (number + loops_in s) heads ns rest (first + works_in s) loops (omega (arith, from)) back both.1 (omega (arith, low)) (omega (arith, count))
      (within-more (number - 1) (number + loops_in s - 1) around (omega arith) within) (all-weaker (IsBefore number) (IsBefore (number + loops_in s)) heads (λ h b. before-more number (number + loops_in s) h (omega arith) b) before) trips)

pub instance_nested : (tree : Tree) → IsWellFormed tree → AllByRecursion (IsNestedInstance (param_values tree) (nested_works tree)) (instances tree)
instance_nested tree formed =
    statements_nested (nested_works tree) (param_values tree) (scope_of tree) [] 1 [] [] tree.items 1 (no_values tree) (omega arith) (λ j lt. let at : 1 - 1 + j ≡ j = omega arith in ap (slice_get (nested_works tree)) at)
    (well_formed_parts tree formed).statements (omega arith) (omega (arith, length-replicate (loops_of tree.items) (pos 0))) refl tt tt

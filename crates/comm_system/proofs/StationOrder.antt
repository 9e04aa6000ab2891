-- The order of the stops of a walk: by the trips of common loops, then as they stand in the text.
use Rattle.std.proofs.Common.{◌≡◌, ℕ, zero, suc, ◌+◌, ◌-◌, ◌<◌, ◌≤◌, ◌==◌, nat_lt, ℤ, Bool, true, false, Some, None, List, [], ◌∷◌, ◌++◌, length, map, if◌then◌else◌, refl, ap, sym, ◌∙◌, subst, inl, inr, arith}
use Rattle.std.specs.List.{AllByRecursion, flat_map, range_with_len, slice_get}
use Rattle.std.proofs.lemmas.Bool.{cases_Bool, cases_eq, cases_lt, eqb-true, lt-ltb, ltb-true}
use Rattle.std.proofs.lemmas.Option.{slice_get_within}
use Rattle.nest_tree.specs.Tree.{Head, Statement, Statements, do_loop, work, continue, done, next}
use Rattle.nest_tree.specs.WellFormed.{Scope, loops_in, loops_of}
use Rattle.nest_model.specs.Instances.{works_in}
use Rattle.nest_model.specs.Visits.{stops_in}
use Rattle.nest_rows.proofs.Nesting.{all-append, all-at, all-weaker}
use Rattle.comm_system.proofs.Contexts.{AreInFront, IsInFront, behind, entered, front}
use Rattle.comm_system.proofs.Stations.{Station, at_trip, push, stations_in, stations_of, text-length, text_among, text_of, trips_of}
use Rattle.comm_system.proofs.StationFacts.{Deepens, IsStation, each_in, each_of}

same_test : (n : ℕ) → (n == n) ≡ true
same_test n = grind arith

pub equal_test : (a b : ℕ) → a ≡ b → (a == b) ≡ true
equal_test a b same = ap (λ n. n == b) same ∙ same_test b

pub differ_test : (a b : ℕ) → (a ≡ b → ⊥) → (a == b) ≡ false
differ_test a b ne = elim (cases_Bool (a == b)) [
  | inl same ↦ absurd (ne (eqb-true a b same))
  | inr other ↦ other
]

-- the first comes before the second
abbrev pub comes : List Head → List ℕ → ℕ → List Head → List ℕ → ℕ → Bool
comes [] ns u gs ms w = nat_lt u w
comes (h ∷ hs) [] u gs ms w = nat_lt u w
comes (h ∷ hs) (n ∷ ns) u [] ms w = nat_lt u w
comes (h ∷ hs) (n ∷ ns) u (g ∷ gs) [] w = nat_lt u w
comes (h ∷ hs) (n ∷ ns) u (g ∷ gs) (m ∷ ms) w = if h.number == g.number then (if n == m then comes hs ns u gs ms w else nat_lt n m) else nat_lt u w

abbrev pub Comes : Station → Station → Type 0
Comes s t = comes s.heads s.trips s.visit.place t.heads t.trips t.visit.place ≡ true

-- each comes before all later ones
abbrev pub Rises : List Station → Type 0
Rises [] = Unit {0}
Rises (x ∷ xs) = AllByRecursion (Comes x) xs × Rises xs

pub comes_same : (h g : Head) (hs gs : List Head) (n : ℕ) (ns ms : List ℕ) (u w : ℕ) → h.number ≡ g.number → comes (h ∷ hs) (n ∷ ns) u (g ∷ gs) (n ∷ ms) w ≡ comes hs ns u gs ms w
comes_same h g hs gs n ns ms u w same =
    ap (λ b. if b then (if n == n then comes hs ns u gs ms w else nat_lt n n) else nat_lt u w) (equal_test h.number g.number same) ∙ ap (λ b. if b then comes hs ns u gs ms w else nat_lt n n) (equal_test n n refl)

pub comes_earlier : (h g : Head) (hs gs : List Head) (n m : ℕ) (ns ms : List ℕ) (u w : ℕ) → h.number ≡ g.number → (n ≡ m → ⊥) → comes (h ∷ hs) (n ∷ ns) u (g ∷ gs) (m ∷ ms) w ≡ nat_lt n m
comes_earlier h g hs gs n m ns ms u w same ne =
    ap (λ b. if b then (if n == m then comes hs ns u gs ms w else nat_lt n m) else nat_lt u w) (equal_test h.number g.number same) ∙ ap (λ b. if b then comes hs ns u gs ms w else nat_lt n m) (differ_test n m ne)

pub comes_apart : (h g : Head) (hs gs : List Head) (n m : ℕ) (ns ms : List ℕ) (u w : ℕ) → (h.number ≡ g.number → ⊥) → comes (h ∷ hs) (n ∷ ns) u (g ∷ gs) (m ∷ ms) w ≡ nat_lt u w
comes_apart h g hs gs n m ns ms u w ne = ap (λ b. if b then (if n == m then comes hs ns u gs ms w else nat_lt n m) else nat_lt u w) (differ_test h.number g.number ne)

pub comes_none : (hs : List Head) (ns : List ℕ) (u : ℕ) (ms : List ℕ) (w : ℕ) → comes hs ns u [] ms w ≡ nat_lt u w
comes_none [] ns u ms w = refl
comes_none (h ∷ hs) [] u ms w = refl
comes_none (h ∷ hs) (n ∷ ns) u ms w = refl

pub comes_no_trips : (hs : List Head) (ns : List ℕ) (u : ℕ) (gs : List Head) (w : ℕ) → comes hs ns u gs [] w ≡ nat_lt u w
comes_no_trips [] ns u gs w = refl
comes_no_trips (h ∷ hs) [] u gs w = refl
comes_no_trips (h ∷ hs) (n ∷ ns) u [] w = refl
comes_no_trips (h ∷ hs) (n ∷ ns) u (g ∷ gs) w = refl

not_both : (u w : ℕ) → nat_lt u w ≡ true → nat_lt w u ≡ true → ⊥
not_both u w a b = omega (arith, ltb-true u w a, ltb-true w u b)

pub never_both : (hs : List Head) (ns : List ℕ) (u : ℕ) (gs : List Head) (ms : List ℕ) (w : ℕ) → comes hs ns u gs ms w ≡ true → comes gs ms w hs ns u ≡ true → ⊥
never_both [] ns u gs ms w a b = not_both u w a (sym (comes_none gs ms w ns u) ∙ b)
never_both (h ∷ hs) [] u gs ms w a b = not_both u w a (sym (comes_no_trips gs ms w (h ∷ hs) u) ∙ b)
never_both (h ∷ hs) (n ∷ ns) u [] ms w a b = not_both u w a b
never_both (h ∷ hs) (n ∷ ns) u (g ∷ gs) [] w a b = not_both u w a b
never_both (h ∷ hs) (n ∷ ns) u (g ∷ gs) (m ∷ ms) w a b = elim (cases_eq h.number g.number) [
  | inl same ↦ elim (cases_eq n m) [
    | inl e ↦ equal (never_both hs ns u gs ms w) same e
    | inr ne ↦ not_both n m (sym (comes_earlier h g hs gs n m ns ms u w same ne) ∙ a) (sym (comes_earlier g h gs hs m n ms ns w u (sym same) (λ e. ne (sym e))) ∙ b)
  ]
  | inr ne ↦ not_both u w (sym (comes_apart h g hs gs n m ns ms u w ne) ∙ a) (sym (comes_apart g h gs hs m n ms ns w u (λ e. ne (sym e))) ∙ b)
]
  where
    equal : (comes hs ns u gs ms w ≡ true → comes gs ms w hs ns u ≡ true → ⊥) → h.number ≡ g.number → n ≡ m → ⊥
    equal inner same e =
        let a' : comes (h ∷ hs) (n ∷ ns) u (g ∷ gs) (n ∷ ms) w ≡ true = ap (λ k. comes (h ∷ hs) (n ∷ ns) u (g ∷ gs) (k ∷ ms) w) e ∙ a in
        let b' : comes (g ∷ gs) (n ∷ ms) w (h ∷ hs) (n ∷ ns) u ≡ true = ap (λ k. comes (g ∷ gs) (k ∷ ms) w (h ∷ hs) (n ∷ ns) u) e ∙ b in
        inner (sym (comes_same h g hs gs n ns ms u w same) ∙ a') (sym (comes_same g h gs hs n ms ns w u (sym same)) ∙ b')

-- ---- a list that rises

pub rises_append : (xs ys : List Station) → Rises xs → Rises ys → AllByRecursion (λ x. AllByRecursion (Comes x) ys) xs → Rises (xs ++ ys)
rises_append [] ys h k all = k
rises_append (x ∷ xs) ys h k all = (all-append (Comes x) xs ys h.0 all.0, rises_append xs ys h.1 k all.1)

pushed_all : (h : Head) (n : ℕ) (x : Station) (ys : List Station) → AllByRecursion (Comes x) ys → AllByRecursion (Comes (push h n x)) (map (push h n) ys)
pushed_all h n x [] all = tt
pushed_all h n x (y ∷ ys) all = (comes_same h h x.heads y.heads n x.trips y.trips x.visit.place y.visit.place refl ∙ all.0, pushed_all h n x ys all.1)

rises_pushed : (h : Head) (n : ℕ) (xs : List Station) → Rises xs → Rises (map (push h n) xs)
rises_pushed h n [] r = tt
rises_pushed h n (x ∷ xs) r = (pushed_all h n x xs r.0, rises_pushed h n xs r.1)

later_pushed : (h : Head) (n m : ℕ) (x : Station) (ys : List Station) → n < m → AllByRecursion (Comes (push h n x)) (map (push h m) ys)
later_pushed h n m x [] lt = tt
later_pushed h n m x (y ∷ ys) lt =
    (comes_earlier h h x.heads y.heads n m x.trips y.trips x.visit.place y.visit.place refl (λ e. omega (arith, lt, e)) ∙ lt-ltb n m lt, later_pushed h n m x ys lt)

later_all : (h : Head) (f : ℕ → List Station) (k : ℕ) (x : Station) (a n : ℕ) → k < a → AllByRecursion (Comes (push h k x)) (flat_map (λ n. map (push h n) (f n)) (range_with_len a n))
later_all h f k x a zero lt = tt
later_all h f k x a (suc n) lt = all-append (Comes (push h k x)) (map (push h a) (f a)) (flat_map (λ n. map (push h n) (f n)) (range_with_len (a + 1) n)) (later_pushed h k a x (f a) lt) (later_all h f k x (a + 1) n (omega (arith, lt)))

each_later : (h : Head) (f : ℕ → List Station) (k a n : ℕ) (xs : List Station) → k < a → AllByRecursion (λ x. AllByRecursion (Comes x) (flat_map (λ n. map (push h n) (f n)) (range_with_len a n))) (map (push h k) xs)
each_later h f k a n [] lt = tt
each_later h f k a n (x ∷ xs) lt = (later_all h f k x a n lt, each_later h f k a n xs lt)

rises_trips : (h : Head) (f : ℕ → List Station) (a n : ℕ) → ((i : ℕ) → i < a + n → Rises (f i)) → Rises (flat_map (λ n. map (push h n) (f n)) (range_with_len a n))
rises_trips h f a zero each = tt
rises_trips h f a (suc n) each =
    rises_append (map (push h a) (f a)) (flat_map (λ n. map (push h n) (f n)) (range_with_len (a + 1) n)) (rises_pushed h a (f a) (each a (omega arith))) (rises_trips h f (a + 1) n (λ i lt. each i (omega (arith, lt))))
    (each_later h f a (a + 1) n (f a) (omega arith))

-- ---- the stations of a walk rise

-- the first loops of statements one behind another have other numbers
apart_comes : (hs : List Head) (ns : List ℕ) (u : ℕ) (gs : List Head) (ms : List ℕ) (w low middle high : ℕ) → Deepens low middle hs → Deepens middle high gs → u < w → comes hs ns u gs ms w ≡ true
apart_comes [] ns u gs ms w low middle high d e lt = lt-ltb u w lt
apart_comes (h ∷ hs) [] u gs ms w low middle high d e lt = lt-ltb u w lt
apart_comes (h ∷ hs) (n ∷ ns) u [] ms w low middle high d e lt = lt-ltb u w lt
apart_comes (h ∷ hs) (n ∷ ns) u (g ∷ gs) [] w low middle high d e lt = lt-ltb u w lt
apart_comes (h ∷ hs) (n ∷ ns) u (g ∷ gs) (m ∷ ms) w low middle high d e lt = comes_apart h g hs gs n m ns ms u w (λ same. omega (arith, same, d.1, e.0)) ∙ lt-ltb u w lt

module _ (params : List ℤ) (scope : Scope) (enters : ℕ → Bool) where
  mutual
    pub rises_of : (heads : List Head) (ns : List ℕ) (loops : List ℤ) (number place first : ℕ) (s : Statement) → IsInFront params scope heads ns loops number s → Rises (stations_of params enters s place first loops)
    rises_of heads ns loops number place first (do_loop head body) h =
        by (enters head.number) (rises_trips head (λ n. stations_in params enters body place first (at_trip params head loops n)) 0 (trips_of params head loops)
        (λ n lt. rises_in (heads ++ head ∷ []) (ns ++ n ∷ []) (at_trip params head loops n) (number + 1) place first body (entered params scope heads ns loops number head body n h (omega (arith, lt)))))
      where
        by : (b : Bool) → Rises (flat_map (λ n. map (push head n) (stations_in params enters body place first (at_trip params head loops n))) (range_with_len 0 (trips_of params head loops))) → Rises (if b then flat_map (λ n. map (push head n) (stations_in params enters body place first (at_trip params head loops n))) (range_with_len 0 (trips_of params head loops)) else record { visit = record { place = place; first = first; what = do_loop head body; loops = loops }; heads = []; trips = [] } ∷ [])
        by true inner = inner
        by false inner = (tt, tt)
    rises_of heads ns loops number place first (work w) h = (tt, tt)
    rises_of heads ns loops number place first (continue line) h = tt

    pub rises_in : (heads : List Head) (ns : List ℕ) (loops : List ℤ) (number place first : ℕ) (ss : Statements) → AreInFront params scope heads ns loops number ss → Rises (stations_in params enters ss place first loops)
    rises_in heads ns loops number place first done h = tt
    rises_in heads ns loops number place first (next s rest) h =
        let here = stations_of params enters s place first loops in
        let later = stations_in params enters rest (place + stops_in enters s) (first + works_in s) loops in
        let P = IsStation params scope heads ns loops number (number + loops_in s) place (text_of enters s) in
        let Q = IsStation params scope heads ns loops (number + loops_in s) (number + loops_in s + loops_of rest) (place + stops_in enters s) (text_among enters rest) in
        let f = front params scope heads ns loops number s rest h in
        let b = behind params scope heads ns loops number s rest h in
        rises_append here later (rises_of heads ns loops number place first s f) (rises_in heads ns loops (number + loops_in s) (place + stops_in enters s) (first + works_in s) rest b)
        (all-weaker P (λ x. AllByRecursion (Comes x) later) here (λ x is. all-weaker Q (Comes x) later (λ y js. apart_comes x.heads x.trips x.visit.place y.heads y.trips y.visit.place number (number + loops_in s) (number + loops_in s + loops_of rest) is.deepens js.deepens
        (before x y is.low (slice_get_within (text_of enters s) (x.visit.place - place) (record { what = x.visit.what; outer = x.heads }) is.at) js.low))
        (each_in params scope enters heads ns loops (number + loops_in s) (place + stops_in enters s) (first + works_in s) rest b)) (each_of params scope enters heads ns loops number place first s f))
      where
        before : (x y : Station) → place ≤ x.visit.place → x.visit.place - place < length (text_of enters s) → place + stops_in enters s ≤ y.visit.place → x.visit.place < y.visit.place
        before x y low lt high = omega (arith, low, lt, high, text-length enters s)

-- ---- places in a list that rises

pub comes_at : (xs : List Station) (i j : ℕ) (x y : Station) → Rises xs → i < j → slice_get xs i ≡ Some x → slice_get xs j ≡ Some y → Comes x y
comes_at [] i j x y r lt at at' = absurd (let no : None ≡ Some x = at in cc)
comes_at (z ∷ xs) zero zero x y r lt at at' = absurd (omega (arith, lt))
comes_at (z ∷ xs) zero (suc j) x y r lt at at' = let same : z ≡ x = cc in subst (λ w. Comes w y) same (all-at (Comes z) xs j y r.0 at')
comes_at (z ∷ xs) (suc i) zero x y r lt at at' = absurd (omega (arith, lt))
comes_at (z ∷ xs) (suc i) (suc j) x y r lt at at' = comes_at xs i j x y r.1 (omega (arith, lt)) at at'

pub comes_back : (xs : List Station) (i j : ℕ) (x y : Station) → Rises xs → slice_get xs i ≡ Some x → slice_get xs j ≡ Some y → Comes x y → i < j
comes_back xs i j x y r at at' c = elim (cases_lt i j) [
  | inl less ↦ less
  | inr past ↦ absurd (elim (cases_eq i j) [
    | inl same ↦ equal same
    | inr ne ↦ never_both x.heads x.trips x.visit.place y.heads y.trips y.visit.place c (comes_at xs j i y x r (omega (arith, past, ne)) at' at)
  ])
]
  where
    equal : i ≡ j → ⊥
    equal same =
        let e : Some x ≡ Some y = sym at ∙ ap (slice_get xs) same ∙ at' in
        let one : x ≡ y = cc in
        let d : Comes y x = subst (λ z. Comes z x) one (subst (λ z. Comes x z) (sym one) c) in
        never_both x.heads x.trips x.visit.place y.heads y.trips y.visit.place c d

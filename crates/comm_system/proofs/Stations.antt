-- The stops of a walk with the loops that it is in and their trips.
use Rattle.std.proofs.Common.{◌≡◌, ℕ, ◌+◌, ℤ, pos, ◌+ℤ◌, ◌*ℤ◌, Bool, true, false, List, [], ◌∷◌, ◌++◌, length, length-append, map, if◌then◌else◌, refl, ap, sym, ◌∙◌, arith}
use Rattle.std.specs.List.{flat_map, range_with_len}
use Rattle.std.proofs.lemmas.List.{append-nil, length-map, map-append}
use Rattle.nest_tree.specs.Form.{form_value}
use Rattle.nest_tree.specs.Tree.{Head, Statement, Statements, do_loop, work, continue, done, next}
use Rattle.nest_model.specs.Instances.{head_trips, trip_count, with_loop, works_in}
use Rattle.nest_model.specs.Visits.{Visit, stops_in, stops_of, visits_in, visits_of}
use Rattle.conflict_rules.specs.References.{StaticPhase, phases_among, phases_in}

-- a stop, and the loops that the walk is in there with their trips, from the outermost
pub record Station : Type 0 where
  pub visit : Visit
  pub heads : List Head
  pub trips : List ℕ

abbrev pub push : Head → ℕ → Station → Station
push h n s = record { visit = s.visit; heads = h ∷ s.heads; trips = n ∷ s.trips }

-- how many trips a loop makes, and its value at one
abbrev pub trips_of : List ℤ → Head → List ℤ → ℕ
trips_of params head loops = trip_count (form_value head.m1 loops params) (form_value head.m2 loops params) head.step

abbrev pub at_trip : List ℤ → Head → List ℤ → ℕ → List ℤ
at_trip params head loops n = with_loop loops head.number (form_value head.m1 loops params +ℤ (pos n *ℤ head.step))

abbrev mutual
  pub stations_of : List ℤ → (ℕ → Bool) → Statement → ℕ → ℕ → List ℤ → List Station
  stations_of params enters (do_loop head body) place first loops =
      if enters head.number then flat_map (λ n. map (push head n) (stations_in params enters body place first (at_trip params head loops n))) (range_with_len 0 (trips_of params head loops))
      else record { visit = record { place = place; first = first; what = do_loop head body; loops = loops }; heads = []; trips = [] } ∷ []
  stations_of params enters (work w) place first loops = record { visit = record { place = place; first = first; what = work w; loops = loops }; heads = []; trips = [] } ∷ []
  stations_of params enters (continue line) place first loops = []

  pub stations_in : List ℤ → (ℕ → Bool) → Statements → ℕ → ℕ → List ℤ → List Station
  stations_in params enters done place first loops = []
  stations_in params enters (next s rest) place first loops =
      stations_of params enters s place first loops ++ stations_in params enters rest (place + stops_in enters s) (first + works_in s) loops

abbrev pub visit_in : Station → Visit
visit_in s = s.visit

-- ---- their visits are the walk's

pushed-visits : (h : Head) (n : ℕ) (xs : List Station) → map visit_in (map (push h n) xs) ≡ map visit_in xs
pushed-visits h n [] = refl
pushed-visits h n (x ∷ xs) = ap (λ vs. x.visit ∷ vs) (pushed-visits h n xs)

trips-visits : (head : Head) (f : ℕ → List Station) (g : ℤ → List Visit) (value : ℕ → ℤ) → ((n : ℕ) → map visit_in (f n) ≡ g (value n)) → (ns : List ℕ) → map visit_in (flat_map (λ n. map (push head n) (f n)) ns) ≡ flat_map g (map value ns)
trips-visits head f g value same [] = refl
trips-visits head f g value same (n ∷ ns) =
    map-append visit_in (map (push head n) (f n)) (flat_map (λ n. map (push head n) (f n)) ns)
    ∙ ap (λ vs. vs ++ map visit_in (flat_map (λ n. map (push head n) (f n)) ns)) (pushed-visits head n (f n) ∙ same n)
    ∙ ap (λ vs. g (value n) ++ vs) (trips-visits head f g value same ns)

mutual
  pub visits-of : (params : List ℤ) (enters : ℕ → Bool) (s : Statement) (place first : ℕ) (loops : List ℤ) → map visit_in (stations_of params enters s place first loops) ≡ visits_of params enters s place first loops
  visits-of params enters (do_loop head body) place first loops =
      by (enters head.number) (trips-visits head (λ n. stations_in params enters body place first (at_trip params head loops n)) (λ v. visits_in params enters body place first (with_loop loops head.number v)) (λ n. form_value head.m1 loops params +ℤ (pos n *ℤ head.step))
      (λ n. visits-in params enters body place first (at_trip params head loops n)) (range_with_len 0 (trips_of params head loops)))
    where
      by : (b : Bool) → map visit_in (flat_map (λ n. map (push head n) (stations_in params enters body place first (at_trip params head loops n))) (range_with_len 0 (trips_of params head loops)))
          ≡ flat_map (λ v. visits_in params enters body place first (with_loop loops head.number v)) (head_trips params head loops) →
          map visit_in (if b then flat_map (λ n. map (push head n) (stations_in params enters body place first (at_trip params head loops n))) (range_with_len 0 (trips_of params head loops)) else record { visit = record { place = place; first = first; what = do_loop head body; loops = loops }; heads = []; trips = [] } ∷ [])
          ≡ (if b then flat_map (λ v. visits_in params enters body place first (with_loop loops head.number v)) (head_trips params head loops) else record { place = place; first = first; what = do_loop head body; loops = loops } ∷ [])
      by true inner = inner
      by false inner = refl
  visits-of params enters (work w) place first loops = refl
  visits-of params enters (continue line) place first loops = refl

  pub visits-in : (params : List ℤ) (enters : ℕ → Bool) (ss : Statements) (place first : ℕ) (loops : List ℤ) → map visit_in (stations_in params enters ss place first loops) ≡ visits_in params enters ss place first loops
  visits-in params enters done place first loops = refl
  visits-in params enters (next s rest) place first loops =
      map-append visit_in (stations_of params enters s place first loops) (stations_in params enters rest (place + stops_in enters s) (first + works_in s) loops)
      ∙ ap (λ vs. vs ++ map visit_in (stations_in params enters rest (place + stops_in enters s) (first + works_in s) loops)) (visits-of params enters s place first loops)
      ∙ ap (λ vs. visits_of params enters s place first loops ++ vs) (visits-in params enters rest (place + stops_in enters s) (first + works_in s) loops)

-- ---- the static phases, with the loops round each from the statement on

abbrev pub inside : Head → StaticPhase → StaticPhase
inside h p = record { what = p.what; outer = h ∷ p.outer }

abbrev mutual
  pub text_of : (ℕ → Bool) → Statement → List StaticPhase
  text_of enters (do_loop head body) = if enters head.number then map (inside head) (text_among enters body) else record { what = do_loop head body; outer = [] } ∷ []
  text_of enters (work w) = record { what = work w; outer = [] } ∷ []
  text_of enters (continue line) = []

  pub text_among : (ℕ → Bool) → Statements → List StaticPhase
  text_among enters done = []
  text_among enters (next s rest) = text_of enters s ++ text_among enters rest

abbrev pub within : List Head → StaticPhase → StaticPhase
within outer p = record { what = p.what; outer = outer ++ p.outer }

within-inside : (outer : List Head) (h : Head) (xs : List StaticPhase) → map (within (outer ++ h ∷ [])) xs ≡ map (within outer) (map (inside h) xs)
within-inside outer h [] = refl
within-inside outer h (x ∷ xs) =
    ap (λ hs. record { what = x.what; outer = hs } ∷ map (within (outer ++ h ∷ [])) xs) (assoc outer)
    ∙ ap (λ ps. within outer (inside h x) ∷ ps) (within-inside outer h xs)
  where
    assoc : (hs : List Head) → (hs ++ h ∷ []) ++ x.outer ≡ hs ++ (h ∷ x.outer)
    assoc [] = refl
    assoc (g ∷ hs) = ap (λ gs. g ∷ gs) (assoc hs)

mutual
  pub phases_in-within : (enters : ℕ → Bool) (outer : List Head) (s : Statement) → phases_in enters outer s ≡ map (within outer) (text_of enters s)
  phases_in-within enters outer (do_loop head body) = by (enters head.number) (phases_among-within enters (outer ++ head ∷ []) body ∙ within-inside outer head (text_among enters body))
    where
      by : (b : Bool) → phases_among enters (outer ++ head ∷ []) body ≡ map (within outer) (map (inside head) (text_among enters body)) → (if b then phases_among enters (outer ++ head ∷ []) body else record { what = do_loop head body; outer = outer } ∷ [])
          ≡ map (within outer) (if b then map (inside head) (text_among enters body) else record { what = do_loop head body; outer = [] } ∷ [])
      by true inner = inner
      by false inner = ap (λ hs. record { what = do_loop head body; outer = hs } ∷ []) (sym (append-nil outer))
  phases_in-within enters outer (work w) = ap (λ hs. record { what = work w; outer = hs } ∷ []) (sym (append-nil outer))
  phases_in-within enters outer (continue line) = refl

  pub phases_among-within : (enters : ℕ → Bool) (outer : List Head) (ss : Statements) → phases_among enters outer ss ≡ map (within outer) (text_among enters ss)
  phases_among-within enters outer done = refl
  phases_among-within enters outer (next s rest) =
      ap (λ ps. ps ++ phases_among enters outer rest) (phases_in-within enters outer s) ∙ ap (λ ps. map (within outer) (text_of enters s) ++ ps) (phases_among-within enters outer rest)
      ∙ sym (map-append (within outer) (text_of enters s) (text_among enters rest))

-- the phases of a program
pub phases-text : (enters : ℕ → Bool) (ss : Statements) → phases_among enters [] ss ≡ text_among enters ss
phases-text enters ss = phases_among-within enters [] ss ∙ same (text_among enters ss)
  where
    same : (xs : List StaticPhase) → map (within []) xs ≡ xs
    same [] = refl
    same (x ∷ xs) = ap (λ ps. x ∷ ps) (same xs)

mutual
  pub text-length : (enters : ℕ → Bool) (s : Statement) → length (text_of enters s) ≡ stops_in enters s
  text-length enters (do_loop head body) = by (enters head.number) (length-map (text_among enters body) (inside head) ∙ texts-length enters body)
    where
      by : (b : Bool) → length (map (inside head) (text_among enters body)) ≡ stops_of enters body → length (if b then map (inside head) (text_among enters body) else record { what = do_loop head body; outer = [] } ∷ []) ≡ (if b then stops_of enters body else 1)
      by true inner = inner
      by false inner = refl
  text-length enters (work w) = refl
  text-length enters (continue line) = refl

  pub texts-length : (enters : ℕ → Bool) (ss : Statements) → length (text_among enters ss) ≡ stops_of enters ss
  texts-length enters done = refl
  texts-length enters (next s rest) = omega (arith, length-append (text_of enters s) (text_among enters rest), text-length enters s, texts-length enters rest)

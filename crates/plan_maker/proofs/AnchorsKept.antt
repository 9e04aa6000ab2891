-- An anchor that names the loops round one phase keeps within its blocks at another one that they are round too.
use Rattle.std.proofs.Common.{◌≡◌, ℕ, zero, suc, ◌+◌, ◌-◌, ◌<◌, ◌≤◌, ℤ, pos, Bool, true, false, List, [], ◌∷◌, ◌++◌, append_assoc, length, map, Option, Some, None, if◌then◌else◌, refl, ap, sym, ◌∙◌, subst, inl, inr, arith}
use Rattle.std.specs.Prelude.{slice_get}
use Rattle.std.specs.List.{AllByRecursion}
use Rattle.std.proofs.lemmas.Bool.{and_parts, cases_lt, le-ltb, lt-ltb}
use Rattle.std.proofs.lemmas.List.{append-nil, get_or-set_other}
use Rattle.list_lemmas.proofs.Gets.{get-front, get-behind}
use Rattle.nest_tree.specs.Intervals.{ends_of, head_interval, with_ends}
use Rattle.nest_tree.specs.Limits.{is_empty}
use Rattle.nest_tree.specs.Tree.{Head, Statement, Statements, do_loop, work, continue, done, next}
use Rattle.nest_tree.specs.WellFormed.{Scope, are_good_statements, is_good_statement, loops_in, names_only}
use Rattle.nest_tree.proofs.Good.{good_loop}
use Rattle.nest_model.specs.Visits.{stops_in, stops_of}
use Rattle.nest_rows.proofs.Dots.{numbers}
use Rattle.nest_rows.proofs.Nesting.{all-append, all-weaker}
use Rattle.owner_partition.specs.declared.anchor.Anchor.{Anchor}
use Rattle.owner_partition.specs.Placement.{ends_among, ends_in, misplaced_at, misplaced_within, names_empty}
use Rattle.owner_partition.specs.Owners.{reaches}
use Rattle.nest_tree.specs.Intervals.{form_interval}
use Rattle.owner_partition.specs.declared.placement.Placement.{Placement}
use Rattle.sync_plan.proofs.PhasePlaces.{own_ends}
use Rattle.comm_system.specs.References.{StaticPhase}
use Rattle.comm_laws.proofs.Holders.{placed_keeps}
use Rattle.comm_system.proofs.Lists.{all_mapped}
use Rattle.comm_system.proofs.Stations.{inside, text_among, text_of, text-length}
use Rattle.comm_system.proofs.Timeline.{IsFrontOf}

-- ---- the intervals of the loops at a static phase, loop by loop

module _ (params : List ℤ) where
  abbrev pub ends_through : List (ℤ × ℤ) → List Head → Statement → Option (List (ℤ × ℤ))
  ends_through ends [] what = Some (own_ends params ends what)
  ends_through ends (h ∷ hs) what = if is_empty (head_interval params ends h) then None else ends_through (with_ends ends h.number (head_interval params ends h)) hs what

  abbrev pub ends_by : List (ℤ × ℤ) → Option StaticPhase → Option (List (ℤ × ℤ))
  ends_by ends None = None
  ends_by ends (Some p) = ends_through ends p.outer p.what

  -- one loop more round a phase
  by-inside : (ends : List (ℤ × ℤ)) (h : Head) (ps : List StaticPhase) (k : ℕ) →
      (if is_empty (head_interval params ends h) then None else ends_by (with_ends ends h.number (head_interval params ends h)) (slice_get ps k)) ≡ ends_by ends (slice_get (map (inside h) ps) k)
  by-inside ends h [] k = elim (is_empty (head_interval params ends h)) as (λ b. ◌≡◌ {A = Option (List (ℤ × ℤ))} (if b then None else None) None) [ true ↦ refl | false ↦ refl ]
  by-inside ends h (p ∷ ps) zero = refl
  by-inside ends h (p ∷ ps) (suc k) = by-inside ends h ps k

  module _ (enters : ℕ → Bool) where
    mutual
      ends-are_in : (ends : List (ℤ × ℤ)) (s : Statement) (k : ℕ) → k < stops_in enters s → ends_in params enters ends s k ≡ ends_by ends (slice_get (text_of enters s) k)
      ends-are_in ends (do_loop head body) k lt =
          let interval = head_interval params ends head in
          let within = with_ends ends head.number interval in
          elim (enters head.number) as (λ b. k < (if b then stops_of enters body else 1) → (if b then if is_empty interval then None else ends_among params enters within body k else Some within) ≡ ends_by ends (slice_get (if b then map (inside head) (text_among enters body) else record { what = do_loop head body; outer = [] } ∷ []) k)) [
            | true ↦ λ lt. ap (λ o. if is_empty interval then None else o) (ends-are within body k) ∙ by-inside ends head (text_among enters body) k
            | false ↦ λ lt. let none : 0 ≡ k = omega (arith, lt) in ap (λ n. ends_by ends (slice_get (record { what = do_loop head body; outer = [] } ∷ []) n)) none
          ] lt
      ends-are_in ends (work w) k lt = let none : 0 ≡ k = omega (arith, lt) in ap (λ n. ends_by ends (slice_get (record { what = work w; outer = [] } ∷ []) n)) none
      ends-are_in ends (continue line) k lt = absurd (omega (arith, lt))

      pub ends-are : (ends : List (ℤ × ℤ)) (ss : Statements) (k : ℕ) → ends_among params enters ends ss k ≡ ends_by ends (slice_get (text_among enters ss) k)
      ends-are ends done k = refl
      ends-are ends (next s rest) k =
          let many = text-length enters s in
          let text = text_of enters s in
          let later = text_among enters rest in
          elim (cases_lt k (stops_in enters s)) [
            | inl lt ↦ ap (λ b. if b then ends_in params enters ends s k else ends_among params enters ends rest (k - stops_in enters s)) (lt-ltb k (stops_in enters s) lt) ∙ ends-are_in ends s k lt ∙ ap (ends_by ends) (sym (get-front text later k (omega (arith, lt, many))))
            | inr le ↦
                let far : length text + (k - stops_in enters s) ≡ k = omega (arith, le, many) in
                ap (λ b. if b then ends_in params enters ends s k else ends_among params enters ends rest (k - stops_in enters s)) (le-ltb k (stops_in enters s) le) ∙ ends-are ends rest (k - stops_in enters s)
                ∙ ap (ends_by ends) (sym (ap (slice_get (text ++ later)) (sym far) ∙ get-behind text later (k - stops_in enters s)))
          ]

-- ---- the loops round a static phase have rising numbers, and its own loop has a greater one

abbrev pub IsAbove : ℕ → Statement → Type 0
IsAbove least (do_loop head body) = least ≤ head.number
IsAbove least (work w) = Unit {0}
IsAbove least (continue line) = Unit {0}

abbrev pub Rise : ℕ → List Head → Statement → Type 0
Rise least [] what = IsAbove least what
Rise least (h ∷ hs) what = (least ≤ h.number) × Rise (h.number + 1) hs what

abbrev pub Rises : ℕ → StaticPhase → Type 0
Rises least p = Rise least p.outer p.what

above-less : (least more : ℕ) (s : Statement) → least ≤ more → IsAbove more s → IsAbove least s
above-less least more (do_loop head body) le h = omega (arith, le, h)
above-less least more (work w) le h = tt
above-less least more (continue line) le h = tt

rise-less : (least more : ℕ) (hs : List Head) (what : Statement) → least ≤ more → Rise more hs what → Rise least hs what
rise-less least more [] what le h = above-less least more what le h
rise-less least more (g ∷ hs) what le h = (omega (arith, le, h.0), h.1)

module _ (scope : Scope) (enters : ℕ → Bool) where
  mutual
    text-rises_in : (around : List ℕ) (first : ℕ) (s : Statement) → is_good_statement scope around first s ≡ true → AllByRecursion (Rises first) (text_of enters s)
    text-rises_in around first (do_loop head body) good =
        let g = good_loop scope around first head body good in
        let n = g.number in
        elim (enters head.number) as (λ b. AllByRecursion (Rises first) (if b then map (inside head) (text_among enters body) else record { what = do_loop head body; outer = [] } ∷ [])) [
          | true ↦ all_mapped (Rises (first + 1)) (Rises first) (inside head) (text_among enters body) (λ p h. (omega (arith, n), rise-less (head.number + 1) (first + 1) p.outer p.what (omega (arith, n)) h)) (text-rises (head.number ∷ around) (first + 1) body g.inside)
          | false ↦ (omega (arith, n), tt)
        ]
    text-rises_in around first (work w) good = (tt, tt)
    text-rises_in around first (continue line) good = tt

    pub text-rises : (around : List ℕ) (first : ℕ) (ss : Statements) → are_good_statements scope around first ss ≡ true → AllByRecursion (Rises first) (text_among enters ss)
    text-rises around first done good = tt
    text-rises around first (next s rest) good =
        let parts = and_parts (is_good_statement scope around first s) (are_good_statements scope around (first + loops_in s) rest) good in
        all-append (Rises first) (text_of enters s) (text_among enters rest) (text-rises_in around first s parts.0)
        (all-weaker (Rises (first + loops_in s)) (Rises first) (text_among enters rest) (λ p h. rise-less first (first + loops_in s) p.outer p.what (omega arith) h) (text-rises around (first + loops_in s) rest parts.1))

-- ---- an anchor that names the loops round one phase keeps within its blocks at another one that they are round too

-- these loops have numbers below this one, from 1
abbrev AreLess : ℕ → List Head → Type 0
AreLess n heads = AllByRecursion (λ (h : Head). (1 ≤ h.number) × (h.number < n)) heads

-- two lists of intervals agree at these loops
abbrev AreAlike : List (ℤ × ℤ) → List (ℤ × ℤ) → List Head → Type 0
AreAlike E F heads = AllByRecursion (λ (h : Head). ends_of E h.number ≡ ends_of F h.number) heads

module _ (params : List ℤ) where
  set-alike : (ends : List (ℤ × ℤ)) (n : ℕ) (e : ℤ × ℤ) (heads : List Head) → AreLess n heads → AreAlike (with_ends ends n e) ends heads
  set-alike ends n e heads less =
      all-weaker (λ (h : Head). (1 ≤ h.number) × (h.number < n)) (λ (h : Head). ends_of (with_ends ends n e) h.number ≡ ends_of ends h.number) heads
      (λ h low. get_or-set_other ends (n - 1) (h.number - 1) e (pos 0, pos 0) (λ same. omega (arith, same, low.0, low.1))) less

  alike-then : (E F G : List (ℤ × ℤ)) (heads : List Head) → AreAlike E F heads → AreAlike F G heads → AreAlike E G heads
  alike-then E F G [] a b = tt
  alike-then E F G (h ∷ heads) a b = (a.0 ∙ b.0, alike-then E F G heads a.1 b.1)

  alike-turned : (E F : List (ℤ × ℤ)) (heads : List Head) → AreAlike E F heads → AreAlike F E heads
  alike-turned E F [] a = tt
  alike-turned E F (h ∷ heads) a = (sym a.0, alike-turned E F heads a.1)

  less-more : (n m : ℕ) (heads : List Head) → n ≤ m → AreLess n heads → AreLess m heads
  less-more n m heads le less = all-weaker (λ (h : Head). (1 ≤ h.number) × (h.number < n)) (λ (h : Head). (1 ≤ h.number) × (h.number < m)) heads (λ h low. (low.0, omega (arith, low.1, le))) less

  own-alike : (ends : List (ℤ × ℤ)) (n : ℕ) (s : Statement) (heads : List Head) → IsAbove n s → AreLess n heads → AreAlike (own_ends params ends s) ends heads
  own-alike ends n (do_loop head body) heads above less = set-alike ends head.number (head_interval params ends head) heads (less-more n head.number heads above less)
  own-alike ends n (work w) heads above less = all-weaker (λ (h : Head). (1 ≤ h.number) × (h.number < n)) (λ (h : Head). ends_of ends h.number ≡ ends_of ends h.number) heads (λ h low. refl) less
  own-alike ends n (continue line) heads above less = all-weaker (λ (h : Head). (1 ≤ h.number) × (h.number < n)) (λ (h : Head). ends_of ends h.number ≡ ends_of ends h.number) heads (λ h low. refl) less

  -- deeper loops leave them
  through-alike : (ends found : List (ℤ × ℤ)) (n : ℕ) (hs : List Head) (what : Statement) (heads : List Head) → Rise n hs what → AreLess n heads → ends_through params ends hs what ≡ Some found → AreAlike found ends heads
  through-alike ends found n [] what heads rise less e =
      let same : own_ends params ends what ≡ found = cc in
      subst (λ F. AreAlike F ends heads) same (own-alike ends n what heads rise less)
  through-alike ends found n (h ∷ hs) what heads rise less e =
      let interval = head_interval params ends h in
      let inner = with_ends ends h.number interval in
      elim (is_empty interval) as (λ b. (if b then None else ends_through params inner hs what) ≡ Some found → AreAlike found ends heads) [
        | true ↦ λ no. absurd (cc)
        | false ↦ λ at. alike-then found inner ends heads (through-alike inner found (h.number + 1) hs what heads rise.1 (less-more n (h.number + 1) heads (omega (arith, rise.0)) less) at) (set-alike ends h.number interval heads (less-more n h.number heads rise.0 less))
      ] e

  module _ (constants workers u v : ℕ) (a : Anchor) where
    -- the phase's number is only told
    told : (b c : Bool) (x y : Placement) → (if b then None else if c then None else Some x) ≡ None → (if b then None else if c then None else Some y) ≡ None
    told true c x y e = refl
    told false true x y e = refl
    told false false x y e = absurd (let no : Some x ≡ None = e in cc)

    within-any : (ends : List (ℤ × ℤ)) → misplaced_within params workers u a ends ≡ None → misplaced_within params workers v a ends ≡ None
    within-any ends none =
        let interval = form_interval a.form ends params in
        told (names_empty ends a.form.loops) (reaches a.dist workers interval) (record { phase = u; low = interval.0; high = interval.1 }) (record { phase = v; low = interval.0; high = interval.1 }) none

    pub front-keeps : (ends : List (ℤ × ℤ)) (n : ℕ) (before hs gs : List Head) (p q : Statement) → names_only constants (numbers (before ++ hs)) a.form ≡ true → AreLess n before → 1 ≤ n → IsFrontOf hs gs → Rise n hs p → Rise n gs q →
        misplaced_at params workers u a (ends_through params ends hs p) ≡ None → misplaced_at params workers v a (ends_through params ends gs q) ≡ None
    front-keeps ends n before [] gs p q named less low front rise rise' none =
        let all = ap (λ xs. names_only constants (numbers xs) a.form) (sym (append-nil before)) ∙ named in
        by all (ends_through params ends gs q) refl
      where
        by : names_only constants (numbers before) a.form ≡ true → (o : Option (List (ℤ × ℤ))) → ends_through params ends gs q ≡ o → misplaced_at params workers v a o ≡ None
        by all None e = refl
        by all (Some found) e =
            let one = own-alike ends n p before rise less in
            let two = through-alike ends found n gs q before rise' less e in
            within-any found (placed_keeps constants before params workers u a (own_ends params ends p) found all (alike-then (own_ends params ends p) ends found before one (alike-turned found ends before two)) none)
    front-keeps ends n before (h ∷ hs) [] p q named less low front rise rise' none = absurd front
    front-keeps ends n before (h ∷ hs) (g ∷ gs) p q named less low front rise rise' none =
        let interval = head_interval params ends h in
        let inner = with_ends ends h.number interval in
        let number : h.number ≡ g.number = ap (λ (x : Head). x.number) front.0 in
        let more = all-append (λ (x : Head). (1 ≤ x.number) × (x.number < h.number + 1)) before (h ∷ []) (less-more n (h.number + 1) before (omega (arith, rise.0)) less) ((omega (arith, low, rise.0), omega arith), tt) in
        let names = ap (λ xs. names_only constants (numbers xs) a.form) (append_assoc before (h ∷ []) hs) ∙ named in
        let rising = subst (λ k. Rise (k + 1) gs q) (sym number) rise'.1 in
        subst (λ (x : Head). misplaced_at params workers v a (if is_empty (head_interval params ends x) then None else ends_through params (with_ends ends x.number (head_interval params ends x)) gs q) ≡ None) front.0
        (elim (is_empty interval) as (λ b. misplaced_at params workers u a (if b then None else ends_through params inner hs p) ≡ None → misplaced_at params workers v a (if b then None else ends_through params inner gs q) ≡ None) [
          | true ↦ λ no. refl
          | false ↦ λ none. front-keeps inner (h.number + 1) (before ++ h ∷ []) hs gs p q names more (omega arith) front.1 rise.1 rising none
        ] none)

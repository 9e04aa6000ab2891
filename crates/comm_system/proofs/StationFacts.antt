-- What is known of each stop of a walk with the loops that it is in: where it stands in the text, and that its loops are at trips of theirs.
use Rattle.std.proofs.Common.{◌≡◌, ℕ, ◌+◌, ◌-◌, ◌<◌, ◌≤◌, ℤ, Bool, true, false, Some, List, [], ◌∷◌, ◌++◌, append_assoc, length, map, if◌then◌else◌, refl, ap, sym, ◌∙◌, subst, arith}
use Rattle.std.specs.List.{AllByRecursion, flat_map, range_with_len, slice_get}
use Rattle.std.proofs.lemmas.List.{append-nil}
use Rattle.std.proofs.lemmas.Option.{slice_get_within}
use Rattle.list_lemmas.proofs.Gets.{get-front, get-behind}
use Rattle.nest_tree.specs.Tree.{Head, Statement, Statements, do_loop, work, continue, done, next}
use Rattle.nest_tree.specs.WellFormed.{Scope, loops_in, loops_of}
use Rattle.nest_model.specs.Instances.{works_in}
use Rattle.nest_model.specs.Visits.{stops_in}
use Rattle.nest_rows.proofs.Nesting.{all-append, all-weaker}
use Rattle.conflict_rules.specs.References.{StaticPhase}
use Rattle.comm_system.proofs.Contexts.{AreInFront, IsInFront, behind, entered, front, loop_number}
use Rattle.comm_system.proofs.Lists.{all_in_range, all_mapped, mapped_get}
use Rattle.comm_system.proofs.Stations.{Station, at_trip, inside, push, stations_in, stations_of, text-length, text_among, text_of, trips_of}

-- the loops' values where these loops have been entered at these trips
abbrev pub loops_after : List ℤ → List ℤ → List Head → List ℕ → List ℤ
loops_after params loops [] ns = loops
loops_after params loops (h ∷ hs) [] = loops
loops_after params loops (h ∷ hs) (n ∷ ns) = loops_after params (at_trip params h loops n) hs ns

-- each loop makes that trip
abbrev pub AreValid : List ℤ → List ℤ → List Head → List ℕ → Type 0
AreValid params loops [] [] = Unit {0}
AreValid params loops [] (n ∷ ns) = ⊥
AreValid params loops (h ∷ hs) [] = ⊥
AreValid params loops (h ∷ hs) (n ∷ ns) = (n < trips_of params h loops) × AreValid params (at_trip params h loops n) hs ns

-- the loops' numbers rise between these
abbrev pub Deepens : ℕ → ℕ → List Head → Type 0
Deepens low high [] = Unit {0}
Deepens low high (h ∷ hs) = (low ≤ h.number) × (h.number < high) × Deepens (h.number + 1) high hs

pub deepens-wider : (low high low' high' : ℕ) (hs : List Head) → low' ≤ low → high ≤ high' → Deepens low high hs → Deepens low' high' hs
deepens-wider low high low' high' [] le le' d = tt
deepens-wider low high low' high' (h ∷ hs) le le' d = (omega (arith, d.0, le), omega (arith, d.1, le'), deepens-wider (h.number + 1) high (h.number + 1) high' hs (omega arith) le' d.2)

-- a station of a walk that begins in front of a text, inside these loops
pub record IsStation (params : List ℤ) (scope : Scope) (heads : List Head) (ns : List ℕ) (loops : List ℤ) (number high place : ℕ) (text : List StaticPhase) (s : Station) : Type 0 where
  pub low : place ≤ s.visit.place
  pub at : slice_get text (s.visit.place - place) ≡ Some (record { what = s.visit.what; outer = s.heads })
  pub valid : AreValid params loops s.heads s.trips
  pub loops_are : s.visit.loops ≡ loops_after params loops s.heads s.trips
  pub deepens : Deepens number high s.heads
  pub own_number : ℕ
  pub context : IsInFront params scope (heads ++ s.heads) (ns ++ s.trips) s.visit.loops own_number s.visit.what

-- ---- lists

-- ---- each station

module _ (params : List ℤ) (scope : Scope) (enters : ℕ → Bool) where
  here_alone : (heads : List Head) (ns : List ℕ) (loops : List ℤ) (number high place first : ℕ) (s : Statement) → IsInFront params scope heads ns loops number s →
      AllByRecursion (IsStation params scope heads ns loops number high place (record { what = s; outer = [] } ∷ [])) (record { visit = record { place = place; first = first; what = s; loops = loops }; heads = []; trips = [] } ∷ [])
  here_alone heads ns loops number high place first s h =
      let none : place - place ≡ 0 = omega arith in (
        record {
          low = omega arith;
          at = ap (slice_get (record { what = s; outer = [] } ∷ [])) none;
          valid = tt;
          loops_are = refl;
          deepens = tt;
          own_number = number;
          context = subst (λ hs. IsInFront params scope hs (ns ++ []) loops number s) (sym (append-nil heads)) (subst (λ ms. IsInFront params scope heads ms loops number s) (sym (append-nil ns)) h);
        },
        tt,
      )

  -- one loop further in
  outward : (heads : List Head) (ns : List ℕ) (loops : List ℤ) (number place : ℕ) (head : Head) (body : Statements) (n : ℕ) → IsInFront params scope heads ns loops number (do_loop head body) → n < trips_of params head loops → (x : Station) →
      IsStation params scope (heads ++ head ∷ []) (ns ++ n ∷ []) (at_trip params head loops n) (number + 1) (number + 1 + loops_of body) place (text_among enters body) x →
      IsStation params scope heads ns loops number (number + loops_in (do_loop head body)) place (map (inside head) (text_among enters body)) (push head n x)
  outward heads ns loops number place head body n h lt x is =
      let l = loop_number params scope heads ns loops number head body h in
      record {
        low = is.low;
        at = mapped_get (inside head) (text_among enters body) (x.visit.place - place) (record { what = x.visit.what; outer = x.heads }) is.at;
        valid = (lt, is.valid);
        loops_are = is.loops_are;
        deepens = (omega (arith, l.0), omega (arith, l.0), deepens-wider (number + 1) (number + 1 + loops_of body) (head.number + 1) (number + loops_in (do_loop head body)) x.heads (omega (arith, l.0)) (omega arith) is.deepens);
        own_number = is.own_number;
        context = subst (λ hs. IsInFront params scope hs (ns ++ (n ∷ x.trips)) x.visit.loops is.own_number x.visit.what) (append_assoc heads (head ∷ []) x.heads)
            (subst (λ ms. IsInFront params scope ((heads ++ head ∷ []) ++ x.heads) ms x.visit.loops is.own_number x.visit.what) (append_assoc ns (n ∷ []) x.trips) is.context);
      }

  in_first : (heads : List Head) (ns : List ℕ) (loops : List ℤ) (number high high' place : ℕ) (text rest : List StaticPhase) (x : Station) → high ≤ high' → IsStation params scope heads ns loops number high place text x → IsStation params scope heads ns loops number high' place (text ++ rest) x
  in_first heads ns loops number high high' place text rest x more is = record {
    low = is.low;
    at = get-front text rest (x.visit.place - place) (slice_get_within text (x.visit.place - place) (record { what = x.visit.what; outer = x.heads }) is.at) ∙ is.at;
    valid = is.valid;
    loops_are = is.loops_are;
    deepens = deepens-wider number high number high' x.heads (omega arith) more is.deepens;
    own_number = is.own_number;
    context = is.context;
  }

  in_rest : (heads : List Head) (ns : List ℕ) (loops : List ℤ) (number number' high high' place place' : ℕ) (text rest : List StaticPhase) (x : Station) → number ≤ number' → high' ≤ high → place' ≡ place + length text →
      IsStation params scope heads ns loops number' high' place' rest x → IsStation params scope heads ns loops number high place (text ++ rest) x
  in_rest heads ns loops number number' high high' place place' text rest x less more from is =
      let far : x.visit.place - place ≡ length text + (x.visit.place - place') = omega (arith, is.low, from) in
      record {
        low = omega (arith, is.low, from);
        at = ap (slice_get (text ++ rest)) far ∙ get-behind text rest (x.visit.place - place') ∙ is.at;
        valid = is.valid;
        loops_are = is.loops_are;
        deepens = deepens-wider number' high' number high x.heads less more is.deepens;
        own_number = is.own_number;
        context = is.context;
      }

  mutual
    pub each_of : (heads : List Head) (ns : List ℕ) (loops : List ℤ) (number place first : ℕ) (s : Statement) → IsInFront params scope heads ns loops number s →
        AllByRecursion (IsStation params scope heads ns loops number (number + loops_in s) place (text_of enters s)) (stations_of params enters s place first loops)
    each_of heads ns loops number place first (do_loop head body) h =
        by (enters head.number) (all_in_range (IsStation params scope heads ns loops number (number + loops_in (do_loop head body)) place (map (inside head) (text_among enters body))) (λ n. map (push head n) (stations_in params enters body place first (at_trip params head loops n))) 0 (trips_of params head loops)
        (λ n lt. all_mapped (IsStation params scope (heads ++ head ∷ []) (ns ++ n ∷ []) (at_trip params head loops n) (number + 1) (number + 1 + loops_of body) place (text_among enters body))
        (IsStation params scope heads ns loops number (number + loops_in (do_loop head body)) place (map (inside head) (text_among enters body))) (push head n) (stations_in params enters body place first (at_trip params head loops n))
        (outward heads ns loops number place head body n h (omega (arith, lt)))
        (each_in (heads ++ head ∷ []) (ns ++ n ∷ []) (at_trip params head loops n) (number + 1) place first body (entered params scope heads ns loops number head body n h (omega (arith, lt))))))
      where
        by : (b : Bool) → AllByRecursion (IsStation params scope heads ns loops number (number + loops_in (do_loop head body)) place (map (inside head) (text_among enters body)))
            (flat_map (λ n. map (push head n) (stations_in params enters body place first (at_trip params head loops n))) (range_with_len 0 (trips_of params head loops))) →
            AllByRecursion (IsStation params scope heads ns loops number (number + loops_in (do_loop head body)) place (if b then map (inside head) (text_among enters body) else record { what = do_loop head body; outer = [] } ∷ []))
            (if b then flat_map (λ n. map (push head n) (stations_in params enters body place first (at_trip params head loops n))) (range_with_len 0 (trips_of params head loops)) else record { visit = record { place = place; first = first; what = do_loop head body; loops = loops }; heads = []; trips = [] } ∷ [])
        by true inner = inner
        by false inner = here_alone heads ns loops number (number + loops_in (do_loop head body)) place first (do_loop head body) h
    each_of heads ns loops number place first (work w) h = here_alone heads ns loops number (number + 0) place first (work w) h
    each_of heads ns loops number place first (continue line) h = tt

    pub each_in : (heads : List Head) (ns : List ℕ) (loops : List ℤ) (number place first : ℕ) (ss : Statements) → AreInFront params scope heads ns loops number ss →
        AllByRecursion (IsStation params scope heads ns loops number (number + loops_of ss) place (text_among enters ss)) (stations_in params enters ss place first loops)
    each_in heads ns loops number place first done h = tt
    each_in heads ns loops number place first (next s rest) h =
        let P = IsStation params scope heads ns loops number (number + loops_of (next s rest)) place (text_of enters s ++ text_among enters rest) in
        let place' = place + stops_in enters s in
        let number' = number + loops_in s in
        let here = stations_of params enters s place first loops in
        let later = stations_in params enters rest place' (first + works_in s) loops in
        let long : place' ≡ place + length (text_of enters s) = omega (arith, text-length enters s) in
        all-append P here later
        (all-weaker (IsStation params scope heads ns loops number number' place (text_of enters s)) P here
        (λ x is. in_first heads ns loops number number' (number + loops_of (next s rest)) place (text_of enters s) (text_among enters rest) x (omega arith) is)
        (each_of heads ns loops number place first s (front params scope heads ns loops number s rest h)))
        (all-weaker (IsStation params scope heads ns loops number' (number' + loops_of rest) place' (text_among enters rest)) P later
        (λ x is. in_rest heads ns loops number number' (number + loops_of (next s rest)) (number' + loops_of rest) place place' (text_of enters s) (text_among enters rest) x (omega arith) (omega arith) long is)
        (each_in heads ns loops number' place' (first + works_in s) rest (behind params scope heads ns loops number s rest h)))

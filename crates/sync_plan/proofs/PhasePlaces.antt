-- A phase in the text: the static phase at its place, the intervals of the loops there, and what its statement may name.
use Rattle.std.proofs.Common.{◌≡◌, ℕ, zero, suc, ◌+◌, ◌-◌, ◌<◌, ◌≤◌, ℤ, pos, ◌+ℤ◌, ◌*ℤ◌, Bool, true, false, List, [], ◌∷◌, ◌++◌, length, map, Option, Some, None, if◌then◌else◌, refl, ap, sym, subst, ◌∙◌, arith, length-append}
use Rattle.std.specs.Prelude.{slice_get, sum_by}
use Rattle.std.specs.List.{All, flat_map, range_with_len}
use Rattle.std.proofs.lemmas.Bool.{and_parts, le-ltb, lt-ltb}
use Rattle.std.proofs.lemmas.List.{length-replicate, length-set}
use Rattle.std.proofs.lemmas.List.Elements.{All-append, All-get_or, All-cons, All-nil, All-weaker}
use Rattle.list_lemmas.proofs.Gets.{get-front, get-behind}
use Rattle.nest_tree.specs.Form.{form_value}
use Rattle.nest_tree.specs.Intervals.{head_interval, with_ends}
use Rattle.nest_tree.specs.Limits.{is_empty, no_ends}
use Rattle.nest_tree.specs.Tree.{Head, Statement, Statements, do_loop, work, continue, done, next, Tree, param_values}
use Rattle.nest_tree.specs.WellFormed.{IsWellFormed, Scope, are_good_statements, is_good_statement, loops_in, loops_of, scope_of}
use Rattle.nest_tree.proofs.Cells.{well_formed_parts}
use Rattle.nest_tree.proofs.Good.{good_loop}
use Rattle.nest_model.specs.Instances.{head_trips, no_values, trip_count, with_loop, works_in, works_of}
use Rattle.nest_model.specs.Visits.{Visit, stops_in, stops_of, visits, visits_in, visits_of}
use Rattle.nest_model.proofs.Small.{not_empty}
use Rattle.nest_model.proofs.Stops.{at_start, good_trips}
use Rattle.nest_model.proofs.Within.{IsInEnds, in_ends-step}
use Rattle.nest_walk.specs.Texts.{Placed, placed, placed_in, placed_of}
use Rattle.owner_partition.specs.declared.cut.Mark.{Mark}
use Rattle.owner_partition.specs.Marks.{enters_outer}
use Rattle.owner_partition.specs.Phases.{phases}
use Rattle.owner_partition.specs.Placement.{ends_among, ends_in}
use Rattle.owner_partition.proofs.Sites.{All-flat_map}
use Rattle.std.proofs.lemmas.Option.{get_or_from_slice_get, slice_get_within}
use Rattle.std.proofs.lemmas.List.Sums.{sum_by-append}

-- the intervals of the loops at a phase, its own loop among them
abbrev pub own_ends : List ℤ → List (ℤ × ℤ) → Statement → List (ℤ × ℤ)
own_ends params ends (do_loop head body) = with_ends ends head.number (head_interval params ends head)
own_ends params ends (work w) = ends
own_ends params ends (continue line) = ends

-- the loops round a statement have lower numbers than those in it
abbrev pub AreBelow : ℕ → List ℕ → Type 0
AreBelow number around = All (λ n. n < number) around

-- a visit is of the k-th static phase of a text: it is good there, and its loops lie within their intervals
pub record IsThere (params : List ℤ) (scope : Scope) (v : Visit) (text : List Placed) (found : Option (List (ℤ × ℤ))) (k : ℕ) : Type 0 where
  pub around : List ℕ
  pub number : ℕ
  pub ends : List (ℤ × ℤ)
  pub at : slice_get text k ≡ Some (record { what = v.what; around = around })
  pub inside : IsInEnds ends v.loops
  pub ends_are : found ≡ Some (own_ends params ends v.what)
  pub good : is_good_statement scope around number v.what ≡ true
  pub below : AreBelow number around
  pub low : 1 ≤ number
  pub count : number + loops_in v.what ≤ suc (length v.loops)

-- the same in a text whose first static phase has this number
pub record IsThereFrom (params : List ℤ) (scope : Scope) (place stops : ℕ) (text : List Placed) (ends_at : ℕ → Option (List (ℤ × ℤ))) (v : Visit) : Type 0 where
  pub k : ℕ
  pub place_is : v.place ≡ place + k
  pub within : k < stops
  pub there : IsThere params scope v text (ends_at k) k

all_in_range : (P : ℤ → Type 0) (f : ℕ → ℤ) (a n : ℕ) → ((i : ℕ) → i < n → P (f (a + i))) → All P (map f (range_with_len a n))
all_in_range P f a zero h = All-nil P
all_in_range P f a (suc n) h =
    let same : a + 0 ≡ a = omega arith in
    All-cons P (f a) (map f (range_with_len (a + 1) n)) (subst (λ k. P (f k)) same (h 0 (omega arith))) (all_in_range P f (a + 1) n (λ i lt. let next : a + suc i ≡ a + 1 + i = omega arith in subst (λ k. P (f k)) next (h (suc i) (omega (arith, lt)))))

pub all_trips_are : (P : ℤ → Type 0) (params loops : List ℤ) (head : Head) →
    ((n : ℕ) → n < trip_count (form_value head.m1 loops params) (form_value head.m2 loops params) head.step → P (form_value head.m1 loops params +ℤ (pos n *ℤ head.step))) → All P (head_trips params head loops)
all_trips_are P params loops head h =
    all_in_range P (λ n. form_value head.m1 loops params +ℤ (pos n *ℤ head.step)) 0 (trip_count (form_value head.m1 loops params) (form_value head.m2 loops params) head.step) (λ i lt. let same : 0 + i ≡ i = omega arith in subst (λ k. P (form_value head.m1 loops params +ℤ (pos k *ℤ head.step))) (sym same) (h i lt))

one_there : (params : List ℤ) (scope : Scope) (place : ℕ) (v : Visit) (around : List ℕ) (number : ℕ) (ends : List (ℤ × ℤ)) (ends_at : ℕ → Option (List (ℤ × ℤ))) → v.place ≡ place → IsInEnds ends v.loops → ends_at 0 ≡ Some (own_ends params ends v.what) →
    is_good_statement scope around number v.what ≡ true → AreBelow number around → 1 ≤ number → number + loops_in v.what ≤ suc (length v.loops) → All (IsThereFrom params scope place 1 (record { what = v.what; around = around } ∷ []) ends_at) (v ∷ [])
one_there params scope place v around number ends ends_at at inside found good below low count =
    All-cons (IsThereFrom params scope place 1 (record { what = v.what; around = around } ∷ []) ends_at) v [] (record {
      k = 0;
      place_is = omega (arith, at);
      within = omega arith;
      there = record { around = around; number = number; ends = ends; at = refl; inside = inside; ends_are = found; good = good; below = below; low = low; count = count };
    }) (All-nil (IsThereFrom params scope place 1 (record { what = v.what; around = around } ∷ []) ends_at))

mutual
  there_in : (params : List ℤ) (ends : List (ℤ × ℤ)) (loops : List ℤ) (scope : Scope) (around : List ℕ) (number : ℕ) (enters : ℕ → Bool) (s : Statement) (place first : ℕ) → IsInEnds ends loops → is_good_statement scope around number s ≡ true →
      AreBelow number around → 1 ≤ number → number + loops_in s ≤ suc (length loops) → All (IsThereFrom params scope place (stops_in enters s) (placed_in enters around s) (ends_in params enters ends s)) (visits_of params enters s place first loops)
  there_in params ends loops scope around number enters (do_loop head body) place first h good below low count =
      let interval = head_interval params ends head in
      let inner = with_ends ends head.number interval in
      let here : Visit = record { place = place; first = first; what = do_loop head body; loops = loops } in
      let g = good_loop scope around number head body good in
      let t = good_trips params ends loops scope around number head body h g low count in
      let inside = λ (v : ℤ). visits_in params enters body place first (with_loop loops head.number v) in
      let P = IsThereFrom params scope place (stops_of enters body) (placed_of enters (head.number ∷ around) body) (λ k. if is_empty interval then None else ends_among params enters inner body k) in
      let trip = λ (n : ℕ) (lt : n < trip_count (form_value head.m1 loops params) (form_value head.m2 loops params) head.step).
      let v = form_value head.m1 loops params +ℤ (pos n *ℤ head.step) in
      let some : is_empty interval ≡ false = not_empty interval v (t.between n lt) in
      All-weaker (IsThereFrom params scope place (stops_of enters body) (placed_of enters (head.number ∷ around) body) (ends_among params enters inner body)) P
      (λ w f. record { k = f.k; place_is = f.place_is; within = f.within; there = subst (λ b. IsThere params scope w (placed_of enters (head.number ∷ around) body) (if b then None else ends_among params enters inner body f.k) f.k) (sym some) f.there }) (inside v)
      (there_among params inner (with_loop loops head.number v) scope (head.number ∷ around) (number + 1) enters body place first (in_ends-step ends loops head.number interval v h t.number (t.between n lt)) g.inside
      (All-cons (λ k. k < number + 1) head.number around (omega (arith, g.number)) (All-weaker (λ k. k < number) (λ k. k < number + 1) (λ k lt'. omega (arith, lt')) around below)) (omega arith) (omega (arith, count, length-set loops (head.number - 1) v))) in
      let entered : All P (flat_map inside (head_trips params head loops)) = All-flat_map P inside (head_trips params head loops) (all_trips_are (λ v. All P (inside v)) params loops head trip) in
      elim (enters head.number) as (λ b. All (IsThereFrom params scope place (if b then stops_of enters body else 1) (if b then placed_of enters (head.number ∷ around) body else record { what = do_loop head body; around = around } ∷ []) (λ k. if b then (if is_empty interval then None else ends_among params enters inner body k) else Some inner))
      (if b then flat_map inside (head_trips params head loops) else here ∷ [])) [
        | true ↦ entered
        | false ↦ one_there params scope place here around number ends (λ k. Some inner) refl h refl good below low count
      ]
  there_in params ends loops scope around number enters (work w) place first h good below low count =
      one_there params scope place (record { place = place; first = first; what = work w; loops = loops }) around number ends (λ k. Some ends) refl h refl good below low count
  there_in params ends loops scope around number enters (continue line) place first h good below low count = All-nil (IsThereFrom params scope place 0 [] (λ k. None))

  there_among : (params : List ℤ) (ends : List (ℤ × ℤ)) (loops : List ℤ) (scope : Scope) (around : List ℕ) (number : ℕ) (enters : ℕ → Bool) (ss : Statements) (place first : ℕ) → IsInEnds ends loops → are_good_statements scope around number ss ≡ true →
      AreBelow number around → 1 ≤ number → number + loops_of ss ≤ suc (length loops) → All (IsThereFrom params scope place (stops_of enters ss) (placed_of enters around ss) (ends_among params enters ends ss)) (visits_in params enters ss place first loops)
  there_among params ends loops scope around number enters done place first h good below low count = All-nil (IsThereFrom params scope place 0 [] (λ k. None))
  there_among params ends loops scope around number enters (next s rest) place first h good below low count =
      let both = and_parts (is_good_statement scope around number s) (are_good_statements scope around (number + loops_in s) rest) good in
      let front = there_in params ends loops scope around number enters s place first h both.0 below low (omega (arith, count)) in
      let more = All-weaker (λ k. k < number) (λ k. k < number + loops_in s) (λ k lt. omega (arith, lt)) around below in
      let later = there_among params ends loops scope around (number + loops_in s) enters rest (place + stops_in enters s) (first + works_in s) h both.1 more (omega (arith, low)) (omega (arith, count)) in
      let stops = stops_in enters s in
      let text = placed_in enters around s in
      let P = IsThereFrom params scope place (stops + stops_of enters rest) (text ++ placed_of enters around rest) (ends_among params enters ends (next s rest)) in
      let as_many = placed_count enters around s in
      All-append P (visits_of params enters s place first loops) (visits_in params enters rest (place + stops) (first + works_in s) loops)
      (All-weaker (IsThereFrom params scope place stops text (ends_in params enters ends s)) P (λ v f.
      let t = f.there in record {
        k = f.k;
        place_is = f.place_is;
        within = omega (arith, f.within);
        there = record {
          around = t.around;
          number = t.number;
          ends = t.ends;
          at = get-front text (placed_of enters around rest) f.k (omega (arith, as_many, f.within)) ∙ t.at;
          inside = t.inside;
          ends_are = ap (λ b. if b then ends_in params enters ends s f.k else ends_among params enters ends rest (f.k - stops)) (lt-ltb f.k stops f.within) ∙ t.ends_are;
          good = t.good;
          below = t.below;
          low = t.low;
          count = t.count;
        };
      }) (visits_of params enters s place first loops) front)
      (All-weaker (IsThereFrom params scope (place + stops) (stops_of enters rest) (placed_of enters around rest) (ends_among params enters ends rest)) P (λ v f.
      let t = f.there in
      let back : stops + f.k - stops ≡ f.k = omega arith in record {
        k = stops + f.k;
        place_is = omega (arith, f.place_is);
        within = omega (arith, f.within);
        there = record {
          around = t.around;
          number = t.number;
          ends = t.ends;
          at = ap (λ n. slice_get (text ++ placed_of enters around rest) (n + f.k)) (sym as_many) ∙ get-behind text (placed_of enters around rest) f.k ∙ t.at;
          inside = t.inside;
          ends_are = ap (λ b. if b then ends_in params enters ends s (stops + f.k) else ends_among params enters ends rest (stops + f.k - stops)) (le-ltb (stops + f.k) stops (omega arith)) ∙ ap (ends_among params enters ends rest) back ∙ t.ends_are;
          good = t.good;
          below = t.below;
          low = t.low;
          count = t.count;
        };
      }) (visits_in params enters rest (place + stops) (first + works_in s) loops) later)

  -- as many static phases stand in a text as a walk counts stops
  pub placed_count : (enters : ℕ → Bool) (around : List ℕ) (s : Statement) → length (placed_in enters around s) ≡ stops_in enters s
  placed_count enters around (do_loop head body) =
      elim (enters head.number) as (λ b. length (if b then placed_of enters (head.number ∷ around) body else record { what = do_loop head body; around = around } ∷ []) ≡ (if b then stops_of enters body else 1)) [
        | true ↦ placed_counts enters (head.number ∷ around) body
        | false ↦ refl
      ]
  placed_count enters around (work w) = refl
  placed_count enters around (continue line) = refl

  placed_counts : (enters : ℕ → Bool) (around : List ℕ) (ss : Statements) → length (placed_of enters around ss) ≡ stops_of enters ss
  placed_counts enters around done = refl
  placed_counts enters around (next s rest) = omega (arith, placed_count enters around s, placed_counts enters around rest, length-append (placed_in enters around s) (placed_of enters around rest))

-- the phases of a text have all its pieces of work
mutual
  pub placed_works : (enters : ℕ → Bool) (around : List ℕ) (s : Statement) → sum_by (λ (p : Placed). works_in p.what) (placed_in enters around s) ≡ works_in s
  placed_works enters around (do_loop head body) =
      elim (enters head.number) as (λ b. sum_by (λ (p : Placed). works_in p.what) (if b then placed_of enters (head.number ∷ around) body else record { what = do_loop head body; around = around } ∷ []) ≡ works_in (do_loop head body))
      [ true ↦ placed_works-all enters (head.number ∷ around) body | false ↦ omega arith ]
  placed_works enters around (work w) = refl
  placed_works enters around (continue line) = refl

  pub placed_works-all : (enters : ℕ → Bool) (around : List ℕ) (ss : Statements) → sum_by (λ (p : Placed). works_in p.what) (placed_of enters around ss) ≡ works_of ss
  placed_works-all enters around done = refl
  placed_works-all enters around (next s rest) =
      sum_by-append (λ (p : Placed). works_in p.what) (placed_in enters around s) (placed_of enters around rest)
      ∙ ap (λ n. n + sum_by (λ (p : Placed). works_in p.what) (placed_of enters around rest)) (placed_works enters around s)
      ∙ ap (λ n. works_in s + n) (placed_works-all enters around rest)

-- every visit of a walk of a well-formed program
pub all_there : (tree : Tree) (enters : ℕ → Bool) → IsWellFormed tree →
    All (IsThereFrom (param_values tree) (scope_of tree) 1 (stops_of enters tree.items) (placed tree enters) (ends_among (param_values tree) enters no_ends tree.items)) (visits tree enters)
all_there tree enters formed =
    there_among (param_values tree) no_ends (no_values tree) (scope_of tree) [] 1 enters tree.items 1 1 (at_start tree formed) (well_formed_parts tree formed).statements (All-nil (λ n. n < 1)) (omega arith)
    (omega (arith, length-replicate (loops_of tree.items) (pos 0)))

-- the k-th phase of a program
pub visit_there : (tree : Tree) (marks : List Mark) (k : ℕ) (v : Visit) → IsWellFormed tree → slice_get (phases tree marks) k ≡ Some v →
    IsThereFrom (param_values tree) (scope_of tree) 1 (stops_of (enters_outer marks) tree.items) (placed tree (enters_outer marks)) (ends_among (param_values tree) (enters_outer marks) no_ends tree.items) v
visit_there tree marks k v formed at =
    let P = IsThereFrom (param_values tree) (scope_of tree) 1 (stops_of (enters_outer marks) tree.items) (placed tree (enters_outer marks)) (ends_among (param_values tree) (enters_outer marks) no_ends tree.items) in
    subst P (get_or_from_slice_get (phases tree marks) k v v at) (All-get_or P (phases tree marks) k v (slice_get_within (phases tree marks) k v at) (all_there tree (enters_outer marks) formed))

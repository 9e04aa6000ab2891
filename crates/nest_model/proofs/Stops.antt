-- A walk has no more stops than the program has work.
use Rattle.std.proofs.Common.{◌≡◌, ℕ, zero, suc, ◌+◌, ◌*◌, ◌-◌, ◌<◌, ◌≤◌, ℤ, pos, negsuc, ◌+ℤ◌, ◌-ℤ◌, ◌*ℤ◌, ◌≤ℤ◌, Bool, true, false, nat_lt, int_le, List, [], ◌∷◌, length, length-append, get_or, map, unsigned_abs, if◌then◌else◌, ap, sym, subst, arith}
use Rattle.std.specs.List.{flat_map, range_with_len}
use Rattle.std.proofs.Math.Nat.{le-mul_of_pos_right, mul-le-mul_right}
use Rattle.std.proofs.lemmas.Bool.{and_from, and_parts, le-leb, ltb-true}
use Rattle.std.proofs.lemmas.Int.{ints}
use Rattle.std.proofs.lemmas.List.{length-replicate, length-set}
use Rattle.nest_tree.specs.Form.{form_value, is_small}
use Rattle.nest_tree.specs.Intervals.{form_interval, head_interval, with_ends}
use Rattle.nest_tree.specs.Layout.{count_of, extent}
use Rattle.nest_tree.specs.Limits.{no_ends, work_estimate, work_in, work_of}
use Rattle.nest_tree.specs.Tree.{Head, Statement, Statements, do_loop, work, continue, done, next, Tree, param_values}
use Rattle.nest_tree.specs.WellFormed.{IsWellFormed, Scope, are_good_statements, is_good_statement, is_number_of, loops_in, loops_of, scope_of}
use Rattle.nest_tree.proofs.Cells.{well_formed_parts}
use Rattle.nest_tree.proofs.FirstLimits.{at_replicate, no_ends-at, no_ends-length}
use Rattle.nest_tree.proofs.Good.{GoodLoop, good_loop, loops-few}
use Rattle.nest_tree.proofs.Works.{work_of-linear}
use Rattle.nest_model.specs.Instances.{Instance, head_trips, instances, instances_in, instances_of, is_executed, no_values, trip_count, trips, with_loop, works_in}
use Rattle.nest_model.specs.Visits.{every, stops_in, visits, visits_in, visits_of}
use Rattle.nest_model.proofs.Spans.{down, up}
use Rattle.nest_model.proofs.Within.{Between, IsInEnds, form_between, head_between, in_ends-step}

-- lists of at most so many, one for each trip
one-times : (n : ℕ) → 1 * n ≡ n
one-times n = omega arith

in_range : {X : Type 0} (f : ℤ → List X) (value : ℕ → ℤ) (a n most : ℕ) → ((i : ℕ) → i < n → length (f (value (a + i))) ≤ most) →
    length (flat_map f (map value (range_with_len a n))) ≤ n * most
in_range f value a zero most h = omega arith
in_range f value a (suc n) most h =
    let first : length (f (value a)) ≤ most = subst (λ k. length (f (value k)) ≤ most) (omega arith) (h 0 (omega arith)) in
    let later : (i : ℕ) → i < n → length (f (value (a + 1 + i))) ≤ most = λ i lt. subst (λ k. length (f (value k)) ≤ most) (omega arith) (h (suc i) (omega arith)) in
    let rest = in_range f value (a + 1) n most later in
    omega (arith, first, rest, length-append (f (value a)) (flat_map f (map value (range_with_len (a + 1) n))))

pub length-trips : {X : Type 0} (f : ℤ → List X) (m1 m2 m3 : ℤ) (most : ℕ) → ((n : ℕ) → n < trip_count m1 m2 m3 → length (f (m1 +ℤ (pos n *ℤ m3))) ≤ most) →
    length (flat_map f (trips m1 m2 m3)) ≤ trip_count m1 m2 m3 * most
length-trips f m1 m2 m3 most h =
    in_range f (λ n. m1 +ℤ (pos n *ℤ m3)) 0 (trip_count m1 m2 m3) most (λ i lt. subst (λ k. length (f (m1 +ℤ (pos k *ℤ m3))) ≤ most) (omega arith) (h i lt))

-- a count from below
count_of-from : (n : ℕ) (z : ℤ) → pos n ≤ℤ z → n ≤ count_of z
count_of-from n (pos m) h = omega (arith, ints)
count_of-from n (negsuc m) h = absurd (omega (arith, ints))

most_trips : (count most : ℕ) → ((n : ℕ) → n < count → suc n ≤ most) → count ≤ most
most_trips zero most h = omega arith
most_trips (suc n) most h = h n (omega arith)

-- a loop makes at most as many trips as its interval is wide
trips-wide : (step : ℤ) (first last : ℤ × ℤ) (m1 m2 : ℤ) → Between first m1 → Between last m2 → 0 < unsigned_abs step →
    trip_count m1 m2 step ≤ extent (if int_le (pos 0) step then (first.0, last.1) else (last.0, first.1))
trips-wide (pos zero) first last m1 m2 h1 h2 moves = absurd (omega (arith, moves))
trips-wide (pos (suc k)) first last m1 m2 h1 h2 moves =
    let each = λ (n : ℕ) (lt : n < trip_count m1 m2 (pos (suc k))).
    let ends = up n k m1 m2 lt in
    count_of-from (suc n) (last.1 -ℤ first.0 +ℤ pos 1) (omega (arith, ints, h1.low, h2.high, ends.1, le-mul_of_pos_right {m = suc k} n (omega arith))) in
    subst (λ b. trip_count m1 m2 (pos (suc k)) ≤ extent (if b then (first.0, last.1) else (last.0, first.1))) (sym (le-leb 0 (suc k) (omega arith)))
    (most_trips (trip_count m1 m2 (pos (suc k))) (extent (first.0, last.1)) each)
trips-wide (negsuc k) first last m1 m2 h1 h2 moves =
    let each = λ (n : ℕ) (lt : n < trip_count m1 m2 (negsuc k)).
    let ends = down n k m1 m2 lt in
    count_of-from (suc n) (first.1 -ℤ last.0 +ℤ pos 1) (omega (arith, ints, h1.high, h2.low, ends.0, le-mul_of_pos_right {m = suc k} n (omega arith))) in
    most_trips (trip_count m1 m2 (negsuc k)) (extent (last.0, first.1)) each

-- what holds in each trip of a good loop whose number is `first`
pub record Trips (params : List ℤ) (ends : List (ℤ × ℤ)) (loops : List ℤ) (head : Head) : Type 0 where
  pub number : is_number_of (length loops) head.number ≡ true
  pub few : trip_count (form_value head.m1 loops params) (form_value head.m2 loops params) head.step ≤ extent (head_interval params ends head)
  pub between : (n : ℕ) → n < trip_count (form_value head.m1 loops params) (form_value head.m2 loops params) head.step →
      Between (head_interval params ends head) (form_value head.m1 loops params +ℤ (pos n *ℤ head.step))

pub good_trips : (params : List ℤ) (ends : List (ℤ × ℤ)) (loops : List ℤ) (scope : Scope) (around : List ℕ) (first : ℕ) (head : Head) (body : Statements) → IsInEnds ends loops →
    GoodLoop scope around first head body → 1 ≤ first → first + loops_in (do_loop head body) ≤ suc (length loops) → Trips params ends loops head
good_trips params ends loops scope around first head body h good low count =
    let d = and_parts _ (is_small head.step) good.bounds in
    let e = and_parts _ (nat_lt 0 (unsigned_abs head.step)) d.0 in
    let moves = ltb-true 0 (unsigned_abs head.step) e.1 in record {
      number = and_from _ _ (le-leb 1 head.number (omega (arith, good.number, low))) (le-leb head.number (length loops) (omega (arith, good.number, count)));
      few = trips-wide head.step (form_interval head.m1 ends params) (form_interval head.m2 ends params) _ _ (form_between head.m1 ends loops params h) (form_between head.m2 ends loops params h) moves;
      between = λ n lt. head_between head ends loops params n h moves lt;
    }

mutual
  visits-few : (params : List ℤ) (ends : List (ℤ × ℤ)) (loops : List ℤ) (scope : Scope) (around : List ℕ) (number : ℕ) (enters : ℕ → Bool) (s : Statement) (place first : ℕ) → IsInEnds ends loops →
      is_good_statement scope around number s ≡ true → 1 ≤ number → number + loops_in s ≤ suc (length loops) → length (visits_of params enters s place first loops) ≤ work_in params ends 1 s
  visits-few params ends loops scope around number enters (do_loop head body) place first h good low count =
      let interval = head_interval params ends head in
      let inner = with_ends ends head.number interval in
      let g = good_loop scope around number head body good in
      let t = good_trips params ends loops scope around number head body h g low count in
      let unit = work_of params inner 1 body in
      let inside = λ (v : ℤ). visits_in params enters body place first (with_loop loops head.number v) in
      let each = λ (n : ℕ) (lt : n < trip_count (form_value head.m1 loops params) (form_value head.m2 loops params) head.step).
      let v = form_value head.m1 loops params +ℤ (pos n *ℤ head.step) in
      all_visits-few params inner (with_loop loops head.number v) scope (head.number ∷ around) (number + 1) enters body place first
      (in_ends-step ends loops head.number interval v h t.number (t.between n lt)) g.inside (omega arith) (omega (arith, count, length-set loops (head.number - 1) v)) in
      let entered : length (flat_map inside (head_trips params head loops)) ≤ 1 + work_of params inner (1 * extent interval) body =
      omega (arith, length-trips inside (form_value head.m1 loops params) (form_value head.m2 loops params) head.step unit each, mul-le-mul_right unit t.few, work_of-linear params inner (1 * extent interval) body, ap (λ n. n * unit) (one-times (extent interval))) in
      elim (enters head.number) as (λ b. length (if b then flat_map inside (head_trips params head loops) else record { place = place; first = first; what = do_loop head body; loops = loops } ∷ []) ≤ 1 + work_of params inner (1 * extent interval) body) [
        | true ↦ entered
        | false ↦ omega arith
      ]
  visits-few params ends loops scope around number enters (work w) place first h good low count = omega arith
  visits-few params ends loops scope around number enters (continue line) place first h good low count = omega arith

  all_visits-few : (params : List ℤ) (ends : List (ℤ × ℤ)) (loops : List ℤ) (scope : Scope) (around : List ℕ) (number : ℕ) (enters : ℕ → Bool) (ss : Statements) (place first : ℕ) → IsInEnds ends loops →
      are_good_statements scope around number ss ≡ true → 1 ≤ number → number + loops_of ss ≤ suc (length loops) → length (visits_in params enters ss place first loops) ≤ work_of params ends 1 ss
  all_visits-few params ends loops scope around number enters done place first h good low count = omega arith
  all_visits-few params ends loops scope around number enters (next s rest) place first h good low count =
      let both = and_parts (is_good_statement scope around number s) (are_good_statements scope around (number + loops_in s) rest) good in
      omega (
        arith,
        visits-few params ends loops scope around number enters s place first h both.0 low (omega (arith, count)),
        all_visits-few params ends loops scope around (number + loops_in s) enters rest (place + stops_in enters s) (first + works_in s) h both.1 (omega (arith, low)) (omega (arith, count)),
        length-append (visits_of params enters s place first loops) (visits_in params enters rest (place + stops_in enters s) (first + works_in s) loops),
      )

-- before the first statement
pub at_start : (tree : Tree) → IsWellFormed tree → IsInEnds no_ends (no_values tree)
at_start tree formed =
    let count = loops_of tree.items in record {
      long = omega (arith, length-replicate count (pos 0), no_ends-length, loops-few tree formed);
      inside = λ n.
          subst (λ x. Between x (get_or (no_values tree) n (pos 0))) (sym (no_ends-at n))
          (subst (λ x. Between (pos 0, pos 0) x) (sym (at_replicate count n (pos 0))) (record { low = omega (arith, ints); high = omega (arith, ints) }));
    }

-- a walk has no more stops than the program has work
pub stops-few : (tree : Tree) (enters : ℕ → Bool) → IsWellFormed tree → length (visits tree enters) ≤ work_estimate tree
stops-few tree enters formed =
    all_visits-few (param_values tree) no_ends (no_values tree) (scope_of tree) [] 1 enters tree.items 1 1 (at_start tree formed) (well_formed_parts tree formed).statements (omega arith)
    (omega (arith, length-replicate (loops_of tree.items) (pos 0)))

flat_map-few : {X Y Z : Type 0} (f : X → List Y) (g : X → List Z) (xs : List X) → ((x : X) → length (f x) ≤ length (g x)) → length (flat_map f xs) ≤ length (flat_map g xs)
flat_map-few f g [] h = omega arith
flat_map-few f g (x ∷ xs) h =
    let rest = flat_map-few f g xs h in
    omega (arith, h x, rest, length-append (f x) (flat_map f xs), length-append (g x) (flat_map g xs))

-- each instance is at a stop of its own
mutual
  instances-few : (params : List ℤ) (s : Statement) (place first : ℕ) (loops : List ℤ) → length (instances_of params s first loops) ≤ length (visits_of params every s place first loops)
  instances-few params (do_loop head body) place first loops =
      flat_map-few (λ v. instances_in params body first (with_loop loops head.number v)) (λ v. visits_in params every body place first (with_loop loops head.number v)) (head_trips params head loops)
      (λ v. all_instances-few params body place first (with_loop loops head.number v))
  instances-few params (work w) place first loops =
      let here : Instance = record { statement = first; what = w; loops = loops } in
      elim (is_executed w loops params) as (λ b. length (if b then here ∷ [] else []) ≤ 1) [ true ↦ omega arith | false ↦ omega arith ]
  instances-few params (continue line) place first loops = omega arith

  all_instances-few : (params : List ℤ) (ss : Statements) (place first : ℕ) (loops : List ℤ) → length (instances_in params ss first loops) ≤ length (visits_in params every ss place first loops)
  all_instances-few params done place first loops = omega arith
  all_instances-few params (next s rest) place first loops =
      let here = instances-few params s place first loops in
      let later = all_instances-few params rest (place + stops_in every s) (first + works_in s) loops in
      omega (
        arith,
        here,
        later,
        length-append (instances_of params s first loops) (instances_in params rest (first + works_in s) loops),
        length-append (visits_of params every s place first loops) (visits_in params every rest (place + stops_in every s) (first + works_in s) loops),
      )

pub instances-most : (tree : Tree) → IsWellFormed tree → length (instances tree) ≤ work_estimate tree
instances-most tree formed =
    omega (arith, all_instances-few (param_values tree) tree.items 1 1 (no_values tree), stops-few tree every formed)

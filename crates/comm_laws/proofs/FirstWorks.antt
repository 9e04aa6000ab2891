-- The number of the first piece of work of a phase: all those of the phases in front of it in the text have smaller ones.
use Rattle.std.proofs.Common.{◌≡◌, ℕ, ◌+◌, ◌-◌, ◌<◌, ℤ, Bool, true, false, Some, List, [], ◌∷◌, ◌++◌, length, length-append, map, take, if◌then◌else◌, refl, ap, sym, ◌∙◌, arith}
use Rattle.std.specs.Prelude.{slice_get, sum_by}
use Rattle.std.specs.List.{AllByRecursion, flat_map, range_with_len}
use Rattle.std.proofs.Math.Seq.{take-append-add}
use Rattle.std.proofs.lemmas.List.{take-append-le}
use Rattle.std.proofs.lemmas.List.Sums.{sum_by-append}
use Rattle.nest_tree.specs.Tree.{Head, Statement, Statements, do_loop, work, continue, done, next, Tree, param_values}
use Rattle.nest_model.specs.Instances.{no_values, works_in}
use Rattle.nest_model.specs.Visits.{stops_in}
use Rattle.nest_walk.specs.Texts.{Placed, placed, placed_in, placed_of}
use Rattle.nest_rows.proofs.Nesting.{all-append, all-at, all-weaker}
use Rattle.owner_partition.specs.Marks.{enters_outer}
use Rattle.sync_plan.specs.declared.plan.Plan.{Plan}
use Rattle.sync_plan.specs.Conflicts.{first_work}
use Rattle.sync_plan.proofs.PhasePlaces.{placed_count, placed_works}
use Rattle.comm_system.proofs.Lists.{all_in_range, all_mapped}
use Rattle.comm_system.proofs.Stations.{Station, at_trip, push, stations_in, stations_of, trips_of}

-- a station is of the k-th phase of a text, and has as many pieces of work in front as the phases before that
record IsBehind (text : List Placed) (place first : ℕ) (x : Station) : Type 0 where
  k : ℕ
  within : k < length text
  place_is : x.visit.place ≡ place + k
  first_is : x.visit.first ≡ first + sum_by (λ (p : Placed). works_in p.what) (take k text)

one_behind : (s : Placed) (place first : ℕ) (x : Station) → x.visit.place ≡ place → x.visit.first ≡ first → IsBehind (s ∷ []) place first x
one_behind s place first x at is = record { k = 0; within = omega arith; place_is = omega (arith, at); first_is = omega (arith, is) }

mutual
  behind_of : (params : List ℤ) (enters : ℕ → Bool) (around : List ℕ) (s : Statement) (place first : ℕ) (loops : List ℤ) → AllByRecursion (IsBehind (placed_in enters around s) place first) (stations_of params enters s place first loops)
  behind_of params enters around (do_loop head body) place first loops =
      let P = IsBehind (placed_of enters (head.number ∷ around) body) place first in
      let here : Station = record { visit = record { place = place; first = first; what = do_loop head body; loops = loops }; heads = []; trips = [] } in
      let inside : ℕ → List Station = λ n. map (push head n) (stations_in params enters body place first (at_trip params head loops n)) in
      let entered = all_in_range P inside 0 (trips_of params head loops) (λ n lt. all_mapped P P (push head n) (stations_in params enters body place first (at_trip params head loops n)) (λ x h. again head body n x h) (behind_in params enters (head.number ∷ around) body place first (at_trip params head loops n))) in
      elim (enters head.number) as (λ b. AllByRecursion (IsBehind (if b then placed_of enters (head.number ∷ around) body else record { what = do_loop head body; around = around } ∷ []) place first) (if b then flat_map inside (range_with_len 0 (trips_of params head loops)) else here ∷ []))
      [ true ↦ entered | false ↦ (one_behind (record { what = do_loop head body; around = around }) place first here refl refl, tt) ]
    where
      again : (head : Head) (body : Statements) (n : ℕ) (x : Station) → IsBehind (placed_of enters (head.number ∷ around) body) place first x → IsBehind (placed_of enters (head.number ∷ around) body) place first (push head n x)
      again head body n x h = record { k = h.k; within = h.within; place_is = h.place_is; first_is = h.first_is }
  behind_of params enters around (work w) place first loops = (one_behind (record { what = work w; around = around }) place first (record { visit = record { place = place; first = first; what = work w; loops = loops }; heads = []; trips = [] }) refl refl, tt)
  behind_of params enters around (continue line) place first loops = tt

  behind_in : (params : List ℤ) (enters : ℕ → Bool) (around : List ℕ) (ss : Statements) (place first : ℕ) (loops : List ℤ) → AllByRecursion (IsBehind (placed_of enters around ss) place first) (stations_in params enters ss place first loops)
  behind_in params enters around done place first loops = tt
  behind_in params enters around (next s rest) place first loops =
      let text = placed_in enters around s in
      let later = placed_of enters around rest in
      let P = IsBehind (text ++ later) place first in
      let as_many = placed_count enters around s in
      let sums = placed_works enters around s in
      let works = λ (p : Placed). works_in p.what in
      all-append P (stations_of params enters s place first loops) (stations_in params enters rest (place + stops_in enters s) (first + works_in s) loops)
      (all-weaker (IsBehind text place first) P (stations_of params enters s place first loops) (λ x b. record {
        k = b.k;
        within = omega (arith, b.within, length-append text later);
        place_is = b.place_is;
        first_is = b.first_is ∙ ap (λ l. first + sum_by (λ (p : Placed). works_in p.what) l) (sym (take-append-le b.k text later (omega (arith, b.within))));
      }) (behind_of params enters around s place first loops))
      (all-weaker (IsBehind later (place + stops_in enters s) (first + works_in s)) P (stations_in params enters rest (place + stops_in enters s) (first + works_in s) loops) (λ x b.
      let sum = ap (sum_by works) (take-append-add text later b.k) ∙ sum_by-append works text (take b.k later) in record {
        k = length text + b.k;
        within = omega (arith, b.within, length-append text later);
        place_is = omega (arith, b.place_is, as_many);
        first_is = omega (arith, b.first_is, sum, sums);
      }) (behind_in params enters around rest (place + stops_in enters s) (first + works_in s) loops))

pub first_work_is : (tree : Tree) (plan : Plan) (e : ℕ) (s : Station) → slice_get (stations_in (param_values tree) (enters_outer plan.cut.marks) tree.items 1 1 (no_values tree)) e ≡ Some s → first_work tree plan s.visit.place ≡ s.visit.first
first_work_is tree plan e s at =
    let text = placed tree (enters_outer plan.cut.marks) in
    let all = stations_in (param_values tree) (enters_outer plan.cut.marks) tree.items 1 1 (no_values tree) in
    let b = all-at (IsBehind text 1 1) all e s (behind_in (param_values tree) (enters_outer plan.cut.marks) [] tree.items 1 1 (no_values tree)) at in
    let index : s.visit.place - 1 ≡ b.k = omega (arith, b.place_is) in
    ap (λ n. 1 + sum_by (λ (p : Placed). works_in p.what) (take n text)) index ∙ sym b.first_is

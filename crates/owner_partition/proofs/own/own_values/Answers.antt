use Rattle.std.proofs.Common.{◌≡◌, ℕ, Bool, ◌-◌, ◌^◌, ◌==◌, ◌<◌, ◌≤◌, ◌+ℤ◌, ◌*ℤ◌, ℤ, pos, map, true, ap, sym, subst, ◌∙◌, nat_le, nat_lt, length, FitsSigned, w64, to_z, of_z, unsigned_abs, arith, rules}
use Rattle.std.specs.Int.{w128}
use Rattle.std.specs.List.{list_all}
use Rattle.std.proofs.lemmas.Bool.{and_from, and_parts, leb-true}
use Rattle.std.proofs.lemmas.Int.{to_z-of_z}
use Rattle.nest_tree.specs.Form.{form_value, is_small}
use Rattle.nest_tree.specs.Tree.{param_values}
use Rattle.nest_tree.specs.View.{tree_of}
use Rattle.nest_tree.specs.WellFormed.{is_number_of, loops_of}
use Rattle.nest_model.specs.Instances.{trip_count}
use Rattle.nest_walk.specs.Cursors.{loops_in}
use Rattle.nest_walk.specs.Frames.{head_of}
use Rattle.nest_walk.specs.Paths.{Round}
use Rattle.nest_walk.specs.RoundsOf.{rounds_of}
use Rattle.nest_walk.specs.Walkable.{is_small_at}
use Rattle.nest_walk.proofs.WalkMoves.{by_number-length}
use Rattle.owner_partition.specs.OwnTrips.{own_numbers, strided, trip_owner}
use Rattle.owner_partition.proofs.Trips.{own_values_are, stride_below, sum_fits, trips_few}
use Rattle.owner_partition.proofs.own.own_values.Goals as goal
use Rattle.owner_partition.proofs.own.own_values.Goals.{After-trip_count-count, After-own_trips_from-own}

pub exact_value-fixed-requires-clause-numbered : goal.exact_value-fixed-requires-clause-numbered
exact_value-fixed-requires-clause-numbered c =
    let most = loops_of (tree_of c.args.program.now).items in
    subst (λ rounds. list_all (λ (r : Round). is_number_of most r.number) rounds ≡ true) (sym c.push.ensures) (and_from _ _ c.requires.number c.requires.numbered)

-- how many trips there are
few : (c : After-trip_count-count) → c.trip_count-count.result ≤ 2 ^ 32
few c =
    let loops = loops_in (tree_of c.args.program.now) (rounds_of c.args.path.now) in
    let params = param_values (tree_of c.args.program.now) in
    let head = head_of c.args.nest.now in
    let a = and_parts _ (is_small head.step) c.requires.head in
    let b = and_parts _ (nat_lt 0 (unsigned_abs head.step)) a.0 in
    let e = and_parts (is_small_at params loops head.m1) (is_small_at params loops head.m2) b.0 in
    let f1 : FitsSigned w64 c.small_value-m1.result = search rules in
    let f2 : FitsSigned w64 c.small_value-m2.result = search rules in
    let f3 : FitsSigned w64 head.step = search rules in
    let counted = simp to_z-of_z at c.trip_count-count.ensures in
    let same = counted ∙ ap (λ z. trip_count z c.small_value-m2.result head.step) c.small_value-m1.ensures ∙ ap (λ z. trip_count (form_value head.m1 loops params) z head.step) c.small_value-m2.ensures in
    omega (arith, same, trips_few (form_value head.m1 loops params) (form_value head.m2 loops params) head.step e.0 b.1 c.requires.trips)

pub own_trips_from-own-requires-clause-count : goal.own_trips_from-own-requires-clause-count
own_trips_from-own-requires-clause-count c = few (goal.at.own_trips_from-own-requires-clause-count c).After-trip_count-count

pub strided_values-requires-clause-first : goal.strided_values-requires-clause-first
strided_values-requires-clause-first c =
    let loops = loops_in (tree_of c.args.program.now) (rounds_of c.args.path.now) in
    let params = param_values (tree_of c.args.program.now) in
    let head = head_of c.args.nest.now in
    let a = and_parts _ (is_small head.step) c.requires.head in
    let b = and_parts _ (nat_lt 0 (unsigned_abs head.step)) a.0 in
    let e = and_parts (is_small_at params loops head.m1) (is_small_at params loops head.m2) b.0 in
    let f1 : FitsSigned w64 c.small_value-m1.result = search rules in
    ap is_small (to_z-of_z w64 c.small_value-m1.result f1 ∙ c.small_value-m1.ensures) ∙ e.0

pub strided_values-requires-clause-step : goal.strided_values-requires-clause-step
strided_values-requires-clause-step c =
    let f3 : FitsSigned w64 c.args.nest.now.step = search rules in
    ap is_small (to_z-of_z w64 c.args.nest.now.step f3) ∙ (and_parts _ (is_small c.args.nest.now.step) c.requires.head).1

-- the numbers of the own trips
own_is : (c : After-own_trips_from-own) →
    own_numbers c.args.anchor.now.dist c.args.workers c.args.p (c.exact_value-fixed.result +ℤ c.small_product.result) c.small_product-rise.result c.trip_count-count.result
    ≡ strided c.own_trips_from-own.result.first c.own_trips_from-own.result.stride c.own_trips_from-own.result.count
own_is c =
    let f1 : FitsSigned w128 c.exact_value-fixed.result = search rules in
    let f2 : FitsSigned w128 c.small_product.result = search rules in
    let f3 : FitsSigned w128 c.small_product-rise.result = search rules in
    let sum : FitsSigned w128 (c.exact_value-fixed.result +ℤ c.small_product.result) = sum_fits c.exact_value-fixed.result c.small_product.result c.exact_value-fixed.ensures.near c.small_product.ensures.near in
    let numbers = λ (z : ℤ). own_numbers c.args.anchor.now.dist c.args.workers c.args.p z (to_z w128 (of_z w128 c.small_product-rise.result)) c.trip_count-count.result in
    sym (ap (λ z. numbers (to_z w128 (of_z w128 (z +ℤ to_z w128 (of_z w128 c.small_product.result))))) (to_z-of_z w128 c.exact_value-fixed.result f1)
    ∙ ap (λ z. numbers (to_z w128 (of_z w128 (c.exact_value-fixed.result +ℤ z)))) (to_z-of_z w128 c.small_product.result f2)
    ∙ ap numbers (to_z-of_z w128 (c.exact_value-fixed.result +ℤ c.small_product.result) sum)
    ∙ ap (λ z. own_numbers c.args.anchor.now.dist c.args.workers c.args.p (c.exact_value-fixed.result +ℤ c.small_product.result) z c.trip_count-count.result) (to_z-of_z w128 c.small_product-rise.result f3))
    ∙ c.own_trips_from-own.ensures

pub strided_values-requires-clause-within : goal.strided_values-requires-clause-within
strided_values-requires-clause-within c = λ k lt.
    let own = own_is (goal.at.strided_values-requires-clause-within c).After-own_trips_from-own in
    let count = c.trip_count-count.result in
    let test : ℕ → Bool = λ n. trip_owner c.args.anchor.now.dist c.args.workers (c.exact_value-fixed.result +ℤ c.small_product.result) c.small_product-rise.result n == c.args.p in
    let below = stride_below test count c.own_trips_from-own.result.first c.own_trips_from-own.result.stride c.own_trips_from-own.result.count own k lt in
    omega (arith, below, few (goal.at.strided_values-requires-clause-within c).After-trip_count-count)

pub returns-clause-trips : goal.returns-clause-trips
returns-clause-trips c =
    let tree = tree_of c.args.program.now in
    let loops = loops_in tree (rounds_of c.args.path.now) in
    let params = param_values tree in
    let head = head_of c.args.nest.now in
    let own = own_is (goal.at.returns-clause-trips c).After-own_trips_from-own in
    let n = and_parts (nat_le 1 head.number) (nat_le head.number (loops_of tree.items)) c.requires.number in
    let low = leb-true 1 head.number n.0 in
    let high = leb-true head.number (loops_of tree.items) n.1 in
    let within : head.number - 1 < length loops = omega (arith, low, high, by_number-length (loops_of tree.items) (rounds_of c.args.path.now)) in
    let f1 : FitsSigned w64 c.small_value-m1.result = search rules in
    let f2 : FitsSigned w64 c.small_value-m2.result = search rules in
    let f3 : FitsSigned w64 head.step = search rules in
    let f4 : FitsSigned w64 c.coefficient-coefficient.result = search rules in
    let counted = simp to_z-of_z at c.trip_count-count.ensures in
    let product = simp to_z-of_z at c.small_product.ensures.value in
    let rise = simp to_z-of_z at c.small_product-rise.ensures.value in
    let named = c.coefficient-coefficient.ensures.value in
    let fixed = c.exact_value-fixed.ensures.value ∙ ap (λ rounds. form_value c.args.anchor.now.form (loops_in tree rounds) params) c.push.ensures in
    let taken = strided c.own_trips_from-own.result.first c.own_trips_from-own.result.stride c.own_trips_from-own.result.count in
    c.strided_values.ensures ∙ ap (λ z. map (λ k. z +ℤ (pos k *ℤ to_z w64 (of_z w64 head.step))) taken) (to_z-of_z w64 c.small_value-m1.result f1)
    ∙ ap (λ z. map (λ k. c.small_value-m1.result +ℤ (pos k *ℤ z)) taken) (to_z-of_z w64 head.step f3)
    ∙ own_values_are params c.args.anchor.now c.args.workers c.args.p head loops c.coefficient-coefficient.ensures.form low within c.small_value-m1.result c.small_value-m2.result c.coefficient-coefficient.result
    c.exact_value-fixed.result c.small_product.result c.small_product-rise.result c.trip_count-count.result _ _ _ c.small_value-m1.ensures c.small_value-m2.ensures named fixed product rise counted own

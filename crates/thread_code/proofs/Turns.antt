-- Places in turn: a processor's own values of a loop stand in equal steps.
use Rattle.std.proofs.Common.{◌≡◌, ◌≢◌, ◌↔◌, ℕ, zero, suc, ◌+◌, ◌-◌, ◌*◌, ◌/◌, ◌%◌, ◌<◌, ◌==◌, ℤ, pos, negsuc, ◌+ℤ◌, ◌-ℤ◌, ◌*ℤ◌, Bool, true, false, List, [], length, Some, None, if◌then◌else◌, refl, ap, sym, subst, ◌∙◌, arith}
use Rattle.std.specs.Int.{IsGcd, div_ceil, int_rem_euclid, ◌∣◌}
use Rattle.std.proofs.Math.Nat.{add-mul-mod_self_right}
use Rattle.std.proofs.lemmas.Bool.{eqb-false, eqb-true}
use Rattle.std.proofs.lemmas.Int.{int_rem_euclid_is, ints}
use Rattle.nest_tree.specs.Form.{form_value, is_form}
use Rattle.nest_tree.specs.Layout.{count_of}
use Rattle.nest_tree.specs.Tree.{Head}
use Rattle.nest_model.specs.Instances.{trip_count, trips}
use Rattle.owner_partition.specs.declared.anchor.Anchor.{Anchor}
use Rattle.owner_partition.specs.declared.anchor.Dist.TheVariants.{Cyclic}
use Rattle.owner_partition.specs.OwnInstances.{coefficient_of, own_values}
use Rattle.owner_partition.specs.OwnTrips.{IsSame, IsSolved}
use Rattle.owner_partition.proofs.Congruences.{Residue, in_turn_by, no_solution, residue_of, solutions}
use Rattle.owner_partition.proofs.Strides.{no_range, own_strides, turn_range}
use Rattle.owner_partition.proofs.Trips.{own_values_are, stride_value}
use Rattle.thread_code.specs.Closed.{IsSamePlace, IsTurning, modulo, turn_from, turn_values}
use Rattle.thread_code.specs.declared.turnings.Turning.{Turning}
use Rattle.thread_code.proofs.Found.{rest_of}
use Rattle.thread_code.proofs.OwnValues.{ceil_counts, closed_values}
use Rattle.thread_code.proofs.Rounded.{modulo_is}
use Rattle.thread_code.proofs.TripCounts.{counts_down, counts_up, same_count}

-- ---- every so-many-th trip of a loop

pub stride_counts : (first stride k : ℕ) (m1 m2 s : ℤ) → 0 < stride → s ≢ pos 0 → (k < trip_count (m1 +ℤ (pos first *ℤ s)) m2 (pos stride *ℤ s)) ↔ (first + k * stride < trip_count m1 m2 s)
stride_counts first stride k m1 m2 (pos zero) some moves = absurd (moves refl)
stride_counts first zero k m1 m2 s some moves = absurd (omega (arith, some))
stride_counts first (suc q) k m1 m2 (pos (suc j)) some moves = by (q * suc j + j) (omega (arith, ints))
  where
    by : (i : ℕ) → pos (suc q) *ℤ pos (suc j) ≡ pos (suc i) → (k < trip_count (m1 +ℤ (pos first *ℤ pos (suc j))) m2 (pos (suc q) *ℤ pos (suc j))) ↔ (first + k * suc q < trip_count m1 m2 (pos (suc j)))
    by i e =
        let start = m1 +ℤ (pos first *ℤ pos (suc j)) in
        let value = stride_value m1 (pos (suc j)) (pos (suc i)) first (suc q) k (sym e) in
        let here = counts_up k i start m2 in
        let there = counts_up (first + k * suc q) j m1 m2 in
        subst (λ z. (k < trip_count start m2 z) ↔ (first + k * suc q < trip_count m1 m2 (pos (suc j)))) (sym e)
        ((λ h. let at = here.0 h in there.1 (omega (arith, ints, value, at))), λ h. let at = there.0 h in here.1 (omega (arith, ints, value, at)))
stride_counts first (suc q) k m1 m2 (negsuc j) some moves = by (q * suc j + j) (omega (arith, ints))
  where
    by : (i : ℕ) → pos (suc q) *ℤ negsuc j ≡ negsuc i → (k < trip_count (m1 +ℤ (pos first *ℤ negsuc j)) m2 (pos (suc q) *ℤ negsuc j)) ↔ (first + k * suc q < trip_count m1 m2 (negsuc j))
    by i e =
        let start = m1 +ℤ (pos first *ℤ negsuc j) in
        let value = stride_value m1 (negsuc j) (negsuc i) first (suc q) k (sym e) in
        let here = counts_down k i start m2 in
        let there = counts_down (first + k * suc q) j m1 m2 in
        subst (λ z. (k < trip_count start m2 z) ↔ (first + k * suc q < trip_count m1 m2 (negsuc j))) (sym e)
        ((λ h. let at = here.0 h in there.1 (omega (arith, ints, value, at))), λ h. let at = there.0 h in here.1 (omega (arith, ints, value, at)))

-- ---- what is missing to a processor's number

pub missing : (m p : ℕ) (start place : ℤ) (s : Residue (suc m) place) → p < suc m → IsSamePlace (suc m) start place → count_of (modulo (pos p -ℤ start) (pos (suc m))) ≡ (p + suc m - s.residue) % suc m
missing m p start place s below same =
    let t = residue_of (suc m) start (omega arith) in
    let residues : t.residue ≡ s.residue = ap count_of (sym t.is ∙ same ∙ s.is) in
    let low = t.below in
    let sum : (pos p -ℤ start) +ℤ pos ((1 + t.down) * suc m) ≡ pos (p + suc m - t.residue + t.up * suc m) = omega (arith, ints, t.same, low) in
    ap count_of (modulo_is (pos p -ℤ start) m ∙ int_rem_euclid_is (pos p -ℤ start) (pos (suc m)) (suc m) (1 + t.down) (p + suc m - t.residue + t.up * suc m) (omega arith) refl sum)
    ∙ add-mul-mod_self_right (p + suc m - t.residue) t.up (suc m)
    ∙ ap (λ r. (p + suc m - r) % suc m) residues

-- ---- a processor's own values of a loop in turn

pub turn_closed : (params : List ℤ) (a : Anchor) (workers p : ℕ) (head : Head) (loops : List ℤ) → is_form a.form ≡ true → 0 < head.number → head.number - 1 < length loops →
    let m1 = form_value head.m1 loops params in
    let m2 = form_value head.m2 loops params in
    let rise = coefficient_of a.form.loops head.number in
    let rest = rest_of params a head loops in
    (t : Turning) (start : ℤ) → a.dist ≡ Cyclic → p < workers → head.step ≢ pos 0 → IsTurning workers (rise *ℤ head.step) t → IsSamePlace workers start (rest +ℤ rise *ℤ m1) →
    turn_values workers t p start m1 m2 head.step ≡ own_values params a workers p head loops
turn_closed params a zero p head loops form some within t start dist below steps turning same = absurd (omega (arith, below))
turn_closed params a (suc m) p head loops form some within t start dist below steps turning same =
    ap (λ y. turn_from t m1 m2 s y) (missing m p start place (residue_of (suc m) place positive) below same) ∙ by (w % t.divisor == 0) refl
  where
    positive : 0 < suc m
    positive = omega arith

    m1 : ℤ
    m1 = form_value head.m1 loops params

    m2 : ℤ
    m2 = form_value head.m2 loops params

    s : ℤ
    s = head.step

    rise : ℤ
    rise = coefficient_of a.form.loops head.number

    place : ℤ
    place = rest_of params a head loops +ℤ rise *ℤ m1

    many : ℕ
    many = trip_count m1 m2 s

    from : Residue (suc m) place
    from = residue_of (suc m) place positive

    each : Residue (suc m) (rise *ℤ s)
    each = residue_of (suc m) (rise *ℤ s) positive

    each_is : count_of (int_rem_euclid (rise *ℤ s) (pos (suc m))) ≡ each.residue
    each_is = ap count_of each.is

    w : ℕ
    w = (p + suc m - from.residue) % suc m

    low : w < suc m
    low = omega arith

    of_rise : t.divisor ∣ each.residue
    of_rise = subst (λ r. t.divisor ∣ r) each_is turning.of_rise

    factor : IsSame (suc m) (each.residue * t.factor) t.divisor
    factor = subst (λ r. IsSame (suc m) (r * t.factor) t.divisor) each_is turning.factor

    by : (test : Bool) → (w % t.divisor == 0) ≡ test → (if test then trips (m1 +ℤ (pos (w / t.divisor * t.factor % t.stride) *ℤ s)) m2 (pos t.stride *ℤ s) else []) ≡ own_values params a (suc m) p head loops
    by true e =
        let first = w / t.divisor * t.factor % t.stride in
        let solved : IsSolved each.residue w (suc m) (Some (first, t.stride)) =
        subst (λ c. IsSolved each.residue w (suc m) (Some (w / t.divisor * t.factor % c, c))) (sym turning.stride) (solutions (suc m) each.residue w t.divisor t.factor positive low turning.of_workers of_rise factor (eqb-true _ _ e)) in
        let range = turn_range a.dist (suc m) p place (rise *ℤ s) many (Some (first, t.stride)) first t.stride dist (in_turn_by (suc m) p place (rise *ℤ s) from each (Some (first, t.stride)) below solved) refl in
        let counts : (k : ℕ) → (k < trip_count (m1 +ℤ (pos first *ℤ s)) m2 (pos t.stride *ℤ s)) ↔ (k < div_ceil (many - first) t.stride) =
        λ k. let here = stride_counts first t.stride k m1 m2 s solved.0 steps in let there = ceil_counts first t.stride many k solved.0 in ((λ h. there.1 (here.0 h)), λ h. here.1 (there.0 h)) in
        closed_values params a (suc m) p head loops form some within first t.stride many (m1 +ℤ (pos first *ℤ s)) m2 (pos t.stride *ℤ s) range refl refl (same_count _ _ counts)
    by false e =
        let none : IsSolved each.residue w (suc m) None = λ n. no_solution (suc m) each.residue w t.divisor n positive turning.of_workers of_rise (λ equal. absurd (eqb-false _ _ e equal)) in
        let range = no_range a.dist (suc m) p place (rise *ℤ s) many None dist (in_turn_by (suc m) p place (rise *ℤ s) from each None below none) refl in
        own_values_are params a (suc m) p head loops form some within m1 m2 rise (rest_of params a head loops) (rise *ℤ m1) (rise *ℤ s) many 0 1 (div_ceil 0 1) refl refl refl refl refl refl refl (own_strides a.dist (suc m) p place (rise *ℤ s) many 0 1 0 range)

-- what Euclid's algorithm finds is right
pub euclid_turns : (workers divisor factor : ℕ) (rise : ℤ) → IsGcd workers (count_of (int_rem_euclid rise (pos workers))) divisor → IsSame workers (count_of (int_rem_euclid rise (pos workers)) * factor) divisor →
    IsTurning workers rise (record { divisor = divisor; factor = factor; stride = workers / divisor })
euclid_turns workers divisor factor rise divides same = record { of_workers = divides.0; of_rise = divides.1; factor = same; stride = refl }

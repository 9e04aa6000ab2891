-- A processor's own values of a loop, from its own trips.
use Rattle.std.proofs.Common.{◌≡◌, ◌↔◌, ℕ, suc, ◌+◌, ◌-◌, ◌*◌, ◌<◌, ◌≤◌, ℤ, pos, ◌+ℤ◌, ◌*ℤ◌, true, List, length, refl, ap, sym, ◌∙◌, mul-le-mul_right, lt_of_mul-lt-mul_right, arith}
use Rattle.std.specs.Int.{div_ceil}
use Rattle.std.proofs.lemmas.Grind.{div_ceil_times}
use Rattle.nest_tree.specs.Form.{form_value, is_form}
use Rattle.nest_tree.specs.Tree.{Head}
use Rattle.nest_model.specs.Instances.{trip_count, trips}
use Rattle.nest_walk.specs.Progressions.{progression}
use Rattle.owner_partition.specs.declared.anchor.Anchor.{Anchor}
use Rattle.owner_partition.specs.OwnInstances.{coefficient_of, own_values}
use Rattle.thread_code.proofs.Found.{rest_of}
use Rattle.owner_partition.specs.OwnTrips.{IsOwnRange}
use Rattle.owner_partition.proofs.Strides.{own_strides}
use Rattle.owner_partition.proofs.Trips.{own_values_are, strided_values}

-- a quotient that is rounded up counts the strides below an end
pub ceil_counts : (first stride end k : ℕ) → 0 < stride → (k < div_ceil (end - first) stride) ↔ (first + k * stride < end)
ceil_counts first stride end k some = ((λ h. forward h), λ h. back h)
  where
    n : ℕ
    n = div_ceil (end - first) stride

    bounds : (end - first ≤ n * stride) × (n * stride < end - first + stride)
    bounds = div_ceil_times (end - first) stride some

    forward : k < n → first + k * stride < end
    forward h =
        let step : suc k * stride ≤ n * stride = mul-le-mul_right stride h in
        let split : suc k * stride ≡ stride + k * stride = omega arith in
        omega (arith, step, split, bounds)

    back : first + k * stride < end → k < n
    back h = lt_of_mul-lt-mul_right stride (omega (arith, h, bounds))

pub ceil_one : (d : ℕ) → div_ceil d 1 ≡ d
ceil_one d = let bounds = div_ceil_times d 1 (omega arith) in omega (arith, bounds)

-- own trips in equal steps are the values of a loop in equal steps, if that makes as many trips
pub closed_values : (params : List ℤ) (a : Anchor) (workers p : ℕ) (head : Head) (loops : List ℤ) → is_form a.form ≡ true → 0 < head.number → head.number - 1 < length loops →
    let m1 = form_value head.m1 loops params in
    let m2 = form_value head.m2 loops params in
    let rise = coefficient_of a.form.loops head.number in
    (first stride end : ℕ) (start last step : ℤ) →
    IsOwnRange a.dist workers p (rest_of params a head loops +ℤ rise *ℤ m1) (rise *ℤ head.step) (trip_count m1 m2 head.step) (first, stride, end) →
    start ≡ m1 +ℤ (pos first *ℤ head.step) → step ≡ pos stride *ℤ head.step → trip_count start last step ≡ div_ceil (end - first) stride →
    trips start last step ≡ own_values params a workers p head loops
closed_values params a workers p head loops form some within first stride end start last step range start_is step_is count =
    let m1 = form_value head.m1 loops params in
    let m2 = form_value head.m2 loops params in
    let rise = coefficient_of a.form.loops head.number in
    let many = div_ceil (end - first) stride in
    let own = own_strides a.dist workers p (rest_of params a head loops +ℤ rise *ℤ m1) (rise *ℤ head.step) (trip_count m1 m2 head.step) first stride end range in
    ap (λ n. progression start step n) count ∙ ap (λ z. progression z step many) start_is
    ∙ sym (strided_values m1 head.step step first stride many (λ lt. step_is))
    ∙ own_values_are params a workers p head loops form some within m1 m2 rise (rest_of params a head loops) (rise *ℤ m1) (rise *ℤ head.step) (trip_count m1 m2 head.step) first stride many refl refl refl refl refl refl refl own

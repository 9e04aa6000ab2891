-- Places in blocks: a processor's own values of a loop lie in one window.
use Rattle.std.proofs.Common.{◌≡◌, ◌≢◌, ◌↔◌, ℕ, zero, suc, ◌+◌, ◌-◌, ◌*◌, ◌<◌, ◌≤◌, min, ℤ, pos, negsuc, ◌+ℤ◌, ◌-ℤ◌, ◌*ℤ◌, ◌≤ℤ◌, int_lt, Bool, true, false, List, length, cond, refl, ap, sym, subst, ◌∙◌, arith}
use Rattle.std.specs.Int.{int_div_euclid, int_max, int_min}
use Rattle.std.proofs.Math.IntN.{*ℤ_comm}
use Rattle.std.proofs.lemmas.Bool.{eqb-true, eq-eqb}
use Rattle.std.proofs.lemmas.Int.{ints}
use Rattle.list_lemmas.proofs.Integers.{add-mul}
use Rattle.nest_tree.specs.Form.{form_value, is_form}
use Rattle.nest_tree.specs.Layout.{count_of}
use Rattle.nest_tree.specs.Tree.{Head}
use Rattle.nest_model.specs.Instances.{trip_count, trips}
use Rattle.owner_partition.specs.declared.anchor.Anchor.{Anchor}
use Rattle.owner_partition.specs.declared.anchor.Dist.TheVariants.{Block}
use Rattle.owner_partition.specs.OwnInstances.{coefficient_of, own_values}
use Rattle.owner_partition.specs.OwnTrips.{IsOwnRange}
use Rattle.owner_partition.proofs.Limits.{block_is}
use Rattle.owner_partition.proofs.Strides.{stretch}
use Rattle.owner_partition.proofs.Trips.{trip_place}
use Rattle.thread_code.specs.Closed.{block_values, high_value, low_value, raised, window}
use Rattle.thread_code.proofs.Found.{rest_of}
use Rattle.thread_code.proofs.OwnValues.{ceil_one, closed_values}
use Rattle.thread_code.proofs.Rounded.{floored_is, raised_is}
use Rattle.thread_code.proofs.TripCounts.{counts_down, counts_up, same_count}

-- ---- the greater and the lesser of two

pub max_zero : (z : ℤ) → int_max (pos 0) z ≡ pos (count_of z)
max_zero (negsuc n) = refl
max_zero (pos n) = by (int_lt (pos n) (pos 0)) refl
  where
    by : (t : Bool) → int_lt (pos n) (pos 0) ≡ t → cond t (pos 0) (pos n) ≡ pos n
    by true e = grind (arith, ints, e)
    by false e = refl

count_within : (z : ℤ) (n : ℕ) → (count_of z ≤ n) ↔ (z ≤ℤ pos n)
count_within (pos m) n = ((λ h. omega (arith, ints, h)), λ h. omega (arith, ints, h))
count_within (negsuc m) n = ((λ h. omega (arith, ints)), λ h. omega arith)

below_min : (x a b : ℤ) → (x ≤ℤ int_min a b) ↔ ((x ≤ℤ a) × (x ≤ℤ b))
below_min x a b = by (int_lt b a) refl
  where
    by : (t : Bool) → int_lt b a ≡ t → (x ≤ℤ cond t b a) ↔ ((x ≤ℤ a) × (x ≤ℤ b))
    by true e = ((λ h. (grind (arith, ints, h, e), h)), λ h. h.1)
    by false e = ((λ h. (h, grind (arith, ints, h, e))), λ h. h.0)

above_max : (x a b : ℤ) → (int_max a b ≤ℤ x) ↔ ((a ≤ℤ x) × (b ≤ℤ x))
above_max x a b = by (int_lt b a) refl
  where
    by : (t : Bool) → int_lt b a ≡ t → (cond t a b ≤ℤ x) ↔ ((a ≤ℤ x) × (b ≤ℤ x))
    by true e = ((λ h. (h, grind (arith, ints, h, e))), λ h. h.0)
    by false e = ((λ h. (grind (arith, ints, h, e), h)), λ h. h.1)

-- ---- which values lie in a block

minus_times : (d : ℕ) (v : ℤ) → negsuc d *ℤ v ≡ pos 0 -ℤ v *ℤ pos (suc d)
minus_times d v = *ℤ_comm (negsuc d) v ∙ omega (arith, ints)

pub in_block : (b p : ℕ) (rest rise v : ℤ) → 0 < b → rise ≢ pos 0 → pos 0 ≤ℤ (rest +ℤ rise *ℤ v) →
    (count_of (int_div_euclid (rest +ℤ rise *ℤ v) (pos b)) ≡ p) ↔ ((low_value b p rest rise ≤ℤ v) × (v ≤ℤ high_value b p rest rise))
in_block b p rest (pos zero) v some moves placed = absurd (moves refl)
in_block b p rest (pos (suc d)) v some moves placed =
    let w = rest +ℤ pos (suc d) *ℤ v in
    let turn = *ℤ_comm (pos (suc d)) v in
    let block = block_is b p w some in
    let low = raised_is (pos (b * p) -ℤ rest) d v in
    let high = floored_is (pos (b * p + b) -ℤ pos 1 -ℤ rest) d v in (
      (λ e. let at = block.0 e in (low.1 (omega (arith, ints, turn, from_zero b p w placed at.0)), high.1 (omega (arith, ints, turn, at.1)))),
      λ h. let from = low.0 h.0 in let to = high.0 h.1 in block.1 ((λ some. omega (arith, ints, turn, from)), omega (arith, ints, turn, to)),
    )
  where
    from_zero : (b p : ℕ) (w : ℤ) → pos 0 ≤ℤ w → (p ≢ 0 → pos (b * p) ≤ℤ w) → pos (b * p) ≤ℤ w
    from_zero b zero w placed h = omega (arith, ints, placed)
    from_zero b (suc p) w placed h = h (λ e. absurd (omega (arith, e)))
in_block b p rest (negsuc d) v some moves placed =
    let w = rest +ℤ negsuc d *ℤ v in
    let turn = minus_times d v in
    let block = block_is b p w some in
    let low = raised_is (rest -ℤ (pos (b * p + b) -ℤ pos 1)) d v in
    let high = floored_is (rest -ℤ pos (b * p)) d v in (
      (λ e. let at = block.0 e in (low.1 (omega (arith, ints, turn, at.1)), high.1 (omega (arith, ints, turn, from_zero b p w placed at.0)))),
      λ h. let to = low.0 h.0 in let from = high.0 h.1 in block.1 ((λ some. omega (arith, ints, turn, from)), omega (arith, ints, turn, to)),
    )
  where
    from_zero : (b p : ℕ) (w : ℤ) → pos 0 ≤ℤ w → (p ≢ 0 → pos (b * p) ≤ℤ w) → pos (b * p) ≤ℤ w
    from_zero b zero w placed h = omega (arith, ints, placed)
    from_zero b (suc p) w placed h = h (λ e. absurd (omega (arith, e)))

-- ---- the trips whose values lie in a window

-- the first of them, and the one behind the last
abbrev pub first_of : ℤ → ℤ → ℤ → ℤ → ℕ
first_of m1 low high (pos s) = count_of (raised (low -ℤ m1) (pos s))
first_of m1 low high (negsuc s) = count_of (raised (m1 -ℤ high) (pos (suc s)))

abbrev pub end_of : ℤ → ℤ → ℤ → ℤ → ℕ
end_of m1 low high (pos s) = trip_count m1 high (pos s)
end_of m1 low high (negsuc s) = trip_count m1 low (negsuc s)

abbrev pub end_of_values : ℤ → ℤ → ℤ → ℤ → ℤ
end_of_values m2 low high (pos s) = int_min m2 high
end_of_values m2 low high (negsuc s) = int_max m2 low

pub window_trips : (m1 low high s : ℤ) (n : ℕ) → s ≢ pos 0 → ((low ≤ℤ (m1 +ℤ (pos n *ℤ s))) × ((m1 +ℤ (pos n *ℤ s)) ≤ℤ high)) ↔ ((first_of m1 low high s ≤ n) × (n < end_of m1 low high s))
window_trips m1 low high (pos zero) n moves = absurd (moves refl)
window_trips m1 low high (pos (suc k)) n moves =
    let first = count_within (raised (low -ℤ m1) (pos (suc k))) n in
    let from = raised_is (low -ℤ m1) k (pos n) in
    let to = counts_up n k m1 high in
    ((λ h. (first.1 (from.1 (omega (arith, ints, h.0))), to.1 h.1)), λ h. (let low = from.0 (first.0 h.0) in omega (arith, ints, low), to.0 h.1))
window_trips m1 low high (negsuc k) n moves =
    let first = count_within (raised (m1 -ℤ high) (pos (suc k))) n in
    let from = raised_is (m1 -ℤ high) k (pos n) in
    let to = counts_down n k m1 low in
    ((λ h. (first.1 (from.1 (omega (arith, ints, h.1))), to.1 h.0)), λ h. (to.0 h.1, let high = from.0 (first.0 h.0) in omega (arith, ints, high)))

-- a count of the window's values is that of the `for` over it
window_count : (m1 m2 low high s : ℤ) (k : ℕ) → s ≢ pos 0 → let first = first_of m1 low high s in
    (k < trip_count (m1 +ℤ (pos first *ℤ s)) (end_of_values m2 low high s) s) ↔ (k < min (end_of m1 low high s) (trip_count m1 m2 s) - first)
window_count m1 m2 low high (pos zero) k moves = absurd (moves refl)
window_count m1 m2 low high (pos (suc j)) k moves =
    let s = pos (suc j) in
    let first = first_of m1 low high s in
    let sum : (m1 +ℤ (pos first *ℤ s)) +ℤ (pos k *ℤ s) ≡ m1 +ℤ (pos (first + k) *ℤ s) = omega (arith, ints, add-mul (pos first) (pos k) s) in
    let made = counts_up k j (m1 +ℤ (pos first *ℤ s)) (int_min m2 high) in
    let both = below_min ((m1 +ℤ (pos first *ℤ s)) +ℤ (pos k *ℤ s)) m2 high in
    let to = counts_up (first + k) j m1 high in
    let last = counts_up (first + k) j m1 m2 in (
      (λ h. let at = both.0 (made.0 h) in let one = to.1 (omega (arith, ints, sum, at.1)) in let two = last.1 (omega (arith, ints, sum, at.0)) in omega (arith, one, two)),
      λ h. let one = to.0 (omega (arith, h)) in let two = last.0 (omega (arith, h)) in made.1 (both.1 (omega (arith, ints, sum, two), omega (arith, ints, sum, one))),
    )
window_count m1 m2 low high (negsuc j) k moves =
    let s = negsuc j in
    let first = first_of m1 low high s in
    let sum : (m1 +ℤ (pos first *ℤ s)) +ℤ (pos k *ℤ s) ≡ m1 +ℤ (pos (first + k) *ℤ s) = omega (arith, ints, add-mul (pos first) (pos k) s) in
    let made = counts_down k j (m1 +ℤ (pos first *ℤ s)) (int_max m2 low) in
    let both = above_max ((m1 +ℤ (pos first *ℤ s)) +ℤ (pos k *ℤ s)) m2 low in
    let to = counts_down (first + k) j m1 low in
    let last = counts_down (first + k) j m1 m2 in (
      (λ h. let at = both.0 (made.0 h) in let one = to.1 (omega (arith, ints, sum, at.1)) in let two = last.1 (omega (arith, ints, sum, at.0)) in omega (arith, one, two)),
      λ h. let one = to.0 (omega (arith, h)) in let two = last.0 (omega (arith, h)) in made.1 (both.1 (omega (arith, ints, sum, two), omega (arith, ints, sum, one))),
    )

window_is : (m1 m2 low high s : ℤ) → s ≢ pos 0 → window m1 m2 low high s ≡ trips (m1 +ℤ (pos (first_of m1 low high s) *ℤ s)) (end_of_values m2 low high s) s
window_is m1 m2 low high (pos s) moves = ap (λ z. trips (m1 +ℤ (z *ℤ pos s)) (int_min m2 high) (pos s)) (max_zero (raised (low -ℤ m1) (pos s)))
window_is m1 m2 low high (negsuc s) moves = ap (λ z. trips (m1 +ℤ (z *ℤ negsuc s)) (int_max m2 low) (negsuc s)) (max_zero (raised (m1 -ℤ high) (pos (suc s))))

-- a block's own trips
block_range_is : (b workers p : ℕ) (rest rise m1 m2 s : ℤ) → 0 < b → rise ≢ pos 0 → s ≢ pos 0 →
    ((n : ℕ) → n < trip_count m1 m2 s → pos 0 ≤ℤ (rest +ℤ rise *ℤ (m1 +ℤ (pos n *ℤ s)))) →
    let low = low_value b p rest rise in
    let high = high_value b p rest rise in
    IsOwnRange (Block b) workers p (rest +ℤ rise *ℤ m1) (rise *ℤ s) (trip_count m1 m2 s) (first_of m1 low high s, 1, min (end_of m1 low high s) (trip_count m1 m2 s))
block_range_is b workers p rest rise m1 m2 s some moves steps placed =
    let low = low_value b p rest rise in
    let high = high_value b p rest rise in
    let first = first_of m1 low high s in
    let end = min (end_of m1 low high s) (trip_count m1 m2 s) in (
      omega arith,
      omega arith,
      λ n within. stretch first end n (
        (λ h.
            let owner = ap (λ w. count_of (int_div_euclid w (pos b))) (trip_place rest rise m1 s n) ∙ eqb-true _ _ h in
            let at = (window_trips m1 low high s n steps).0 ((in_block b p rest rise (m1 +ℤ (pos n *ℤ s)) some moves (placed n within)).0 owner) in
            (at.0, omega (arith, at.1, within))),
        λ h.
            let at = (window_trips m1 low high s n steps).1 (h.0, omega (arith, h.1)) in
            eq-eqb _ _ (sym (ap (λ w. count_of (int_div_euclid w (pos b))) (trip_place rest rise m1 s n)) ∙ (in_block b p rest rise (m1 +ℤ (pos n *ℤ s)) some moves (placed n within)).1 at),
      ),
    )

-- a processor's own values of a loop by blocks, where each place is in a block
pub block_closed : (params : List ℤ) (a : Anchor) (workers p b : ℕ) (head : Head) (loops : List ℤ) → is_form a.form ≡ true → 0 < head.number → head.number - 1 < length loops →
    let m1 = form_value head.m1 loops params in
    let m2 = form_value head.m2 loops params in
    let rise = coefficient_of a.form.loops head.number in
    let rest = rest_of params a head loops in
    a.dist ≡ Block b → 0 < b → rise ≢ pos 0 → head.step ≢ pos 0 →
    ((n : ℕ) → n < trip_count m1 m2 head.step → pos 0 ≤ℤ (rest +ℤ rise *ℤ (m1 +ℤ (pos n *ℤ head.step)))) →
    block_values b p rest rise m1 m2 head.step ≡ own_values params a workers p head loops
block_closed params a workers p b head loops form some within dist long moves steps placed =
    let m1 = form_value head.m1 loops params in
    let m2 = form_value head.m2 loops params in
    let rise = coefficient_of a.form.loops head.number in
    let rest = rest_of params a head loops in
    let low = low_value b p rest rise in
    let high = high_value b p rest rise in
    let s = head.step in
    let first = first_of m1 low high s in
    let end = min (end_of m1 low high s) (trip_count m1 m2 s) in
    let range = subst (λ d. IsOwnRange d workers p (rest +ℤ rise *ℤ m1) (rise *ℤ s) (trip_count m1 m2 s) (first, 1, end)) (sym dist) (block_range_is b workers p rest rise m1 m2 s long moves steps placed) in
    let one : s ≡ pos 1 *ℤ s = omega (arith, ints) in
    let count = same_count _ _ (λ k. window_count m1 m2 low high s k steps) ∙ sym (ceil_one (end - first)) in
    window_is m1 m2 low high s steps
    ∙ closed_values params a workers p head loops form some within first 1 end (m1 +ℤ (pos first *ℤ s)) (end_of_values m2 low high s) s range refl one count

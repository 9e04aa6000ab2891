-- The values of a loop's trips lie between its bounds.
use Rattle.std.proofs.Common.{◌≡◌, ℕ, zero, suc, ◌+◌, ◌*◌, ◌/◌, ◌<◌, ◌≤◌, ℤ, pos, negsuc, ◌+ℤ◌, ◌-ℤ◌, ◌*ℤ◌, neg_ℤ, ◌≤ℤ◌, Bool, true, refl, ap, ◌∙◌, arith}
use Rattle.std.specs.Prelude.{int_div}
use Rattle.std.specs.List.{list_all, range_with_len}
use Rattle.std.proofs.lemmas.Bool.{and_from}
use Rattle.std.proofs.lemmas.Int.{ints}
use Rattle.std.proofs.lemmas.List.Folds.{list_all-map}
use Rattle.std.proofs.Math.Nat.{mul-div-le, mul-le-mul_left}
use Rattle.nest_tree.specs.Layout.{count_of}
use Rattle.nest_model.specs.Instances.{trip_count, trips}

-- a test of each number of a range
all_in_range : (p : ℕ → Bool) (a n : ℕ) → ((i : ℕ) → i < n → p (a + i) ≡ true) → list_all p (range_with_len a n) ≡ true
all_in_range p a zero h = refl
all_in_range p a (suc n) h =
    let first : p a ≡ true = ap p (omega arith) ∙ h 0 (omega arith) in
    let later : (i : ℕ) → i < n → p (a + 1 + i) ≡ true = λ i lt. ap p (omega arith) ∙ h (suc i) (omega arith) in
    and_from _ _ first (all_in_range p (a + 1) n later)

-- a test of each trip's value
pub all_trips : (p : ℤ → Bool) (m1 m2 m3 : ℤ) → ((n : ℕ) → n < trip_count m1 m2 m3 → p (m1 +ℤ (pos n *ℤ m3)) ≡ true) → list_all p (trips m1 m2 m3) ≡ true
all_trips p m1 m2 m3 h =
    list_all-map p (λ n. m1 +ℤ (pos n *ℤ m3)) (range_with_len 0 (trip_count m1 m2 m3))
    ∙ all_in_range (λ n. p (m1 +ℤ (pos n *ℤ m3))) 0 (trip_count m1 m2 m3) (λ n lt. ap (λ k. p (m1 +ℤ (pos k *ℤ m3))) (omega arith) ∙ h n lt)

-- what is left of a quotient
below_quotient : (n d k : ℕ) → n < d / suc k → suc k * n + suc k ≤ d
below_quotient n d k h =
    let step : suc k * suc n ≤ suc k * (d / suc k) = mul-le-mul_left (suc k) h in
    let whole = mul-div-le d (suc k) in
    omega (arith, step, whole)

-- a negative quotient counts as none
none_below : (q : ℕ) → count_of (neg_ℤ (pos q)) ≡ 0
none_below zero = refl
none_below (suc q) = refl

-- counting up, the trip with the number n does not pass the last value
up_from : (n k : ℕ) (m1 m2 span : ℤ) → span ≡ m2 -ℤ m1 +ℤ pos (suc k) → n < count_of (int_div span (pos (suc k))) →
    (m1 ≤ℤ (m1 +ℤ (pos n *ℤ pos (suc k)))) × ((m1 +ℤ (pos n *ℤ pos (suc k))) ≤ℤ m2)
up_from n k m1 m2 (pos d) e h = let low = below_quotient n d k h in (omega (arith, ints), omega (arith, ints, e, low))
up_from n k m1 m2 (negsuc d) e h = absurd (omega (arith, h, none_below (suc d / suc k)))

pub up : (n k : ℕ) (m1 m2 : ℤ) → n < trip_count m1 m2 (pos (suc k)) → (m1 ≤ℤ (m1 +ℤ (pos n *ℤ pos (suc k)))) × ((m1 +ℤ (pos n *ℤ pos (suc k))) ≤ℤ m2)
up n k m1 m2 h = up_from n k m1 m2 (m2 -ℤ m1 +ℤ pos (suc k)) refl h

-- counting down
down_from : (n k : ℕ) (m1 m2 span : ℤ) → span ≡ m2 -ℤ m1 +ℤ negsuc k → n < count_of (int_div span (negsuc k)) →
    (m2 ≤ℤ (m1 +ℤ (pos n *ℤ negsuc k))) × ((m1 +ℤ (pos n *ℤ negsuc k)) ≤ℤ m1)
down_from n k m1 m2 (pos d) e h = absurd (omega (arith, h, none_below (d / suc k)))
down_from n k m1 m2 (negsuc d) e h = let low = below_quotient n (suc d) k h in (omega (arith, ints, e, low), omega (arith, ints))

pub down : (n k : ℕ) (m1 m2 : ℤ) → n < trip_count m1 m2 (negsuc k) → (m2 ≤ℤ (m1 +ℤ (pos n *ℤ negsuc k))) × ((m1 +ℤ (pos n *ℤ negsuc k)) ≤ℤ m1)
down n k m1 m2 h = down_from n k m1 m2 (m2 -ℤ m1 +ℤ negsuc k) refl h

-- Places that are far from every block.
use Rattle.std.proofs.Common.{◌≡◌, ℕ, zero, suc, ◌+◌, ◌*◌, ◌^◌, ◌<◌, ◌≤◌, ◌==◌, ℤ, pos, negsuc, ◌+ℤ◌, ◌-ℤ◌, ◌*ℤ◌, ◌≤ℤ◌, Bool, false, ◌∷◌, unsigned_abs, if◌then◌else◌, ⊎_elim, refl, ap, sym, ◌∙◌, arith}
use Rattle.std.specs.Int.{int_div_euclid}
use Rattle.std.specs.List.{filter, range_with_len}
use Rattle.std.proofs.lemmas.Bool.{cases_lt, ne_eqb}
use Rattle.std.proofs.lemmas.Int.{ints, unsigned_abs-mul}
use Rattle.std.proofs.lemmas.Nat.{mul-le}
use Rattle.nest_tree.specs.Layout.{count_of}
use Rattle.owner_partition.specs.declared.anchor.Dist.{Dist}
use Rattle.owner_partition.specs.declared.anchor.Dist.TheVariants.{Block}
use Rattle.owner_partition.specs.OwnTrips.{own_numbers}
use Rattle.owner_partition.proofs.Limits.{block_is}

filter_in_range : (p q : ℕ → Bool) (a n : ℕ) → ((k : ℕ) → k < n → p (a + k) ≡ q (a + k)) → filter p (range_with_len a n) ≡ filter q (range_with_len a n)
filter_in_range p q a zero same = refl
filter_in_range p q a (suc n) same =
    let first : p a ≡ q a = ap p (omega arith) ∙ same 0 (omega arith) ∙ ap q (omega arith) in
    let later : (k : ℕ) → k < n → p (a + 1 + k) ≡ q (a + 1 + k) = λ k lt. ap p (omega arith) ∙ same (suc k) (omega arith) ∙ ap q (omega arith) in
    ap (λ b. if b then a ∷ filter p (range_with_len (a + 1) n) else filter p (range_with_len (a + 1) n)) first
    ∙ ap (λ xs. if q a then a ∷ xs else xs) (filter_in_range p q (a + 1) n later)

-- how far the trips' places rise
rise_small : (rise : ℤ) (count n : ℕ) → unsigned_abs rise ≤ 2 ^ 62 → count ≤ 2 ^ 32 → n < count → unsigned_abs (pos n *ℤ rise) ≤ 2 ^ 94
rise_small rise count n r c lt =
    let size = mul-le n (unsigned_abs rise) (2 ^ 32) (2 ^ 62) (omega (arith, c, lt)) r in
    let product : unsigned_abs (pos n *ℤ rise) ≡ n * unsigned_abs rise = unsigned_abs-mul (pos n) rise in
    omega (arith, product, size)

-- above every block
above : (length p : ℕ) (w : ℤ) → 1 ≤ length → length < 2 ^ 32 → p < 2 ^ 32 → pos (2 ^ 100) ≤ℤ w → (count_of (int_div_euclid w (pos length)) == p) ≡ false
above length p w some long worker far =
    let size = mul-le length p (2 ^ 32) (2 ^ 32) (omega (arith, long)) (omega (arith, worker)) in
    ne_eqb _ _ (λ e. let parts = (block_is length p w some).0 e in let top = parts.1 in omega (arith, ints, top, size, long, far))

below : (length : ℕ) (w : ℤ) → 1 ≤ length → w ≤ℤ negsuc 0 → count_of (int_div_euclid w (pos length)) ≡ 0
below length w some low = (block_is length 0 w some).1 ((λ h. absurd (h refl)), omega (arith, ints, low, some))

pub far_above : (length workers p : ℕ) (a b rise : ℤ) (count : ℕ) → 1 ≤ length → length < 2 ^ 32 → p < 2 ^ 32 → unsigned_abs rise ≤ 2 ^ 62 → count ≤ 2 ^ 32 → pos (2 ^ 125) ≤ℤ a → pos (2 ^ 125) ≤ℤ b →
    own_numbers (Block length) workers p a rise count ≡ own_numbers (Block length) workers p b rise count
far_above length workers p a b rise count some long worker r c x y = filter_in_range _ _ 0 count (λ k lt.
    let n = 0 + k in
    let small = rise_small rise count n r c (omega (arith, lt)) in
    above length p (a +ℤ (pos n *ℤ rise)) some long worker (omega (arith, ints, small, x)) ∙ sym (above length p (b +ℤ (pos n *ℤ rise)) some long worker (omega (arith, ints, small, y))))

pub far_below : (length workers p : ℕ) (a b rise : ℤ) (count : ℕ) → 1 ≤ length → unsigned_abs rise ≤ 2 ^ 62 → count ≤ 2 ^ 32 → a ≤ℤ (pos 0 -ℤ pos (2 ^ 125)) → b ≤ℤ (pos 0 -ℤ pos (2 ^ 125)) →
    own_numbers (Block length) workers p a rise count ≡ own_numbers (Block length) workers p b rise count
far_below length workers p a b rise count some r c x y = filter_in_range _ _ 0 count (λ k lt.
    let n = 0 + k in
    let small = rise_small rise count n r c (omega (arith, lt)) in
    ap (λ q. q == p) (below length (a +ℤ (pos n *ℤ rise)) some (omega (arith, ints, small, x)) ∙ sym (below length (b +ℤ (pos n *ℤ rise)) some (omega (arith, ints, small, y)))))

-- a place that is far from 0 may as well be nearer
pub near_numbers : (dist : Dist) (length workers p : ℕ) (a b rise : ℤ) (count : ℕ) → dist ≡ Block length → 1 ≤ length → length < 2 ^ 32 → p < 2 ^ 32 → unsigned_abs rise ≤ 2 ^ 62 → count ≤ 2 ^ 32 →
    (unsigned_abs a ≤ 2 ^ 125 → b ≡ a) → (pos (2 ^ 125) ≤ℤ a → b ≡ pos (2 ^ 125)) → (a ≤ℤ (pos 0 -ℤ pos (2 ^ 125)) → b ≡ pos 0 -ℤ pos (2 ^ 125)) →
    own_numbers dist workers p a rise count ≡ own_numbers dist workers p b rise count
near_numbers dist length workers p a b rise count is some long worker r c near high low =
    ap (λ d. own_numbers d workers p a rise count) is ∙ at_block ∙ sym (ap (λ d. own_numbers d workers p b rise count) is)
  where
    at_high : pos (2 ^ 125) ≤ℤ a → own_numbers (Block length) workers p a rise count ≡ own_numbers (Block length) workers p b rise count
    at_high h = far_above length workers p a b rise count some long worker r c h (omega (arith, ints, high h))

    at_low : a ≤ℤ (pos 0 -ℤ pos (2 ^ 125)) → own_numbers (Block length) workers p a rise count ≡ own_numbers (Block length) workers p b rise count
    at_low h = far_below length workers p a b rise count some r c h (omega (arith, ints, low h))

    by_size : (z : ℤ) → a ≡ z → own_numbers (Block length) workers p a rise count ≡ own_numbers (Block length) workers p b rise count
    by_size (pos n) e =
        ⊎_elim (λ h. ap (λ w. own_numbers (Block length) workers p w rise count) (sym (near (omega (arith, ints, e, h))))) (λ h. at_high (omega (arith, ints, e, h))) (cases_lt n (2 ^ 125))
    by_size (negsuc n) e =
        ⊎_elim (λ h. ap (λ w. own_numbers (Block length) workers p w rise count) (sym (near (omega (arith, ints, e, h))))) (λ h. at_low (omega (arith, ints, e, h))) (cases_lt n (2 ^ 125))

    at_block : own_numbers (Block length) workers p a rise count ≡ own_numbers (Block length) workers p b rise count
    at_block = by_size a refl

-- Weighted sums of values, and the sum of terms over rows that hold.
use Rattle.std.proofs.Common.{◌≡◌, ℕ, suc, ◌+◌, ◌-◌, ◌≤◌, ◌<◌, ℤ, pos, ◌+ℤ◌, ◌*ℤ◌, ◌≤ℤ◌, List, [], ◌∷◌, map, length, slice_index_or, refl, ap, sym, ◌∙◌, arith}
use Rattle.std.specs.List.{All, range_with_len}
use Rattle.std.proofs.lemmas.Int.{ints}
use Rattle.std.proofs.Math.IntN.{*ℤ-zero}
use Rattle.std.proofs.lemmas.Bool.Decides.{nat_tests}
use Rattle.list_lemmas.proofs.Integers.{add-mul, mul-add, mul_assoc_ℤ}
use Rattle.farkas_cert.specs.declared.system.Row.{Row}
use Rattle.farkas_cert.specs.Inequalities.{left_side, Holds}
use Rattle.farkas_cert.specs.Combination.{row_at, no_row, entry_at, sum_at}
use Rattle.farkas_cert.proofs.Integers.{mul_le_ℤ}

-- f a * x + f (a + 1) * x' + ..
abbrev pub weighted : (ℕ → ℤ) → ℕ → List ℤ → ℤ
weighted f a [] = pos 0
weighted f a (x ∷ xs) = f a *ℤ x +ℤ weighted f (a + 1) xs

pub left_side-map-range : (f : ℕ → ℤ) (a : ℕ) (xs : List ℤ) → left_side (map f (range_with_len a (length xs))) xs ≡ weighted f a xs
left_side-map-range f a [] = refl
left_side-map-range f a (x ∷ xs) = ap (λ z. f a *ℤ x +ℤ z) (left_side-map-range f (a + 1) xs)

-- sums of equal weights
pub weighted-same : (f g : ℕ → ℤ) (a : ℕ) (xs : List ℤ) → ((k : ℕ) → k < a + length xs → f k ≡ g k) → weighted f a xs ≡ weighted g a xs
weighted-same f g a [] h = refl
weighted-same f g a (x ∷ xs) h =
    let rest = weighted-same f g (a + 1) xs (λ k lt. h k (omega arith)) in
    ap (λ z. z *ℤ x +ℤ weighted f (a + 1) xs) (h a (omega arith)) ∙ ap (λ z. g a *ℤ x +ℤ z) rest

pub weighted-shift : (f g : ℕ → ℤ) (a : ℕ) (xs : List ℤ) → ((k : ℕ) → f (k + 1) ≡ g k) → weighted f (a + 1) xs ≡ weighted g a xs
weighted-shift f g a [] h = refl
weighted-shift f g a (x ∷ xs) h =
    ap (λ z. z *ℤ x +ℤ weighted f (a + 1 + 1) xs) (h a) ∙ ap (λ z. g a *ℤ x +ℤ z) (weighted-shift f g (a + 1) xs h)

pub weighted-zero : (f : ℕ → ℤ) (a : ℕ) (xs : List ℤ) → ((k : ℕ) → f k ≡ pos 0) → weighted f a xs ≡ pos 0
weighted-zero f a [] h = refl
weighted-zero f a (x ∷ xs) h =
    ap (λ z. z *ℤ x +ℤ weighted f (a + 1) xs) (h a) ∙ omega (arith, ints, weighted-zero f (a + 1) xs h)

pub weighted-add : (f g : ℕ → ℤ) (a : ℕ) (xs : List ℤ) → weighted (λ k. f k +ℤ g k) a xs ≡ weighted f a xs +ℤ weighted g a xs
weighted-add f g a [] = refl
weighted-add f g a (x ∷ xs) = omega (arith, ints, add-mul (f a) (g a) x, weighted-add f g (a + 1) xs)

pub weighted-mul : (m : ℤ) (f : ℕ → ℤ) (a : ℕ) (xs : List ℤ) → weighted (λ k. m *ℤ f k) a xs ≡ m *ℤ weighted f a xs
weighted-mul m f a [] = sym (*ℤ-zero m)
weighted-mul m f a (x ∷ xs) =
    omega (arith, ints, mul_assoc_ℤ m (f a) x, weighted-mul m f (a + 1) xs, mul-add m (f a *ℤ x) (weighted f (a + 1) xs))

-- a . x as a weighted sum
pub left_side-weighted : (coefs xs : List ℤ) → weighted (λ k. slice_index_or coefs k (pos 0)) 0 xs ≡ left_side coefs xs
left_side-weighted [] xs = weighted-zero (λ k. pos 0) 0 xs (λ k. refl)
left_side-weighted (a ∷ coefs) [] = refl
left_side-weighted (a ∷ coefs) (x ∷ xs) =
    ap (λ z. a *ℤ x +ℤ z)
    (weighted-shift (λ k. slice_index_or (a ∷ coefs) k (pos 0)) (λ k. slice_index_or coefs k (pos 0)) 0 xs
    (λ k. let one : k + 1 ≡ suc k = omega arith in ap (λ n. slice_index_or (a ∷ coefs) n (pos 0)) one) ∙ left_side-weighted coefs xs)

-- the coefficient of a row at an entry below the number of variables
entry_at-below : (vars : ℕ) (row : Row) (k : ℕ) → k < vars → entry_at vars row k ≡ slice_index_or row.coefs k (pos 0)
entry_at-below vars row k h = grind (arith, nat_tests)

pub entry_at-last : (vars : ℕ) (row : Row) → entry_at vars row vars ≡ row.bound
entry_at-last vars row = grind (arith, nat_tests)

-- a . x by the entries of a row
pub weighted-entries : (row : Row) (xs : List ℤ) → weighted (entry_at (length xs) row) 0 xs ≡ left_side row.coefs xs
weighted-entries row xs =
    weighted-same (entry_at (length xs) row) (λ k. slice_index_or row.coefs k (pos 0)) 0 xs
    (λ k h. entry_at-below (length xs) row k (omega arith)) ∙ left_side-weighted row.coefs xs

-- a sum of rows that hold, with multipliers of at least 0, holds
pub sum-holds : (rows : List Row) (terms : List (ℕ × ℤ)) (xs : List ℤ) → All (λ r. Holds r xs) rows → All (λ t. pos 0 ≤ℤ t.1) terms → All (λ t. (1 ≤ t.0) × (t.0 ≤ length rows)) terms → weighted (sum_at (length xs) rows terms) 0 xs ≤ℤ sum_at (length xs) rows terms (length xs)
sum-holds rows [] xs holds signs named = omega (arith, ints, weighted-zero (λ k. pos 0) 0 xs (λ k. refl))
sum-holds rows (t ∷ terms) xs holds signs named =
    let row = row_at rows t.0 in
    let at : ℕ → ℤ = entry_at (length xs) row in
    let number : (1 ≤ t.0) × (t.0 ≤ length rows) = named 0 t (omega arith) in
    let holds_here : left_side row.coefs xs ≤ℤ row.bound = holds (t.0 - 1) no_row (omega arith) in
    let here : (t.1 *ℤ left_side row.coefs xs) ≤ℤ (t.1 *ℤ row.bound) = mul_le_ℤ t.1 (left_side row.coefs xs) row.bound (signs 0 t (omega arith)) holds_here in
    let rest : weighted (sum_at (length xs) rows terms) 0 xs ≤ℤ sum_at (length xs) rows terms (length xs) =
    sum-holds rows terms xs holds (λ k d h. signs (suc k) d (omega arith)) (λ k d h. named (suc k) d (omega arith)) in
    let split = weighted-add (λ k. t.1 *ℤ at k) (sum_at (length xs) rows terms) 0 xs in
    let scaled = weighted-mul t.1 at 0 xs ∙ ap (λ z. t.1 *ℤ z) (weighted-entries row xs) in
    let bound = ap (λ z. t.1 *ℤ z) (entry_at-last (length xs) row) in
    omega (arith, ints, here, rest, split, scaled, bound)

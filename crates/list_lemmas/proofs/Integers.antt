-- Sums and products of whole numbers.
use Rattle.std.proofs.Common.{◌≡◌, ◌+◌, ◌*◌, ◌≤◌, ℤ, pos, negsuc, ◌+ℤ◌, ◌*ℤ◌, unsigned_abs, ap, ◌∙◌, arith}
use Rattle.std.proofs.Math.IntN.{*ℤ_comm}
use Rattle.std.proofs.lemmas.Int.{ints}
use borrow.Author.Differences.{up, down, product_is, sum_is_lem}

-- a sum is at most as large as its parts together
pub size_sum : (a b : ℤ) → unsigned_abs (a +ℤ b) ≤ unsigned_abs a + unsigned_abs b
size_sum (pos a) (pos b) = omega (arith, ints)
size_sum (pos a) (negsuc b) = omega (arith, ints)
size_sum (negsuc a) (pos b) = omega (arith, ints)
size_sum (negsuc a) (negsuc b) = omega (arith, ints)

-- a product of a sum is the sum of the products
pub add-mul : (a b c : ℤ) → (a +ℤ b) *ℤ c ≡ a *ℤ c +ℤ b *ℤ c
add-mul a b c =
    let e : up (a +ℤ b) * up c + down a * up c + down b * up c ≡ down (a +ℤ b) * up c + up a * up c + up b * up c = omega (arith, ap (λ n. n * up c) (sum_is_lem a b)) in
    let f : up (a +ℤ b) * down c + down a * down c + down b * down c ≡ down (a +ℤ b) * down c + up a * down c + up b * down c = omega (arith, ap (λ n. n * down c) (sum_is_lem a b)) in
    omega (arith, ints)

-- and so where the sum stands behind
pub mul-add : (a b c : ℤ) → a *ℤ (b +ℤ c) ≡ a *ℤ b +ℤ a *ℤ c
mul-add a b c = *ℤ_comm a (b +ℤ c) ∙ add-mul b c a ∙ omega (arith, ints, *ℤ_comm a b, *ℤ_comm a c)

-- how products are put together is free
pub mul_assoc_ℤ : (a b c : ℤ) → a *ℤ b *ℤ c ≡ a *ℤ (b *ℤ c)
mul_assoc_ℤ a b c =
    omega (arith, ints, ap (λ n. n * up c) (product_is a b).0, ap (λ n. n * up c) (product_is a b).1, ap (λ n. n * down c) (product_is a b).0, ap (λ n. n * down c) (product_is a b).1, ap (λ n. up a * n) (product_is b c).0, ap (λ n. up a * n) (product_is b c).1, ap (λ n. down a * n) (product_is b c).0, ap (λ n. down a * n) (product_is b c).1)

-- What rows sum to at given values.
use Rattle.std.proofs.Common.{◌≡◌, ℕ, zero, suc, ◌%◌, ◌<◌, ℤ, pos, negsuc, ◌+ℤ◌, ◌*ℤ◌, ◌≤ℤ◌, neg_ℤ, int_div, int_rem, unsigned_abs, List, [], ◌∷◌, map, length, get_or, refl, ap, sym, ◌∙◌, arith}
use Rattle.std.specs.Int.{int_div_euclid, ◌∣◌}
use Rattle.std.specs.List.{All}
use Rattle.std.proofs.lemmas.Int.{ints, quot-rem}
use Rattle.std.proofs.lemmas.List.{length-map}
use Rattle.std.proofs.lemmas.Nat.Gcd.{mod-eq-zero_of_dvd}
use Rattle.std.proofs.lemmas.List.Elements.{All-head, All-tail}
use Rattle.std.proofs.Math.IntN.{*ℤ_comm, *ℤ-zero, zero-*ℤ}
use Rattle.list_lemmas.proofs.Integers.{add-mul, mul-add, mul_assoc_ℤ}
use Rattle.farkas_cert.specs.Inequalities.{left_side as dot}
use Rattle.elim_rows.specs.Reduction.{DividesEach}
use Rattle.elim_rows.specs.Pairs.{combined}
use Rattle.fm_elim.proofs.Integers.{mul_swap}

-- all values times q, and t added to the one at place k
abbrev pub moved : ℤ → ℤ → ℕ → List ℤ → List ℤ
moved q t k [] = []
moved q t zero (x ∷ xs) = (q *ℤ x +ℤ t) ∷ map (λ y. q *ℤ y) xs
moved q t (suc k) (x ∷ xs) = (q *ℤ x) ∷ moved q t k xs

pub length-moved : (q t : ℤ) (k : ℕ) (xs : List ℤ) → length (moved q t k xs) ≡ length xs
length-moved q t k [] = refl
length-moved q t zero (x ∷ xs) = ap suc (length-map xs (λ y. q *ℤ y))
length-moved q t (suc k) (x ∷ xs) = ap suc (length-moved q t k xs)

dot-scaled : (q : ℤ) (coefs xs : List ℤ) → dot coefs (map (λ y. q *ℤ y) xs) ≡ q *ℤ dot coefs xs
dot-scaled q [] xs = sym (*ℤ-zero q)
dot-scaled q (a ∷ coefs) [] = sym (*ℤ-zero q)
dot-scaled q (a ∷ coefs) (x ∷ xs) = omega (arith, ints, mul_swap a q x, dot-scaled q coefs xs, mul-add q (a *ℤ x) (dot coefs xs))

pub dot-moved : (q t : ℤ) (k : ℕ) (coefs xs : List ℤ) → k < length coefs → length xs ≡ length coefs → dot coefs (moved q t k xs) ≡ q *ℤ dot coefs xs +ℤ get_or coefs k (pos 0) *ℤ t
dot-moved q t k [] xs h same = absurd (omega arith)
dot-moved q t k (a ∷ coefs) [] h same = absurd (omega arith)
dot-moved q t zero (a ∷ coefs) (x ∷ xs) h same =
    omega (arith, ints, mul-add a (q *ℤ x) t, mul_swap a q x, dot-scaled q coefs xs, mul-add q (a *ℤ x) (dot coefs xs))
dot-moved q t (suc k) (a ∷ coefs) (x ∷ xs) h same =
    omega (arith, ints, mul_swap a q x, dot-moved q t k coefs xs (omega arith) (omega arith), mul-add q (a *ℤ x) (dot coefs xs))

pub dot-combined : (m n : ℤ) (us ls xs : List ℤ) → length ls ≡ length us → dot (combined m us n ls) xs ≡ m *ℤ dot us xs +ℤ n *ℤ dot ls xs
dot-combined m n [] [] xs same = omega (arith, ints, *ℤ-zero m, *ℤ-zero n)
dot-combined m n [] (l ∷ ls) xs same = absurd (omega arith)
dot-combined m n (u ∷ us) [] xs same = absurd (omega arith)
dot-combined m n (u ∷ us) (l ∷ ls) [] same = omega (arith, ints, *ℤ-zero m, *ℤ-zero n)
dot-combined m n (u ∷ us) (l ∷ ls) (x ∷ xs) same =
    let rest = dot-combined m n us ls xs (omega arith) in
    omega (arith, ints, rest, add-mul (m *ℤ u) (n *ℤ l) x, mul_assoc_ℤ m u x, mul_assoc_ℤ n l x, mul-add m (u *ℤ x) (dot us xs), mul-add n (l *ℤ x) (dot ls xs))

-- zero coefficients sum to 0
pub dot-zero : (coefs xs : List ℤ) → All (λ a. a ≡ pos 0) coefs → dot coefs xs ≡ pos 0
dot-zero [] xs h = refl
dot-zero (a ∷ coefs) [] h = refl
dot-zero (a ∷ coefs) (x ∷ xs) h =
    let none = ap (λ z. z *ℤ x) (All-head (λ a. a ≡ pos 0) a coefs h) ∙ zero-*ℤ x in
    omega (arith, ints, none, dot-zero coefs xs (All-tail (λ a. a ≡ pos 0) a coefs h))

-- a divisor of a number's size gives the number back
pub exact : (g : ℕ) (a : ℤ) → 0 < g → g ∣ unsigned_abs a → pos g *ℤ int_div a (pos g) ≡ a
exact g a h d = omega (arith, ints, quot-rem a (pos g), *ℤ_comm (pos g) (int_div a (pos g)), rest a (mod-eq-zero_of_dvd g d))
  where
    rest : (z : ℤ) → unsigned_abs z % g ≡ 0 → int_rem z (pos g) ≡ pos 0
    rest (pos n) e = ap pos e
    rest (negsuc n) e = ap (λ m. neg_ℤ (pos m)) e

pub dot-quotients : (g : ℕ) (coefs xs : List ℤ) → 0 < g → DividesEach g coefs → pos g *ℤ dot (map (λ a. int_div a (pos g)) coefs) xs ≡ dot coefs xs
dot-quotients g [] xs h each = *ℤ-zero (pos g)
dot-quotients g (a ∷ coefs) [] h each = *ℤ-zero (pos g)
dot-quotients g (a ∷ coefs) (x ∷ xs) h each =
    let first = exact g a h (All-head (λ a. g ∣ unsigned_abs a) a coefs each) in
    let rest = dot-quotients g coefs xs h (All-tail (λ a. g ∣ unsigned_abs a) a coefs each) in
    let here = sym (mul_assoc_ℤ (pos g) (int_div a (pos g)) x) ∙ ap (λ z. z *ℤ x) first in
    omega (arith, ints, rest, here, mul-add (pos g) (int_div a (pos g) *ℤ x) (dot (map (λ b. int_div b (pos g)) coefs) xs))

-- the rounded quotient, multiplied back, is at most the number
pub floor_le : (g : ℕ) (b : ℤ) → 0 < g → (pos g *ℤ int_div_euclid b (pos g)) ≤ℤ b
floor_le g (pos b) h = omega (arith, ints)
floor_le g (negsuc b) h = omega (arith, ints)

-- Greatest common divisors, of two numbers and of a list.
use Rattle.std.proofs.Common.{◌≡◌, ℕ, suc, ◌+◌, ◌/◌, ◌^◌, ◌≤◌, ◌<◌, ℤ, pos, negsuc, neg_ℤ, unsigned_abs, IsTrue, int_div, map, List, [], ◌∷◌, length, get_or, take, refl, ap, sym, ◌∙◌, subst, arith}
use Rattle.std.specs.Int.{IsGcd, int_div_euclid, ◌∣◌}
use Rattle.std.specs.List.{All}
use Rattle.std.proofs.Math.Nat.{one-dvd}
use Rattle.std.proofs.lemmas.Bool.Decides.{nat_tests}
use Rattle.std.proofs.lemmas.Nat.Gcd.{dvd-zero, dvd_trans}
use Rattle.std.proofs.lemmas.List.{get_or-take, length-take, take_all}
use Rattle.std.proofs.lemmas.List.Elements.{All-more, All-weaker, All-take}
use Rattle.farkas_cert.specs.declared.system.Row.{Row}
use Rattle.farkas_cert.specs.Combination.{is_narrow}
use Rattle.elim_rows.specs.Reduction.{IsCommonDivisor, divided}

-- what holds of each of the first i + 1 elements
All-first : {X : Type 0} (P : X → Type 0) (xs : List X) (i : ℕ) → All P (take (i + 1) xs) → All P (take i xs)
All-first P xs i all k d h =
    let same : get_or (take (i + 1) xs) k d ≡ get_or (take i xs) k d = get_or-take (i + 1) xs k d (omega (arith, length-take i xs)) ∙ sym (get_or-take i xs k d (omega (arith, length-take i xs))) in
    subst P same (all k d (omega (arith, h, length-take i xs, length-take (i + 1) xs)))

All-last : {X : Type 0} (P : X → Type 0) (xs : List X) (i : ℕ) (d : X) → i < length xs → All P (take (i + 1) xs) → P (get_or xs i d)
All-last P xs i d within all = subst P (get_or-take (i + 1) xs i d (omega arith)) (all i d (omega (arith, length-take (i + 1) xs)))

-- no number yet: the divisor is 0
pub IsCommonDivisor-nil : IsCommonDivisor [] 0
IsCommonDivisor-nil = (λ k d h. absurd (omega arith), λ d h. dvd-zero d)

-- one number more
pub IsCommonDivisor-more : (coefs : List ℤ) (i : ℕ) (d : ℤ) (g h : ℕ) → i < length coefs → IsCommonDivisor (take i coefs) g → IsGcd (unsigned_abs (get_or coefs i d)) g h → IsCommonDivisor (take (i + 1) coefs) h
IsCommonDivisor-more coefs i d g h within common gcd = (
  All-more (λ a. h ∣ unsigned_abs a) coefs i d within (All-weaker (λ a. g ∣ unsigned_abs a) (λ a. h ∣ unsigned_abs a) (λ a e. dvd_trans h gcd.1 e) (take i coefs) common.0) gcd.0,
  λ e each. gcd.2 e (All-last (λ a. e ∣ unsigned_abs a) coefs i d within each) (common.1 e (All-first (λ a. e ∣ unsigned_abs a) coefs i each)),
)

-- where the first numbers have no common divisor but 1, all have none
pub IsCommonDivisor-one : (coefs : List ℤ) (n : ℕ) → IsCommonDivisor (take n coefs) 1 → IsCommonDivisor coefs 1
IsCommonDivisor-one coefs n common =
    (λ k d h. one-dvd (unsigned_abs (get_or coefs k d)), λ d each. common.1 d (All-take (λ a. d ∣ unsigned_abs a) n coefs each))

pub IsCommonDivisor-whole : (coefs : List ℤ) (n g : ℕ) → n ≡ length coefs → IsCommonDivisor (take n coefs) g → IsCommonDivisor coefs g
IsCommonDivisor-whole coefs n g all common = subst (λ xs. IsCommonDivisor xs g) (take_all n coefs (omega arith)) common

-- division by 1 changes nothing
int_div-one : (a : ℤ) → int_div a (pos 1) ≡ a
int_div-one (pos n) = ap pos (omega arith)
int_div-one (negsuc n) = let e : suc n / 1 ≡ suc n = omega arith in ap (λ m. neg_ℤ (pos m)) e

int_div_euclid-one : (a : ℤ) → int_div_euclid a (pos 1) ≡ a
int_div_euclid-one (pos n) = ap pos (omega arith)
int_div_euclid-one (negsuc n) = ap negsuc (omega arith)

map-int_div-one : (xs : List ℤ) → map (λ a. int_div a (pos 1)) xs ≡ xs
map-int_div-one [] = refl
map-int_div-one (x ∷ xs) = ap (λ y. y ∷ map (λ a. int_div a (pos 1)) xs) (int_div-one x) ∙ ap (λ ys. x ∷ ys) (map-int_div-one xs)

pub divided-one : (row : Row) → divided 1 row ≡ row
divided-one row = ap (λ xs. record { coefs = xs; bound = int_div_euclid row.bound (pos 1) }) (map-int_div-one row.coefs) ∙ ap (λ b. record { coefs = row.coefs; bound = b }) (int_div_euclid-one row.bound)

pub le_from_narrow : (z : ℤ) → IsTrue (is_narrow z) → unsigned_abs z ≤ 2 ^ 126
le_from_narrow z h = grind (arith, nat_tests)

pub narrow_from_le : (z : ℤ) → unsigned_abs z ≤ 2 ^ 126 → IsTrue (is_narrow z)
narrow_from_le z h = grind (arith, nat_tests)

-- Reduced rows are in their lowest terms, and stay narrow.
use Rattle.std.proofs.Common.{◌≡◌, ℕ, zero, suc, ◌*◌, ◌/◌, ◌≤◌, ◌<◌, max, ℤ, pos, negsuc, neg_ℤ, ◌+ℤ◌, ◌*ℤ◌, int_div, unsigned_abs, Bool, true, false, ◌&&◌, IsTrue, List, [], ◌∷◌, map, length, get_or, refl, ap, sym, ◌∙◌, subst, arith}
use Rattle.std.specs.Int.{int_div_euclid, ◌∣◌}
use Rattle.std.specs.List.{All}
use Rattle.std.proofs.Math.Nat.{dvd_of_mul-dvd-mul_right, mul-dvd-mul_right, one-dvd, div-le_self, mul-div_cancel'}
use Rattle.std.proofs.lemmas.List.{length-map, get_or_default}
use Rattle.std.proofs.lemmas.List.Elements.{All-head, All-tail, All-cons, All-nil, All-map}
use Rattle.farkas_cert.specs.declared.system.Row.{Row}
use Rattle.farkas_cert.specs.Combination.{entry_at, is_narrow, stays_narrow}
use Rattle.elim_rows.specs.Reduction.{DividesEach, IsCommonDivisor, IsReducedBy, IsReduced, divided}
use Rattle.elim_rows.specs.Pairs.{combined, combination, IsNarrow}
use Rattle.elim_level.specs.Logs.{IsSuited}
use Rattle.elim_rows.proofs.Divisors.{divided-one, le_from_narrow, narrow_from_le}
use Rattle.farkas_cert.proofs.Sums.{entry_at-last}
use Rattle.elim_rows.proofs.Combined.{both_narrow, entry_at-coef}
use Rattle.elim_level.proofs.Steps.{length-combined, entry-combination}

-- the size of a quotient that is exact
size-quotient : (a : ℤ) (g : ℕ) → unsigned_abs (int_div a (pos g)) ≡ unsigned_abs a / g
size-quotient (pos n) g = refl
size-quotient (negsuc n) g = size-neg (suc n / g)
  where
    size-neg : (m : ℕ) → unsigned_abs (neg_ℤ (pos m)) ≡ m
    size-neg zero = refl
    size-neg (suc m) = refl

-- what divides all quotients, times the divisor, divides all numbers
divides_back : (d g : ℕ) (coefs : List ℤ) → DividesEach g coefs → DividesEach d (map (λ a. int_div a (pos g)) coefs) → DividesEach (d * g) coefs
divides_back d g [] each parts = All-nil (λ a. d * g ∣ unsigned_abs a)
divides_back d g (a ∷ coefs) each parts =
    let here : d ∣ unsigned_abs a / g = subst (λ n. d ∣ n) (size-quotient a g) (All-head (λ b. d ∣ unsigned_abs b) (int_div a (pos g)) (map (λ b. int_div b (pos g)) coefs) parts) in
    let whole : g * (unsigned_abs a / g) ≡ unsigned_abs a = mul-div_cancel' g (All-head (λ b. g ∣ unsigned_abs b) a coefs each) in
    let same : unsigned_abs a / g * g ≡ unsigned_abs a = omega (arith, whole) in
    All-cons (λ b. d * g ∣ unsigned_abs b) a coefs (subst (λ n. d * g ∣ n) same (mul-dvd-mul_right d here g))
    (divides_back d g coefs (All-tail (λ b. g ∣ unsigned_abs b) a coefs each) (All-tail (λ b. d ∣ unsigned_abs b) (int_div a (pos g)) (map (λ b. int_div b (pos g)) coefs) parts))

-- division by a greatest common divisor leaves none but 1
common_after : (g : ℕ) (coefs : List ℤ) → 0 < g → IsCommonDivisor coefs g → IsCommonDivisor (map (λ a. int_div a (pos g)) coefs) 1
common_after g coefs positive common = (
  λ k d h. one-dvd (unsigned_abs (get_or (map (λ a. int_div a (pos g)) coefs) k d)),
  λ d each. let more : d * g ∣ 1 * g = subst (λ n. d * g ∣ n) (omega arith) (common.1 (d * g) (divides_back d g coefs common.0 each)) in
      dvd_of_mul-dvd-mul_right d positive more,
)

-- where the greatest common divisor is 0, the quotients by 1 have it too
common_zero : (coefs : List ℤ) → IsCommonDivisor coefs 0 → IsCommonDivisor (divided 1 (record { coefs = coefs; bound = pos 0 })).coefs 0
common_zero coefs common = subst (λ r. IsCommonDivisor r.coefs 0) (sym (divided-one (record { coefs = coefs; bound = pos 0 }))) common

-- a reduced row is its own reduction
pub IsReduced-lowest : (raw row : Row) → IsReduced raw row → IsReduced row row
IsReduced-lowest raw row reduced = cases reduced.0 reduced.1.0 reduced.1.1
  where
    cases : (g : ℕ) → IsCommonDivisor raw.coefs g → row ≡ divided (max g 1) raw → IsReduced row row
    cases zero common e =
        let same : row ≡ raw = e ∙ ap (λ n. divided n raw) (omega arith) ∙ divided-one raw in
        (0, (subst (λ r. IsCommonDivisor r.coefs 0) (sym same) common, sym (divided-one row)))
    cases (suc g) common e =
        let big : max (suc g) 1 ≡ suc g = omega arith in
        let coefs : row.coefs ≡ map (λ a. int_div a (pos (suc g))) raw.coefs = ap (λ r. r.coefs) e ∙ ap (λ n. map (λ a. int_div a (pos n)) raw.coefs) big in
        (1, (subst (λ xs. IsCommonDivisor xs 1) (sym coefs) (common_after (suc g) raw.coefs (omega arith) common), sym (divided-one row)))

quotient_narrow : (a : ℤ) (g : ℕ) → IsTrue (is_narrow a) → IsTrue (is_narrow (int_div a (pos g)))
quotient_narrow a g h = narrow_from_le (int_div a (pos g)) (omega (arith, size-quotient a g, div-le_self (unsigned_abs a) g, le_from_narrow a h))

floor_narrow : (a : ℤ) (g : ℕ) → IsTrue (is_narrow a) → IsTrue (is_narrow (int_div_euclid a (pos g)))
floor_narrow (pos n) g h = narrow_from_le (pos (n / g)) (omega (arith, div-le_self n g, le_from_narrow (pos n) h))
floor_narrow (negsuc n) g h = narrow_from_le (negsuc (n / g)) (omega (arith, div-le_self n g, le_from_narrow (negsuc n) h))

-- a suited row stays so when it is divided
pub IsSuited-divided : (vars g : ℕ) (row : Row) → IsSuited vars row → IsSuited vars (divided g row)
IsSuited-divided vars g row suited = record {
  full = length-map row.coefs (λ a. int_div a (pos g)) ∙ suited.full;
  coefs = All-map (λ a. IsTrue (is_narrow a)) (λ a. int_div a (pos g)) row.coefs (λ k d h. quotient_narrow (get_or row.coefs k d) g (suited.coefs k d h));
  bound = floor_narrow row.bound g suited.bound;
}

-- a combination that is nowhere wide is suited
sum_narrow : (p q : ℤ) → IsTrue (stays_narrow (pos 0) (p ∷ q ∷ [])) → IsTrue (is_narrow (p +ℤ q))
sum_narrow p q h = last (is_narrow p) (is_narrow q) (is_narrow (p +ℤ q)) (subst IsTrue (both_narrow p q) h)
  where
    last : (a b c : Bool) → IsTrue (a && b && c) → IsTrue c
    last true true c t = t
    last true false c t = cc
    last false b c t = cc

pub IsSuited-combination : (vars : ℕ) (m n : ℤ) (upper lower : Row) → length upper.coefs ≡ vars → length lower.coefs ≡ vars → IsNarrow vars m upper n lower → IsSuited vars (combination m upper n lower)
IsSuited-combination vars m n upper lower hu hl narrow =
    let long : length (combined m upper.coefs n lower.coefs) ≡ vars = length-combined m n upper.coefs lower.coefs (hl ∙ sym hu) ∙ hu in
    let at : (k : ℕ) → k ≤ vars → IsTrue (is_narrow (entry_at vars (combination m upper n lower) k)) =
    λ k h. subst (λ z. IsTrue (is_narrow z)) (sym (entry-combination vars m n upper lower k hu hl h)) (sum_narrow (m *ℤ entry_at vars upper k) (n *ℤ entry_at vars lower k) (narrow k h)) in
    record {
      full = long;
      coefs = λ k d h.
          let within : k < vars = omega (arith, h, long) in
          subst (λ z. IsTrue (is_narrow z)) (entry_at-coef vars (combination m upper n lower) k within ∙ get_or_default (combined m upper.coefs n lower.coefs) k (pos 0) d h) (at k (omega arith));
      bound = subst (λ z. IsTrue (is_narrow z)) (entry_at-last vars (combination m upper n lower)) (at vars (omega arith));
    }

-- and so is what it is reduced to
pub IsSuited-reduced : (vars g : ℕ) (raw row : Row) → IsSuited vars raw → IsReducedBy g raw row → IsSuited vars row
IsSuited-reduced vars g raw row suited reduced = subst (IsSuited vars) (sym reduced.1) (IsSuited-divided vars (max g 1) raw suited)

-- its coefficients stay narrow
pub narrow_reduced : (g : ℕ) (raw row : Row) → All (λ a. IsTrue (is_narrow a)) raw.coefs → IsReducedBy g raw row → All (λ a. IsTrue (is_narrow a)) row.coefs
narrow_reduced g raw row narrow reduced = subst (λ r. All (λ a. IsTrue (is_narrow a)) r.coefs) (sym reduced.1) (All-map (λ a. IsTrue (is_narrow a)) (λ a. int_div a (pos (max g 1))) raw.coefs (λ k d h. quotient_narrow (get_or raw.coefs k d) (max g 1) (narrow k d h)))

-- Pairs and their multipliers, and sizes that show that a pair is nowhere wide.
use Rattle.std.proofs.Common.{◌≡◌, ℕ, ◌*◌, ◌/◌, ◌+◌, ◌≤◌, ◌^◌, ℤ, pos, ◌+ℤ◌, ◌*ℤ◌, ◌<ℤ◌, unsigned_abs, nat_le, Bool, true, false, IsTrue, [], ◌∷◌, length, get_or, ap, sym, ◌∙◌, subst, arith}
use Rattle.std.specs.Int.{IsGcd}
use Rattle.std.specs.Bool.{MatchBool}
use Rattle.std.proofs.Math.Nat.{mul-le-mul, le_trans}
use Rattle.std.proofs.lemmas.Int.{unsigned_abs-mul}
use Rattle.std.proofs.lemmas.Bool.Decides.{nat_tests}
use Rattle.std.proofs.lemmas.List.{get_or_past}
use Rattle.list_lemmas.proofs.Integers.{size_sum}
use Rattle.farkas_cert.specs.declared.system.Row.{Row}
use Rattle.farkas_cert.specs.Combination.{entry_at, is_narrow, stays_narrow}
use Rattle.elim_rows.specs.Pairs.{coef_of, IsPair, IsWide, IsNarrow}
use Rattle.elim_level.specs.Gathering.{IsWithin, IsNarrowPair, IsTooWide}
use Rattle.elim_rows.proofs.Divisors.{narrow_from_le}
use Rattle.farkas_cert.proofs.Sums.{entry_at-last}
use Rattle.elim_rows.proofs.Combined.{all_three, both_narrow, entry_at-coef, by_lt, quotient_le}
use Rattle.elim_level.proofs.Unique.{IsPair-unique}

-- the pair of the least multipliers
pub pair_from : (v : ℕ) (upper lower : Row) (a b m n : ℤ) → a ≡ coef_of v upper → b ≡ coef_of v lower → pos 0 <ℤ coef_of v upper → coef_of v lower <ℤ pos 0 → (g : ℕ) × IsGcd (unsigned_abs a) (unsigned_abs b) g × (m ≡ pos (unsigned_abs b / g)) × (n ≡ pos (unsigned_abs a / g)) → IsPair v upper lower m n
pair_from v upper lower a b m n ea eb above below h = record {
  above = above;
  below = below;
  divisor = h.0;
  common = subst (λ z. IsGcd (unsigned_abs z) (unsigned_abs (coef_of v lower)) h.0) ea (subst (λ z. IsGcd (unsigned_abs a) (unsigned_abs z) h.0) eb h.1);
  upper_times = h.2 ∙ ap (λ z. pos (unsigned_abs z / h.0)) eb;
  lower_times = h.3 ∙ ap (λ z. pos (unsigned_abs z / h.0)) ea;
}

pub narrow_pair_from : (v : ℕ) (upper lower : Row) (m n : ℤ) → IsPair v upper lower m n → IsNarrow (length upper.coefs) m upper n lower → IsNarrowPair v upper lower
narrow_pair_from v upper lower m n pair narrow = record {
  narrow = λ p q other.
      let same = IsPair-unique v upper lower m n p q pair other in
      subst (λ z. IsNarrow (length upper.coefs) p upper z lower) same.1 (subst (λ z. IsNarrow (length upper.coefs) z upper n lower) same.0 narrow);
}

pub pair_answer : (v : ℕ) (upper lower : Row) (m n : ℤ) (b : Bool) → IsPair v upper lower m n → MatchBool b (IsNarrow (length upper.coefs) m upper n lower) (IsWide (length upper.coefs) m upper n lower) → MatchBool b (IsNarrowPair v upper lower) (IsTooWide v upper lower)
pair_answer v upper lower m n true pair h = narrow_pair_from v upper lower m n pair h
pair_answer v upper lower m n false pair h = (m, n, pair, h)

-- the entries of a row within a size
entry_within : (vars size : ℕ) (row : Row) (k : ℕ) → IsWithin size row → k ≤ vars → unsigned_abs (entry_at vars row k) ≤ size
entry_within vars size row k within h =
    by_lt {P = unsigned_abs (entry_at vars row k) ≤ size} k vars
    (λ lt. subst (λ z. unsigned_abs z ≤ size) (sym (entry_at-coef vars row k lt))
    (by_lt {P = unsigned_abs (get_or row.coefs k (pos 0)) ≤ size} k (length row.coefs) (λ there. within.coefs k (pos 0) there) (λ past. subst (λ z. unsigned_abs z ≤ size) (sym (get_or_past row.coefs k (pos 0) past)) (omega arith))))
    (λ ge. let e : vars ≡ k = omega arith in subst (λ i. unsigned_abs (entry_at vars row i) ≤ size) e (subst (λ z. unsigned_abs z ≤ size) (sym (entry_at-last vars row)) within.bound))

-- two products of at most 2 ^ 125
half_products : (p q : ℤ) → unsigned_abs p ≤ 2 ^ 125 → unsigned_abs q ≤ 2 ^ 125 → IsTrue (stays_narrow (pos 0) (p ∷ q ∷ []))
half_products p q hp hq =
    subst IsTrue (sym (both_narrow p q)) (all_three (is_narrow p) (is_narrow q) (is_narrow (p +ℤ q)) (narrow_from_le p (omega (arith, hp))) (narrow_from_le q (omega (arith, hq))) (narrow_from_le (p +ℤ q) (omega (arith, size_sum p q, hp, hq))))

-- a product of sizes within a bound
product_within : (m e : ℤ) (a b : ℕ) → unsigned_abs m ≤ a → unsigned_abs e ≤ b → a * b ≤ 2 ^ 125 → unsigned_abs (m *ℤ e) ≤ 2 ^ 125
product_within m e a b hm he h = le_trans (subst (λ n. n ≤ a * b) (sym (unsigned_abs-mul m e)) (mul-le-mul hm he)) h

-- small multipliers and small entries
pub small_pair : (v coef entry own : ℕ) (upper lower : Row) → IsWithin own upper → coef * own ≤ 2 ^ 125 → unsigned_abs (coef_of v upper) * entry ≤ 2 ^ 125 → IsWithin entry lower → unsigned_abs (coef_of v lower) ≤ coef → IsNarrowPair v upper lower
small_pair v coef entry own upper lower hu first second hl low = record {
  narrow = λ m n pair k h.
      let vars = length upper.coefs in
      let size_m : unsigned_abs m ≤ coef = le_trans (subst (λ z. unsigned_abs z ≤ unsigned_abs (coef_of v lower)) (sym pair.upper_times) (quotient_le (unsigned_abs (coef_of v lower)) pair.divisor)) low in
      let size_n : unsigned_abs n ≤ unsigned_abs (coef_of v upper) = subst (λ z. unsigned_abs z ≤ unsigned_abs (coef_of v upper)) (sym pair.lower_times) (quotient_le (unsigned_abs (coef_of v upper)) pair.divisor) in
      half_products (m *ℤ entry_at vars upper k) (n *ℤ entry_at vars lower k)
      (product_within m (entry_at vars upper k) coef own size_m (entry_within vars own upper k hu h) first)
      (product_within n (entry_at vars lower k) (unsigned_abs (coef_of v upper)) entry size_n (entry_within vars entry lower k hl h) second);
}

pub le_from_test : (a b : ℕ) → nat_le a b ≡ true → a ≤ b
le_from_test a b h = grind (arith, nat_tests)

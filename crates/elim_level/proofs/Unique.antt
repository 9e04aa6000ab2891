-- There is one reduced form of a row, and one pair of least multipliers.
use Rattle.std.proofs.Common.{◌≡◌, ℕ, ◌/◌, max, ℤ, pos, unsigned_abs, ap, sym, ◌∙◌}
use Rattle.std.proofs.lemmas.Nat.Gcd.{dvd_antisymm, same_from_IsGcd}
use Rattle.farkas_cert.specs.declared.system.Row.{Row}
use Rattle.elim_rows.specs.Reduction.{IsReduced, divided}
use Rattle.elim_rows.specs.Pairs.{coef_of, IsPair}

-- there is one reduced form
pub IsReduced-unique : (raw r s : Row) → IsReduced raw r → IsReduced raw s → r ≡ s
IsReduced-unique raw r s a b =
    let same : a.0 ≡ b.0 = dvd_antisymm (b.1.0.1 a.0 a.1.0.0) (a.1.0.1 b.0 b.1.0.0) in
    a.1.1 ∙ ap (λ g. divided (max g 1) raw) same ∙ sym b.1.1

-- a pair has one pair of least multipliers
pub IsPair-unique : (v : ℕ) (upper lower : Row) (m n p q : ℤ) → IsPair v upper lower m n → IsPair v upper lower p q → (m ≡ p) × (n ≡ q)
IsPair-unique v upper lower m n p q a b =
    let same : a.divisor ≡ b.divisor = same_from_IsGcd (unsigned_abs (coef_of v upper)) (unsigned_abs (coef_of v lower)) a.divisor b.divisor a.common b.common in
    (a.upper_times ∙ ap (λ g. pos (unsigned_abs (coef_of v lower) / g)) same ∙ sym b.upper_times, a.lower_times ∙ ap (λ g. pos (unsigned_abs (coef_of v upper) / g)) same ∙ sym b.lower_times)

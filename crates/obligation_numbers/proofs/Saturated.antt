-- Products that stand for what is past 64 bits.
use Rattle.std.proofs.Common.{◌≡◌, ℕ, zero, suc, ◌+◌, ◌-◌, ◌*◌, ◌≤◌, ◌^◌, ap, sym, ◌∙◌, inl, inr, arith}
use Rattle.std.specs.Io.Iter.{u64_saturate}
use Rattle.std.proofs.Math.Nat.{mul-suc, mul-zero}
use Rattle.std.proofs.lemmas.Bool.{cases_lt}

full : (x m p : ℕ) → p ≡ x + m → 2 ^ 64 ≤ suc m → u64_saturate p ≡ 2 ^ 64 - 1
full x m p is past = omega (arith, is, past)

pub product_saturated : (n k : ℕ) → u64_saturate (u64_saturate n * k) ≡ u64_saturate (n * k)
product_saturated n zero = ap u64_saturate (mul-zero (u64_saturate n) ∙ sym (mul-zero n))
product_saturated n (suc k) = elim (cases_lt n (2 ^ 64)) [
  | inl fits ↦ let same : u64_saturate n ≡ n = omega (arith, fits) in ap (λ m. u64_saturate (m * suc k)) same
  | inr past ↦ full (u64_saturate n * k) (u64_saturate n) (u64_saturate n * suc k) (mul-suc (u64_saturate n) k) (omega (arith, past)) ∙ sym (full (n * k) n (n * suc k) (mul-suc n k) (omega (arith, past)))
]

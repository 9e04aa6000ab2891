-- Products and quotients of whole numbers.
use Rattle.std.proofs.Common.{◌≡◌, ℤ, pos, ◌+ℤ◌, ◌*ℤ◌, ◌≤ℤ◌, ◌<ℤ◌, neg_ℤ, ap, sym, ◌∙◌, arith}
use Rattle.std.proofs.Math.IntN.{*ℤ_comm, *ℤ-zero, +ℤ_invr}
use Rattle.std.proofs.lemmas.Int.{ints, by_lt_z}
use Rattle.list_lemmas.proofs.Integers.{mul-add, mul_assoc_ℤ}
use Rattle.farkas_cert.proofs.Integers.{mul_le_ℤ}

pub mul_swap : (a b c : ℤ) → a *ℤ (b *ℤ c) ≡ b *ℤ (a *ℤ c)
mul_swap a b c = sym (mul_assoc_ℤ a b c) ∙ ap (λ z. z *ℤ c) (*ℤ_comm a b) ∙ mul_assoc_ℤ b a c

-- a multiplier above 0 can be cancelled
pub mul_le_cancel : (m a b : ℤ) → pos 0 <ℤ m → (m *ℤ a) ≤ℤ (m *ℤ b) → a ≤ℤ b
mul_le_cancel m a b h k =
    by_lt_z {P = a ≤ℤ b} b a (λ lt.
    let more : (b +ℤ pos 1) ≤ℤ a = omega (arith, ints) in
    let one : m *ℤ pos 1 ≡ m = omega (arith, ints) in
    let scaled : (m *ℤ (b +ℤ pos 1)) ≤ℤ (m *ℤ a) = mul_le_ℤ m (b +ℤ pos 1) a (omega (arith, ints)) more in
    absurd (omega (arith, ints, scaled, mul-add m b (pos 1), one, k, h))) (λ le. le)

pub mul-neg : (a b : ℤ) → a *ℤ neg_ℤ b ≡ neg_ℤ (a *ℤ b)
mul-neg a b =
    let e : a *ℤ (b +ℤ neg_ℤ b) ≡ pos 0 = ap (λ z. a *ℤ z) (+ℤ_invr b) ∙ *ℤ-zero a in
    omega (arith, ints, e, mul-add a b (neg_ℤ b))

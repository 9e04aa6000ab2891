-- Sums over the processors.
use Rattle.std.proofs.Common.{◌≡◌, ◌≢◌, ℕ, zero, suc, ◌+◌, ◌-◌, ◌*◌, ◌<◌, ◌≤◌, refl, ap, inl, inr, arith}
use Rattle.std.proofs.lemmas.Bool.{cases_eq}
use Rattle.shared_words.specs.Places.{total}

pub total_same : (f g : ℕ → ℕ) (n : ℕ) → ((q : ℕ) → q < n → g q ≡ f q) → total g n ≡ total f n
total_same f g zero same = refl
total_same f g (suc n) same = let rest : total g n ≡ total f n = total_same f g n (λ q lt. same q (omega arith)) in let last : g n ≡ f n = same n (omega arith) in omega arith

pub total_put : (f g : ℕ → ℕ) (n p : ℕ) → p < n → ((q : ℕ) → q ≢ p → g q ≡ f q) → total g n + f p ≡ total f n + g p
total_put f g zero p lt others = absurd (omega arith)
total_put f g (suc n) p lt others = elim (cases_eq n p) [
  | inl e ↦ let rest : total g n ≡ total f n = total_same f g n (λ q below. others q (λ is. omega arith)) in
      let ge : g n ≡ g p = ap g e in let fe : f n ≡ f p = ap f e in omega arith
  | inr ne ↦ let rest : total g n + f p ≡ total f n + g p = total_put f g n p (omega arith) others in let last : g n ≡ f n = others n ne in omega arith
]

pub total_most : (f : ℕ → ℕ) (n b : ℕ) → ((q : ℕ) → q < n → f q ≤ b) → total f n ≤ n * b
total_most f zero b most = omega arith
total_most f (suc n) b most = let rest : total f n ≤ n * b = total_most f n b (λ q lt. most q (omega arith)) in let last : f n ≤ b = most n (omega arith) in omega (arith, Rattle.std.proofs.Common.suc-mul n b)

-- where none is above b and the sum is n times b, none is below b
pub total_all : (f : ℕ → ℕ) (n b p : ℕ) → ((q : ℕ) → q < n → f q ≤ b) → p < n → f p < b → total f n < n * b
total_all f zero b p most lt less = absurd (omega arith)
total_all f (suc n) b p most lt less = elim (cases_eq n p) [
  | inl e ↦ let rest : total f n ≤ n * b = total_most f n b (λ q below. most q (omega arith)) in let fe : f n ≡ f p = ap f e in omega (arith, Rattle.std.proofs.Common.suc-mul n b)
  | inr ne ↦ let rest : total f n < n * b = total_all f n b p (λ q below. most q (omega arith)) (omega arith) less in let last : f n ≤ b = most n (omega arith) in omega (arith, Rattle.std.proofs.Common.suc-mul n b)
]

pub total_zero : (f : ℕ → ℕ) (n : ℕ) → ((q : ℕ) → f q ≡ 0) → total f n ≡ 0
total_zero f zero none = refl
total_zero f (suc n) none = let rest : total f n ≡ 0 = total_zero f n none in let last : f n ≡ 0 = none n in omega arith

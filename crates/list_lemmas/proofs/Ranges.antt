-- Numbers in a row.
use Rattle.std.proofs.Common.{◌≡◌, ℕ, zero, suc, ◌+◌, ◌<◌, ◌≤◌, [], ◌∷◌, ◌++◌, ap, ◌∙◌, inl, inr, arith}
use Rattle.std.specs.List.{Contains, range_with_len}
use Rattle.std.proofs.lemmas.Bool.{cases_eq}

-- a range in two parts
pub range_split : (a n k : ℕ) → range_with_len a (n + k) ≡ range_with_len a n ++ range_with_len (a + n) k
range_split a zero k = ap (λ m. range_with_len a m) (omega arith) ∙ ap (λ m. range_with_len m k) (omega arith)
range_split a (suc n) k =
    let here : suc n + k ≡ suc (n + k) = omega arith in
    let next : a + 1 + n ≡ a + suc n = omega arith in
    ap (range_with_len a) here ∙ ap (λ rest. a ∷ rest) (range_split (a + 1) n k ∙ ap (λ m. range_with_len (a + 1) n ++ range_with_len m k) next)

-- a range with one number more
pub range-more : (a n : ℕ) → range_with_len a (n + 1) ≡ range_with_len a n ++ (a + n) ∷ []
range-more a n = range_split a n 1

-- a number of a range
pub range_there : (a n k : ℕ) → a ≤ k → k < a + n → Contains (range_with_len a n) k
range_there a zero k le lt = absurd (omega (arith, le, lt))
range_there a (suc n) k le lt = elim (cases_eq a k) [
  | inl same ↦ (0, omega arith, same)
  | inr ne ↦ let r = range_there (a + 1) n k (omega (arith, le, ne)) (omega (arith, lt)) in (suc r.0, omega (arith, r.1), r.2)
]

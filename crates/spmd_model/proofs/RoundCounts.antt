-- The number of rounds of a barrier by signals.
use Rattle.std.proofs.Common.{◌≡◌, ℕ, zero, suc, ◌+◌, ◌-◌, ◌*◌, ◌%◌, ◌^◌, ◌<◌, ◌≤◌, nat_le, if◌then◌else◌, refl, ap, sym, subst, ◌∙◌, inl, inr, arith}
use Rattle.std.proofs.lemmas.Bool.{cases_Bool, cases_lt, le-leb, leb-false, lt-leb}
use Rattle.spmd_model.specs.Rounds.{rounds_from, rounds_of}

-- the powers of two that are shifted
pub small_power : (r : ℕ) → r < 6 → 1 * 2 ^ r % 2 ^ 32 ≡ 2 ^ r
small_power zero lt = refl
small_power (suc zero) lt = refl
small_power (suc (suc zero)) lt = refl
small_power (suc (suc (suc zero))) lt = refl
small_power (suc (suc (suc (suc zero)))) lt = refl
small_power (suc (suc (suc (suc (suc zero))))) lt = refl
small_power (suc (suc (suc (suc (suc (suc r)))))) lt = absurd (omega (arith, lt))

pub enough : (r workers : ℕ) → r < 6 → workers ≤ 2 ^ r → rounds_from (6 - r) workers r ≡ r
enough r workers lt le =
    let more : 6 - r ≡ suc (5 - r) = omega (arith, lt) in
    ap (λ n. rounds_from n workers r) more ∙ ap (λ b. if b then r else rounds_from (5 - r) workers (suc r)) (le-leb workers (2 ^ r) le)

pub one_more : (r workers : ℕ) → r < 6 → 2 ^ r < workers → rounds_from (6 - (r + 1)) workers (r + 1) ≡ rounds_from (6 - r) workers r
one_more r workers lt less =
    let more : 6 - r ≡ suc (5 - r) = omega (arith, lt) in
    let left : 6 - (r + 1) ≡ 5 - r = omega (arith, lt) in
    let next : r + 1 ≡ suc r = omega arith in
    ap (λ n. rounds_from n workers (r + 1)) left ∙ ap (rounds_from (5 - r) workers) next
    ∙ sym (ap (λ n. rounds_from n workers r) more ∙ ap (λ b. if b then r else rounds_from (5 - r) workers (suc r)) (lt-leb workers (2 ^ r) less))

few_from : (k workers r : ℕ) → rounds_from k workers r ≤ r + k
few_from zero workers r = omega arith
few_from (suc k) workers r = elim (cases_Bool (nat_le workers (2 ^ r))) [
  | inl yes_it_is ↦ (let is : rounds_from (suc k) workers r ≡ r = ap (λ b. if b then r else rounds_from k workers (suc r)) yes_it_is in omega (arith, is))
  | inr fails ↦ (let is : rounds_from (suc k) workers r ≡ rounds_from k workers (suc r) = ap (λ b. if b then r else rounds_from k workers (suc r)) fails in omega (arith, is, few_from k workers (suc r)))
]

pub few_rounds : (workers : ℕ) → rounds_of workers ≤ 6
few_rounds workers = omega (arith, few_from 6 workers 0)

below : (k workers r i : ℕ) → r ≤ i → i < rounds_from k workers r → 2 ^ i < workers
below zero workers r i le lt = absurd (omega (arith, le, lt))
below (suc k) workers r i le lt = elim (cases_Bool (nat_le workers (2 ^ r))) [
  | inl yes_it_is ↦ (let is : rounds_from (suc k) workers r ≡ r = ap (λ b. if b then r else rounds_from k workers (suc r)) yes_it_is in absurd (omega (arith, is, le, lt)))
  | inr fails ↦ (
      let is : rounds_from (suc k) workers r ≡ rounds_from k workers (suc r) = ap (λ b. if b then r else rounds_from k workers (suc r)) fails in
      elim (cases_lt r i) [
        | inl later ↦ below k workers (suc r) i (omega (arith, later)) (omega (arith, is, lt))
        | inr here ↦ (let same : i ≡ r = omega (arith, le, here) in let less : 2 ^ r < workers = leb-false workers (2 ^ r) fails in subst (λ n. 2 ^ n < workers) (sym same) less)
      ]
      )
]

-- each round before the last one reaches fewer than all
pub round_below : (workers i : ℕ) → i < rounds_of workers → 2 ^ i < workers
round_below workers i lt = below 6 workers 0 i (omega arith) lt

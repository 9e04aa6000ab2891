-- Numbers that rise, searched.
use Rattle.std.specs.Prelude.{◌==◌}
use Rattle.std.proofs.Common.{◌≡◌, ◌≢◌, ℕ, zero, suc, ◌+◌, ◌≤◌, ◌<◌, true, false, nat_le, List, [], ◌∷◌, length, get_or, refl, arith, ⊎_elim}
use Rattle.std.proofs.lemmas.Bool.{cases_lt}
use Rattle.std.proofs.lemmas.Bool.Decides.{nat_tests}
use Rattle.presolve.specs.Answers.{IsLeftOut}
use Rattle.presolve.specs.Columns.{AreRising, is_kept}
use Rattle.presolve.specs.Rows.{kept_number, place_in}

pub at_least : (from vars : ℕ) (keep : List ℕ) (i : ℕ) → AreRising from vars keep → i < length keep → from ≤ get_or keep i 0
at_least from vars [] i rising lt = absurd (omega (arith, lt))
at_least from vars (k ∷ keep) zero rising lt = rising.0
at_least from vars (k ∷ keep) (suc i) rising lt = omega (arith, at_least (k + 1) vars keep i rising.2 (omega (arith, lt)), rising.0)

pub rising_sorted : (from vars : ℕ) (keep : List ℕ) → AreRising from vars keep → (i j : ℕ) → i ≤ j → j < length keep → get_or keep i 0 ≤ get_or keep j 0
rising_sorted from vars [] rising i j le lt = absurd (omega (arith, lt))
rising_sorted from vars (k ∷ keep) rising zero zero le lt = omega arith
rising_sorted from vars (k ∷ keep) rising zero (suc j) le lt = omega (arith, at_least (k + 1) vars keep j rising.2 (omega (arith, lt)))
rising_sorted from vars (k ∷ keep) rising (suc i) zero le lt = absurd (omega (arith, le))
rising_sorted from vars (k ∷ keep) rising (suc i) (suc j) le lt = rising_sorted (k + 1) vars keep rising.2 i j (omega (arith, le)) (omega (arith, lt))

place_found : (from vars : ℕ) (keep : List ℕ) (i r : ℕ) → AreRising from vars keep → i < length keep → get_or keep i 0 ≡ r → (is_kept keep r ≡ true) × (place_in keep r ≡ i)
place_found from vars [] i r rising lt at = absurd (omega (arith, lt))
place_found from vars (k ∷ keep) zero r rising lt at =
    let same : (k == r) ≡ true = grind (arith, nat_tests, at) in
    rw same (refl, refl)
place_found from vars (k ∷ keep) (suc i) r rising lt at =
    let past = at_least (k + 1) vars keep i rising.2 (omega (arith, lt)) in
    let other : (k == r) ≡ false = grind (arith, nat_tests, past, at) in
    let rest = place_found (k + 1) vars keep i r rising.2 (omega (arith, lt)) at in
    rw (other, rest.0, rest.1) (refl, refl)

not_found : (keep : List ℕ) (r : ℕ) → ((k : ℕ) → k < length keep → get_or keep k 0 ≢ r) → is_kept keep r ≡ false
not_found [] r none = refl
not_found (n ∷ keep) r none =
    let other : n ≢ r = none 0 (omega arith) in
    let test : (n == r) ≡ false = grind (arith, nat_tests, other) in
    rw (test, not_found keep r (λ k lt. none (suc k) (omega (arith, lt)))) refl

pub found : (count : ℕ) (numbers : List ℕ) (r place : ℕ) → AreRising 1 (count + 1) numbers → 1 ≤ r → r ≤ count → (place < length numbers) × (get_or numbers place 0 ≡ r) → (place + 1 ≡ kept_number count numbers r) × ((1 ≤ r → r ≤ count → is_kept numbers r ≡ true) × Unit {0})
found count numbers r place rising low high there =
    let is = place_found 1 (count + 1) numbers place r rising there.0 there.1 in
    let within : nat_le r count ≡ true = grind (arith, nat_tests) in
    let some : nat_le 1 r ≡ true = grind (arith, nat_tests) in
    (rw (within, some, is.1) (omega arith), ((λ l h. is.0), tt))

pub left_out : (count : ℕ) (numbers : List ℕ) (r i : ℕ) → 1 ≤ r → r ≤ count → (i ≤ length numbers) × ((k : ℕ) → k < i → get_or numbers k 0 < r) × ((k : ℕ) → i ≤ k → k < length numbers → r < get_or numbers k 0) → IsLeftOut count numbers r
left_out count numbers r i low high around = record {
  low = low;
  high = high;
  not_kept = not_found numbers r (λ k lt. each k lt);
} where
  each : (k : ℕ) → k < length numbers → get_or numbers k 0 ≡ r → ⊥
  each k lt e = ⊎_elim (λ less. absurd (omega (arith, e, around.1 k less))) (λ le. absurd (omega (arith, e, around.2 k le lt))) (cases_lt k i)

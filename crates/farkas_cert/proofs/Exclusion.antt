-- A good certificate excludes every whole solution.
use Rattle.std.proofs.Common.{◌≡◌, ℕ, zero, suc, ◌-◌, ℤ, pos, ◌*ℤ◌, ◌≤ℤ◌, int_div, IsSomeAnd, List, [], ◌∷◌, ◌++◌, length, slice_get, refl, ap, sym, ◌∙◌, subst, arith}
use Rattle.std.specs.Int.{int_div_euclid}
use Rattle.std.specs.List.{All}
use Rattle.std.proofs.lemmas.Int.{ints}
use Rattle.std.proofs.lemmas.List.Elements.{All-push}
use Rattle.std.proofs.Math.IntN.{zero-*ℤ}
use Rattle.farkas_cert.specs.declared.system.Row.{Row}
use Rattle.farkas_cert.specs.declared.certificate.Step.{Step}
use Rattle.farkas_cert.specs.declared.certificate.Certificate.{Certificate}
use Rattle.farkas_cert.specs.Inequalities.{Inequalities, left_side, Holds, IsWholeSolution}
use Rattle.farkas_cert.specs.Combination.{sum_at, made_row}
use Rattle.farkas_cert.specs.Good.{IsGoodStep, AreGoodSteps, rows_after, IsContradiction, EndInContradiction, IsGood}
use Rattle.farkas_cert.proofs.Integers.{div_exact, le_div_euclid}
use Rattle.farkas_cert.proofs.Sums.{weighted, left_side-map-range, weighted-same, weighted-mul, sum-holds}

-- division by a divisor of all coefficients, the bound rounded down, keeps whole solutions
pub made_row-holds : (rows : List Row) (step : Step) (xs : List ℤ) → All (λ r. Holds r xs) rows → IsGoodStep (length xs) rows step → Holds (made_row (length xs) rows step) xs
made_row-holds rows step xs holds good =
    let sum : ℕ → ℤ = sum_at (length xs) rows step.terms in
    let quotient : ℕ → ℤ = λ k. int_div (sum k) step.divisor in
    let scaled = sym (weighted-mul step.divisor quotient 0 xs) ∙ weighted-same (λ k. step.divisor *ℤ quotient k) sum 0 xs (λ k h. div_exact (sum k) step.divisor (good.divides k (omega arith))) in
    let summed : weighted sum 0 xs ≤ℤ sum (length xs) = sum-holds rows step.terms xs holds good.multipliers good.named in
    let rounded : weighted quotient 0 xs ≤ℤ int_div_euclid (sum (length xs)) step.divisor = le_div_euclid step.divisor (weighted quotient 0 xs) (sum (length xs)) good.divisor (omega (arith, ints, scaled, summed)) in
    omega (arith, ints, rounded, left_side-map-range quotient 0 xs)

-- every row that good steps make holds at a whole solution
pub rows_after-hold : (rows : List Row) (steps : List Step) (xs : List ℤ) → All (λ r. Holds r xs) rows → AreGoodSteps (length xs) rows steps → All (λ r. Holds r xs) (rows_after (length xs) rows steps)
rows_after-hold rows [] xs holds good = holds
rows_after-hold rows (step ∷ steps) xs holds good =
    rows_after-hold (rows ++ made_row (length xs) rows step ∷ []) steps xs
    (All-push (λ r. Holds r xs) rows (made_row (length xs) rows step) holds (made_row-holds rows step xs holds good.0)) good.1

-- zero coefficients give 0
left_side-zero : (coefs xs : List ℤ) → All (λ a. a ≡ pos 0) coefs → left_side coefs xs ≡ pos 0
left_side-zero [] xs h = refl
left_side-zero (a ∷ coefs) [] h = refl
left_side-zero (a ∷ coefs) (x ∷ xs) h =
    let first : a ≡ pos 0 = h 0 a (omega arith) in
    let none = ap (λ z. z *ℤ x) first ∙ zero-*ℤ x in
    omega (arith, ints, none, left_side-zero coefs xs (λ k d lt. h (suc k) d (omega arith)))

-- a contradiction holds nowhere
pub contradiction-fails : (row : Row) (xs : List ℤ) → IsContradiction row → Holds row xs → ⊥
contradiction-fails row xs clash holds = omega (arith, ints, left_side-zero row.coefs xs clash.0, clash.1, holds)

-- what holds of each element holds of one that is there
at_one : {X : Type 0} (P Q : X → Type 0) (rows : List X) (i : ℕ) → All P rows → ((x : X) → P x → Q x → ⊥) → IsSomeAnd (slice_get rows i) Q → ⊥
at_one P Q [] i holds clash h = h
at_one P Q (x ∷ rows) zero holds clash h = clash x (holds 0 x (omega arith)) h
at_one P Q (x ∷ rows) (suc i) holds clash h = at_one P Q rows i (λ k d lt. holds (suc k) d (omega arith)) clash h

pub good_excludes : (system : Inequalities) (certificate : Certificate) (xs : List ℤ) → IsGood system certificate → IsWholeSolution system xs → ⊥
good_excludes system certificate xs good solution =
    let steps : AreGoodSteps (length xs) system.rows certificate.steps = subst (λ n. AreGoodSteps n system.rows certificate.steps) (sym solution.values) good.steps in
    let last : EndInContradiction (rows_after (length xs) system.rows certificate.steps) = subst (λ n. EndInContradiction (rows_after n system.rows certificate.steps)) (sym solution.values) good.last in
    let rows = rows_after (length xs) system.rows certificate.steps in
    at_one (λ r. Holds r xs) IsContradiction rows (length rows - 1) (rows_after-hold system.rows certificate.steps xs solution.rows steps) (λ r holds clash. contradiction-fails r xs clash holds) last

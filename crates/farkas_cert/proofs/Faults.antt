-- The faults of a step whose terms are good.
use Rattle.std.proofs.Common.{◌≡◌, ℕ, ◌+◌, ℤ, pos, ◌<ℤ◌, int_lt, int_div, int_rem, Bool, true, false, ◌&&◌, if◌then◌else◌, Some, None, List, [], ◌∷◌, map, length, refl, ap, ◌∙◌, arith}
use Rattle.std.specs.Int.{int_div_euclid}
use Rattle.std.specs.Ordering.{int_eq}
use Rattle.std.specs.List.{list_all, range_with_len}
use Rattle.std.proofs.lemmas.Int.{ints}
use Rattle.std.proofs.lemmas.List.Folds.{list_all-map}
use Rattle.farkas_cert.specs.declared.system.Row.{Row}
use Rattle.farkas_cert.specs.declared.certificate.Step.{Step}
use Rattle.farkas_cert.specs.declared.certificate.CertRefusal.TheVariants.{BadDivisor}
use Rattle.farkas_cert.specs.Combination.{sum_at, made_row}
use Rattle.farkas_cert.specs.Fault.{has_negative, names_bad_row, first_wide, divides, step_fault}

-- once its terms and numbers are good, only the divisor can be at fault
pub step_fault-divisor : (vars : ℕ) (rows : List Row) (n count : ℕ) (step : Step) → has_negative step.terms ≡ false → names_bad_row count step.terms ≡ false → length rows ≡ count → first_wide vars rows step.terms (range_with_len 0 (vars + 1)) ≡ None → step_fault vars rows n step ≡ (if divides vars rows step then None else Some (BadDivisor n))
step_fault-divisor vars rows n count step signs named same narrow = rw (signs, same, named, narrow) refl

-- what the divisor divides, told of the list of sums
divides-sums : (vars : ℕ) (rows : List Row) (step : Step) (sums : List ℤ) → sums ≡ map (sum_at vars rows step.terms) (range_with_len 0 vars) → divides vars rows step ≡ (int_lt (pos 0) step.divisor && list_all (λ a. int_eq (int_rem a step.divisor) (pos 0)) sums)
divides-sums vars rows step sums e = rw (e, list_all-map) refl

pub divides-true : (vars : ℕ) (rows : List Row) (step : Step) (sums : List ℤ) → sums ≡ map (sum_at vars rows step.terms) (range_with_len 0 vars) → pos 0 <ℤ step.divisor → list_all (λ a. int_eq (int_rem a step.divisor) (pos 0)) sums ≡ true → divides vars rows step ≡ true
divides-true vars rows step sums e above all =
    let positive : int_lt (pos 0) step.divisor ≡ true = grind (arith, ints) in divides-sums vars rows step sums e ∙ rw (positive, all) refl

pub divides-false : (vars : ℕ) (rows : List Row) (step : Step) (sums : List ℤ) → sums ≡ map (sum_at vars rows step.terms) (range_with_len 0 vars) → ((pos 0 <ℤ step.divisor) × (list_all (λ a. int_eq (int_rem a step.divisor) (pos 0)) sums ≡ true) → ⊥) → divides vars rows step ≡ false
divides-false vars rows step sums e fails = divides-sums vars rows step sums e ∙ neither (int_lt (pos 0) step.divisor) (list_all (λ a. int_eq (int_rem a step.divisor) (pos 0)) sums) (λ p q. fails (grind (arith, ints, p), q)) where
  neither : (p q : Bool) → (p ≡ true → q ≡ true → ⊥) → (p && q) ≡ false
  neither true true h = absurd (h refl refl)
  neither true false h = refl
  neither false q h = refl

-- the row that the step makes, by the list of sums
pub made_row-sums : (vars : ℕ) (rows : List Row) (step : Step) (sums row : Row) → sums.coefs ≡ map (sum_at vars rows step.terms) (range_with_len 0 vars) → sums.bound ≡ sum_at vars rows step.terms vars → row.coefs ≡ map (λ a. int_div a step.divisor) sums.coefs → row.bound ≡ int_div_euclid sums.bound step.divisor → row ≡ made_row vars rows step
made_row-sums vars rows step sums row coefs bound quotients rounded =
    let same : row.coefs ≡ map (λ k. int_div (sum_at vars rows step.terms k) step.divisor) (range_with_len 0 vars) = quotients ∙ ap (map (λ a. int_div a step.divisor)) coefs ∙ map-map (λ a. int_div a step.divisor) (sum_at vars rows step.terms) (range_with_len 0 vars) in
    let last : row.bound ≡ int_div_euclid (sum_at vars rows step.terms vars) step.divisor = rounded ∙ ap (λ z. int_div_euclid z step.divisor) bound in
    let of : List ℤ → ℤ → Row = λ cs b. record { coefs = cs; bound = b } in
    ap (λ cs. of cs row.bound) same ∙ ap (of (map (λ k. int_div (sum_at vars rows step.terms k) step.divisor) (range_with_len 0 vars))) last where
      map-map : {X Y Z : Type 0} (g : Y → Z) (f : X → Y) (xs : List X) → map g (map f xs) ≡ map (λ x. g (f x)) xs
      map-map g f [] = refl
      map-map g f (x ∷ xs) = ap (λ zs. g (f x) ∷ zs) (map-map g f xs)

-- A certificate is good exactly where it has no fault.
use Rattle.std.proofs.Common.{◌≡◌, ◌≢◌, ℕ, zero, suc, ◌+◌, ◌-◌, ◌≤◌, ◌<◌, ℤ, pos, ◌≤ℤ◌, int_lt, int_rem, Bool, true, false, ◌&&◌, not, nat_le, if◌then◌else◌, IsSomeAnd, OnOk, IfErr, IsOkUnless, Result, Ok, Err, Option, Some, None, List, [], ◌∷◌, ◌++◌, length, get_or, slice_get, refl, ◌∙◌, add-one, append_assoc, drop, arith}
use Rattle.std.specs.Option.{option_or}
use Rattle.std.specs.Ordering.{int_eq}
use Rattle.std.specs.List.{All, list_all, range_with_len}
use Rattle.std.proofs.lemmas.Int.{ints}
use Rattle.std.proofs.lemmas.Bool.{and_parts}
use Rattle.std.proofs.lemmas.Bool.Decides.{nat_tests, Decides-int_eq}
use Rattle.std.proofs.lemmas.List.Folds.{list_any_none}
use Rattle.std.proofs.lemmas.List.Sums.{AllPass-from_list_all, list_all-from_AllPass}
use Rattle.std.proofs.lemmas.List.FromFn.{get_or-range_with_len, length-range_with_len}
use Rattle.std.proofs.Math.Seq.{drop-cons}
use Rattle.farkas_cert.specs.declared.system.Row.{Row}
use Rattle.farkas_cert.specs.declared.certificate.Step.{Step}
use Rattle.farkas_cert.specs.declared.certificate.Certificate.{Certificate}
use Rattle.farkas_cert.specs.declared.certificate.CertRefusal.{CertRefusal}
use Rattle.farkas_cert.specs.declared.certificate.CertRefusal.TheVariants.{NegativeMultiplier, BadRow, BadDivisor, Wide, NoContradiction, NoMemory}
use Rattle.farkas_cert.specs.Inequalities.{Inequalities, HasNoWholeSolution}
use Rattle.farkas_cert.specs.Combination.{products_at, sum_at, made_row, stays_narrow}
use Rattle.farkas_cert.specs.Good.{IsGoodStep, AreGoodSteps, rows_after, IsContradiction, EndInContradiction, IsGood}
use Rattle.farkas_cert.specs.Fault.{has_negative, names_bad_row, first_wide, divides, number_fault, step_fault, is_contradiction, last_fault, fault_from, first_fault}
use Rattle.farkas_cert.proofs.Products.{list_any-false, named-at}
use Rattle.farkas_cert.proofs.Exclusion.{good_excludes}

-- which tests fail where no fault is told
pub none_from_if : {X : Type 0} (b : Bool) (x : X) (o : Option X) → (if b then Some x else o) ≡ None → (b ≡ false) × (o ≡ None)
none_from_if true x o h = absurd cc
none_from_if false x o h = (refl, h)

pub true_from_if : {X : Type 0} (b : Bool) (x : X) → (if b then None else Some x) ≡ None → b ≡ true
true_from_if true x h = refl
true_from_if false x h = absurd cc

module _ (vars : ℕ) (rows : List Row) (terms : List (ℕ × ℤ)) where
  narrow_from_none : (a n : ℕ) → first_wide vars rows terms (range_with_len a n) ≡ None → (k : ℕ) → a ≤ k → k < a + n → stays_narrow (pos 0) (products_at vars rows terms k) ≡ true
  narrow_from_none a zero none k low high = absurd (omega arith)
  narrow_from_none a (suc n) none k low high =
      elim (stays_narrow (pos 0) (products_at vars rows terms a)) as (λ b. stays_narrow (pos 0) (products_at vars rows terms a) ≡ b → stays_narrow (pos 0) (products_at vars rows terms k) ≡ true) [
        | true ↦ λ here. elim (nat_le (a + 1) k) as (λ b. nat_le (a + 1) k ≡ b → stays_narrow (pos 0) (products_at vars rows terms k) ≡ true) [
          | true ↦ λ later. narrow_from_none (a + 1) n (rw here at none) k (grind (arith, nat_tests)) (omega arith)
          | false ↦ λ now. let same : k ≡ a = grind (arith, nat_tests) in rw same here
        ] refl
        | false ↦ λ wide. absurd (let stop = rw wide at none in cc)
      ] refl

  none_from_narrow : (a n : ℕ) → ((k : ℕ) → k < a + n → stays_narrow (pos 0) (products_at vars rows terms k) ≡ true) → first_wide vars rows terms (range_with_len a n) ≡ None
  none_from_narrow a zero h = refl
  none_from_narrow a (suc n) h = rw (h a (omega arith)) (none_from_narrow (a + 1) n (λ k lt. h k (omega arith)))

  multipliers_from_test : has_negative terms ≡ false → All (λ t. pos 0 ≤ℤ t.1) terms
  multipliers_from_test h k d lt = let fails = list_any-false (λ t. int_lt t.1 (pos 0)) terms k d h lt in grind (arith, ints)

  test_from_multipliers : All (λ t. pos 0 ≤ℤ t.1) terms → has_negative terms ≡ false
  test_from_multipliers h = list_any_none (λ t. int_lt t.1 (pos 0)) terms (λ k d lt. let sign = h k d lt in grind (arith, ints))

  test_from_named : (count : ℕ) → All (λ t. (1 ≤ t.0) × (t.0 ≤ count)) terms → names_bad_row count terms ≡ false
  test_from_named count h = list_any_none (λ t. not (nat_le 1 t.0 && nat_le t.0 count)) terms (λ k d lt. let named = h k d lt in grind (arith, nat_tests))

-- a step has no fault exactly where it is good
divides_from_test : (vars : ℕ) (rows : List Row) (step : Step) → divides vars rows step ≡ true → (pos 1 ≤ℤ step.divisor) × ((k : ℕ) → k < vars → int_rem (sum_at vars rows step.terms k) step.divisor ≡ pos 0)
divides_from_test vars rows step h =
    let parts = and_parts (int_lt (pos 0) step.divisor) (list_all (λ k. int_eq (int_rem (sum_at vars rows step.terms k) step.divisor) (pos 0)) (range_with_len 0 vars)) h in
    let above = parts.0 in
    let each = AllPass-from_list_all (λ k. int_eq (int_rem (sum_at vars rows step.terms k) step.divisor) (pos 0)) (range_with_len 0 vars) parts.1 in (
      grind (arith, ints),
      λ k lt.
          let within : k < length (range_with_len 0 vars) = omega (arith, length-range_with_len 0 vars) in
          let here = each k 0 within in
          let index : get_or (range_with_len 0 vars) k 0 ≡ k = get_or-range_with_len 0 vars k 0 lt ∙ omega arith in
          (Decides-int_eq (int_rem (sum_at vars rows step.terms k) step.divisor) (pos 0)).0 (rw index at here),
    )

test_from_divides : (vars : ℕ) (rows : List Row) (step : Step) → pos 1 ≤ℤ step.divisor → ((k : ℕ) → k < vars → int_rem (sum_at vars rows step.terms k) step.divisor ≡ pos 0) → divides vars rows step ≡ true
test_from_divides vars rows step above each =
    let positive : int_lt (pos 0) step.divisor ≡ true = grind (arith, ints) in
    let all : list_all (λ k. int_eq (int_rem (sum_at vars rows step.terms k) step.divisor) (pos 0)) (range_with_len 0 vars) ≡ true =
    list_all-from_AllPass (λ k. int_eq (int_rem (sum_at vars rows step.terms k) step.divisor) (pos 0)) (range_with_len 0 vars)
    (λ k d within.
    let lt : k < vars = omega (arith, length-range_with_len 0 vars, within) in
    let index : get_or (range_with_len 0 vars) k d ≡ k = get_or-range_with_len 0 vars k d lt ∙ omega arith in
    rw index ((Decides-int_eq (int_rem (sum_at vars rows step.terms k) step.divisor) (pos 0)).1 (each k lt))) in
    rw (positive, all) refl

good_from_none : (vars : ℕ) (rows : List Row) (n : ℕ) (step : Step) → step_fault vars rows n step ≡ None → IsGoodStep vars rows step
good_from_none vars rows n step none =
    let numbers = number_fault vars rows n step (first_wide vars rows step.terms (range_with_len 0 (vars + 1))) in
    let signs = none_from_if (has_negative step.terms) (NegativeMultiplier n) (if names_bad_row (length rows) step.terms then Some (BadRow n) else numbers) none in
    let named = none_from_if (names_bad_row (length rows) step.terms) (BadRow n) numbers signs.1 in
    let narrow = narrow_numbers (first_wide vars rows step.terms (range_with_len 0 (vars + 1))) named.1 in
    let division = divides_from_test vars rows step narrow.1 in
    record {
      multipliers = multipliers_from_test vars rows step.terms signs.0;
      named = λ k d lt. named-at (length rows) step.terms k d named.0 lt;
      narrow = λ k within. narrow_from_none vars rows step.terms 0 (vars + 1) narrow.0 k (omega arith) (omega arith);
      divisor = division.0;
      divides = division.1;
    } where
      narrow_numbers : (wide : Option ℕ) → number_fault vars rows n step wide ≡ None → (wide ≡ None) × (divides vars rows step ≡ true)
      narrow_numbers None h = (refl, true_from_if (divides vars rows step) (BadDivisor n) h)
      narrow_numbers (Some k) h = absurd cc

none_from_good : (vars : ℕ) (rows : List Row) (n : ℕ) (step : Step) → IsGoodStep vars rows step → step_fault vars rows n step ≡ None
none_from_good vars rows n step good =
    let signs : has_negative step.terms ≡ false = test_from_multipliers vars rows step.terms good.multipliers in
    let named : names_bad_row (length rows) step.terms ≡ false = test_from_named vars rows step.terms (length rows) good.named in
    let narrow : first_wide vars rows step.terms (range_with_len 0 (vars + 1)) ≡ None = none_from_narrow vars rows step.terms 0 (vars + 1) (λ k lt. good.narrow k (omega arith)) in
    let division : divides vars rows step ≡ true = test_from_divides vars rows step good.divisor good.divides in
    rw (signs, named, narrow, division) refl

-- a row passes the test exactly where it is a contradiction
contradiction_from_test : (row : Row) → is_contradiction row ≡ true → IsContradiction row
contradiction_from_test row h =
    let parts = and_parts (list_all (λ a. int_eq a (pos 0)) row.coefs) (int_lt row.bound (pos 0)) h in
    let below = parts.1 in
    (λ k d lt. (Decides-int_eq (get_or row.coefs k d) (pos 0)).0 (AllPass-from_list_all (λ a. int_eq a (pos 0)) row.coefs parts.0 k d lt), grind (arith, ints))

test_from_contradiction : (row : Row) → IsContradiction row → is_contradiction row ≡ true
test_from_contradiction row h =
    let zero : list_all (λ a. int_eq a (pos 0)) row.coefs ≡ true = list_all-from_AllPass (λ a. int_eq a (pos 0)) row.coefs (λ k d lt. (Decides-int_eq (get_or row.coefs k d) (pos 0)).1 (h.0 k d lt)) in
    let below : int_lt row.bound (pos 0) ≡ true = let negative = h.1 in grind (arith, ints) in rw (zero, below) refl

end_from_none : (count : ℕ) (last : Option Row) → last_fault count last ≡ None → IsSomeAnd last IsContradiction
end_from_none count None h = absurd cc
end_from_none count (Some row) h = contradiction_from_test row (true_from_if (is_contradiction row) (NoContradiction count) h)

none_from_end : (count : ℕ) (last : Option Row) → IsSomeAnd last IsContradiction → last_fault count last ≡ None
none_from_end count None h = absurd h
none_from_end count (Some row) h = rw (test_from_contradiction row h) refl

first_none : (a b : Option CertRefusal) → option_or a b ≡ None → (a ≡ None) × (b ≡ None)
first_none None b h = (refl, h)
first_none (Some e) b h = absurd cc

-- certificates without a fault are good
steps_from_none : (vars : ℕ) (rows : List Row) (n : ℕ) (steps : List Step) → fault_from vars rows n steps ≡ None → AreGoodSteps vars rows steps × EndInContradiction (rows_after vars rows steps)
steps_from_none vars rows n [] none = (tt, end_from_none (length rows) (slice_get rows (length rows - 1)) none)
steps_from_none vars rows n (step ∷ steps) none =
    let parts = first_none (step_fault vars rows n step) (fault_from vars (rows ++ made_row vars rows step ∷ []) (n + 1) steps) none in
    let rest = steps_from_none vars (rows ++ made_row vars rows step ∷ []) (n + 1) steps parts.1 in
    ((good_from_none vars rows n step parts.0, rest.0), rest.1)

none_from_steps : (vars : ℕ) (rows : List Row) (n : ℕ) (steps : List Step) → AreGoodSteps vars rows steps → EndInContradiction (rows_after vars rows steps) → fault_from vars rows n steps ≡ None
none_from_steps vars rows n [] good last = none_from_end (length rows) (slice_get rows (length rows - 1)) last
none_from_steps vars rows n (step ∷ steps) good last =
    rw (none_from_good vars rows n step good.0) (none_from_steps vars (rows ++ made_row vars rows step ∷ []) (n + 1) steps good.1 last)

pub good_where_none : (system : Inequalities) (certificate : Certificate) → first_fault system certificate ≡ None → IsGood system certificate
good_where_none system certificate none =
    let parts = steps_from_none system.vars system.rows 1 certificate.steps none in
    record { steps = parts.0; last = parts.1 }

pub none_where_good : (system : Inequalities) (certificate : Certificate) → IsGood system certificate → first_fault system certificate ≡ None
none_where_good system certificate good = none_from_steps system.vars system.rows 1 certificate.steps good.steps good.last

-- an error that names the first fault, where there is none, is want of memory
pub only_memory : (fault : Option CertRefusal) (e : CertRefusal) → fault ≡ None → (e ≢ NoMemory → fault ≡ Some e) → e ≡ NoMemory
only_memory fault (NegativeMultiplier n) none h = absurd (let clash = h (λ same. cc) in cc)
only_memory fault (BadRow n) none h = absurd (let clash = h (λ same. cc) in cc)
only_memory fault (BadDivisor n) none h = absurd (let clash = h (λ same. cc) in cc)
only_memory fault (Wide n k) none h = absurd (let clash = h (λ same. cc) in cc)
only_memory fault (NoContradiction n) none h = absurd (let clash = h (λ same. cc) in cc)
only_memory fault NoMemory none h = refl

-- what an answer by faults says of the certificate
module _ {T : Type 0} (system : Inequalities) (certificate : Certificate) where
  pub ok_is_good : (r : Result T CertRefusal) → OnOk r (first_fault system certificate ≡ None) → OnOk r (IsGood system certificate)
  ok_is_good (Ok x) h = good_where_none system certificate h
  ok_is_good (Err e) h = tt

  pub ok_excludes : (r : Result T CertRefusal) → OnOk r (first_fault system certificate ≡ None) → OnOk r (HasNoWholeSolution system)
  ok_excludes (Ok x) h = λ xs. good_excludes system certificate xs (good_where_none system certificate h)
  ok_excludes (Err e) h = tt

  pub good_is_taken : (r : Result T CertRefusal) → IfErr r (λ e. e ≢ NoMemory → first_fault system certificate ≡ Some e) → IsGood system certificate → IsOkUnless r NoMemory
  good_is_taken (Ok x) h good = tt
  good_is_taken (Err e) h good = only_memory (first_fault system certificate) e (none_where_good system certificate good) h

-- a step of the check: the fault is that of the steps that are left
pub fault_from-step : (vars : ℕ) (rows made : List Row) (n i : ℕ) (steps : List Step) (step : Step) (row : Row) → i < length steps → step ≡ get_or steps i step → step_fault vars (rows ++ made) n step ≡ None → row ≡ made_row vars (rows ++ made) step → fault_from vars (rows ++ made) n (drop i steps) ≡ fault_from vars (rows ++ (made ++ row ∷ [])) (n + 1) (drop (i + 1) steps)
fault_from-step vars rows made n i steps step row within at good made_is =
    rw (add-one i, drop-cons steps i step within, ← at, good, ← append_assoc, made_is) refl

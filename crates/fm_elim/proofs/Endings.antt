-- What makes a certificate end in a contradiction.
use Rattle.std.proofs.Common.{◌≡◌, ℕ, zero, suc, ◌+◌, ◌-◌, ◌≤◌, ◌<◌, pos, IsSomeAnd, List, [], ◌∷◌, ◌++◌, map, take, length, get_or, slice_get, ap, sym, ◌∙◌, subst, arith}
use Rattle.std.proofs.Math.Nat.{one-dvd}
use Rattle.std.proofs.lemmas.List.{append-nil, get_or_append_left, get_or_push, length_push, length-map, length-take-le, take-map}
use Rattle.farkas_cert.specs.declared.system.Row.{Row}
use Rattle.farkas_cert.specs.declared.certificate.Step.{Step}
use Rattle.farkas_cert.specs.declared.certificate.Certificate.{Certificate}
use Rattle.farkas_cert.specs.Inequalities.{Inequalities}
use Rattle.farkas_cert.specs.Combination.{no_row, row_at, made_row}
use Rattle.farkas_cert.specs.Good.{AreGoodSteps, rows_after, IsContradiction, EndInContradiction, IsGood}
use Rattle.elim_rows.specs.declared.derivation.Derivation.{Derivation}
use Rattle.elim_rows.specs.Reduction.{DividesEach}
use Rattle.elim_level.specs.Logs.{step_of, all_rows, IsLog, IsNumber, IsSuited}
use Rattle.elim_rows.proofs.Divisors.{divided-one}
use Rattle.elim_level.proofs.Steps.{good_reduction, reduction_makes, length-rows_after, rows_after-begins}
use Rattle.fm_elim.proofs.Copies.{AreGoodSteps-take}

-- the last row is a contradiction
pub ends_in : (rows : List Row) → 0 < length rows → IsContradiction (row_at rows (length rows)) → EndInContradiction rows
ends_in rows some clash = at rows (length rows - 1) (omega arith) clash
  where
    at : (rows : List Row) (i : ℕ) → i < length rows → IsContradiction (get_or rows i no_row) → IsSomeAnd (slice_get rows i) IsContradiction
    at [] i h clash = absurd (omega arith)
    at (r ∷ rows) zero h clash = clash
    at (r ∷ rows) (suc i) h clash = at rows i (omega arith) clash

-- a given row keeps its number among all rows
pub given_number : (system : Inequalities) (log : List Derivation) (number : ℕ) (row : Row) → number ≤ length system.rows → IsNumber (all_rows system log) number row → IsNumber system.rows number row
given_number system log number row high numbered =
    let begins = rows_after-begins system.vars system.rows (map step_of log) in
    (numbered.0, high, sym (get_or_append_left system.rows begins.0 no_row (number - 1) (omega (arith, numbered.0))) ∙ ap (λ rows. row_at rows number) (sym begins.1) ∙ numbered.2)

-- the last given row is a contradiction: no step is needed
pub good_without_steps : (system : Inequalities) (number : ℕ) (row : Row) (c : Certificate) → IsNumber system.rows number row → length system.rows ≤ number → IsContradiction row → c.steps ≡ [] → IsGood system c
good_without_steps system number row c numbered last clash none =
    let same : length system.rows ≡ number = omega (arith, numbered.1) in
    record {
      steps = subst (AreGoodSteps system.vars system.rows) (sym none) tt;
      last = subst (λ steps. EndInContradiction (rows_after system.vars system.rows steps)) (sym none) (ends_in system.rows (omega (arith, numbered.0)) (subst IsContradiction (sym (ap (row_at system.rows) same ∙ numbered.2)) clash));
    }

-- another given row is one: a step copies it
pub good_with_copy : (system : Inequalities) (number : ℕ) (row : Row) (c : Certificate) → IsNumber system.rows number row → IsSuited system.vars row → IsContradiction row → c.steps ≡ record { divisor = pos 1; terms = (number, pos 1) ∷ [] } ∷ [] → IsGood system c
good_with_copy system number row c numbered suited clash one =
    let step : Step = record { divisor = pos 1; terms = (number, pos 1) ∷ [] } in
    let each : DividesEach 1 row.coefs = λ k d h. one-dvd _ in
    let good = good_reduction system.vars system.rows number 1 row suited numbered (omega arith) each in
    let makes : made_row system.vars system.rows step ≡ row = reduction_makes system.vars system.rows number 1 row suited numbered (omega arith) each ∙ divided-one row in
    let rows = system.rows ++ made_row system.vars system.rows step ∷ [] in
    let size : length rows ≡ length system.rows + 1 = length_push system.rows (made_row system.vars system.rows step) in
    let last : row_at rows (length rows) ≡ row = get_or_push system.rows (made_row system.vars system.rows step) no_row (length rows - 1) (omega arith) ∙ makes in
    record {
      steps = subst (AreGoodSteps system.vars system.rows) (sym one) (good, tt);
      last = subst (λ steps. EndInContradiction (rows_after system.vars system.rows steps)) (sym one) (ends_in rows (omega arith) (subst IsContradiction (sym last) clash));
    }

-- the rows of the first steps come first
pub rows_after-take : (vars : ℕ) (rows : List Row) (n : ℕ) (steps : List Step) → (more : List Row) × (rows_after vars rows steps ≡ rows_after vars rows (take n steps) ++ more)
rows_after-take vars rows zero steps = rows_after-begins vars rows steps
rows_after-take vars rows (suc n) [] = ([], sym (append-nil rows))
rows_after-take vars rows (suc n) (s ∷ steps) = rows_after-take vars (rows ++ made_row vars rows s ∷ []) n steps

-- the first derivations are a log
pub IsLog-take : (system : Inequalities) (log : List Derivation) (n : ℕ) → IsLog system log → IsLog system (take n log)
IsLog-take system log n good = subst (AreGoodSteps system.vars system.rows) (take-map step_of n log) (AreGoodSteps-take system.vars system.rows n (map step_of log) good)

-- and their last row is the same
pub row_at-take : (system : Inequalities) (log : List Derivation) (n : ℕ) → n ≤ length log → 0 < length system.rows + n → row_at (all_rows system (take n log)) (length system.rows + n) ≡ row_at (all_rows system log) (length system.rows + n)
row_at-take system log n h some =
    let begins = rows_after-take system.vars system.rows n (map step_of log) in
    let early = rows_after system.vars system.rows (take n (map step_of log)) in
    let size : length early ≡ length system.rows + n = length-rows_after system.vars system.rows (take n (map step_of log)) ∙ ap (λ k. length system.rows + k) (length-take-le n (map step_of log) (omega (arith, length-map log step_of))) in
    ap (λ steps. row_at (rows_after system.vars system.rows steps) (length system.rows + n)) (sym (take-map step_of n log))
    ∙ sym (get_or_append_left early begins.0 no_row (length system.rows + n - 1) (omega arith))
    ∙ ap (λ rows. row_at rows (length system.rows + n)) (sym begins.1)

-- good steps that end in the row of the last derivation, a contradiction
pub good_from_steps : (system : Inequalities) (c : Certificate) (row : Row) → AreGoodSteps system.vars system.rows c.steps → 0 < length (rows_after system.vars system.rows c.steps) → row_at (rows_after system.vars system.rows c.steps) (length (rows_after system.vars system.rows c.steps)) ≡ row → IsContradiction row → IsGood system c
good_from_steps system c row good some last clash = record { steps = good; last = ends_in (rows_after system.vars system.rows c.steps) some (subst IsContradiction (sym last) clash) }

-- how many rows there are
pub length-all_rows : (system : Inequalities) (log : List Derivation) → length (all_rows system log) ≡ length system.rows + length log
length-all_rows system log = length-rows_after system.vars system.rows (map step_of log) ∙ ap (λ n. length system.rows + n) (length-map log step_of)

-- the derivations up to a row, and what their certificate ends in
module _ (system : Inequalities) (log : List Derivation) (number : ℕ) (row : Row) (numbered : IsNumber (all_rows system log) number row) (given : ℕ) (is : given ≡ length system.rows) (derived : given < number) where
  pub used_length : number - given ≡ length (take (number - given) log)
  used_length = sym (length-take-le (number - given) log (omega (arith, length-all_rows system log, numbered.1)))

  pub used_row : row_at (all_rows system (take (number - given) log)) (length system.rows + length (take (number - given) log)) ≡ row
  used_row =
      let count : length system.rows + length (take (number - given) log) ≡ length system.rows + (number - given) = ap (λ n. length system.rows + n) (sym used_length) in
      let whole : length system.rows + (number - given) ≡ number = omega arith in
      ap (row_at (all_rows system (take (number - given) log))) count
      ∙ row_at-take system log (number - given) (omega (arith, length-all_rows system log, numbered.1)) (omega arith)
      ∙ ap (row_at (all_rows system log)) whole ∙ numbered.2

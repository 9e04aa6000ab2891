-- The check of a certificate that doesn't name some rows.
use Rattle.std.proofs.Common.{◌≡◌, ℕ, zero, suc, ◌+◌, ◌-◌, ◌≤◌, ◌<◌, ℤ, pos, int_lt, int_div, int_rem, true, false, ◌&&◌, nat_le, if◌then◌else◌, Option, Some, None, List, [], ◌∷◌, ◌++◌, map, length, length-append, get_or, slice_get, append_assoc, append-nil, refl, ap, sym, ◌∙◌, arith}
use Rattle.std.specs.Int.{int_div_euclid}
use Rattle.std.specs.Option.{option_map, option_or}
use Rattle.std.specs.Ordering.{int_eq}
use Rattle.std.specs.List.{list_all, range_with_len}
use Rattle.std.proofs.lemmas.Bool.Decides.{nat_tests}
use Rattle.std.proofs.lemmas.List.{length-map, get_or_append_left, get_or-append_right, get_or_default}
use Rattle.std.proofs.lemmas.Option.{slice_get-get_or}
use Rattle.farkas_cert.specs.declared.system.Row.{Row}
use Rattle.farkas_cert.specs.declared.certificate.Step.{Step}
use Rattle.farkas_cert.specs.declared.certificate.Certificate.{Certificate}
use Rattle.farkas_cert.specs.declared.certificate.CertRefusal.{CertRefusal}
use Rattle.farkas_cert.specs.declared.certificate.CertRefusal.TheVariants.{NegativeMultiplier, BadRow, BadDivisor, NoContradiction}
use Rattle.farkas_cert.specs.Inequalities.{Inequalities}
use Rattle.farkas_cert.specs.Combination.{no_row, row_at, products_at, total, sum_at, made_row}
use Rattle.farkas_cert.specs.Fault.{has_negative, names_bad_row, first_wide, divides, number_fault, step_fault, is_contradiction, last_fault, fault_from, first_fault}
use Rattle.std.specs.Prelude.{◌↔◌, ◌==◌}
use Rattle.farkas_cert.specs.Good.{IsGood}
use Rattle.farkas_cert.proofs.Verdict.{good_where_none, none_where_good}
use Rattle.presolve.specs.Columns.{AreRising, is_kept, with_columns, KeepsAll, whole_fault}
use Rattle.presolve.proofs.Columns.{fault_with_columns}
use Rattle.presolve.specs.Rows.{rows_at, with_rows, KeepsLast, whole_number, renumbered_terms, renumbered_step, renumbered, renumbered_fault, place_in, kept_number, NamesKept, StepsNameKept, kept_certificate}

-- rising numbers lie between the first place and the last
between : (from upto : ℕ) (numbers : List ℕ) (i d : ℕ) → AreRising from upto numbers → i < length numbers → (from ≤ get_or numbers i d) × (get_or numbers i d < upto)
between from upto [] i d rising lt = absurd (omega arith)
between from upto (n ∷ numbers) zero d rising lt = (rising.0, rising.1)
between from upto (n ∷ numbers) (suc i) d rising lt =
    let rest = between (n + 1) upto numbers i d rising.2 (omega arith) in
    (omega (arith, rest.0, rising.0), rest.1)

past : (numbers : List ℕ) (i d : ℕ) → length numbers ≤ i → get_or numbers i d ≡ d
past [] i d le = refl
past (n ∷ numbers) zero d le = absurd (omega arith)
past (n ∷ numbers) (suc i) d le = past numbers i d (omega arith)

mapped_at : (rows : List Row) (numbers : List ℕ) (i d : ℕ) → i < length numbers → get_or (map (row_at rows) numbers) i no_row ≡ row_at rows (get_or numbers i d)
mapped_at rows [] i d lt = absurd (omega arith)
mapped_at rows (n ∷ numbers) zero d lt = refl
mapped_at rows (n ∷ numbers) (suc i) d lt = mapped_at rows numbers i d (omega arith)

module _ (rows : List Row) (numbers : List ℕ) (rising : AreRising 1 (length rows + 1) numbers) where
  -- a number that names a row here names one there, and no other does
  named_same : (made n : ℕ) → (nat_le 1 (whole_number (length rows) numbers n) && nat_le (whole_number (length rows) numbers n) (length rows + made)) ≡ (nat_le 1 n && nat_le n (length numbers + made))
  named_same made zero = refl
  named_same made (suc i) =
      elim (nat_le (suc i) (length numbers)) as (λ b. nat_le (suc i) (length numbers) ≡ b → (nat_le 1 (whole_number (length rows) numbers (suc i)) && nat_le (whole_number (length rows) numbers (suc i)) (length rows + made)) ≡ (nat_le 1 (suc i) && nat_le (suc i) (length numbers + made))) [
        | true ↦ λ e.
            let lt : i < length numbers = grind (arith, nat_tests) in
            let at = between 1 (length rows + 1) numbers i (i - length numbers + length rows + 1) rising lt in
            let low : nat_le 1 (get_or numbers i (i - length numbers + length rows + 1)) ≡ true = grind (arith, nat_tests, at.0) in
            let high : nat_le (get_or numbers i (i - length numbers + length rows + 1)) (length rows + made) ≡ true = grind (arith, nat_tests, at.1) in
            let low_here : nat_le 1 (suc i) ≡ true = grind (arith, nat_tests) in
            let high_here : nat_le (suc i) (length numbers + made) ≡ true = grind (arith, nat_tests, lt) in
            rw (low, high, low_here, high_here) refl
        | false ↦ λ e.
            let le : length numbers ≤ i = grind (arith, nat_tests) in
            let low : nat_le 1 (i - length numbers + length rows + 1) ≡ true = grind (arith, nat_tests) in
            let low_here : nat_le 1 (suc i) ≡ true = grind (arith, nat_tests) in
            let high : nat_le (i - length numbers + length rows + 1) (length rows + made) ≡ nat_le (suc i) (length numbers + made) = tests le in
            rw (past numbers i (i - length numbers + length rows + 1) le, low, low_here, high) refl
      ] refl where
        tests : length numbers ≤ i → nat_le (i - length numbers + length rows + 1) (length rows + made) ≡ nat_le (suc i) (length numbers + made)
        tests le =
            elim (nat_le (suc i) (length numbers + made)) as (λ b. nat_le (suc i) (length numbers + made) ≡ b → nat_le (i - length numbers + length rows + 1) (length rows + made) ≡ b) [
              | true ↦ λ e. let h : suc i ≤ length numbers + made = grind (arith, nat_tests) in grind (arith, nat_tests)
              | false ↦ λ e. let h : length numbers + made < suc i = grind (arith, nat_tests) in grind (arith, nat_tests)
            ] refl

  -- the row that it names is the same one
  row_same : (made : List Row) (n : ℕ) → 1 ≤ n → row_at (rows ++ made) (whole_number (length rows) numbers n) ≡ row_at (rows_at numbers rows ++ made) n
  row_same made zero some = absurd (omega arith)
  row_same made (suc i) some =
      elim (nat_le (suc i) (length numbers)) as (λ b. nat_le (suc i) (length numbers) ≡ b → row_at (rows ++ made) (whole_number (length rows) numbers (suc i)) ≡ row_at (rows_at numbers rows ++ made) (suc i)) [
        | true ↦ λ e.
            let lt : i < length numbers = grind (arith, nat_tests) in
            let d = i - length numbers + length rows + 1 in
            let at = between 1 (length rows + 1) numbers i d rising lt in
            let there : get_or (rows ++ made) (get_or numbers i d - 1) no_row ≡ get_or rows (get_or numbers i d - 1) no_row = get_or_append_left rows made no_row (get_or numbers i d - 1) (omega (arith, at.0, at.1)) in
            let here : get_or (map (row_at rows) numbers ++ made) i no_row ≡ get_or (map (row_at rows) numbers) i no_row = get_or_append_left (map (row_at rows) numbers) made no_row i (omega (arith, length-map numbers (row_at rows))) in
            let place : suc i - 1 ≡ i = omega arith in
            rw place (there ∙ sym (here ∙ mapped_at rows numbers i d lt))
        | false ↦ λ e.
            let le : length numbers ≤ i = grind (arith, nat_tests) in
            let d = i - length numbers + length rows + 1 in
            let there : get_or (rows ++ made) (d - 1) no_row ≡ get_or made (d - 1 - length rows) no_row = get_or-append_right rows made (length rows) (d - 1) no_row refl (omega arith) in
            let here : get_or (map (row_at rows) numbers ++ made) i no_row ≡ get_or made (i - length numbers) no_row = get_or-append_right (map (row_at rows) numbers) made (length numbers) i no_row (length-map numbers (row_at rows)) le in
            let place : suc i - 1 ≡ i = omega arith in
            let offset : d - 1 - length rows ≡ i - length numbers = omega arith in
            rw (past numbers i d le, place) (there ∙ ap (λ k. get_or made k no_row) offset ∙ sym here)
      ] refl

  negative_same : (terms : List (ℕ × ℤ)) → has_negative (renumbered_terms (length rows) numbers terms) ≡ has_negative terms
  negative_same [] = refl
  negative_same (t ∷ terms) = rw (negative_same terms) refl

  bad_same : (made : ℕ) (terms : List (ℕ × ℤ)) → names_bad_row (length rows + made) (renumbered_terms (length rows) numbers terms) ≡ names_bad_row (length numbers + made) terms
  bad_same made [] = refl
  bad_same made (t ∷ terms) = rw (named_same made t.0, bad_same made terms) refl

  module _ (vars : ℕ) (made : List Row) where
    products_same : (terms : List (ℕ × ℤ)) (count k : ℕ) → names_bad_row count terms ≡ false → products_at vars (rows ++ made) (renumbered_terms (length rows) numbers terms) k ≡ products_at vars (rows_at numbers rows ++ made) terms k
    products_same [] count k named = refl
    products_same (t ∷ terms) count k named =
        let first : 1 ≤ t.0 = grind (arith, nat_tests, named) in
        let others : names_bad_row count terms ≡ false = grind (arith, nat_tests, named) in
        rw (row_same made t.0 first, products_same terms count k others) refl

    module _ (step : Step) (count : ℕ) (named : names_bad_row count step.terms ≡ false) where
      sum_same : (k : ℕ) → sum_at vars (rows ++ made) (renumbered_terms (length rows) numbers step.terms) k ≡ sum_at vars (rows_at numbers rows ++ made) step.terms k
      sum_same k = ap total (products_same step.terms count k named)

      wide_same : (entries : List ℕ) → first_wide vars (rows ++ made) (renumbered_terms (length rows) numbers step.terms) entries ≡ first_wide vars (rows_at numbers rows ++ made) step.terms entries
      wide_same [] = refl
      wide_same (k ∷ entries) = rw (products_same step.terms count k named, wide_same entries) refl

      tests_same : (entries : List ℕ) → list_all (λ k. int_eq (int_rem (sum_at vars (rows ++ made) (renumbered_terms (length rows) numbers step.terms) k) step.divisor) (pos 0)) entries ≡ list_all (λ k. int_eq (int_rem (sum_at vars (rows_at numbers rows ++ made) step.terms k) step.divisor) (pos 0)) entries
      tests_same [] = refl
      tests_same (k ∷ entries) = rw (sum_same k, tests_same entries) refl

      divides_same : divides vars (rows ++ made) (renumbered_step (length rows) numbers step) ≡ divides vars (rows_at numbers rows ++ made) step
      divides_same = ap (λ b. int_lt (pos 0) step.divisor && b) (tests_same (range_with_len 0 vars))

      coefs_same : (entries : List ℕ) → map (λ k. int_div (sum_at vars (rows ++ made) (renumbered_terms (length rows) numbers step.terms) k) step.divisor) entries ≡ map (λ k. int_div (sum_at vars (rows_at numbers rows ++ made) step.terms k) step.divisor) entries
      coefs_same [] = refl
      coefs_same (k ∷ entries) = rw (sum_same k, coefs_same entries) refl

      made_same : made_row vars (rows ++ made) (renumbered_step (length rows) numbers step) ≡ made_row vars (rows_at numbers rows ++ made) step
      made_same =
          let of : List ℤ → ℤ → Row = λ cs b. record { coefs = cs; bound = b } in
          ap (λ cs. of cs (int_div_euclid (sum_at vars (rows ++ made) (renumbered_terms (length rows) numbers step.terms) vars) step.divisor)) (coefs_same (range_with_len 0 vars))
          ∙ ap (λ z. of (map (λ k. int_div (sum_at vars (rows_at numbers rows ++ made) step.terms k) step.divisor) (range_with_len 0 vars)) (int_div_euclid z step.divisor)) (sum_same vars)

      numbers_same : (n : ℕ) → number_fault vars (rows ++ made) n (renumbered_step (length rows) numbers step) (first_wide vars (rows ++ made) (renumbered_terms (length rows) numbers step.terms) (range_with_len 0 (vars + 1))) ≡ option_map (renumbered_fault (length rows) numbers) (number_fault vars (rows_at numbers rows ++ made) n step (first_wide vars (rows_at numbers rows ++ made) step.terms (range_with_len 0 (vars + 1))))
      numbers_same n = rw (wide_same (range_with_len 0 (vars + 1))) (by_entry (first_wide vars (rows_at numbers rows ++ made) step.terms (range_with_len 0 (vars + 1)))) where
        by_entry : (o : Option ℕ) → number_fault vars (rows ++ made) n (renumbered_step (length rows) numbers step) o ≡ option_map (renumbered_fault (length rows) numbers) (number_fault vars (rows_at numbers rows ++ made) n step o)
        by_entry (Some k) = refl
        by_entry None = rw divides_same (elim (divides vars (rows_at numbers rows ++ made) step) as (λ b. (if b then None else Some (BadDivisor n)) ≡ option_map (renumbered_fault (length rows) numbers) (if b then None else Some (BadDivisor n))) [ true ↦ refl | false ↦ refl ])

-- a step's fault
step_same : (vars : ℕ) (rows : List Row) (numbers : List ℕ) (made : List Row) (n : ℕ) (step : Step) → AreRising 1 (length rows + 1) numbers → (names_bad_row (length numbers + length made) step.terms ≡ false → number_fault vars (rows ++ made) n (renumbered_step (length rows) numbers step) (first_wide vars (rows ++ made) (renumbered_terms (length rows) numbers step.terms) (range_with_len 0 (vars + 1))) ≡ option_map (renumbered_fault (length rows) numbers) (number_fault vars (rows_at numbers rows ++ made) n step (first_wide vars (rows_at numbers rows ++ made) step.terms (range_with_len 0 (vars + 1))))) → step_fault vars (rows ++ made) n (renumbered_step (length rows) numbers step) ≡ option_map (renumbered_fault (length rows) numbers) (step_fault vars (rows_at numbers rows ++ made) n step)
step_same vars rows numbers made n step rising numbers_same =
    let here : length (rows_at numbers rows ++ made) ≡ length numbers + length made = omega (arith, length-append (rows_at numbers rows) made, length-map numbers (row_at rows)) in
    rw (negative_same rows numbers rising step.terms, length-append rows made, bad_same rows numbers rising (length made) step.terms, here)
    (elim (has_negative step.terms) as (λ b. (if b then Some (NegativeMultiplier n) else (if names_bad_row (length numbers + length made) step.terms then Some (BadRow n) else number_fault vars (rows ++ made) n (renumbered_step (length rows) numbers step) (first_wide vars (rows ++ made) (renumbered_terms (length rows) numbers step.terms) (range_with_len 0 (vars + 1))))) ≡ option_map (renumbered_fault (length rows) numbers) (if b then Some (NegativeMultiplier n) else (if names_bad_row (length numbers + length made) step.terms then Some (BadRow n) else number_fault vars (rows_at numbers rows ++ made) n step (first_wide vars (rows_at numbers rows ++ made) step.terms (range_with_len 0 (vars + 1)))))) [
      | true ↦ refl
      | false ↦ elim (names_bad_row (length numbers + length made) step.terms) as (λ b. names_bad_row (length numbers + length made) step.terms ≡ b → (if b then Some (BadRow n) else number_fault vars (rows ++ made) n (renumbered_step (length rows) numbers step) (first_wide vars (rows ++ made) (renumbered_terms (length rows) numbers step.terms) (range_with_len 0 (vars + 1)))) ≡ option_map (renumbered_fault (length rows) numbers) (if b then Some (BadRow n) else number_fault vars (rows_at numbers rows ++ made) n step (first_wide vars (rows_at numbers rows ++ made) step.terms (range_with_len 0 (vars + 1))))) [
        | true ↦ λ e. refl
        | false ↦ λ e. numbers_same e
      ] refl
    ])

-- the last row
last_same : (rows : List Row) (numbers : List ℕ) (made : List Row) → KeepsLast numbers rows → last_fault (length (rows ++ made)) (slice_get (rows ++ made) (length (rows ++ made) - 1)) ≡ option_map (renumbered_fault (length rows) numbers) (last_fault (length (rows_at numbers rows ++ made)) (slice_get (rows_at numbers rows ++ made) (length (rows_at numbers rows ++ made) - 1)))
last_same rows numbers made keeps =
    let count_here : length (rows_at numbers rows ++ made) ≡ length numbers + length made = omega (arith, length-append (rows_at numbers rows) made, length-map numbers (row_at rows)) in
    by_count (length (rows_at numbers rows ++ made)) refl count_here where
      number_of_last : (i : ℕ) → suc i ≡ length numbers + length made → whole_number (length rows) numbers (suc i) ≡ length rows + length made
      number_of_last i e =
          elim (nat_le (suc i) (length numbers)) as (λ b. nat_le (suc i) (length numbers) ≡ b → whole_number (length rows) numbers (suc i) ≡ length rows + length made) [
            | true ↦ λ t.
                let le : suc i ≤ length numbers = grind (arith, nat_tests) in
                let none : length made ≡ 0 = omega (arith, e) in
                let place : length numbers - 1 ≡ i = omega (arith, e) in
                let same : get_or numbers i (i - length numbers + length rows + 1) ≡ get_or numbers i 0 = get_or_default numbers i (i - length numbers + length rows + 1) 0 (omega arith) in
                let last : get_or numbers i 0 ≡ length rows = ap (λ k. get_or numbers k 0) (sym place) ∙ keeps.last in
                same ∙ last ∙ omega (arith, none)
            | false ↦ λ t.
                let le : length numbers ≤ i = grind (arith, nat_tests) in
                past numbers i (i - length numbers + length rows + 1) le ∙ omega (arith, e)
          ] refl

      empty : (xs : List Row) → length xs ≡ 0 → xs ≡ []
      empty [] e = refl
      empty (x ∷ xs) e = absurd (omega (arith, e))

      no_numbers : (ns : List ℕ) → length ns ≡ 0 → get_or ns (length ns - 1) 0 ≡ 0
      no_numbers [] e = refl
      no_numbers (n ∷ ns) e = absurd (omega (arith, e))

      by_count : (m : ℕ) → length (rows_at numbers rows ++ made) ≡ m → length (rows_at numbers rows ++ made) ≡ length numbers + length made → last_fault (length (rows ++ made)) (slice_get (rows ++ made) (length (rows ++ made) - 1)) ≡ option_map (renumbered_fault (length rows) numbers) (last_fault (length (rows_at numbers rows ++ made)) (slice_get (rows_at numbers rows ++ made) (length (rows_at numbers rows ++ made) - 1)))
      by_count zero e c =
          let none_kept : length numbers ≡ 0 = omega (arith, e, c) in
          let none_made : made ≡ [] = empty made (omega (arith, e, c)) in
          let none_here : rows_at numbers rows ++ made ≡ [] = empty (rows_at numbers rows ++ made) e in
          let count : length rows ≡ 0 = sym keeps.last ∙ no_numbers numbers none_kept in
          let none : rows ++ made ≡ [] = empty (rows ++ made) (omega (arith, length-append rows made, count, ap length none_made)) in
          rw (none_here, none) refl
      by_count (suc i) e c =
          let row = row_at (rows_at numbers rows ++ made) (suc i) in
          let number : whole_number (length rows) numbers (suc i) ≡ length rows + length made = number_of_last i (omega (arith, e, c)) in
          let whole : length (rows ++ made) ≡ length rows + length made = length-append rows made in
          let same : row_at (rows ++ made) (length rows + length made) ≡ row = ap (row_at (rows ++ made)) (sym number) ∙ row_same rows numbers keeps.rising made (suc i) (omega arith) in
          let some : 1 ≤ length rows + length made = first_number number in
          let there : slice_get (rows ++ made) (length (rows ++ made) - 1) ≡ Some row = slice_get-get_or (rows ++ made) (length (rows ++ made) - 1) no_row (omega (arith, whole, some)) ∙ ap (λ k. Some (get_or (rows ++ made) (k - 1) no_row)) whole ∙ ap Some same in
          let here : slice_get (rows_at numbers rows ++ made) (length (rows_at numbers rows ++ made) - 1) ≡ Some row = slice_get-get_or (rows_at numbers rows ++ made) (length (rows_at numbers rows ++ made) - 1) no_row (omega (arith, e)) ∙ ap (λ k. Some (get_or (rows_at numbers rows ++ made) (k - 1) no_row)) e in
          rw (there, here, e, whole) (elim (is_contradiction row) as (λ b. (if b then None else Some (NoContradiction (length rows + length made))) ≡ option_map (renumbered_fault (length rows) numbers) (if b then None else Some (NoContradiction (suc i)))) [
            | true ↦ refl
            | false ↦ ap (λ k. Some (NoContradiction k)) (sym number)
          ]) where
            first_number : whole_number (length rows) numbers (suc i) ≡ length rows + length made → 1 ≤ length rows + length made
            first_number number =
                let tests = named_same rows numbers keeps.rising (length made) (suc i) in
                let low : nat_le 1 (suc i) ≡ true = grind (arith, nat_tests) in
                let high : nat_le (suc i) (length numbers + length made) ≡ true = grind (arith, nat_tests, e, c) in
                grind (arith, nat_tests, tests, low, high, number)

pub fault_from_same : (vars : ℕ) (rows : List Row) (numbers : List ℕ) (made : List Row) (n : ℕ) (steps : List Step) → KeepsLast numbers rows → fault_from vars (rows ++ made) n (map (renumbered_step (length rows) numbers) steps) ≡ option_map (renumbered_fault (length rows) numbers) (fault_from vars (rows_at numbers rows ++ made) n steps)
fault_from_same vars rows numbers made n [] keeps = last_same rows numbers made keeps
fault_from_same vars rows numbers made n (step ∷ steps) keeps =
    elim (names_bad_row (length numbers + length made) step.terms) as (λ b. names_bad_row (length numbers + length made) step.terms ≡ b → fault_from vars (rows ++ made) n (map (renumbered_step (length rows) numbers) (step ∷ steps)) ≡ option_map (renumbered_fault (length rows) numbers) (fault_from vars (rows_at numbers rows ++ made) n (step ∷ steps))) [
      | true ↦ λ bad.
          let here = step_same vars rows numbers made n step keeps.rising (λ good. absurd (let clash = bad in cc)) in
          let refused = some_fault bad in
          rw (here, refused.1) refl
      | false ↦ λ named.
          let here = step_same vars rows numbers made n step keeps.rising (λ good. numbers_same rows numbers keeps.rising vars made step (length numbers + length made) named n) in
          let row : made_row vars (rows ++ made) (renumbered_step (length rows) numbers step) ≡ made_row vars (rows_at numbers rows ++ made) step = made_same rows numbers keeps.rising vars made step (length numbers + length made) named in
          let rest = fault_from_same vars rows numbers (made ++ made_row vars (rows_at numbers rows ++ made) step ∷ []) (n + 1) steps keeps in
          let new = made_row vars (rows_at numbers rows ++ made) step in
          let there : rows ++ made ++ new ∷ [] ≡ rows ++ (made ++ new ∷ []) = append_assoc rows made (new ∷ []) in
          let behind : rows_at numbers rows ++ made ++ new ∷ [] ≡ rows_at numbers rows ++ (made ++ new ∷ []) = append_assoc (rows_at numbers rows) made (new ∷ []) in
          rw (here, row, there, behind, rest) (either (step_fault vars (rows_at numbers rows ++ made) n step) (fault_from vars (rows_at numbers rows ++ (made ++ made_row vars (rows_at numbers rows ++ made) step ∷ [])) (n + 1) steps))
    ] refl where
      either : (a b : Option CertRefusal) → option_or (option_map (renumbered_fault (length rows) numbers) a) (option_map (renumbered_fault (length rows) numbers) b) ≡ option_map (renumbered_fault (length rows) numbers) (option_or a b)
      either None b = refl
      either (Some e) b = refl

      some_fault : names_bad_row (length numbers + length made) step.terms ≡ true → (e : CertRefusal) × (step_fault vars (rows_at numbers rows ++ made) n step ≡ Some e)
      some_fault bad =
          let count_here : length (rows_at numbers rows ++ made) ≡ length numbers + length made = omega (arith, length-append (rows_at numbers rows) made, length-map numbers (row_at rows)) in
          rw (count_here, bad) (elim (has_negative step.terms) as (λ b. (e : CertRefusal) × ((if b then Some (NegativeMultiplier n) else Some (BadRow n)) ≡ Some e)) [ true ↦ (NegativeMultiplier n, refl) | false ↦ (BadRow n, refl) ])

pub fault_renumbered : (system : Inequalities) (numbers : List ℕ) (certificate : Certificate) → KeepsLast numbers system.rows → first_fault system (renumbered (length system.rows) numbers certificate) ≡ option_map (renumbered_fault (length system.rows) numbers) (first_fault (with_rows numbers system) certificate)
fault_renumbered system numbers certificate keeps =
    let same = fault_from_same system.vars system.rows numbers [] 1 certificate.steps keeps in
    rw (append-nil system.rows, append-nil (rows_at numbers system.rows)) at same

-- without some rows, and then without columns: a certificate for what is left, with the numbers of the whole, and its fault
pub fault_of_kept : (system : Inequalities) (numbers keep : List ℕ) (certificate : Certificate) → KeepsLast numbers system.rows → KeepsAll keep (with_rows numbers system) → first_fault system (renumbered (length system.rows) numbers certificate) ≡ option_map (renumbered_fault (length system.rows) numbers) (option_map (whole_fault system.vars keep) (first_fault (with_columns keep (with_rows numbers system)) certificate))
fault_of_kept system numbers keep certificate last keeps =
    fault_renumbered system numbers certificate last ∙ ap (option_map (renumbered_fault (length system.rows) numbers)) (fault_with_columns (with_rows numbers system) keep certificate keeps)

pub good_of_kept : (system : Inequalities) (numbers keep : List ℕ) (certificate : Certificate) → KeepsLast numbers system.rows → KeepsAll keep (with_rows numbers system) → IsGood system (renumbered (length system.rows) numbers certificate) ↔ IsGood (with_columns keep (with_rows numbers system)) certificate
good_of_kept system numbers keep certificate last keeps =
    let same = fault_of_kept system numbers keep certificate last keeps in
    let form = with_columns keep (with_rows numbers system) in (
      λ good. good_where_none form certificate (unmapped (first_fault form certificate) (sym same ∙ none_where_good system (renumbered (length system.rows) numbers certificate) good)),
      λ good. good_where_none system (renumbered (length system.rows) numbers certificate) (same ∙ ap (λ o. option_map (renumbered_fault (length system.rows) numbers) (option_map (whole_fault system.vars keep) o)) (none_where_good form certificate good)),
    ) where
      unmapped : (o : Option CertRefusal) → option_map (renumbered_fault (length system.rows) numbers) (option_map (whole_fault system.vars keep) o) ≡ None → o ≡ None
      unmapped None h = refl
      unmapped (Some e) h = absurd cc

-- a certificate all of whose given rows are kept has the numbers of the whole
place_is : (numbers : List ℕ) (r d : ℕ) → is_kept numbers r ≡ true → (place_in numbers r < length numbers) × (get_or numbers (place_in numbers r) d ≡ r)
place_is [] r d h = absurd cc
place_is (n ∷ numbers) r d h =
    elim (n == r) as (λ b. (n == r) ≡ b → ((if b then 0 else suc (place_in numbers r)) < suc (length numbers)) × (get_or (n ∷ numbers) (if b then 0 else suc (place_in numbers r)) d ≡ r)) [
      | true ↦ λ e. (omega arith, grind (arith, nat_tests))
      | false ↦ λ e.
          let rest = place_is numbers r d (let g = h in grind (arith, nat_tests, e)) in
          (omega (arith, rest.0), rest.1)
    ] refl

kept_back : (count : ℕ) (numbers : List ℕ) (r : ℕ) → (1 ≤ r → r ≤ count → is_kept numbers r ≡ true) → whole_number count numbers (kept_number count numbers r) ≡ r
kept_back count numbers r kept =
    elim (nat_le r count) as (λ b. nat_le r count ≡ b → whole_number count numbers (if b then (if nat_le 1 r then suc (place_in numbers r) else 0) else r - count + length numbers) ≡ r) [
      | true ↦ λ e.
          let le : r ≤ count = grind (arith, nat_tests) in
          elim (nat_le 1 r) as (λ b. nat_le 1 r ≡ b → whole_number count numbers (if b then suc (place_in numbers r) else 0) ≡ r) [
            | true ↦ λ f.
                let some : 1 ≤ r = grind (arith, nat_tests) in
                (place_is numbers r (place_in numbers r - length numbers + count + 1) (kept some le)).1
            | false ↦ λ f. let none : r < 1 = grind (arith, nat_tests) in omega (arith, none)
          ] refl
      | false ↦ λ e.
          let more : count < r = grind (arith, nat_tests) in
          by_place (r - count + length numbers) refl more
    ] refl where
      by_place : (k : ℕ) → r - count + length numbers ≡ k → count < r → whole_number count numbers k ≡ r
      by_place zero e more = absurd (omega (arith, e, more))
      by_place (suc i) e more = past numbers i (i - length numbers + count + 1) (omega (arith, e, more)) ∙ omega (arith, e, more)

terms_back : (count : ℕ) (numbers : List ℕ) (terms : List (ℕ × ℤ)) → NamesKept count numbers terms → renumbered_terms count numbers (map (λ t. (kept_number count numbers t.0, t.1)) terms) ≡ terms
terms_back count numbers [] kept = refl
terms_back count numbers (t ∷ terms) kept = rw (kept_back count numbers t.0 kept.0, terms_back count numbers terms kept.1) refl

steps_back : (count : ℕ) (numbers : List ℕ) (steps : List Step) → StepsNameKept count numbers steps → map (renumbered_step count numbers) (map (λ step. record { divisor = step.divisor; terms = map (λ t. (kept_number count numbers t.0, t.1)) step.terms }) steps) ≡ steps
steps_back count numbers [] kept = refl
steps_back count numbers (step ∷ steps) kept = rw (terms_back count numbers step.terms kept.0, steps_back count numbers steps kept.1) refl

pub certificate_back : (count : ℕ) (numbers : List ℕ) (certificate : Certificate) → StepsNameKept count numbers certificate.steps → renumbered count numbers (kept_certificate count numbers certificate) ≡ certificate
certificate_back count numbers certificate kept = rw (steps_back count numbers certificate.steps kept) refl

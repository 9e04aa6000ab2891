-- Rows that no later step names may be forgotten.
use Rattle.std.specs.Prelude.{◌==◌}
use Rattle.std.proofs.Common.{◌≡◌, ℕ, ◌+◌, ◌-◌, ◌≤◌, ◌<◌, ℤ, pos, int_lt, int_div, int_rem, Bool, true, false, ◌&&◌, ◌||◌, nat_le, if◌then◌else◌, Option, Some, None, List, [], ◌∷◌, ◌++◌, map, length, length-append, get_or, slice_get, refl, ap, sym, ◌∙◌, arith, set, subst}
use Rattle.std.specs.Int.{int_div_euclid}
use Rattle.std.specs.Option.{option_or}
use Rattle.std.specs.Ordering.{int_eq}
use Rattle.std.specs.List.{list_all, range_with_len}
use Rattle.std.proofs.lemmas.Bool.Decides.{nat_tests}
use Rattle.std.proofs.lemmas.List.{get_or_append_left, get_or-append_right, get_or-set_other, length-set}
use Rattle.std.proofs.lemmas.Option.{slice_get-get_or}
use Rattle.farkas_cert.specs.declared.system.Row.{Row}
use Rattle.farkas_cert.specs.declared.certificate.Step.{Step}
use Rattle.farkas_cert.specs.declared.certificate.CertRefusal.{CertRefusal}
use Rattle.farkas_cert.specs.declared.certificate.CertRefusal.TheVariants.{NegativeMultiplier, BadRow}
use Rattle.farkas_cert.specs.Combination.{no_row, row_at, products_at, total, sum_at, made_row}
use Rattle.farkas_cert.specs.Fault.{has_negative, names_bad_row, first_wide, divides, number_fault, step_fault, fault_from}
use Rattle.farkas_cert.specs.Named.{terms_name, steps_name}

-- as many rows, the same ones where these steps name them, and the same last one where no step is left
pub record AreSameWhereNamed (steps : List Step) (rows others : List Row) : Type 0 where
  pub count : length rows ≡ length others
  pub named : (r : ℕ) → 1 ≤ r → steps_name r steps ≡ true → row_at rows r ≡ row_at others r
  pub last : steps ≡ [] → slice_get rows (length rows - 1) ≡ slice_get others (length others - 1)

module _ (vars : ℕ) (rows others : List Row) where
  products_same : (terms : List (ℕ × ℤ)) (count k : ℕ) → names_bad_row count terms ≡ false → ((r : ℕ) → 1 ≤ r → terms_name r terms ≡ true → row_at rows r ≡ row_at others r) → products_at vars rows terms k ≡ products_at vars others terms k
  products_same [] count k named same = refl
  products_same (t ∷ terms) count k named same =
      let first : 1 ≤ t.0 = grind (arith, nat_tests, named) in
      let rest : names_bad_row count terms ≡ false = grind (arith, nat_tests, named) in
      let itself : (t.0 == t.0) ≡ true = grind (arith, nat_tests) in
      let row : row_at rows t.0 ≡ row_at others t.0 = same t.0 first (rw itself refl) in
      rw (row, products_same terms count k rest (λ r low h. same r low (later (t.0 == r) (terms_name r terms) h))) refl where
        later : (a b : Bool) → b ≡ true → (a || b) ≡ true
        later true b h = refl
        later false b h = h

  module _ (step : Step) (count : ℕ) (named : names_bad_row count step.terms ≡ false) (same : (r : ℕ) → 1 ≤ r → terms_name r step.terms ≡ true → row_at rows r ≡ row_at others r) where
    sum_same : (k : ℕ) → sum_at vars rows step.terms k ≡ sum_at vars others step.terms k
    sum_same k = ap total (products_same step.terms count k named same)

    wide_same : (entries : List ℕ) → first_wide vars rows step.terms entries ≡ first_wide vars others step.terms entries
    wide_same [] = refl
    wide_same (k ∷ entries) = rw (products_same step.terms count k named same, wide_same entries) refl

    tests_same : (entries : List ℕ) → list_all (λ k. int_eq (int_rem (sum_at vars rows step.terms k) step.divisor) (pos 0)) entries ≡ list_all (λ k. int_eq (int_rem (sum_at vars others step.terms k) step.divisor) (pos 0)) entries
    tests_same [] = refl
    tests_same (k ∷ entries) = rw (sum_same k, tests_same entries) refl

    divides_same : divides vars rows step ≡ divides vars others step
    divides_same = ap (λ b. int_lt (pos 0) step.divisor && b) (tests_same (range_with_len 0 vars))

    coefs_same : (entries : List ℕ) → map (λ k. int_div (sum_at vars rows step.terms k) step.divisor) entries ≡ map (λ k. int_div (sum_at vars others step.terms k) step.divisor) entries
    coefs_same [] = refl
    coefs_same (k ∷ entries) = rw (sum_same k, coefs_same entries) refl

    made_same : made_row vars rows step ≡ made_row vars others step
    made_same =
        let of : List ℤ → ℤ → Row = λ cs b. record { coefs = cs; bound = b } in
        ap (λ cs. of cs (int_div_euclid (sum_at vars rows step.terms vars) step.divisor)) (coefs_same (range_with_len 0 vars))
        ∙ ap (λ z. of (map (λ k. int_div (sum_at vars others step.terms k) step.divisor) (range_with_len 0 vars)) (int_div_euclid z step.divisor)) (sum_same vars)

    numbers_same : (n : ℕ) → number_fault vars rows n step (first_wide vars rows step.terms (range_with_len 0 (vars + 1))) ≡ number_fault vars others n step (first_wide vars others step.terms (range_with_len 0 (vars + 1)))
    numbers_same n = rw (wide_same (range_with_len 0 (vars + 1))) (by_entry (first_wide vars others step.terms (range_with_len 0 (vars + 1)))) where
      by_entry : (o : Option ℕ) → number_fault vars rows n step o ≡ number_fault vars others n step o
      by_entry (Some k) = refl
      by_entry None = rw divides_same refl

-- one row more, the same behind both
row_behind : (rows others : List Row) (new : Row) (r : ℕ) → length rows ≡ length others → 1 ≤ r → (r ≤ length rows → row_at rows r ≡ row_at others r) → row_at (rows ++ new ∷ []) r ≡ row_at (others ++ new ∷ []) r
row_behind rows others new r count some same =
    elim (nat_le r (length rows)) as (λ b. nat_le r (length rows) ≡ b → row_at (rows ++ new ∷ []) r ≡ row_at (others ++ new ∷ []) r) [
      | true ↦ λ e.
          let le : r ≤ length rows = grind (arith, nat_tests) in
          get_or_append_left rows (new ∷ []) no_row (r - 1) (omega arith) ∙ same le ∙ sym (get_or_append_left others (new ∷ []) no_row (r - 1) (omega (arith, count)))
      | false ↦ λ e.
          let more : length rows ≤ r - 1 = grind (arith, nat_tests) in
          get_or-append_right rows (new ∷ []) (length rows) (r - 1) no_row refl more ∙ sym (get_or-append_right others (new ∷ []) (length rows) (r - 1) no_row (sym count) more)
    ] refl

last_behind : (rows : List Row) (new : Row) → slice_get (rows ++ new ∷ []) (length (rows ++ new ∷ []) - 1) ≡ Some new
last_behind rows new =
    let count : length (rows ++ new ∷ []) ≡ length rows + 1 = length-append rows (new ∷ []) in
    let place : length (rows ++ new ∷ []) - 1 - length rows ≡ 0 = omega (arith, count) in
    slice_get-get_or (rows ++ new ∷ []) (length (rows ++ new ∷ []) - 1) no_row (omega (arith, count)) ∙ ap Some (get_or-append_right rows (new ∷ []) (length rows) (length (rows ++ new ∷ []) - 1) no_row refl (omega (arith, count)) ∙ ap (λ i. get_or (new ∷ []) i no_row) place)

-- the first fault is the same over rows that are the same where they are named
pub fault_where_named : (vars : ℕ) (rows others : List Row) (n : ℕ) (steps : List Step) → AreSameWhereNamed steps rows others → fault_from vars rows n steps ≡ fault_from vars others n steps
fault_where_named vars rows others n [] same = rw (same.last refl, same.count) refl
fault_where_named vars rows others n (step ∷ steps) same =
    let in_step : (r : ℕ) → 1 ≤ r → terms_name r step.terms ≡ true → row_at rows r ≡ row_at others r = λ r low h. same.named r low (first (terms_name r step.terms) (steps_name r steps) h) in
    elim (names_bad_row (length others) step.terms) as (λ b. names_bad_row (length others) step.terms ≡ b → fault_from vars rows n (step ∷ steps) ≡ fault_from vars others n (step ∷ steps)) [
      | true ↦ λ bad. rw (same.count, bad) (refused (has_negative step.terms) (fault_from vars (rows ++ made_row vars rows step ∷ []) (n + 1) steps) (fault_from vars (others ++ made_row vars others step ∷ []) (n + 1) steps))
      | false ↦ λ named.
          let row : made_row vars rows step ≡ made_row vars others step = made_same vars rows others step (length others) named in_step in
          let here : step_fault vars rows n step ≡ step_fault vars others n step = rw (same.count, named) (ap (λ o. if has_negative step.terms then Some (NegativeMultiplier n) else o) (numbers_same vars rows others step (length others) named in_step n)) in
          let new = made_row vars others step in
          let on : AreSameWhereNamed steps (rows ++ new ∷ []) (others ++ new ∷ []) = record {
            count = omega (arith, length-append rows (new ∷ []), length-append others (new ∷ []), same.count);
            named = λ r low h. row_behind rows others new r same.count low (λ le. same.named r low (second (terms_name r step.terms) (steps_name r steps) h));
            last = λ none. last_behind rows new ∙ sym (last_behind others new);
          } in
          rw (here, row, fault_where_named vars (rows ++ new ∷ []) (others ++ new ∷ []) (n + 1) steps on) refl
    ] refl where
      first : (a b : Bool) → a ≡ true → (a || b) ≡ true
      first true b h = refl
      first false b h = absurd cc

      second : (a b : Bool) → b ≡ true → (a || b) ≡ true
      second true b h = refl
      second false b h = h

      refused : (b : Bool) (x y : Option CertRefusal) → option_or (if b then Some (NegativeMultiplier n) else Some (BadRow n)) x ≡ option_or (if b then Some (NegativeMultiplier n) else Some (BadRow n)) y
      refused true x y = refl
      refused false x y = refl

-- one made row that no step left names is forgotten, where it isn't the last with no step left
pub forget_one : (vars : ℕ) (rows made : List Row) (i n : ℕ) (other : Row) (steps : List Step) → i < length made → steps_name (length rows + i + 1) steps ≡ false → (steps ≡ [] → i + 1 < length made) → fault_from vars (rows ++ set made i other) n steps ≡ fault_from vars (rows ++ made) n steps
forget_one vars rows made i n other steps within none behind =
    let count : length (rows ++ set made i other) ≡ length (rows ++ made) = omega (arith, length-append rows (set made i other), length-append rows made, length-set made i other) in
    fault_where_named vars (rows ++ set made i other) (rows ++ made) n steps (record {
      count = count;
      named = λ r low h. elsewhere (r - 1) (λ same. absurd (let is : r ≡ length rows + i + 1 = omega (arith, same, low) in let clash = subst (λ k. steps_name k steps ≡ true) is h in cc));
      last = λ end. let more = behind end in
          slice_get-get_or (rows ++ set made i other) (length (rows ++ set made i other) - 1) no_row (omega (arith, length-append rows (set made i other), length-set made i other, within))
          ∙ ap Some (elsewhere (length (rows ++ set made i other) - 1) (λ same. absurd (omega (arith, same, more, length-append rows (set made i other), length-set made i other))))
          ∙ ap (λ k. Some (get_or (rows ++ made) (k - 1) no_row)) count
          ∙ sym (slice_get-get_or (rows ++ made) (length (rows ++ made) - 1) no_row (omega (arith, length-append rows made, within)));
    }) where
      elsewhere : (k : ℕ) → (k ≡ length rows + i → ⊥) → get_or (rows ++ set made i other) k no_row ≡ get_or (rows ++ made) k no_row
      elsewhere k apart =
          elim (nat_le (length rows) k) as (λ b. nat_le (length rows) k ≡ b → get_or (rows ++ set made i other) k no_row ≡ get_or (rows ++ made) k no_row) [
            | true ↦ λ e.
                let le : length rows ≤ k = grind (arith, nat_tests) in
                get_or-append_right rows (set made i other) (length rows) k no_row refl le ∙ get_or-set_other made i (k - length rows) other no_row (λ same. apart (omega (arith, same, le))) ∙ sym (get_or-append_right rows made (length rows) k no_row refl le)
            | false ↦ λ e.
                let lt : k < length rows = grind (arith, nat_tests) in
                get_or_append_left rows (set made i other) no_row k lt ∙ sym (get_or_append_left rows made no_row k lt)
          ] refl

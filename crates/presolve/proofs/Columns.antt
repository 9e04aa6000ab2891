-- The check of a certificate, column by column.
use Rattle.std.proofs.Common.{◌≡◌, ℕ, zero, suc, ◌+◌, ◌-◌, ◌==◌, ◌≤◌, ◌<◌, ℤ, pos, negsuc, ◌*ℤ◌, int_lt, int_div, int_rem, Bool, true, false, ◌&&◌, nat_lt, if◌then◌else◌, Option, Some, None, List, [], ◌∷◌, ◌++◌, map, length, get_or, slice_get, slice_index_or, refl, ap, sym, ◌∙◌, subst, add-one, arith}
use Rattle.std.specs.Int.{int_div_euclid}
use Rattle.std.specs.Option.{option_map, option_or}
use Rattle.std.specs.Ordering.{int_eq}
use Rattle.std.specs.List.{All, list_all, range_with_len}
use Rattle.std.proofs.Math.IntN.{*ℤ-zero}
use Rattle.std.proofs.Math.Nat.{zero-div, zero-mod}
use Rattle.std.proofs.lemmas.Bool.Decides.{nat_tests}
use Rattle.std.proofs.lemmas.List.{map-append, length-map}
use Rattle.std.proofs.lemmas.List.Folds.{list_all-map}
use Rattle.std.proofs.lemmas.List.Elements.{All-push}
use Rattle.std.proofs.lemmas.List.FromFn.{get_or-map-range_with_len, length-map-range_with_len}
use Rattle.farkas_cert.specs.declared.system.Row.{Row}
use Rattle.farkas_cert.specs.declared.certificate.Step.{Step}
use Rattle.farkas_cert.specs.declared.certificate.Certificate.{Certificate}
use Rattle.farkas_cert.specs.declared.certificate.CertRefusal.{CertRefusal}
use Rattle.farkas_cert.specs.declared.certificate.CertRefusal.TheVariants.{NegativeMultiplier, BadRow, BadDivisor, NoContradiction}
use Rattle.farkas_cert.specs.Inequalities.{Inequalities, AreFull}
use Rattle.farkas_cert.specs.Combination.{no_row, row_at, entry_at, products_at, total, sum_at, made_row, stays_narrow}
use Rattle.farkas_cert.specs.Fault.{has_negative, names_bad_row, first_wide, divides, number_fault, step_fault, is_contradiction, last_fault, fault_from, first_fault}
use Rattle.std.specs.Prelude.{◌↔◌}
use Rattle.farkas_cert.specs.Good.{IsGood}
use Rattle.farkas_cert.proofs.Verdict.{good_where_none, none_where_good}
use Rattle.presolve.specs.Columns.{AreRising, is_kept, kept_row, with_columns, IsZeroOutside, KeepsAll, whole_entry, whole_fault}

-- columns that rise from a place on have none before it
pub not_before : (from vars : ℕ) (keep : List ℕ) (k : ℕ) → AreRising from vars keep → k < from → is_kept keep k ≡ false
not_before from vars [] k rising before = refl
not_before from vars (j ∷ keep) k rising before =
    let other : (j == k) ≡ false = grind (arith, nat_tests, rising.0) in
    rw (other, not_before (j + 1) vars keep k rising.2 (omega (arith, rising.0))) refl

-- the places one behind another name the columns that are kept
places : (a d : ℕ) (xs : List ℕ) (f : ℕ → ℕ) → ((j : ℕ) → f (a + j) ≡ get_or xs j d) → map f (range_with_len a (length xs)) ≡ xs
places a d [] f h = refl
places a d (x ∷ xs) f h =
    let first : f a ≡ x = ap f (omega arith) ∙ h 0 in
    rw first (ap (λ ys. x ∷ ys) (places (a + 1) d xs f (λ j. ap f (omega arith) ∙ h (suc j))))

places_and_last : (a d : ℕ) (xs : List ℕ) (f : ℕ → ℕ) → ((j : ℕ) → f (a + j) ≡ get_or xs j d) → map f (range_with_len a (suc (length xs))) ≡ xs ++ d ∷ []
places_and_last a d [] f h =
    let first : f a ≡ d = ap f (omega arith) ∙ h 0 in rw first refl
places_and_last a d (x ∷ xs) f h =
    let first : f a ≡ x = ap f (omega arith) ∙ h 0 in
    rw first (ap (λ ys. x ∷ ys) (places_and_last (a + 1) d xs f (λ j. ap f (omega arith) ∙ h (suc j))))

-- a test of each column, which those that aren't kept pass
all_kept : (p : ℕ → Bool) (vars a n : ℕ) (keep : List ℕ) → a + n ≡ vars → AreRising a vars keep → ((k : ℕ) → a ≤ k → k < vars → is_kept keep k ≡ false → p k ≡ true) → list_all p (range_with_len a n) ≡ list_all p keep
all_kept p vars a zero [] end rising h = refl
all_kept p vars a zero (k ∷ keep) end rising h = absurd (omega (arith, rising.0, rising.1))
all_kept p vars a (suc n) [] end rising h = rw (h a (omega arith) (omega arith) refl) (all_kept p vars (a + 1) n [] (omega arith) tt (λ k low high none. h k (omega arith) high none))
all_kept p vars a (suc n) (j ∷ keep) end rising h =
    elim (j == a) as (λ b. (j == a) ≡ b → list_all p (range_with_len a (suc n)) ≡ list_all p (j ∷ keep)) [
      | true ↦ λ e.
          let same : j ≡ a = grind (arith, nat_tests) in
          let rest = all_kept p vars (a + 1) n keep (omega arith) (subst (λ i. AreRising (i + 1) vars keep) same rising.2) (λ k low high none. h k (omega arith) high (let other : (j == k) ≡ false = grind (arith, nat_tests) in rw (other, none) refl)) in
          rw (same, rest) refl
      | false ↦ λ e.
          let past : a + 1 ≤ j = grind (arith, nat_tests, rising.0) in
          let here = h a (omega arith) (omega arith) (not_before (a + 1) vars (j ∷ keep) a (past, rising.1, rising.2) (omega arith)) in
          rw here (all_kept p vars (a + 1) n (j ∷ keep) (omega arith) (past, rising.1, rising.2) (λ k low high none. h k (omega arith) high none))
    ] refl

-- what holds of each row holds of the one with this place, or of the row that stands where there is none
row_there : (P : Row → Type 0) (rows : List Row) (i : ℕ) → All P rows → P no_row → P (get_or rows i no_row)
row_there P [] i all none = none
row_there P (r ∷ rows) zero all none = all 0 r (omega arith)
row_there P (r ∷ rows) (suc i) all none = row_there P rows i (λ k d lt. all (suc k) d (omega arith)) none

module _ (vars : ℕ) (keep : List ℕ) where
  -- column by column
  at_place : (from : ℕ) (keep : List ℕ) (j : ℕ) → AreRising from vars keep → j < length keep → get_or keep j vars < vars
  at_place from [] j rising lt = absurd (omega arith)
  at_place from (k ∷ keep) zero rising lt = rising.1
  at_place from (k ∷ keep) (suc j) rising lt = at_place (k + 1) keep j rising.2 (omega arith)

  behind : (keep : List ℕ) (j : ℕ) → length keep ≤ j → get_or keep j vars ≡ vars
  behind [] j le = refl
  behind (k ∷ keep) zero le = absurd (omega arith)
  behind (k ∷ keep) (suc j) le = behind keep j (omega arith)

  kept_at : (values : List ℤ) (keep : List ℕ) (j : ℕ) → j < length keep → get_or (map (λ k. get_or values k (pos 0)) keep) j (pos 0) ≡ get_or values (get_or keep j vars) (pos 0)
  kept_at values [] j lt = absurd (omega arith)
  kept_at values (k ∷ keep) zero lt = refl
  kept_at values (k ∷ keep) (suc j) lt = kept_at values keep j (omega arith)

  entry_same : (row : Row) (j : ℕ) → AreRising 0 vars keep → entry_at (length keep) (kept_row keep row) j ≡ entry_at vars row (whole_entry vars keep j)
  entry_same row j rising =
      elim (nat_lt j (length keep)) as (λ b. nat_lt j (length keep) ≡ b → entry_at (length keep) (kept_row keep row) j ≡ entry_at vars row (whole_entry vars keep j)) [
        | true ↦ λ e.
            let lt : j < length keep = grind (arith, nat_tests) in
            let inside : nat_lt (get_or keep j vars) vars ≡ true = grind (arith, nat_tests, at_place 0 keep j rising lt) in
            rw (e, inside) (kept_at row.coefs keep j lt)
        | false ↦ λ e.
            let le : length keep ≤ j = grind (arith, nat_tests) in
            let last : nat_lt vars vars ≡ false = grind (arith, nat_tests) in
            rw (e, behind keep j le, last) refl
      ] refl

  no_entry : (n k : ℕ) → entry_at n no_row k ≡ pos 0
  no_entry n k = elim (nat_lt k n) as (λ b. (if b then slice_index_or no_row.coefs k (pos 0) else no_row.bound) ≡ pos 0) [ true ↦ refl | false ↦ refl ]

  row_same : (rows : List Row) (i j : ℕ) → AreRising 0 vars keep → entry_at (length keep) (get_or (map (kept_row keep) rows) i no_row) j ≡ entry_at vars (get_or rows i no_row) (whole_entry vars keep j)
  row_same [] i j rising = no_entry (length keep) j ∙ sym (no_entry vars (whole_entry vars keep j))
  row_same (r ∷ rows) zero j rising = entry_same r j rising
  row_same (r ∷ rows) (suc i) j rising = row_same rows i j rising

  pub products_same : (rows : List Row) (terms : List (ℕ × ℤ)) (j : ℕ) → AreRising 0 vars keep → products_at (length keep) (map (kept_row keep) rows) terms j ≡ products_at vars rows terms (whole_entry vars keep j)
  products_same rows [] j rising = refl
  products_same rows (t ∷ terms) j rising = rw (row_same rows (t.0 - 1) j rising, products_same rows terms j rising) refl

  pub sum_same : (rows : List Row) (terms : List (ℕ × ℤ)) (j : ℕ) → AreRising 0 vars keep → sum_at (length keep) (map (kept_row keep) rows) terms j ≡ sum_at vars rows terms (whole_entry vars keep j)
  sum_same rows terms j rising = ap total (products_same rows terms j rising)

  -- columns that aren't kept
  entry_zero : (rows : List Row) (i k : ℕ) → All (IsZeroOutside vars keep) rows → k < vars → is_kept keep k ≡ false → entry_at vars (get_or rows i no_row) k ≡ pos 0
  entry_zero rows i k zero_outside within none =
      let inside : nat_lt k vars ≡ true = grind (arith, nat_tests) in
      let row = row_there (IsZeroOutside vars keep) rows i zero_outside (λ k lt no. refl) in
      rw inside (row k within none)

  pub zeros : (rows : List Row) (terms : List (ℕ × ℤ)) (k : ℕ) → All (IsZeroOutside vars keep) rows → k < vars → is_kept keep k ≡ false → (stays_narrow (pos 0) (products_at vars rows terms k) ≡ true) × (sum_at vars rows terms k ≡ pos 0)
  zeros rows [] k zero_outside within none = (refl, refl)
  zeros rows (t ∷ terms) k zero_outside within none =
      let rest = zeros rows terms k zero_outside within none in
      let product : t.1 *ℤ entry_at vars (row_at rows t.0) k ≡ pos 0 = ap (λ z. t.1 *ℤ z) (entry_zero rows (t.0 - 1) k zero_outside within none) ∙ *ℤ-zero t.1 in
      (rw product rest.0, rw product (rw rest.1 refl))

  -- the first entry past the limit: columns that aren't kept have none
  wide_among : (rows : List Row) (terms : List (ℕ × ℤ)) (entries : List ℕ) → AreRising 0 vars keep → first_wide vars rows terms (map (whole_entry vars keep) entries) ≡ option_map (whole_entry vars keep) (first_wide (length keep) (map (kept_row keep) rows) terms entries)
  wide_among rows terms [] rising = refl
  wide_among rows terms (j ∷ entries) rising =
      rw (products_same rows terms j rising)
      (elim (stays_narrow (pos 0) (products_at vars rows terms (whole_entry vars keep j))) as (λ b. (if b then first_wide vars rows terms (map (whole_entry vars keep) entries) else Some (whole_entry vars keep j)) ≡ option_map (whole_entry vars keep) (if b then first_wide (length keep) (map (kept_row keep) rows) terms entries else Some j)) [
        | true ↦ wide_among rows terms entries rising
        | false ↦ refl
      ])

-- of all entries only those that are kept, and the bound's, may be past the limit
wide_kept : (vars : ℕ) (rows : List Row) (terms : List (ℕ × ℤ)) (a n : ℕ) (keep : List ℕ) → a + n ≡ vars → AreRising a vars keep → ((k : ℕ) → a ≤ k → k < vars → is_kept keep k ≡ false → stays_narrow (pos 0) (products_at vars rows terms k) ≡ true) → first_wide vars rows terms (range_with_len a (suc n)) ≡ first_wide vars rows terms (keep ++ vars ∷ [])
wide_kept vars rows terms a zero [] end rising h = let last : a ≡ vars = omega (arith, end) in rw last refl
wide_kept vars rows terms a zero (k ∷ keep) end rising h = absurd (omega (arith, rising.0, rising.1))
wide_kept vars rows terms a (suc n) [] end rising h = rw (h a (omega arith) (omega arith) refl) (wide_kept vars rows terms (a + 1) n [] (omega arith) tt (λ k low high none. h k (omega arith) high none))
wide_kept vars rows terms a (suc n) (j ∷ keep) end rising h =
    elim (j == a) as (λ b. (j == a) ≡ b → first_wide vars rows terms (range_with_len a (suc (suc n))) ≡ first_wide vars rows terms (j ∷ keep ++ vars ∷ [])) [
      | true ↦ λ e.
          let same : j ≡ a = grind (arith, nat_tests) in
          let rest = wide_kept vars rows terms (a + 1) n keep (omega arith) (subst (λ i. AreRising (i + 1) vars keep) same rising.2) (λ k low high none. h k (omega arith) high (let other : (j == k) ≡ false = grind (arith, nat_tests) in rw (other, none) refl)) in
          rw (same, ← rest) refl
      | false ↦ λ e.
          let past : a + 1 ≤ j = grind (arith, nat_tests, rising.0) in
          let here = h a (omega arith) (omega arith) (not_before (a + 1) vars (j ∷ keep) a (past, rising.1, rising.2) (omega arith)) in
          rw here (wide_kept vars rows terms (a + 1) n (j ∷ keep) (omega arith) (past, rising.1, rising.2) (λ k low high none. h k (omega arith) high none))
    ] refl

module _ (vars : ℕ) (keep : List ℕ) (rising : AreRising 0 vars keep) where
  pub first_wide_same : (rows : List Row) (terms : List (ℕ × ℤ)) → All (IsZeroOutside vars keep) rows → first_wide vars rows terms (range_with_len 0 (vars + 1)) ≡ option_map (whole_entry vars keep) (first_wide (length keep) (map (kept_row keep) rows) terms (range_with_len 0 (length keep + 1)))
  first_wide_same rows terms outside =
      let all : first_wide vars rows terms (range_with_len 0 (suc vars)) ≡ first_wide vars rows terms (keep ++ vars ∷ []) = wide_kept vars rows terms 0 vars keep (omega arith) rising (λ k low high none. (zeros vars keep rows terms k outside high none).0) in
      let names : map (whole_entry vars keep) (range_with_len 0 (suc (length keep))) ≡ keep ++ vars ∷ [] = places_and_last 0 vars keep (whole_entry vars keep) (λ j. ap (λ i. get_or keep i vars) (omega arith)) in
      rw (add-one vars, add-one (length keep), all, ← names) (wide_among vars keep rows terms (range_with_len 0 (suc (length keep))) rising)

  -- the divisor divides each sum
  pub divides_same : (rows : List Row) (step : Step) → All (IsZeroOutside vars keep) rows → divides vars rows step ≡ divides (length keep) (map (kept_row keep) rows) step
  divides_same rows step outside =
      let good : ℕ → Bool = λ k. int_eq (int_rem (sum_at vars rows step.terms k) step.divisor) (pos 0) in
      let narrow : ℕ → Bool = λ j. int_eq (int_rem (sum_at (length keep) (map (kept_row keep) rows) step.terms j) step.divisor) (pos 0) in
      let names : map (whole_entry vars keep) (range_with_len 0 (length keep)) ≡ keep = places 0 vars keep (whole_entry vars keep) (λ j. ap (λ i. get_or keep i vars) (omega arith)) in
      let all : list_all good (range_with_len 0 vars) ≡ list_all good keep = all_kept good vars 0 vars keep (omega arith) rising (λ k low high none. rw (zeros vars keep rows step.terms k outside high none).1 (zero_rem step.divisor)) in
      let each : list_all narrow (range_with_len 0 (length keep)) ≡ list_all good (map (whole_entry vars keep) (range_with_len 0 (length keep))) = tests (range_with_len 0 (length keep)) in
      ap (λ b. int_lt (pos 0) step.divisor && b) (all ∙ ap (list_all good) (sym names) ∙ sym each) where
        zero_rem : (d : ℤ) → int_eq (int_rem (pos 0) d) (pos 0) ≡ true
        zero_rem (pos n) = rw (zero-mod n) refl
        zero_rem (negsuc n) = rw (zero-mod (suc n)) refl

        tests : (entries : List ℕ) → list_all (λ j. int_eq (int_rem (sum_at (length keep) (map (kept_row keep) rows) step.terms j) step.divisor) (pos 0)) entries ≡ list_all (λ k. int_eq (int_rem (sum_at vars rows step.terms k) step.divisor) (pos 0)) (map (whole_entry vars keep) entries)
        tests [] = refl
        tests (j ∷ entries) = rw (sum_same vars keep rows step.terms j rising, tests entries) refl

zero_div_ℤ : (d : ℤ) → int_div (pos 0) d ≡ pos 0
zero_div_ℤ (pos n) = rw (zero-div n) refl
zero_div_ℤ (negsuc n) = rw (zero-div (suc n)) refl

-- rows that can be with_columns
pub record AreOver (vars : ℕ) (keep : List ℕ) (rows : List Row) : Type 0 where
  pub full : AreFull vars rows
  pub outside : All (IsZeroOutside vars keep) rows

module _ (vars : ℕ) (keep : List ℕ) (rising : AreRising 0 vars keep) where
  quotients_kept : (f : ℕ → ℤ) (from : ℕ) (some : List ℕ) → AreRising from vars some → map (λ k. get_or (map f (range_with_len 0 vars)) k (pos 0)) some ≡ map f some
  quotients_kept f from [] r = refl
  quotients_kept f from (k ∷ some) r =
      let here : get_or (map f (range_with_len 0 vars)) k (pos 0) ≡ f k = get_or-map-range_with_len f 0 vars k k (pos 0) r.1 (omega arith) in
      rw (here, quotients_kept f (k + 1) some r.2) refl

  -- the row that a step makes
  pub made_row_kept : (rows : List Row) (step : Step) → kept_row keep (made_row vars rows step) ≡ made_row (length keep) (map (kept_row keep) rows) step
  made_row_kept rows step =
      let quotient : ℕ → ℤ = λ k. int_div (sum_at vars rows step.terms k) step.divisor in
      let narrow : ℕ → ℤ = λ j. int_div (sum_at (length keep) (map (kept_row keep) rows) step.terms j) step.divisor in
      let names : map (whole_entry vars keep) (range_with_len 0 (length keep)) ≡ keep = places 0 vars keep (whole_entry vars keep) (λ j. ap (λ i. get_or keep i vars) (omega arith)) in
      let each : map narrow (range_with_len 0 (length keep)) ≡ map quotient (map (whole_entry vars keep) (range_with_len 0 (length keep))) = values (range_with_len 0 (length keep)) in
      let coefs : map (λ k. get_or (map quotient (range_with_len 0 vars)) k (pos 0)) keep ≡ map narrow (range_with_len 0 (length keep)) = quotients_kept quotient 0 keep rising ∙ ap (map quotient) (sym names) ∙ sym each in
      let bound : sum_at (length keep) (map (kept_row keep) rows) step.terms (length keep) ≡ sum_at vars rows step.terms vars = sum_same vars keep rows step.terms (length keep) rising ∙ ap (sum_at vars rows step.terms) (behind vars keep keep (length keep) (omega arith)) in
      let of : List ℤ → ℤ → Row = λ cs b. record { coefs = cs; bound = b } in
      ap (λ cs. of cs (int_div_euclid (sum_at vars rows step.terms vars) step.divisor)) coefs ∙ ap (λ z. of (map narrow (range_with_len 0 (length keep))) (int_div_euclid z step.divisor)) (sym bound) where
        values : (entries : List ℕ) → map (λ j. int_div (sum_at (length keep) (map (kept_row keep) rows) step.terms j) step.divisor) entries ≡ map (λ k. int_div (sum_at vars rows step.terms k) step.divisor) (map (whole_entry vars keep) entries)
        values [] = refl
        values (j ∷ entries) = rw (sum_same vars keep rows step.terms j rising, values entries) refl

  pub made_row_over : (rows : List Row) (step : Step) → AreOver vars keep rows → AreOver vars keep (rows ++ made_row vars rows step ∷ [])
  made_row_over rows step over =
      let quotient : ℕ → ℤ = λ k. int_div (sum_at vars rows step.terms k) step.divisor in
      record {
        full = All-push (λ r. length r.coefs ≡ vars) rows (made_row vars rows step) over.full (length-map-range_with_len quotient 0 vars);
        outside = All-push (IsZeroOutside vars keep) rows (made_row vars rows step) over.outside (λ k within none.
            let here : get_or (map quotient (range_with_len 0 vars)) k (pos 0) ≡ quotient k = get_or-map-range_with_len quotient 0 vars k k (pos 0) within (omega arith) in
            here ∙ ap (λ z. int_div z step.divisor) (zeros vars keep rows step.terms k over.outside within none).1 ∙ zero_div_ℤ step.divisor);
      }

  -- a step's fault
  pub step_fault_same : (rows : List Row) (n : ℕ) (step : Step) → AreOver vars keep rows → step_fault vars rows n step ≡ option_map (whole_fault vars keep) (step_fault (length keep) (map (kept_row keep) rows) n step)
  step_fault_same rows n step over =
      rw (length-map rows (kept_row keep))
      (elim (has_negative step.terms) as (λ b. (if b then Some (NegativeMultiplier n) else (if names_bad_row (length rows) step.terms then Some (BadRow n) else number_fault vars rows n step (first_wide vars rows step.terms (range_with_len 0 (vars + 1))))) ≡ option_map (whole_fault vars keep) (if b then Some (NegativeMultiplier n) else (if names_bad_row (length rows) step.terms then Some (BadRow n) else number_fault (length keep) (map (kept_row keep) rows) n step (first_wide (length keep) (map (kept_row keep) rows) step.terms (range_with_len 0 (length keep + 1)))))) [
        | true ↦ refl
        | false ↦ elim (names_bad_row (length rows) step.terms) as (λ b. (if b then Some (BadRow n) else number_fault vars rows n step (first_wide vars rows step.terms (range_with_len 0 (vars + 1)))) ≡ option_map (whole_fault vars keep) (if b then Some (BadRow n) else number_fault (length keep) (map (kept_row keep) rows) n step (first_wide (length keep) (map (kept_row keep) rows) step.terms (range_with_len 0 (length keep + 1))))) [
          | true ↦ refl
          | false ↦ rw (first_wide_same vars keep rising rows step.terms over.outside) (numbers (first_wide (length keep) (map (kept_row keep) rows) step.terms (range_with_len 0 (length keep + 1))))
        ]
      ]) where
        numbers : (o : Option ℕ) → number_fault vars rows n step (option_map (whole_entry vars keep) o) ≡ option_map (whole_fault vars keep) (number_fault (length keep) (map (kept_row keep) rows) n step o)
        numbers (Some j) =
            let back : j + 1 - 1 ≡ j = omega arith in rw back refl
        numbers None =
            rw (divides_same vars keep rising rows step over.outside)
            (elim (divides (length keep) (map (kept_row keep) rows) step) as (λ b. (if b then None else Some (BadDivisor n)) ≡ option_map (whole_fault vars keep) (if b then None else Some (BadDivisor n))) [ true ↦ refl | false ↦ refl ])

  -- the last row
  pub contradiction_same : (row : Row) → length row.coefs ≡ vars → IsZeroOutside vars keep row → is_contradiction row ≡ is_contradiction (kept_row keep row)
  contradiction_same row full outside =
      let zero_at : ℕ → Bool = λ k. int_eq (get_or row.coefs k (pos 0)) (pos 0) in
      let whole : list_all (λ a. int_eq a (pos 0)) row.coefs ≡ list_all zero_at (range_with_len 0 (length row.coefs)) = sym (indexed 0 row.coefs zero_at (λ j. ap zero_at (omega arith))) in
      let all : list_all zero_at (range_with_len 0 vars) ≡ list_all zero_at keep = all_kept zero_at vars 0 vars keep (omega arith) rising (λ k low high none. rw (outside k high none) refl) in
      ap (λ b. b && int_lt row.bound (pos 0)) (whole ∙ ap (λ m. list_all zero_at (range_with_len 0 m)) full ∙ all ∙ sym (list_all-map (λ a. int_eq a (pos 0)) (λ k. get_or row.coefs k (pos 0)) keep)) where
        indexed : (a : ℕ) (values : List ℤ) (p : ℕ → Bool) → ((j : ℕ) → p (a + j) ≡ int_eq (get_or values j (pos 0)) (pos 0)) → list_all p (range_with_len a (length values)) ≡ list_all (λ z. int_eq z (pos 0)) values
        indexed a [] p h = refl
        indexed a (z ∷ values) p h =
            let first : p a ≡ int_eq z (pos 0) = ap p (omega arith) ∙ h 0 in
            rw (first, indexed (a + 1) values p (λ j. ap p (omega arith) ∙ h (suc j))) refl

  pub last_fault_same : (rows : List Row) (count i : ℕ) → AreOver vars keep rows → last_fault count (slice_get rows i) ≡ option_map (whole_fault vars keep) (last_fault count (slice_get (map (kept_row keep) rows) i))
  last_fault_same [] count i over = refl
  last_fault_same (r ∷ rows) count zero over =
      rw (contradiction_same r (over.full 0 r (omega arith)) (over.outside 0 r (omega arith)))
      (elim (is_contradiction (kept_row keep r)) as (λ b. (if b then None else Some (NoContradiction count)) ≡ option_map (whole_fault vars keep) (if b then None else Some (NoContradiction count))) [ true ↦ refl | false ↦ refl ])
  last_fault_same (r ∷ rows) count (suc i) over = last_fault_same rows count i (record { full = λ k d lt. over.full (suc k) d (omega arith); outside = λ k d lt. over.outside (suc k) d (omega arith) })

  pub fault_from_same : (rows : List Row) (n : ℕ) (steps : List Step) → AreOver vars keep rows → fault_from vars rows n steps ≡ option_map (whole_fault vars keep) (fault_from (length keep) (map (kept_row keep) rows) n steps)
  fault_from_same rows n [] over = rw (length-map rows (kept_row keep)) (last_fault_same rows (length rows) (length rows - 1) over)
  fault_from_same rows n (step ∷ steps) over =
      let rest = fault_from_same (rows ++ made_row vars rows step ∷ []) (n + 1) steps (made_row_over rows step over) in
      let next : map (kept_row keep) (rows ++ made_row vars rows step ∷ []) ≡ map (kept_row keep) rows ++ made_row (length keep) (map (kept_row keep) rows) step ∷ [] = map-append (kept_row keep) rows (made_row vars rows step ∷ []) ∙ ap (λ r. map (kept_row keep) rows ++ r ∷ []) (made_row_kept rows step) in
      rw (step_fault_same rows n step over, rest, next) (either (step_fault (length keep) (map (kept_row keep) rows) n step) (fault_from (length keep) (map (kept_row keep) rows ++ made_row (length keep) (map (kept_row keep) rows) step ∷ []) (n + 1) steps)) where
        either : (a b : Option CertRefusal) → option_or (option_map (whole_fault vars keep) a) (option_map (whole_fault vars keep) b) ≡ option_map (whole_fault vars keep) (option_or a b)
        either None b = refl
        either (Some e) b = refl

pub fault_with_columns : (system : Inequalities) (keep : List ℕ) (certificate : Certificate) → KeepsAll keep system → first_fault system certificate ≡ option_map (whole_fault system.vars keep) (first_fault (with_columns keep system) certificate)
fault_with_columns system keep certificate keeps = fault_from_same system.vars keep keeps.rising system.rows 1 certificate.steps (record { full = keeps.full; outside = keeps.none })

-- a certificate is good for the one exactly where it is for the other
pub good_with_columns : (system : Inequalities) (keep : List ℕ) (certificate : Certificate) → KeepsAll keep system → IsGood system certificate ↔ IsGood (with_columns keep system) certificate
good_with_columns system keep certificate keeps =
    let same = fault_with_columns system keep certificate keeps in (
      λ good. good_where_none (with_columns keep system) certificate (mapped_none (first_fault (with_columns keep system) certificate) (sym same ∙ none_where_good system certificate good)),
      λ good. good_where_none system certificate (same ∙ ap (option_map (whole_fault system.vars keep)) (none_where_good (with_columns keep system) certificate good)),
    ) where
      mapped_none : (o : Option CertRefusal) → option_map (whole_fault system.vars keep) o ≡ None → o ≡ None
      mapped_none None h = refl
      mapped_none (Some e) h = absurd cc

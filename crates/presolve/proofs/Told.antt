-- What is found of what is left, told of the whole system in 64 bits.
use Rattle.std.specs.Prelude.{◌==◌}
use Rattle.std.proofs.Common.{◌≡◌, ℕ, zero, suc, ◌+◌, ◌-◌, ◌^◌, ◌≤◌, ◌<◌, min, ℤ, true, false, if◌then◌else◌, Option, Some, None, IfSome, List, [], ◌∷◌, ◌++◌, map, length, length-append, get_or, slice_get, refl, ap, sym, ◌∙◌, subst, arith}
use Rattle.std.specs.Option.{option_map, option_or}
use Rattle.std.specs.List.{All, range_with_len}
use Rattle.std.proofs.lemmas.Bool.Decides.{nat_tests}
use Rattle.std.proofs.lemmas.List.{length-map}
use Rattle.std.proofs.lemmas.List.Elements.{All-head, All-tail}
use Rattle.farkas_cert.specs.declared.system.Row.{Row}
use Rattle.farkas_cert.specs.declared.certificate.Step.{Step}
use Rattle.farkas_cert.specs.declared.certificate.Certificate.{Certificate}
use Rattle.farkas_cert.specs.declared.certificate.CertRefusal.{CertRefusal}
use Rattle.farkas_cert.specs.declared.certificate.CertRefusal.TheVariants.{NegativeMultiplier, BadRow, BadDivisor, Wide, NoContradiction, NoMemory}
use Rattle.farkas_cert.specs.Combination.{made_row}
use Rattle.farkas_cert.specs.Fault.{has_negative, names_bad_row, first_wide, divides, number_fault, step_fault, is_contradiction, last_fault, fault_from, first_fault}
use Rattle.farkas_cert.specs.Good.{AreGoodSteps, IsGood}
use Rattle.farkas_cert.specs.Inequalities.{Inequalities}
use Rattle.presolve.specs.declared.presolved.Checked.{Checked}
use Rattle.presolve.specs.declared.presolved.Checked.TheVariants.{Good, Bad, LeftOut}
use Rattle.presolve.specs.Answers.{IsAnswer, IsAnswerTo}
use Rattle.presolve.specs.Columns.{AreRising, whole_fault, with_columns}
use Rattle.presolve.specs.Presolution.{IsPresolved, Presolution}
use Rattle.presolve.specs.Renamed.{fault_in_64, number_in_64, renamed, renamed_step, renamed_terms}
use Rattle.presolve.specs.Rows.{StepsNameKept, kept_certificate, kept_number, renumbered, renumbered_fault, renumbered_step, renumbered_terms, whole_number, with_rows}
use Rattle.presolve.proofs.Rows.{certificate_back, fault_of_kept, good_of_kept}

-- numbers that rows of so many steps behind those that are kept have
number_exact : (count : ℕ) (numbers : List ℕ) (most n : ℕ) → count + most + 1 < 2 ^ 64 → n ≤ length numbers + most → number_in_64 count numbers n ≡ whole_number count numbers n
number_exact count numbers most zero few le = refl
number_exact count numbers most (suc i) few le =
    let test : (suc i == 0) ≡ false = grind (arith, nat_tests) in
    let place : suc i - 1 ≡ i = omega arith in
    let fits : min (suc i - 1 - length numbers + (count + 1)) (2 ^ 64 - 1) ≡ i - length numbers + count + 1 = omega (arith, few, le) in
    rw test (ap (λ d. get_or numbers (suc i - 1) d) fits ∙ ap (λ k. get_or numbers k (i - length numbers + count + 1)) place)

terms_exact : (count : ℕ) (numbers : List ℕ) (most rows : ℕ) (terms : List (ℕ × ℤ)) → count + most + 1 < 2 ^ 64 → rows ≤ length numbers + most → All (λ t. (1 ≤ t.0) × (t.0 ≤ rows)) terms → renamed_terms (number_in_64 count numbers) terms ≡ renumbered_terms count numbers terms
terms_exact count numbers most rows [] few le named = refl
terms_exact count numbers most rows (t ∷ terms) few le named =
    let first = (All-head (λ (u : ℕ × ℤ). (1 ≤ u.0) × (u.0 ≤ rows)) t terms named).1 in
    let number : number_in_64 count numbers t.0 ≡ whole_number count numbers t.0 = number_exact count numbers most t.0 few (omega (arith, first, le)) in
    ap (λ n. (n, t.1) ∷ renamed_terms (number_in_64 count numbers) terms) number ∙ ap (λ ts. (whole_number count numbers t.0, t.1) ∷ ts) (terms_exact count numbers most rows terms few le (All-tail (λ (u : ℕ × ℤ). (1 ≤ u.0) × (u.0 ≤ rows)) t terms named))

steps_exact : (count : ℕ) (numbers : List ℕ) (most vars : ℕ) (rows : List Row) (steps : List Step) → count + most + 1 < 2 ^ 64 → length rows + length steps ≤ length numbers + most → AreGoodSteps vars rows steps → map (renamed_step (number_in_64 count numbers)) steps ≡ map (renumbered_step count numbers) steps
steps_exact count numbers most vars rows [] few le good = refl
steps_exact count numbers most vars rows (step ∷ steps) few le good =
    let more : length (rows ++ made_row vars rows step ∷ []) ≡ length rows + 1 = length-append rows (made_row vars rows step ∷ []) in
    let rest = steps_exact count numbers most vars (rows ++ made_row vars rows step ∷ []) steps few (omega (arith, more, le)) good.1 in
    let terms = terms_exact count numbers most (length rows) step.terms few (omega (arith, le)) good.0.named in
    ap (λ ts. of step.divisor ts ∷ map (renamed_step (number_in_64 count numbers)) steps) terms ∙ ap (λ ss. renumbered_step count numbers step ∷ ss) rest where
      of : ℤ → List (ℕ × ℤ) → Step
      of divisor ts = record { divisor = divisor; terms = ts }

pub postsolved : (whole : Inequalities) (p : Presolution) (certificate : Certificate) → IsPresolved whole p → p.count < 2 ^ 63 → length certificate.steps < 2 ^ 63 → length p.numbers ≡ length p.system.rows → IsGood p.system certificate → IsGood whole (renamed (number_in_64 p.count p.numbers) certificate)
postsolved whole p certificate is few short same good =
    let exact : map (renamed_step (number_in_64 p.count p.numbers)) certificate.steps ≡ map (renumbered_step p.count p.numbers) certificate.steps = steps_exact p.count p.numbers (length certificate.steps) p.system.vars p.system.rows certificate.steps (omega (arith, few, short)) (omega (arith, same)) good.steps in
    let left = subst (λ s. IsGood s certificate) is.system good in
    let told = (good_of_kept whole p.numbers p.columns certificate is.last is.all).1 left in
    subst (λ ss. IsGood whole (of ss)) (sym exact) (subst (λ n. IsGood whole (renumbered n p.numbers certificate)) (sym is.count) told) where
      of : List Step → Certificate
      of steps = record { steps = steps }

-- where the last row is no contradiction, its number is one of so many
abbrev Below : ℕ → CertRefusal → Type 0
Below most (NegativeMultiplier n) = Unit {0}
Below most (BadRow n) = Unit {0}
Below most (BadDivisor n) = Unit {0}
Below most (Wide n e) = Unit {0}
Below most (NoContradiction n) = n ≤ most
Below most NoMemory = Unit {0}

below_last : (count : ℕ) (last : Option Row) → IfSome (last_fault count last) (Below count)
below_last count None = omega arith
below_last count (Some row) = elim (is_contradiction row) as (λ b. IfSome (if b then None else Some (NoContradiction count)) (Below count)) [ true ↦ tt | false ↦ omega arith ]

below_numbers : (most vars : ℕ) (rows : List Row) (n : ℕ) (step : Step) (wide : Option ℕ) → IfSome (number_fault vars rows n step wide) (Below most)
below_numbers most vars rows n step (Some k) = tt
below_numbers most vars rows n step None = elim (divides vars rows step) as (λ b. IfSome (if b then None else Some (BadDivisor n)) (Below most)) [ true ↦ tt | false ↦ tt ]

below_step : (most vars : ℕ) (rows : List Row) (n : ℕ) (step : Step) → IfSome (step_fault vars rows n step) (Below most)
below_step most vars rows n step =
    elim (has_negative step.terms) as (λ b. IfSome (if b then Some (NegativeMultiplier n) else (if names_bad_row (length rows) step.terms then Some (BadRow n) else number_fault vars rows n step (first_wide vars rows step.terms (range_with_len 0 (vars + 1))))) (Below most)) [
      | true ↦ tt
      | false ↦ elim (names_bad_row (length rows) step.terms) as (λ b. IfSome (if b then Some (BadRow n) else number_fault vars rows n step (first_wide vars rows step.terms (range_with_len 0 (vars + 1)))) (Below most)) [
        | true ↦ tt
        | false ↦ below_numbers most vars rows n step (first_wide vars rows step.terms (range_with_len 0 (vars + 1)))
      ]
    ]

below_or : (most : ℕ) (a b : Option CertRefusal) → IfSome a (Below most) → IfSome b (Below most) → IfSome (option_or a b) (Below most)
below_or most None b first second = second
below_or most (Some e) b first second = first

below_from : (most vars : ℕ) (rows : List Row) (n : ℕ) (steps : List Step) → length rows + length steps ≡ most → IfSome (fault_from vars rows n steps) (Below most)
below_from most vars rows n [] all =
    let count : length rows ≡ most = omega (arith, all) in
    subst (λ m. IfSome (last_fault (length rows) (slice_get rows (length rows - 1))) (Below m)) count (below_last (length rows) (slice_get rows (length rows - 1)))
below_from most vars rows n (step ∷ steps) all =
    let more : length (rows ++ made_row vars rows step ∷ []) ≡ length rows + 1 = length-append rows (made_row vars rows step ∷ []) in
    below_or most (step_fault vars rows n step) (fault_from vars (rows ++ made_row vars rows step ∷ []) (n + 1) steps) (below_step most vars rows n step) (below_from most vars (rows ++ made_row vars rows step ∷ []) (n + 1) steps (omega (arith, more, all)))

fault_exact : (p : Presolution) (most : ℕ) (fault : CertRefusal) → p.count + most + 1 < 2 ^ 64 → Below (length p.numbers + most) fault → fault_in_64 p fault ≡ renumbered_fault p.count p.numbers (whole_fault p.vars p.columns fault)
fault_exact p most (NegativeMultiplier n) few below = refl
fault_exact p most (BadRow n) few below = refl
fault_exact p most (BadDivisor n) few below = refl
fault_exact p most (Wide n e) few below = refl
fault_exact p most (NoContradiction n) few below = ap NoContradiction (number_exact p.count p.numbers most n few below)
fault_exact p most NoMemory few below = refl

faults_exact : (p : Presolution) (most : ℕ) (o : Option CertRefusal) → p.count + most + 1 < 2 ^ 64 → IfSome o (Below (length p.numbers + most)) → option_map (fault_in_64 p) o ≡ option_map (renumbered_fault p.count p.numbers) (option_map (whole_fault p.vars p.columns) o)
faults_exact p most None few below = refl
faults_exact p most (Some fault) few below = ap Some (fault_exact p most fault few below)

-- the first fault of a certificate of the whole system that names kept rows alone
pub told : (whole : Inequalities) (p : Presolution) (certificate : Certificate) → IsPresolved whole p → p.count < 2 ^ 63 → length certificate.steps < 2 ^ 63 → length p.numbers ≡ length p.system.rows → StepsNameKept p.count p.numbers certificate.steps → first_fault whole certificate ≡ option_map (fault_in_64 p) (first_fault p.system (kept_certificate p.count p.numbers certificate))
told whole p certificate is few short same named =
    let kept = kept_certificate p.count p.numbers certificate in
    let left = with_columns p.columns (with_rows p.numbers whole) in
    let fault = fault_of_kept whole p.numbers p.columns kept is.last is.all in
    let counted = subst (λ n. first_fault whole (renumbered n p.numbers kept) ≡ option_map (renumbered_fault n p.numbers) (option_map (whole_fault whole.vars p.columns) (first_fault left kept))) (sym is.count) fault in
    let over = subst (λ v. first_fault whole (renumbered p.count p.numbers kept) ≡ option_map (renumbered_fault p.count p.numbers) (option_map (whole_fault v p.columns) (first_fault left kept))) (sym is.vars) counted in
    let here = subst (λ s. first_fault whole (renumbered p.count p.numbers kept) ≡ option_map (renumbered_fault p.count p.numbers) (option_map (whole_fault p.vars p.columns) (first_fault s kept))) (sym is.system) over in
    let back : renumbered p.count p.numbers kept ≡ certificate = certificate_back p.count p.numbers certificate named in
    let steps : length kept.steps ≡ length certificate.steps = length-map certificate.steps _ in
    let below = below_from (length p.numbers + length kept.steps) p.system.vars p.system.rows 1 kept.steps (omega (arith, same)) in
    ap (first_fault whole) (sym back) ∙ here ∙ sym (faults_exact p (length kept.steps) (first_fault p.system kept) (omega (arith, few, short, steps)) below)

-- a certificate in the numbers of the rows that are kept
abbrev pub IsKeptForm : ℕ → List ℕ → Certificate → Certificate → Type 0
IsKeptForm count numbers certificate kept = AreRising 1 (count + 1) numbers → (kept ≡ renamed (kept_number count numbers) certificate) × StepsNameKept count numbers certificate.steps

pub answered : (whole : Inequalities) (p : Presolution) (count : ℕ) (numbers : List ℕ) (certificate kept : Certificate) (found : Checked) → p.count ≡ count → p.numbers ≡ numbers → p.count < 2 ^ 63 → length p.numbers ≡ length p.system.rows → length certificate.steps < 2 ^ 63 → IsKeptForm count numbers certificate kept → IsPresolved whole p → IsAnswerTo p kept found → IsAnswer whole p certificate found
answered whole p count numbers certificate kept found same_count same_numbers few same short form is answer =
    let here = subst (λ ns. IsKeptForm p.count ns certificate kept) (sym same_numbers) (subst (λ n. IsKeptForm n numbers certificate kept) (sym same_count) form) in
    let rising = subst (λ n. AreRising 1 (n + 1) p.numbers) (sym is.count) is.last.rising in
    let made = here rising in
    let of_kept = told whole p certificate is few short same made.1 ∙ ap (λ k. option_map (fault_in_64 p) (first_fault p.system k)) (sym made.0) in
    by_case found answer of_kept where
      by_case : (one : Checked) → IsAnswerTo p kept one → first_fault whole certificate ≡ option_map (fault_in_64 p) (first_fault p.system kept) → IsAnswer whole p certificate one
      by_case Good answer of_kept = of_kept ∙ ap (option_map (fault_in_64 p)) answer
      by_case (Bad fault) answer of_kept = of_kept ∙ answer
      by_case (LeftOut r) answer of_kept = absurd answer

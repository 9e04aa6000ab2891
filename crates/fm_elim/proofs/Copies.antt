-- Steps by new numbers make the same rows.
use Rattle.std.proofs.Common.{◌≡◌, ℕ, zero, suc, ◌+◌, ◌-◌, ◌≤◌, ◌<◌, ℤ, pos, ◌*ℤ◌, ◌≤ℤ◌, int_div, int_rem, IsTrue, List, [], ◌∷◌, ◌++◌, map, take, length, get_or, slice_index, refl, ap, sym, ◌∙◌, subst, length-append, arith}
use Rattle.std.specs.Int.{int_div_euclid}
use Rattle.std.specs.List.{All, range_with_len}
use Rattle.std.proofs.lemmas.List.{get_or_at, get_or-map, length-map, append_assoc}
use Rattle.std.proofs.lemmas.List.Elements.{All-head, All-tail, All-map}
use Rattle.farkas_cert.specs.declared.system.Row.{Row}
use Rattle.farkas_cert.specs.declared.certificate.Step.{Step}
use Rattle.farkas_cert.specs.Combination.{no_row, row_at, entry_at, products_at, total, sum_at, made_row, stays_narrow}
use Rattle.farkas_cert.specs.Good.{IsGoodStep, AreGoodSteps, rows_after}
use Rattle.fm_elim.specs.Lean.{Names, renamed, renumbered}
use Rattle.elim_level.proofs.Steps.{IsGoodStep-append, made_row-append, map-agree, rows_after-begins}

-- the first steps are good too
pub AreGoodSteps-take : (vars : ℕ) (rows : List Row) (n : ℕ) (steps : List Step) → AreGoodSteps vars rows steps → AreGoodSteps vars rows (take n steps)
AreGoodSteps-take vars rows zero steps good = tt
AreGoodSteps-take vars rows (suc n) [] good = tt
AreGoodSteps-take vars rows (suc n) (s ∷ steps) good = (good.0, AreGoodSteps-take vars (rows ++ made_row vars rows s ∷ []) n steps good.1)

-- a step among good steps: it is good over all their rows, makes its own one, and names only earlier ones
pub record IsStepAt (vars : ℕ) (rows : List Row) (steps : List Step) (k : ℕ) (step : Step) : Type 0 where
  pub good : IsGoodStep vars (rows_after vars rows steps) step
  pub makes : row_at (rows_after vars rows steps) (length rows + k + 1) ≡ made_row vars (rows_after vars rows steps) step
  pub named : All (λ t. (1 ≤ t.0) × (t.0 ≤ length rows + k)) step.terms

pub step_at : (vars : ℕ) (rows : List Row) (steps : List Step) (k : ℕ) (d : Step) → AreGoodSteps vars rows steps → k < length steps → IsStepAt vars rows steps k (get_or steps k d)
step_at vars rows [] k d good h = absurd (omega arith)
step_at vars rows (s ∷ steps) zero d good h =
    let made = made_row vars rows s in
    let rest = rows_after-begins vars (rows ++ made ∷ []) steps in
    let whole : rows_after vars (rows ++ made ∷ []) steps ≡ rows ++ made ∷ rest.0 = rest.1 ∙ append_assoc rows (made ∷ []) rest.0 in
    record {
      good = subst (λ all. IsGoodStep vars all s) (sym whole) (IsGoodStep-append vars rows (made ∷ rest.0) s good.0);
      makes = ap (λ all. row_at all (length rows + 0 + 1)) whole ∙ get_or_at rows made rest.0 no_row (length rows + 0 + 1 - 1) (omega arith) ∙ sym (made_row-append vars rows (made ∷ rest.0) s good.0) ∙ ap (λ all. made_row vars all s) (sym whole);
      named = λ k e lt. let at = good.0.named k e lt in (at.0, omega (arith, at.1));
    }
step_at vars rows (s ∷ steps) (suc k) d good h =
    let rows' = rows ++ made_row vars rows s ∷ [] in
    let size : length rows' ≡ length rows + 1 = length-append rows (made_row vars rows s ∷ []) in
    let at = step_at vars rows' steps k d good.1 (omega arith) in
    let place : length rows' + k + 1 ≡ length rows + suc k + 1 = omega arith in
    record {
      good = at.good;
      makes = ap (λ n. row_at (rows_after vars rows' steps) n) (sym place) ∙ at.makes;
      named = λ i e lt. let t = at.named i e lt in (t.0, omega (arith, t.1));
    }

-- the terms' rows by their new numbers
pub record AreSameBy (old new : List Row) (f : ℕ → ℕ) (number : ℕ) : Type 0 where
  pub low : 1 ≤ f number
  pub high : f number ≤ length new
  pub row : row_at new (f number) ≡ row_at old number

abbrev pub AreSame : List Row → List Row → List ℕ → ℕ → Type 0
AreSame old new numbers number = AreSameBy old new (λ n. slice_index numbers (n - 1)) number

products-renumbered : (vars : ℕ) (old new : List Row) (f : ℕ → ℕ) (terms : List (ℕ × ℤ)) (k : ℕ) → All (λ t. AreSameBy old new f t.0) terms → products_at vars new (map (λ t. (f t.0, t.1)) terms) k ≡ products_at vars old terms k
products-renumbered vars old new f [] k same = refl
products-renumbered vars old new f (t ∷ terms) k same =
    let first = All-head (λ u. AreSameBy old new f u.0) t terms same in
    let rest = products-renumbered vars old new f terms k (All-tail (λ u. AreSameBy old new f u.0) t terms same) in
    ap (λ r. (t.1 *ℤ entry_at vars r k) ∷ products_at vars new (map (λ u. (f u.0, u.1)) terms) k) first.row ∙ ap (λ ps. (t.1 *ℤ entry_at vars (row_at old t.0) k) ∷ ps) rest

module _ (vars : ℕ) (old new : List Row) (f : ℕ → ℕ) (step : Step) (same : All (λ t. AreSameBy old new f t.0) step.terms) (good : IsGoodStep vars old step) where
  products-same : (k : ℕ) → products_at vars new (renamed f step).terms k ≡ products_at vars old step.terms k
  products-same k = products-renumbered vars old new f step.terms k same

  pub IsGoodStep-renamed : IsGoodStep vars new (renamed f step)
  IsGoodStep-renamed = record {
    multipliers = All-map (λ t. pos 0 ≤ℤ t.1) (λ (t : ℕ × ℤ). (f t.0, t.1)) step.terms good.multipliers;
    named = All-map (λ t. (1 ≤ t.0) × (t.0 ≤ length new)) (λ (t : ℕ × ℤ). (f t.0, t.1)) step.terms (λ k d h. let at = same k d h in (at.low, at.high));
    narrow = λ k h. subst (λ ps. IsTrue (stays_narrow (pos 0) ps)) (sym (products-same k)) (good.narrow k h);
    divisor = good.divisor;
    divides = λ k h. ap (λ ps. int_rem (total ps) step.divisor) (products-same k) ∙ good.divides k h;
  }

  pub made_row-renamed : made_row vars new (renamed f step) ≡ made_row vars old step
  made_row-renamed =
      let sums : (k : ℕ) → sum_at vars new (renamed f step).terms k ≡ sum_at vars old step.terms k = λ k. ap total (products-same k) in
      ap (λ xs. record { coefs = xs; bound = int_div_euclid (sum_at vars new (renamed f step).terms vars) step.divisor }) (map-agree (λ k. int_div (sum_at vars new (renamed f step).terms k) step.divisor) (λ k. int_div (sum_at vars old step.terms k) step.divisor) (range_with_len 0 vars) (λ k. ap (λ z. int_div z step.divisor) (sums k)))
      ∙ ap (λ z. record { coefs = map (λ k. int_div (sum_at vars old step.terms k) step.divisor) (range_with_len 0 vars); bound = int_div_euclid z step.divisor }) (sums vars)

-- a named row is named by its new number
pub Names-renumbered : (numbers : List ℕ) (step : Step) (n : ℕ) → Names step n → Names (renumbered numbers step) (slice_index numbers (n - 1))
Names-renumbered numbers step n names =
    let t = names.1 in
    let t' : ℕ × ℤ = (slice_index numbers (t.0 - 1), t.1) in
    let f : ℕ × ℤ → ℕ × ℤ = λ u. (slice_index numbers (u.0 - 1), u.1) in
    (names.0, t', omega (arith, length-map step.terms f, names.2), get_or-map f step.terms names.0 t t' names.2 ∙ ap f names.3, ap (λ i. slice_index numbers (i - 1)) names.4)

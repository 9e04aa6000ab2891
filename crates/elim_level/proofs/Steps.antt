-- Derivations are good steps of a certificate, and stay so where more rows follow.
use Rattle.std.proofs.Common.{◌≡◌, ℕ, zero, suc, ◌+◌, ◌-◌, ◌%◌, ◌≤◌, ◌<◌, ℤ, pos, negsuc, neg_ℤ, ◌+ℤ◌, ◌*ℤ◌, ◌≤ℤ◌, int_div, int_rem, unsigned_abs, Bool, true, false, ◌&&◌, IsTrue, List, [], ◌∷◌, ◌++◌, map, length, get_or, refl, ap, sym, ◌∙◌, subst, length-append, arith}
use Rattle.std.specs.Int.{int_div_euclid}
use Rattle.std.specs.List.{All, range_with_len}
use Rattle.std.proofs.lemmas.Int.{ints}
use Rattle.std.proofs.lemmas.List.{get_or_append_left, length-map, append_assoc, append-nil}
use Rattle.std.proofs.lemmas.List.FromFn.{fill_by_all}
use Rattle.std.proofs.lemmas.List.Elements.{All-head, All-tail, All-cons, All-nil}
use Rattle.std.proofs.lemmas.Nat.Gcd.{mod-eq-zero_of_dvd}
use Rattle.std.proofs.Math.IntN.{+ℤ_idl, +ℤ_idr}
use Rattle.farkas_cert.specs.declared.system.Row.{Row}
use Rattle.farkas_cert.specs.declared.certificate.Step.{Step}
use Rattle.farkas_cert.specs.Combination.{no_row, row_at, entry_at, products_at, total, sum_at, made_row, is_narrow, stays_narrow}
use Rattle.farkas_cert.specs.Good.{IsGoodStep, AreGoodSteps, rows_after}
use Rattle.elim_rows.specs.Reduction.{DividesEach, divided}
use Rattle.elim_rows.specs.Pairs.{combined, combination, IsNarrow}
use Rattle.elim_level.specs.Logs.{IsNumber, IsSuited}
use Rattle.farkas_cert.proofs.Sums.{entry_at-last}
use Rattle.elim_rows.proofs.Combined.{by_lt, entry_at-coef, combined-at, once}

-- one step more
pub AreGoodSteps-push : (vars : ℕ) (rows : List Row) (steps : List Step) (step : Step) → AreGoodSteps vars rows steps → IsGoodStep vars (rows_after vars rows steps) step → AreGoodSteps vars rows (steps ++ step ∷ [])
AreGoodSteps-push vars rows [] step good last = (last, tt)
AreGoodSteps-push vars rows (s ∷ steps) step good last = (good.0, AreGoodSteps-push vars (rows ++ made_row vars rows s ∷ []) steps step good.1 last)

pub rows_after-push : (vars : ℕ) (rows : List Row) (steps : List Step) (step : Step) → rows_after vars rows (steps ++ step ∷ []) ≡ rows_after vars rows steps ++ made_row vars (rows_after vars rows steps) step ∷ []
rows_after-push vars rows [] step = refl
rows_after-push vars rows (s ∷ steps) step = rows_after-push vars (rows ++ made_row vars rows s ∷ []) steps step

pub length-rows_after : (vars : ℕ) (rows : List Row) (steps : List Step) → length (rows_after vars rows steps) ≡ length rows + length steps
length-rows_after vars rows [] = omega arith
length-rows_after vars rows (s ∷ steps) = omega (arith, length-rows_after vars (rows ++ made_row vars rows s ∷ []) steps, length-append rows (made_row vars rows s ∷ []))

-- rows that stand keep their numbers where more follow
pub IsNumber-append : (rows more : List Row) (number : ℕ) (row : Row) → IsNumber rows number row → IsNumber (rows ++ more) number row
IsNumber-append rows more number row h = (h.0, omega (arith, h.1, length-append rows more), get_or_append_left rows more no_row (number - 1) (omega (arith, h.0, h.1)) ∙ h.2)

products-append : (vars : ℕ) (rows more : List Row) (terms : List (ℕ × ℤ)) (k : ℕ) → All (λ t. (1 ≤ t.0) × (t.0 ≤ length rows)) terms → products_at vars (rows ++ more) terms k ≡ products_at vars rows terms k
products-append vars rows more [] k named = refl
products-append vars rows more (t ∷ terms) k named =
    let first = All-head (λ t. (1 ≤ t.0) × (t.0 ≤ length rows)) t terms named in
    let rest = products-append vars rows more terms k (All-tail (λ t. (1 ≤ t.0) × (t.0 ≤ length rows)) t terms named) in
    let same : row_at (rows ++ more) t.0 ≡ row_at rows t.0 = get_or_append_left rows more no_row (t.0 - 1) (omega (arith, first)) in
    ap (λ r. (t.1 *ℤ entry_at vars r k) ∷ products_at vars (rows ++ more) terms k) same ∙ ap (λ ps. (t.1 *ℤ entry_at vars (row_at rows t.0) k) ∷ ps) rest

pub map-agree : {X Y : Type 0} (f g : X → Y) (xs : List X) → ((x : X) → f x ≡ g x) → map f xs ≡ map g xs
map-agree f g [] h = refl
map-agree f g (x ∷ xs) h = ap (λ y. y ∷ map f xs) (h x) ∙ ap (λ ys. g x ∷ ys) (map-agree f g xs h)

made-append : (vars : ℕ) (rows more : List Row) (step : Step) → All (λ t. (1 ≤ t.0) × (t.0 ≤ length rows)) step.terms → made_row vars (rows ++ more) step ≡ made_row vars rows step
made-append vars rows more step named =
    let same : (k : ℕ) → sum_at vars (rows ++ more) step.terms k ≡ sum_at vars rows step.terms k = λ k. ap total (products-append vars rows more step.terms k named) in
    ap (λ xs. record { coefs = xs; bound = int_div_euclid (sum_at vars (rows ++ more) step.terms vars) step.divisor }) (map-agree (λ k. int_div (sum_at vars (rows ++ more) step.terms k) step.divisor) (λ k. int_div (sum_at vars rows step.terms k) step.divisor) (range_with_len 0 vars) (λ k. ap (λ z. int_div z step.divisor) (same k)))
    ∙ ap (λ z. record { coefs = map (λ k. int_div (sum_at vars rows step.terms k) step.divisor) (range_with_len 0 vars); bound = int_div_euclid z step.divisor }) (same vars)

-- a good step stays good, and makes the same row
pub IsGoodStep-append : (vars : ℕ) (rows more : List Row) (step : Step) → IsGoodStep vars rows step → IsGoodStep vars (rows ++ more) step
IsGoodStep-append vars rows more step good = record {
  multipliers = good.multipliers;
  named = λ k d h. let at = good.named k d h in (at.0, omega (arith, at.1, length-append rows more));
  narrow = λ k h. subst (λ ps. IsTrue (stays_narrow (pos 0) ps)) (sym (products-append vars rows more step.terms k good.named)) (good.narrow k h);
  divisor = good.divisor;
  divides = λ k h. ap (λ ps. int_rem (total ps) step.divisor) (products-append vars rows more step.terms k good.named) ∙ good.divides k h;
}

pub made_row-append : (vars : ℕ) (rows more : List Row) (step : Step) → IsGoodStep vars rows step → made_row vars (rows ++ more) step ≡ made_row vars rows step
made_row-append vars rows more step good = made-append vars rows more step good.named

-- a step whose sums are a row's entries makes that row divided
module _ (vars : ℕ) (rows : List Row) (step : Step) (raw : Row) (g : ℕ) (full : length raw.coefs ≡ vars) (divisor : step.divisor ≡ pos g) (sums : (k : ℕ) → k ≤ vars → sum_at vars rows step.terms k ≡ entry_at vars raw k) where
  pub made_from_sums : made_row vars rows step ≡ divided g raw
  made_from_sums =
      let f : ℕ → ℤ = λ k. int_div (sum_at vars rows step.terms k) step.divisor in
      let at : (k : ℕ) → k < vars → get_or (map (λ a. int_div a (pos g)) raw.coefs) k (pos 0) ≡ f k =
      λ k h. quotient-at k raw.coefs (omega arith) ∙ ap (λ z. int_div z (pos g)) (sym (sums k (omega arith) ∙ entry_at-coef vars raw k h)) ∙ ap (λ z. int_div (sum_at vars rows step.terms k) z) (sym divisor) in
      let coefs = fill_by_all f (map (λ a. int_div a (pos g)) raw.coefs) vars (pos 0) (length-map raw.coefs (λ a. int_div a (pos g)) ∙ full) at in
      let bound : int_div_euclid (sum_at vars rows step.terms vars) step.divisor ≡ int_div_euclid raw.bound (pos g) = ap (λ z. int_div_euclid z step.divisor) (sums vars (omega arith) ∙ entry_at-last vars raw) ∙ ap (int_div_euclid raw.bound) divisor in
      ap (λ xs. record { coefs = xs; bound = int_div_euclid (sum_at vars rows step.terms vars) step.divisor }) (sym coefs) ∙ ap (λ b. record { coefs = map (λ a. int_div a (pos g)) raw.coefs; bound = b }) bound
    where
      quotient-at : (k : ℕ) (xs : List ℤ) → k < length xs → get_or (map (λ a. int_div a (pos g)) xs) k (pos 0) ≡ int_div (get_or xs k (pos 0)) (pos g)
      quotient-at k [] h = absurd (omega arith)
      quotient-at zero (x ∷ xs) h = refl
      quotient-at (suc k) (x ∷ xs) h = quotient-at k xs (omega arith)

  pub divides_from_sums : DividesEach g raw.coefs → (k : ℕ) → k < vars → int_rem (sum_at vars rows step.terms k) step.divisor ≡ pos 0
  divides_from_sums each k h =
      ap (λ z. int_rem z step.divisor) (sums k (omega arith) ∙ entry_at-coef vars raw k h) ∙ ap (int_rem (get_or raw.coefs k (pos 0))) divisor ∙ rest (get_or raw.coefs k (pos 0)) (mod-eq-zero_of_dvd g (each k (pos 0) (omega (arith, full))))
    where
      rest : (z : ℤ) → unsigned_abs z % g ≡ 0 → int_rem z (pos g) ≡ pos 0
      rest (pos n) e = ap pos e
      rest (negsuc n) e = ap (λ m. neg_ℤ (pos m)) e

-- the entries of a suited row are narrow
pub narrow-entry : (vars : ℕ) (row : Row) (k : ℕ) → IsSuited vars row → k ≤ vars → IsTrue (is_narrow (entry_at vars row k))
narrow-entry vars row k suited h =
    by_lt {P = IsTrue (is_narrow (entry_at vars row k))} k vars
    (λ lt. subst (λ z. IsTrue (is_narrow z)) (sym (entry_at-coef vars row k lt)) (suited.coefs k (pos 0) (omega (arith, suited.full))))
    (λ ge. let e : vars ≡ k = omega arith in subst (λ i. IsTrue (is_narrow (entry_at vars row i))) e (subst (λ z. IsTrue (is_narrow z)) (sym (entry_at-last vars row)) suited.bound))

-- a reduction
module _ (vars : ℕ) (rows : List Row) (number g : ℕ) (row : Row) (suited : IsSuited vars row) (numbered : IsNumber rows number row) (positive : 0 < g) (each : DividesEach g row.coefs) where
  reduction-sums : (k : ℕ) → k ≤ vars → sum_at vars rows ((number, pos 1) ∷ []) k ≡ entry_at vars row k
  reduction-sums k h = +ℤ_idr (pos 1 *ℤ entry_at vars (row_at rows number) k) ∙ once (entry_at vars (row_at rows number) k) ∙ ap (λ r. entry_at vars r k) numbered.2

  pub good_reduction : IsGoodStep vars rows (record { divisor = pos g; terms = (number, pos 1) ∷ [] })
  good_reduction = record {
    multipliers = All-cons (λ t. pos 0 ≤ℤ t.1) (number, pos 1) [] (omega (arith, ints)) (All-nil (λ t. pos 0 ≤ℤ t.1));
    named = All-cons (λ t. (1 ≤ t.0) × (t.0 ≤ length rows)) (number, pos 1) [] (numbered.0, numbered.1) (All-nil (λ t. (1 ≤ t.0) × (t.0 ≤ length rows)));
    narrow = λ k h.
        let e = entry_at vars (row_at rows number) k in
        let small : IsTrue (is_narrow e) = subst (λ r. IsTrue (is_narrow (entry_at vars r k))) (sym numbered.2) (narrow-entry vars row k suited h) in
        alone e small;
    divisor = omega (arith, ints);
    divides = divides_from_sums vars rows (record { divisor = pos g; terms = (number, pos 1) ∷ [] }) row g suited.full refl reduction-sums each;
  }
    where
      alone : (z : ℤ) → IsTrue (is_narrow z) → IsTrue (stays_narrow (pos 0) ((pos 1 *ℤ z) ∷ []))
      alone z h = rw (once z, +ℤ_idl z) (twice (is_narrow z) h)
        where
          twice : (b : Bool) → IsTrue b → IsTrue (b && b && true)
          twice true t = t
          twice false t = t

  pub reduction_makes : made_row vars rows (record { divisor = pos g; terms = (number, pos 1) ∷ [] }) ≡ divided g row
  reduction_makes = made_from_sums vars rows (record { divisor = pos g; terms = (number, pos 1) ∷ [] }) row g suited.full refl reduction-sums

pub length-combined : (m n : ℤ) (us ls : List ℤ) → length ls ≡ length us → length (combined m us n ls) ≡ length us
length-combined m n [] [] same = refl
length-combined m n [] (l ∷ ls) same = refl
length-combined m n (u ∷ us) [] same = absurd (omega arith)
length-combined m n (u ∷ us) (l ∷ ls) same = ap suc (length-combined m n us ls (omega arith))

-- the entries of a combination
pub entry-combination : (vars : ℕ) (m n : ℤ) (upper lower : Row) (k : ℕ) → length upper.coefs ≡ vars → length lower.coefs ≡ vars → k ≤ vars → entry_at vars (combination m upper n lower) k ≡ m *ℤ entry_at vars upper k +ℤ n *ℤ entry_at vars lower k
entry-combination vars m n upper lower k hu hl h =
    by_lt {P = entry_at vars (combination m upper n lower) k ≡ m *ℤ entry_at vars upper k +ℤ n *ℤ entry_at vars lower k} k vars
    (λ lt. entry_at-coef vars (combination m upper n lower) k lt ∙ combined-at m n upper.coefs lower.coefs k (hl ∙ sym hu) ∙ ap (λ z. m *ℤ z +ℤ n *ℤ get_or lower.coefs k (pos 0)) (sym (entry_at-coef vars upper k lt)) ∙ ap (λ z. m *ℤ entry_at vars upper k +ℤ n *ℤ z) (sym (entry_at-coef vars lower k lt)))
    (λ ge. let e : vars ≡ k = omega arith in subst (λ i. entry_at vars (combination m upper n lower) i ≡ m *ℤ entry_at vars upper i +ℤ n *ℤ entry_at vars lower i) e
    (entry_at-last vars (combination m upper n lower) ∙ ap (λ z. m *ℤ z +ℤ n *ℤ lower.bound) (sym (entry_at-last vars upper)) ∙ ap (λ z. m *ℤ entry_at vars upper vars +ℤ n *ℤ z) (sym (entry_at-last vars lower))))

-- a combination
module _ (vars : ℕ) (rows : List Row) (a b g : ℕ) (m n : ℤ) (upper lower : Row) (hu : length upper.coefs ≡ vars) (hl : length lower.coefs ≡ vars) (na : IsNumber rows a upper) (nb : IsNumber rows b lower) (hm : pos 0 ≤ℤ m) (hn : pos 0 ≤ℤ n) (narrow : IsNarrow vars m upper n lower) (positive : 0 < g) (each : DividesEach g (combination m upper n lower).coefs) where
  combination-sums : (k : ℕ) → k ≤ vars → sum_at vars rows ((a, m) ∷ (b, n) ∷ []) k ≡ entry_at vars (combination m upper n lower) k
  combination-sums k h =
      ap (λ z. m *ℤ entry_at vars (row_at rows a) k +ℤ z) (+ℤ_idr (n *ℤ entry_at vars (row_at rows b) k)) ∙ ap (λ r. m *ℤ entry_at vars r k +ℤ n *ℤ entry_at vars (row_at rows b) k) na.2 ∙ ap (λ r. m *ℤ entry_at vars upper k +ℤ n *ℤ entry_at vars r k) nb.2 ∙ sym (entry-combination vars m n upper lower k hu hl h)

  pub good_combination : IsGoodStep vars rows (record { divisor = pos g; terms = (a, m) ∷ (b, n) ∷ [] })
  good_combination = record {
    multipliers = All-cons (λ t. pos 0 ≤ℤ t.1) (a, m) ((b, n) ∷ []) hm (All-cons (λ t. pos 0 ≤ℤ t.1) (b, n) [] hn (All-nil (λ t. pos 0 ≤ℤ t.1)));
    named = All-cons (λ t. (1 ≤ t.0) × (t.0 ≤ length rows)) (a, m) ((b, n) ∷ []) (na.0, na.1) (All-cons (λ t. (1 ≤ t.0) × (t.0 ≤ length rows)) (b, n) [] (nb.0, nb.1) (All-nil (λ t. (1 ≤ t.0) × (t.0 ≤ length rows))));
    narrow = λ k h. subst (λ r. IsTrue (stays_narrow (pos 0) ((m *ℤ entry_at vars r k) ∷ (n *ℤ entry_at vars (row_at rows b) k) ∷ []))) (sym na.2) (subst (λ r. IsTrue (stays_narrow (pos 0) ((m *ℤ entry_at vars upper k) ∷ (n *ℤ entry_at vars r k) ∷ []))) (sym nb.2) (narrow k h));
    divisor = omega (arith, ints);
    divides = divides_from_sums vars rows (record { divisor = pos g; terms = (a, m) ∷ (b, n) ∷ [] }) (combination m upper n lower) g (length-combined m n upper.coefs lower.coefs (hl ∙ sym hu) ∙ hu) refl combination-sums each;
  }

  pub combination_makes : made_row vars rows (record { divisor = pos g; terms = (a, m) ∷ (b, n) ∷ [] }) ≡ divided g (combination m upper n lower)
  combination_makes = made_from_sums vars rows (record { divisor = pos g; terms = (a, m) ∷ (b, n) ∷ [] }) (combination m upper n lower) g (length-combined m n upper.coefs lower.coefs (hl ∙ sym hu) ∙ hu) refl combination-sums

-- the rows so far come first
pub rows_after-begins : (vars : ℕ) (rows : List Row) (steps : List Step) → (more : List Row) × (rows_after vars rows steps ≡ rows ++ more)
rows_after-begins vars rows [] = ([], sym (append-nil rows))
rows_after-begins vars rows (s ∷ steps) =
    let rest = rows_after-begins vars (rows ++ made_row vars rows s ∷ []) steps in
    (made_row vars rows s ∷ rest.0, rest.1 ∙ append_assoc rows (made_row vars rows s ∷ []) rest.0)

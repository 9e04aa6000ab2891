-- Where the bounds of a system sink, a certificate that was good is good, or its numbers grow too large.
use Rattle.std.proofs.Common.{◌≡◌, ℕ, zero, suc, ◌+◌, ◌-◌, ◌*◌, ◌/◌, ◌<◌, ℤ, pos, negsuc, ◌+ℤ◌, ◌*ℤ◌, ◌≤ℤ◌, int_lt, int_div, int_rem, Bool, true, false, ◌&&◌, ◌||◌, nat_lt, List, [], ◌∷◌, ◌++◌, length, map, Option, Some, None, slice_get, if◌then◌else◌, refl, ap, sym, ◌∙◌, subst, inl, inr, arith}
use Rattle.std.specs.Int.{int_div_euclid}
use Rattle.std.specs.Int.Signed.{≤ℤ_refl}
use Rattle.std.specs.List.{list_all, range_with_len}
use Rattle.std.specs.Option.{option_or}
use Rattle.std.specs.Ordering.{int_eq}
use Rattle.std.specs.Prelude.{◌⊎◌, slice_index_or}
use Rattle.std.proofs.Math.Nat.{div-lt_iff_lt-mul}
use Rattle.std.proofs.lemmas.Bool.{and_from, and_parts}
use Rattle.std.proofs.lemmas.Bool.Decides.{nat_tests}
use Rattle.std.proofs.lemmas.Int.{ints}
use Rattle.farkas_cert.specs.declared.system.Row.{Row}
use Rattle.farkas_cert.specs.declared.certificate.Step.{Step}
use Rattle.farkas_cert.specs.declared.certificate.CertRefusal.{CertRefusal}
use Rattle.farkas_cert.specs.declared.certificate.CertRefusal.TheVariants.{NegativeMultiplier, BadRow, BadDivisor, Wide, NoContradiction}
use Rattle.farkas_cert.specs.Combination.{entry_at, made_row, no_row, row_at, sum_at}
use Rattle.farkas_cert.specs.Fault.{divides, fault_from, first_wide, has_negative, is_contradiction, last_fault, names_bad_row, number_fault, step_fault}
use Rattle.farkas_cert.proofs.Integers.{le_div_euclid, mul_le_ℤ}
use Rattle.farkas_cert.proofs.Verdict.{none_from_if, true_from_if}
use Rattle.nest_tree.proofs.FirstLimits.{neither}

-- ---- quotients rounded down

floor_under : (d b : ℤ) → pos 1 ≤ℤ d → (d *ℤ int_div_euclid b d) ≤ℤ b
floor_under (negsuc n) b h = absurd (omega (arith, ints))
floor_under (pos n) (pos m) h = omega (arith, ints)
floor_under (pos n) (negsuc m) h =
    let positive : 0 < n = omega (arith, ints) in
    let less : m / n < m / n + 1 = omega arith in
    let over : m < (m / n + 1) * n = (div-lt_iff_lt-mul positive).0 less in
    omega (arith, ints, over)

floor_rises : (d a b : ℤ) → pos 1 ≤ℤ d → a ≤ℤ b → int_div_euclid a d ≤ℤ int_div_euclid b d
floor_rises d a b h k = let under = floor_under d a h in le_div_euclid d (int_div_euclid a d) b h (omega (arith, ints, under, k))

-- ---- rows with lower bounds

-- the second row has the same coefficients, and a bound that is no higher
pub record IsTighter (r s : Row) : Type 0 where
  pub coefs : s.coefs ≡ r.coefs
  pub bound : s.bound ≤ℤ r.bound

abbrev pub AreTighter : List Row → List Row → Type 0
AreTighter [] [] = Unit {0}
AreTighter [] (s ∷ ss) = ⊥
AreTighter (r ∷ rs) [] = ⊥
AreTighter (r ∷ rs) (s ∷ ss) = IsTighter r s × AreTighter rs ss

pub tighter_self : (rs : List Row) → AreTighter rs rs
tighter_self [] = tt
tighter_self (r ∷ rs) = (record { coefs = refl; bound = ≤ℤ_refl r.bound }, tighter_self rs)

pub tighter_append : (rs ss xs ys : List Row) → AreTighter rs ss → AreTighter xs ys → AreTighter (rs ++ xs) (ss ++ ys)
tighter_append [] [] xs ys h k = k
tighter_append [] (s ∷ ss) xs ys h k = absurd h
tighter_append (r ∷ rs) [] xs ys h k = absurd h
tighter_append (r ∷ rs) (s ∷ ss) xs ys h k = (h.0, tighter_append rs ss xs ys h.1 k)

tighter_length : (rs ss : List Row) → AreTighter rs ss → length ss ≡ length rs
tighter_length [] [] h = refl
tighter_length [] (s ∷ ss) h = absurd h
tighter_length (r ∷ rs) [] h = absurd h
tighter_length (r ∷ rs) (s ∷ ss) h = ap suc (tighter_length rs ss h.1)

tighter_at : (rs ss : List Row) (k : ℕ) → AreTighter rs ss → IsTighter (slice_index_or rs k no_row) (slice_index_or ss k no_row)
tighter_at [] [] k h = record { coefs = refl; bound = ≤ℤ_refl (pos 0) }
tighter_at [] (s ∷ ss) k h = absurd h
tighter_at (r ∷ rs) [] k h = absurd h
tighter_at (r ∷ rs) (s ∷ ss) zero h = h.0
tighter_at (r ∷ rs) (s ∷ ss) (suc k) h = tighter_at rs ss k h.1

-- both have a row at a place, or neither has
abbrev AreBoth : Option Row → Option Row → Type 0
AreBoth None None = Unit {0}
AreBoth None (Some s) = ⊥
AreBoth (Some r) None = ⊥
AreBoth (Some r) (Some s) = IsTighter r s

tighter_get : (rs ss : List Row) (k : ℕ) → AreTighter rs ss → AreBoth (slice_get rs k) (slice_get ss k)
tighter_get [] [] k h = tt
tighter_get [] (s ∷ ss) k h = absurd h
tighter_get (r ∷ rs) [] k h = absurd h
tighter_get (r ∷ rs) (s ∷ ss) zero h = h.0
tighter_get (r ∷ rs) (s ∷ ss) (suc k) h = tighter_get rs ss k h.1

-- ---- their sums

module _ (vars : ℕ) (rs ss : List Row) (tighter : AreTighter rs ss) where
  entry_same : (n k : ℕ) → k < vars → entry_at vars (row_at ss n) k ≡ entry_at vars (row_at rs n) k
  entry_same n k less =
      let below : nat_lt k vars ≡ true = grind (arith, nat_tests) in
      let at = tighter_at rs ss (n - 1) tighter in
      ap (λ b. if b then slice_index_or (row_at ss n).coefs k (pos 0) else (row_at ss n).bound) below
      ∙ ap (λ cs. slice_index_or cs k (pos 0)) at.coefs
      ∙ sym (ap (λ b. if b then slice_index_or (row_at rs n).coefs k (pos 0) else (row_at rs n).bound) below)

  entry_low : (n : ℕ) → entry_at vars (row_at ss n) vars ≤ℤ entry_at vars (row_at rs n) vars
  entry_low n =
      let past : nat_lt vars vars ≡ false = grind (arith, nat_tests) in
      let at = tighter_at rs ss (n - 1) tighter in
      let here = ap (λ b. if b then slice_index_or (row_at ss n).coefs vars (pos 0) else (row_at ss n).bound) past in
      let there = ap (λ b. if b then slice_index_or (row_at rs n).coefs vars (pos 0) else (row_at rs n).bound) past in
      subst (λ z. z ≤ℤ entry_at vars (row_at rs n) vars) (sym here) (subst (λ z. (row_at ss n).bound ≤ℤ z) (sym there) at.bound)

  sum_same : (terms : List (ℕ × ℤ)) (k : ℕ) → k < vars → sum_at vars ss terms k ≡ sum_at vars rs terms k
  sum_same [] k less = refl
  sum_same (t ∷ terms) k less =
      ap (λ z. t.1 *ℤ z +ℤ sum_at vars ss terms k) (entry_same t.0 k less) ∙ ap (λ z. t.1 *ℤ entry_at vars (row_at rs t.0) k +ℤ z) (sum_same terms k less)

  sum_low : (terms : List (ℕ × ℤ)) → has_negative terms ≡ false → sum_at vars ss terms vars ≤ℤ sum_at vars rs terms vars
  sum_low [] signs = ≤ℤ_refl (pos 0)
  sum_low (t ∷ terms) signs =
      let parts = both_false (int_lt t.1 (pos 0)) (has_negative terms) signs in
      let sign : pos 0 ≤ℤ t.1 = let none = parts.0 in grind (arith, ints) in
      let here = mul_le_ℤ t.1 (entry_at vars (row_at ss t.0) vars) (entry_at vars (row_at rs t.0) vars) sign (entry_low t.0) in
      let rest = sum_low terms parts.1 in
      omega (arith, ints, here, rest)
    where
      both_false : (a b : Bool) → (a || b) ≡ false → (a ≡ false) × (b ≡ false)
      both_false true b h = absurd cc
      both_false false b h = (refl, h)

  -- ---- and the rows that steps make

  map_same : (f g : ℕ → ℤ) (a n : ℕ) → ((k : ℕ) → k < a + n → f k ≡ g k) → map f (range_with_len a n) ≡ map g (range_with_len a n)
  map_same f g a zero h = refl
  map_same f g a (suc n) h = ap (λ z. z ∷ map f (range_with_len (a + 1) n)) (h a (omega arith)) ∙ ap (λ zs. g a ∷ zs) (map_same f g (a + 1) n (λ k less. h k (omega (arith, less))))

  all_same : (f g : ℕ → Bool) (a n : ℕ) → ((k : ℕ) → k < a + n → f k ≡ g k) → list_all f (range_with_len a n) ≡ list_all g (range_with_len a n)
  all_same f g a zero h = refl
  all_same f g a (suc n) h = ap (λ b. b && list_all f (range_with_len (a + 1) n)) (h a (omega arith)) ∙ ap (λ b. g a && b) (all_same f g (a + 1) n (λ k less. h k (omega (arith, less))))

  divides_same : (step : Step) → divides vars ss step ≡ divides vars rs step
  divides_same step =
      ap (λ b. int_lt (pos 0) step.divisor && b)
      (all_same (λ k. int_eq (int_rem (sum_at vars ss step.terms k) step.divisor) (pos 0)) (λ k. int_eq (int_rem (sum_at vars rs step.terms k) step.divisor) (pos 0)) 0 vars
      (λ k less. ap (λ z. int_eq (int_rem z step.divisor) (pos 0)) (sum_same step.terms k (omega (arith, less)))))

  made_tighter : (step : Step) → has_negative step.terms ≡ false → divides vars rs step ≡ true → IsTighter (made_row vars rs step) (made_row vars ss step)
  made_tighter step signs divided =
      let above = (and_parts (int_lt (pos 0) step.divisor) (list_all (λ k. int_eq (int_rem (sum_at vars rs step.terms k) step.divisor) (pos 0)) (range_with_len 0 vars)) divided).0 in
      record {
        coefs = map_same (λ k. int_div (sum_at vars ss step.terms k) step.divisor) (λ k. int_div (sum_at vars rs step.terms k) step.divisor) 0 vars (λ k less. ap (λ z. int_div z step.divisor) (sum_same step.terms k (omega (arith, less))));
        bound = floor_rises step.divisor (sum_at vars ss step.terms vars) (sum_at vars rs step.terms vars) (grind (arith, ints)) (sum_low step.terms signs);
      }

-- ---- the first fault

-- no fault, or a number that is too large
abbrev pub IsWideAtMost : Option CertRefusal → Type 0
IsWideAtMost fault = (fault ≡ None) ⊎ ((step : ℕ) × (entry : ℕ) × (fault ≡ Some (Wide step entry)))

divides_where_none : (vars : ℕ) (rows : List Row) (n : ℕ) (step : Step) (wide : Option ℕ) → number_fault vars rows n step wide ≡ None → divides vars rows step ≡ true
divides_where_none vars rows n step None h = true_from_if (divides vars rows step) (BadDivisor n) h
divides_where_none vars rows n step (Some k) h = absurd cc

last_tighter : (m n : ℕ) (r s : Option Row) → AreBoth r s → last_fault m r ≡ None → last_fault n s ≡ None
last_tighter m n None None both h = absurd cc
last_tighter m n None (Some s) both h = absurd both
last_tighter m n (Some r) None both h = absurd both
last_tighter m n (Some r) (Some s) both h =
    let parts = and_parts (list_all (λ a. int_eq a (pos 0)) r.coefs) (int_lt r.bound (pos 0)) (true_from_if (is_contradiction r) (NoContradiction m) h) in
    let below = parts.1 in
    let lower = both.bound in
    let negative : int_lt s.bound (pos 0) ≡ true = grind (arith, ints) in
    ap (λ b. if b then None else Some (NoContradiction n)) (and_from _ _ (ap (list_all (λ a. int_eq a (pos 0))) both.coefs ∙ parts.0) negative)

-- a step has no fault, or a number that is too large, and then come the faults of the later ones
module _ (vars n : ℕ) (step : Step) (rs ss : List Row) (tighter : AreTighter rs ss) (signs : has_negative step.terms ≡ false) (named : names_bad_row (length rs) step.terms ≡ false) (divided : divides vars rs step ≡ true) where
  by_wide : (w : Option ℕ) → first_wide vars ss step.terms (range_with_len 0 (vars + 1)) ≡ w → step_fault vars ss n step ≡ number_fault vars ss n step w
  by_wide w is =
      let numbers = number_fault vars ss n step (first_wide vars ss step.terms (range_with_len 0 (vars + 1))) in
      ap (λ b. if b then Some (NegativeMultiplier n) else if names_bad_row (length ss) step.terms then Some (BadRow n) else numbers) signs
      ∙ ap (λ b. if b then Some (BadRow n) else numbers) (ap (λ m. names_bad_row m step.terms) (tighter_length rs ss tighter) ∙ named)
      ∙ ap (number_fault vars ss n step) is

  with_rest : (rest : Option CertRefusal) → IsWideAtMost rest → (w : Option ℕ) → first_wide vars ss step.terms (range_with_len 0 (vars + 1)) ≡ w → IsWideAtMost (option_or (step_fault vars ss n step) rest)
  with_rest rest later (Some k) is = inr (n, k + 1, ap (λ f. option_or f rest) (by_wide (Some k) is))
  with_rest rest later None is =
      let good : step_fault vars ss n step ≡ None = by_wide None is ∙ ap (λ b. if b then None else Some (BadDivisor n)) (divides_same vars rs ss tighter step ∙ divided) in
      subst (λ f. IsWideAtMost (option_or f rest)) (sym good) later

  step_tighter : (rest : Option CertRefusal) → IsWideAtMost rest → IsWideAtMost (option_or (step_fault vars ss n step) rest)
  step_tighter rest later = with_rest rest later (first_wide vars ss step.terms (range_with_len 0 (vars + 1))) refl

pub fault_tighter : (vars n : ℕ) (steps : List Step) (rs ss : List Row) → AreTighter rs ss → fault_from vars rs n steps ≡ None → IsWideAtMost (fault_from vars ss n steps)
fault_tighter vars n [] rs ss tighter none =
    let long = tighter_length rs ss tighter in
    inl (last_tighter (length rs) (length ss) (slice_get rs (length rs - 1)) (slice_get ss (length ss - 1)) (subst (λ m. AreBoth (slice_get rs (length rs - 1)) (slice_get ss (m - 1))) (sym long) (tighter_get rs ss (length rs - 1) tighter)) none)
fault_tighter vars n (step ∷ steps) rs ss tighter none =
    let parts = neither (step_fault vars rs n step) (fault_from vars (rs ++ made_row vars rs step ∷ []) (n + 1) steps) none in
    let wide = first_wide vars rs step.terms (range_with_len 0 (vars + 1)) in
    let signs = none_from_if (has_negative step.terms) (NegativeMultiplier n) (if names_bad_row (length rs) step.terms then Some (BadRow n) else number_fault vars rs n step wide) parts.0 in
    let named = none_from_if (names_bad_row (length rs) step.terms) (BadRow n) (number_fault vars rs n step wide) signs.1 in
    let divided = divides_where_none vars rs n step wide named.1 in
    step_tighter vars n step rs ss tighter signs.0 named.0 divided (fault_from vars (ss ++ made_row vars ss step ∷ []) (n + 1) steps)
    (fault_tighter vars (n + 1) steps (rs ++ made_row vars rs step ∷ []) (ss ++ made_row vars ss step ∷ [])
    (tighter_append rs ss (made_row vars rs step ∷ []) (made_row vars ss step ∷ []) tighter (made_tighter vars rs ss tighter step signs.0 divided, tt)) parts.1)

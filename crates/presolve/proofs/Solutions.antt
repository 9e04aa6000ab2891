-- Solutions, column by column.
use Rattle.std.proofs.Common.{◌≡◌, ℕ, zero, suc, ◌+◌, ◌-◌, ◌==◌, ◌≤◌, ◌<◌, ℤ, pos, ◌*ℤ◌, ◌≤ℤ◌, true, false, if◌then◌else◌, List, [], ◌∷◌, map, length, get_or, refl, ap, sym, ◌∙◌, subst, arith}
use Rattle.std.specs.List.{All}
use Rattle.std.proofs.lemmas.Int.{ints}
use Rattle.std.proofs.Math.IntN.{zero-*ℤ}
use Rattle.std.proofs.lemmas.Bool.Decides.{nat_tests}
use Rattle.std.proofs.lemmas.List.{length-map}
use Rattle.farkas_cert.specs.declared.system.Row.{Row}
use Rattle.farkas_cert.specs.Inequalities.{Inequalities, left_side, Holds, IsWholeSolution, IsRationalSolution}
use Rattle.presolve.specs.Columns.{AreRising, is_kept, kept, kept_row, with_columns, IsZeroOutside, KeepsAll, spread}
use Rattle.presolve.proofs.Columns.{not_before}

-- a left side is that of the columns that are kept
sides : (vars from : ℕ) (keep : List ℕ) (cs xs : List ℤ) (f g : ℕ → ℤ) → from + length xs ≡ vars → length cs ≡ length xs → AreRising from vars keep → ((i : ℕ) → i < length xs → f (from + i) ≡ get_or cs i (pos 0)) → ((i : ℕ) → i < length xs → g (from + i) ≡ get_or xs i (pos 0)) → ((k : ℕ) → from ≤ k → k < vars → is_kept keep k ≡ false → f k ≡ pos 0) → left_side cs xs ≡ left_side (map f keep) (map g keep)
sides vars from [] [] [] f g end same rising is_f is_g outside = refl
sides vars from (k ∷ keep) [] [] f g end same rising is_f is_g outside = absurd (omega (arith, rising.0, rising.1))
sides vars from keep [] (x ∷ xs) f g end same rising is_f is_g outside = absurd (omega arith)
sides vars from keep (a ∷ cs) [] f g end same rising is_f is_g outside = absurd (omega arith)
sides vars from [] (a ∷ cs) (x ∷ xs) f g end same rising is_f is_g outside =
    let here : a ≡ pos 0 = sym (is_f 0 (omega arith)) ∙ ap f (omega arith) ∙ outside from (omega arith) (omega arith) refl in
    let none : a *ℤ x ≡ pos 0 = ap (λ z. z *ℤ x) here ∙ zero-*ℤ x in
    let rest = sides vars (from + 1) [] cs xs f g (omega arith) (omega arith) tt (λ i lt. ap f (omega arith) ∙ is_f (suc i) (omega arith)) (λ i lt. ap g (omega arith) ∙ is_g (suc i) (omega arith)) (λ k low high no. outside k (omega arith) high no) in
    omega (arith, ints, none, rest)
sides vars from (k ∷ keep) (a ∷ cs) (x ∷ xs) f g end same rising is_f is_g outside =
    elim (k == from) as (λ b. (k == from) ≡ b → left_side (a ∷ cs) (x ∷ xs) ≡ left_side (map f (k ∷ keep)) (map g (k ∷ keep))) [
      | true ↦ λ e.
          let at : k ≡ from = grind (arith, nat_tests) in
          let of_f : f k ≡ a = ap f (omega (arith, at)) ∙ is_f 0 (omega arith) in
          let of_g : g k ≡ x = ap g (omega (arith, at)) ∙ is_g 0 (omega arith) in
          let rest = sides vars (from + 1) keep cs xs f g (omega arith) (omega arith) (subst (λ i. AreRising (i + 1) vars keep) at rising.2) (λ i lt. ap f (omega arith) ∙ is_f (suc i) (omega arith)) (λ i lt. ap g (omega arith) ∙ is_g (suc i) (omega arith)) (λ j low high no. outside j (omega arith) high (let other : (k == j) ≡ false = grind (arith, nat_tests) in rw (other, no) refl)) in
          rw (of_f, of_g, rest) refl
      | false ↦ λ e.
          let past : from + 1 ≤ k = grind (arith, nat_tests, rising.0) in
          let here : a ≡ pos 0 = sym (is_f 0 (omega arith)) ∙ ap f (omega arith) ∙ outside from (omega arith) (omega arith) (not_before (from + 1) vars (k ∷ keep) from (past, rising.1, rising.2) (omega arith)) in
          let none : a *ℤ x ≡ pos 0 = ap (λ z. z *ℤ x) here ∙ zero-*ℤ x in
          let rest = sides vars (from + 1) (k ∷ keep) cs xs f g (omega arith) (omega arith) (past, rising.1, rising.2) (λ i lt. ap f (omega arith) ∙ is_f (suc i) (omega arith)) (λ i lt. ap g (omega arith) ∙ is_g (suc i) (omega arith)) (λ j low high no. outside j (omega arith) high no) in
          omega (arith, ints, none, rest)
    ] refl

pub side_kept : (vars : ℕ) (keep : List ℕ) (row : Row) (xs : List ℤ) → AreRising 0 vars keep → length row.coefs ≡ vars → length xs ≡ vars → IsZeroOutside vars keep row → left_side row.coefs xs ≡ left_side (kept keep row.coefs) (kept keep xs)
side_kept vars keep row xs rising full values outside =
    sides vars 0 keep row.coefs xs (λ k. get_or row.coefs k (pos 0)) (λ k. get_or xs k (pos 0)) (omega arith) (omega arith) rising (λ i lt. ap (λ j. get_or row.coefs j (pos 0)) (omega arith)) (λ i lt. ap (λ j. get_or xs j (pos 0)) (omega arith)) (λ k low high no. outside k high no)

-- what is spread has a value for each column, and gives the values of those that are kept back
pub spread_length : (fill : ℕ → ℤ) (from n : ℕ) (keep : List ℕ) (xs : List ℤ) → length (spread fill from n keep xs) ≡ n
spread_length fill from zero keep xs = refl
spread_length fill from (suc n) [] xs = ap suc (spread_length fill (from + 1) n [] xs)
spread_length fill from (suc n) (k ∷ keep) [] = ap suc (spread_length fill (from + 1) n [] [])
spread_length fill from (suc n) (k ∷ keep) (x ∷ xs) =
    elim (k == from) as (λ b. length (if b then x ∷ spread fill (from + 1) n keep xs else fill from ∷ spread fill (from + 1) n (k ∷ keep) (x ∷ xs)) ≡ suc n) [
      | true ↦ ap suc (spread_length fill (from + 1) n keep xs)
      | false ↦ ap suc (spread_length fill (from + 1) n (k ∷ keep) (x ∷ xs))
    ]

-- of columns behind the first, those of the rest
kept_behind : (from vars : ℕ) (z : ℤ) (zs : List ℤ) (keep : List ℕ) → AreRising (from + 1) vars keep → map (λ k. get_or (z ∷ zs) (k - from) (pos 0)) keep ≡ map (λ k. get_or zs (k - (from + 1)) (pos 0)) keep
kept_behind from vars z zs [] rising = refl
kept_behind from vars z zs (k ∷ keep) rising =
    let place : k - from ≡ suc (k - (from + 1)) = omega (arith, rising.0) in
    let rest : AreRising (from + 1) vars keep = weaker (k + 1) (from + 1) vars keep (omega (arith, rising.0)) rising.2 in
    rw (place, kept_behind from vars z zs keep rest) refl where
      weaker : (a b vars : ℕ) (keep : List ℕ) → b ≤ a → AreRising a vars keep → AreRising b vars keep
      weaker a b vars [] le r = tt
      weaker a b vars (k ∷ keep) le r = (omega (arith, r.0), r.1, r.2)

pub spread_kept : (fill : ℕ → ℤ) (vars from n : ℕ) (keep : List ℕ) (xs : List ℤ) → from + n ≡ vars → AreRising from vars keep → length xs ≡ length keep → map (λ k. get_or (spread fill from n keep xs) (k - from) (pos 0)) keep ≡ xs
spread_kept fill vars from zero [] [] end rising same = refl
spread_kept fill vars from zero (k ∷ keep) xs end rising same = absurd (omega (arith, rising.0, rising.1))
spread_kept fill vars from n [] (x ∷ xs) end rising same = absurd (omega arith)
spread_kept fill vars from (suc n) [] [] end rising same = refl
spread_kept fill vars from (suc n) (k ∷ keep) [] end rising same = absurd (omega arith)
spread_kept fill vars from (suc n) (k ∷ keep) (x ∷ xs) end rising same =
    elim (k == from) as (λ b. (k == from) ≡ b → map (λ j. get_or (if b then x ∷ spread fill (from + 1) n keep xs else fill from ∷ spread fill (from + 1) n (k ∷ keep) (x ∷ xs)) (j - from) (pos 0)) (k ∷ keep) ≡ x ∷ xs) [
      | true ↦ λ e.
          let at : k ≡ from = grind (arith, nat_tests) in
          let place : k - from ≡ zero = omega (arith, at) in
          let rising_on : AreRising (from + 1) vars keep = subst (λ i. AreRising (i + 1) vars keep) at rising.2 in
          rw (place, kept_behind from vars x (spread fill (from + 1) n keep xs) keep rising_on, spread_kept fill vars (from + 1) n keep xs (omega arith) rising_on (omega arith)) refl
      | false ↦ λ e.
          let past : from + 1 ≤ k = grind (arith, nat_tests, rising.0) in
          kept_behind from vars (fill from) (spread fill (from + 1) n (k ∷ keep) (x ∷ xs)) (k ∷ keep) (past, rising.1, rising.2) ∙ spread_kept fill vars (from + 1) n (k ∷ keep) (x ∷ xs) (omega arith) (past, rising.1, rising.2) same
    ] refl

from_none : (zs : List ℤ) (keep : List ℕ) → map (λ k. get_or zs (k - 0) (pos 0)) keep ≡ kept keep zs
from_none zs [] = refl
from_none zs (k ∷ keep) =
    let place : k - 0 ≡ k = omega arith in rw (place, from_none zs keep) refl

-- what holds of each row, of each with_columns row
rows_mapped : (P Q : Row → Type 0) (keep : List ℕ) (rows : List Row) → All P rows → ((k : ℕ) (d : Row) → k < length rows → P (get_or rows k d) → Q (kept_row keep (get_or rows k d))) → All Q (map (kept_row keep) rows)
rows_mapped P Q keep [] all turn k d lt = absurd (omega arith)
rows_mapped P Q keep (r ∷ rows) all turn zero d lt = turn 0 r (omega arith) (all 0 r (omega arith))
rows_mapped P Q keep (r ∷ rows) all turn (suc k) d lt = rows_mapped P Q keep rows (λ i e l. all (suc i) e (omega arith)) (λ i e l p. turn (suc i) e (omega arith) p) k d (omega arith)

rows_back : (P : Row → Type 0) (keep : List ℕ) (rows : List Row) → All P (map (kept_row keep) rows) → (k : ℕ) (d : Row) → k < length rows → P (kept_row keep (get_or rows k d))
rows_back P keep [] all k d lt = absurd (omega arith)
rows_back P keep (r ∷ rows) all zero d lt = all 0 (kept_row keep r) (omega arith)
rows_back P keep (r ∷ rows) all (suc k) d lt = rows_back P keep rows (λ i e l. all (suc i) e (omega arith)) k d (omega arith)

pub solution_kept : (system : Inequalities) (keep : List ℕ) (xs : List ℤ) → KeepsAll keep system → IsWholeSolution system xs → IsWholeSolution (with_columns keep system) (kept keep xs)
solution_kept system keep xs keeps solution = record {
  values = length-map keep (λ k. get_or xs k (pos 0));
  rows = rows_mapped (λ r. Holds r xs) (λ r. Holds r (kept keep xs)) keep system.rows solution.rows (λ k d lt holds.
      let same = side_kept system.vars keep (get_or system.rows k d) xs keeps.rising (keeps.full k d lt) solution.values (keeps.none k d lt) in
      subst (λ z. z ≤ℤ (get_or system.rows k d).bound) same holds);
}

pub solution_widened : (system : Inequalities) (keep : List ℕ) (fill : ℕ → ℤ) (xs : List ℤ) → KeepsAll keep system → IsWholeSolution (with_columns keep system) xs → IsWholeSolution system (spread fill 0 system.vars keep xs)
solution_widened system keep fill xs keeps solution =
    let whole = spread fill 0 system.vars keep xs in
    let back : kept keep whole ≡ xs = sym (from_none whole keep) ∙ spread_kept fill system.vars 0 system.vars keep xs (omega arith) keeps.rising solution.values in
    record {
      values = spread_length fill 0 system.vars keep xs;
      rows = λ k d lt.
          let row = get_or system.rows k d in
          let narrow : left_side (kept keep row.coefs) xs ≤ℤ row.bound = rows_back (λ r. Holds r xs) keep system.rows solution.rows k d lt in
          let same : left_side row.coefs whole ≡ left_side (kept keep row.coefs) (kept keep whole) = side_kept system.vars keep row whole keeps.rising (keeps.full k d lt) (spread_length fill 0 system.vars keep xs) (keeps.none k d lt) in
          subst (λ z. z ≤ℤ row.bound) (sym (same ∙ ap (left_side (kept keep row.coefs)) back)) narrow;
    }

pub rational_widened : (system : Inequalities) (keep : List ℕ) (fill : ℕ → ℤ) (xs : List ℤ) (d : ℤ) → KeepsAll keep system → IsRationalSolution (with_columns keep system) xs d → IsRationalSolution system (spread fill 0 system.vars keep xs) d
rational_widened system keep fill xs divisor keeps solution =
    let whole = spread fill 0 system.vars keep xs in
    let back : kept keep whole ≡ xs = sym (from_none whole keep) ∙ spread_kept fill system.vars 0 system.vars keep xs (omega arith) keeps.rising solution.values in
    record {
      values = spread_length fill 0 system.vars keep xs;
      divisor = solution.divisor;
      rows = λ k d lt.
          let row = get_or system.rows k d in
          let narrow : left_side (kept keep row.coefs) xs ≤ℤ (row.bound *ℤ divisor) = rows_back (λ r. left_side r.coefs xs ≤ℤ (r.bound *ℤ divisor)) keep system.rows solution.rows k d lt in
          let same : left_side row.coefs whole ≡ left_side (kept keep row.coefs) (kept keep whole) = side_kept system.vars keep row whole keeps.rising (keeps.full k d lt) (spread_length fill 0 system.vars keep xs) (keeps.none k d lt) in
          subst (λ z. z ≤ℤ (row.bound *ℤ divisor)) (sym (same ∙ ap (left_side (kept keep row.coefs)) back)) narrow;
    }

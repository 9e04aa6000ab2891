-- The combination of two rows, entry by entry.
use Rattle.std.proofs.Common.{◌≡◌, ℕ, zero, suc, ◌+◌, ◌≤◌, ◌<◌, ℤ, pos, negsuc, ◌+ℤ◌, ◌*ℤ◌, Bool, true, false, ◌&&◌, if◌then◌else◌, ◌⊎◌, ⊎_elim, ◌<ℤ◌, ◌/◌, unsigned_abs, Option, Some, None, IsTrue, FitsSigned, List, [], ◌∷◌, length, get_or, drop, add-one, refl, sym, ◌∙◌, arith, ◌-◌}
use Rattle.std.specs.Int.{IsGcd, w128}
use Rattle.std.specs.Option.{is_some}
use Rattle.std.proofs.Math.Nat.{eq-zero_of_zero-dvd, div-le_self}
use Rattle.std.proofs.Math.Seq.{drop-cons}
use Rattle.std.proofs.Math.IntN.{+ℤ_idl, *ℤ-zero}
use Rattle.std.proofs.lemmas.Int.{ints}
use Rattle.std.proofs.lemmas.List.{drop_all}
use Rattle.std.proofs.lemmas.Option.{cond_some}
use Rattle.std.proofs.lemmas.Bool.{cases_lt}
use Rattle.std.proofs.lemmas.Bool.Decides.{nat_tests}
use Rattle.farkas_cert.specs.declared.system.Row.{Row}
use Rattle.farkas_cert.specs.Combination.{entry_at, is_narrow, stays_narrow}
use Rattle.elim_rows.specs.Pairs.{combined}

-- the entries from k on
pub combined-drop : (m n : ℤ) (xs ys : List ℤ) (k : ℕ) (d : ℤ) → k < length xs → length ys ≡ length xs → combined m (drop k xs) n (drop k ys) ≡ (m *ℤ get_or xs k d +ℤ n *ℤ get_or ys k d) ∷ combined m (drop (k + 1) xs) n (drop (k + 1) ys)
combined-drop m n xs ys k d h same =
    let e = drop-cons xs k d h in
    let there : k < length ys = omega arith in
    let f = drop-cons ys k d there in
    rw (e, f, add-one) refl

pub all_three : (a b c : Bool) → IsTrue a → IsTrue b → IsTrue c → IsTrue (a && b && c)
all_three true true c x y z = z
all_three true false c x y z = y
all_three false b c x y z = x

-- two products, then their sum
pub both_narrow : (p q : ℤ) → stays_narrow (pos 0) (p ∷ q ∷ []) ≡ (is_narrow p && is_narrow q && is_narrow (p +ℤ q))
both_narrow p q = rw (+ℤ_idl p) (cases (is_narrow p) (is_narrow q) (is_narrow (p +ℤ q)))
  where
    cases : (a b c : Bool) → (a && a && (b && c && true)) ≡ (a && b && c)
    cases true true true = refl
    cases true true false = refl
    cases true false c = refl
    cases false b c = refl

-- what a weighted sum answers
pub sum_where_none : (p q : ℤ) → (if is_narrow p && is_narrow q && is_narrow (p +ℤ q) then Some (p +ℤ q) else None) ≡ None → stays_narrow (pos 0) (p ∷ q ∷ []) ≡ false
sum_where_none p q h = both_narrow p q ∙ grind arith

pub sum_where_some : (p q s : ℤ) → (if is_narrow p && is_narrow q && is_narrow (p +ℤ q) then Some (p +ℤ q) else None) ≡ Some s → IsTrue (stays_narrow (pos 0) (p ∷ q ∷ [])) × (p +ℤ q ≡ s)
sum_where_some p q s h =
    let parts = cond_some (is_narrow p && is_narrow q && is_narrow (p +ℤ q)) (p +ℤ q) s h in
    (rw (both_narrow p q) (grind (arith, parts.0)), parts.1)

-- a narrow number fits 128 bits
pub fits_narrow : (z : ℤ) → IsTrue (is_narrow z) → FitsSigned w128 z
fits_narrow z h = grind (arith, nat_tests, ints)

-- the parts of a narrow sum
pub narrow_parts : (p q : ℤ) → IsTrue (stays_narrow (pos 0) (p ∷ q ∷ [])) → IsTrue (is_narrow p) × IsTrue (is_narrow q) × IsTrue (is_narrow (p +ℤ q))
narrow_parts p q h = let parts : IsTrue (is_narrow p && is_narrow q && is_narrow (p +ℤ q)) = sym (both_narrow p q) ∙ h in grind (arith, parts)

-- the entries of a row
pub entry_at-coef : (vars : ℕ) (row : Row) (k : ℕ) → k < vars → entry_at vars row k ≡ get_or row.coefs k (pos 0)
entry_at-coef vars row k h = grind (arith, nat_tests)

-- two narrow products, and their sum if it is narrow
pub weighted_sum_is : (p q x y : ℤ) (r : Option ℤ) → Some x ≡ (if is_narrow p then Some p else None) → Some y ≡ (if is_narrow q then Some q else None) → r ≡ (if is_narrow (x +ℤ y) then Some (x +ℤ y) else None) → r ≡ (if is_narrow p && is_narrow q && is_narrow (p +ℤ q) then Some (p +ℤ q) else None)
weighted_sum_is p q x y r first second sum =
    let a = cond_some (is_narrow p) p x (sym first) in
    let b = cond_some (is_narrow q) q y (sym second) in
    rw (a.0, b.0, a.1, b.1) sum

-- the greatest common divisor of a number that isn't 0 isn't 0
pub divisor_above_zero : (a b g : ℕ) → 0 < a → IsGcd a b g → 0 < g
divisor_above_zero a b zero h gcd = absurd (omega (arith, eq-zero_of_zero-dvd gcd.0))
divisor_above_zero a b (suc g) h gcd = omega arith

pub quotient_le : (a g : ℕ) → a / g ≤ a
quotient_le a g = div-le_self a g

-- a number apart from 0 has a size above 0
pub size_above_zero : (z : ℤ) → (pos 0 <ℤ z) ⊎ (z <ℤ pos 0) → 0 < unsigned_abs z
size_above_zero (pos n) h = ⊎_elim (λ a. omega (arith, ints, a)) (λ a. absurd (omega (arith, ints, a))) h
size_above_zero (negsuc n) h = omega arith

-- no entry is left
pub combined-done : (m n : ℤ) (xs ys : List ℤ) (k : ℕ) → length xs ≤ k → combined m (drop k xs) n (drop k ys) ≡ []
combined-done m n xs ys k h = let e = drop_all k xs h in rw e refl

-- two cases
pub by_lt : {P : Type 0} (a b : ℕ) → (a < b → P) → (b ≤ a → P) → P
by_lt {P} a b f g = ⊎_elim f g (cases_lt a b)

-- a sum that is there is narrow, and one that isn't is wide
none_from_test : (o : Option ℤ) → is_some o ≡ false → o ≡ None
none_from_test None h = refl
none_from_test (Some x) h = cc

pub sum_is_wide : (p q : ℤ) (r : Option ℤ) → r ≡ (if is_narrow p && is_narrow q && is_narrow (p +ℤ q) then Some (p +ℤ q) else None) → is_some r ≡ false → stays_narrow (pos 0) (p ∷ q ∷ []) ≡ false
sum_is_wide p q r e h = sum_where_none p q (sym e ∙ none_from_test r h)

pub sum_is_narrow : (p q : ℤ) (r : Option ℤ) → r ≡ (if is_narrow p && is_narrow q && is_narrow (p +ℤ q) then Some (p +ℤ q) else None) → is_some r ≡ true → IsTrue (stays_narrow (pos 0) (p ∷ q ∷ []))
sum_is_narrow p q None e h = cc
sum_is_narrow p q (Some s) e h = (sum_where_some p q s (sym e)).0

pub once : (z : ℤ) → pos 1 *ℤ z ≡ z
once z = omega (arith, ints)

-- the coefficients of a combination
pub combined-at : (m n : ℤ) (us ls : List ℤ) (k : ℕ) → length ls ≡ length us → get_or (combined m us n ls) k (pos 0) ≡ m *ℤ get_or us k (pos 0) +ℤ n *ℤ get_or ls k (pos 0)
combined-at m n [] [] k same = omega (arith, ints, *ℤ-zero m, *ℤ-zero n)
combined-at m n [] (l ∷ ls) k same = absurd (omega arith)
combined-at m n (u ∷ us) [] k same = absurd (omega arith)
combined-at m n (u ∷ us) (l ∷ ls) zero same = refl
combined-at m n (u ∷ us) (l ∷ ls) (suc k) same = combined-at m n us ls k (omega arith)

-- The left side of a row is the sum of its terms.
use Rattle.std.proofs.Common.{◌≡◌, ℕ, suc, ◌+◌, ◌-◌, ◌<◌, ◌≤◌, ◌==◌, nat_le, ℤ, pos, ◌*ℤ◌, ◌≤ℤ◌, Bool, true, false, List, [], ◌∷◌, map, length, get_or, if◌then◌else◌, ⊎_elim, refl, ap, sym, ◌∙◌, subst, arith}
use Rattle.std.specs.List.{All, AllByRecursion, list_all, range_with_len}
use Rattle.std.proofs.lemmas.Bool.{and_parts, cases_Bool, eqb-false, eqb-true, leb-true}
use Rattle.std.proofs.lemmas.Int.{ints}
use Rattle.std.proofs.lemmas.List.Elements.{All-nil, All-cons}
use Rattle.std.proofs.Math.IntN.{zero-*ℤ}
use Rattle.nest_tree.specs.Form.{dot}
use Rattle.nest_tree.specs.WellFormed.{is_number_of}
use Rattle.farkas_cert.specs.Inequalities.{Holds, IsWholeSolution, left_side}
use Rattle.farkas_cert.specs.declared.system.Row.{Row}
use Rattle.farkas_cert.proofs.Sums.{left_side-map-range, weighted, weighted-add, weighted-zero}
use Rattle.nest_rows.specs.declared.constraint.Constraint.{Constraint}
use Rattle.nest_rows.specs.Constraints.{IsMet, coefficient, row_of, system_of}

-- one term
abbrev single : ℕ → ℤ → ℕ → ℤ
single m c k = if m == k then c else pos 0

single-here : (m : ℕ) (c : ℤ) (k : ℕ) → (m == k) ≡ true → single m c k ≡ c
single-here m c k h = ap (λ b. if b then c else pos 0) h

single-other : (m : ℕ) (c : ℤ) (k : ℕ) → (m == k) ≡ false → single m c k ≡ pos 0
single-other m c k h = ap (λ b. if b then c else pos 0) h

past : (m : ℕ) (c : ℤ) (a : ℕ) → m < a → single m c a ≡ pos 0
past m c a h = ⊎_elim (λ e. absurd (omega (arith, h, eqb-true m a e))) (λ e. single-other m c a e) (cases_Bool (m == a))

weighted-past : (m : ℕ) (c : ℤ) (a : ℕ) (xs : List ℤ) → m < a → weighted (single m c) a xs ≡ pos 0
weighted-past m c a [] h = refl
weighted-past m c a (x ∷ xs) h =
    let first = ap (λ z. z *ℤ x) (past m c a h) ∙ zero-*ℤ x in
    omega (arith, ints, first, weighted-past m c (a + 1) xs (omega (arith, h)))

weighted-single : (m : ℕ) (c : ℤ) (a : ℕ) (xs : List ℤ) → a ≤ m → m < a + length xs → weighted (single m c) a xs ≡ c *ℤ get_or xs (m - a) (pos 0)
weighted-single m c a [] low high = absurd (omega (arith, low, high))
weighted-single m c a (x ∷ xs) low high =
    let here : (m == a) ≡ true → weighted (single m c) a (x ∷ xs) ≡ c *ℤ get_or (x ∷ xs) (m - a) (pos 0) = λ e.
    let same : m ≡ a = eqb-true m a e in
    let none : m - a ≡ 0 = omega (arith, same) in
    let first = ap (λ z. z *ℤ x) (single-here m c a e) in
    let at : c *ℤ get_or (x ∷ xs) (m - a) (pos 0) ≡ c *ℤ x = ap (λ n. c *ℤ get_or (x ∷ xs) n (pos 0)) none in
    let rest = weighted-past m c (a + 1) xs (omega (arith, same)) in
    omega (arith, ints, first, rest, at) in
    let there : (m == a) ≡ false → weighted (single m c) a (x ∷ xs) ≡ c *ℤ get_or (x ∷ xs) (m - a) (pos 0) = λ e.
    let ne : m ≡ a → ⊥ = eqb-false m a e in
    let more : m - a ≡ suc (m - (a + 1)) = omega (arith, low, ne) in
    let first = ap (λ z. z *ℤ x) (single-other m c a e) ∙ zero-*ℤ x in
    let at : c *ℤ get_or (x ∷ xs) (m - a) (pos 0) ≡ c *ℤ get_or xs (m - (a + 1)) (pos 0) = ap (λ n. c *ℤ get_or (x ∷ xs) n (pos 0)) more in
    let rest = weighted-single m c (a + 1) xs (omega (arith, low, ne)) (omega (arith, high)) in
    omega (arith, ints, first, rest, at) in
    ⊎_elim here there (cases_Bool (m == a))

weighted-terms : (terms : List (ℕ × ℤ)) (xs : List ℤ) → list_all (λ t. is_number_of (length xs) t.0) terms ≡ true → weighted (coefficient terms) 1 xs ≡ dot terms xs
weighted-terms [] xs numbers = weighted-zero (λ k. pos 0) 1 xs (λ k. refl)
weighted-terms (t ∷ terms) xs numbers =
    let parts = and_parts (is_number_of (length xs) t.0) (list_all (λ (t : ℕ × ℤ). is_number_of (length xs) t.0) terms) numbers in
    let number = and_parts (nat_le 1 t.0) (nat_le t.0 (length xs)) parts.0 in
    let low = leb-true 1 t.0 number.0 in
    let high = leb-true t.0 (length xs) number.1 in
    weighted-add (single t.0 t.1) (coefficient terms) 1 xs
    ∙ omega (arith, ints, weighted-single t.0 t.1 1 xs low (omega (arith, high)), weighted-terms terms xs parts.1)

-- the terms of these constraints are among so many unknowns
abbrev pub is_over : ℕ → Constraint → Bool
is_over vars c = list_all (λ t. is_number_of vars t.0) c.terms

pub left_side_is : (vars : ℕ) (terms : List (ℕ × ℤ)) (xs : List ℤ) → length xs ≡ vars → list_all (λ t. is_number_of vars t.0) terms ≡ true → left_side (map (coefficient terms) (range_with_len 1 vars)) xs ≡ dot terms xs
left_side_is vars terms xs same numbers =
    ap (λ n. left_side (map (coefficient terms) (range_with_len 1 n)) xs) (sym same) ∙ left_side-map-range (coefficient terms) 1 xs
    ∙ weighted-terms terms xs (ap (λ n. list_all (λ (t : ℕ × ℤ). is_number_of n t.0) terms) same ∙ numbers)

rows_hold : (vars : ℕ) (cs : List Constraint) (xs : List ℤ) → length xs ≡ vars → list_all (is_over vars) cs ≡ true → AllByRecursion (IsMet xs) cs → All (λ r. Holds r xs) (map (row_of vars) cs)
rows_hold vars [] xs same over met = All-nil (λ (r : Row). Holds r xs)
rows_hold vars (c ∷ cs) xs same over met =
    let parts = and_parts (is_over vars c) (list_all (is_over vars) cs) over in
    let here = subst (λ z. z ≤ℤ c.bound) (sym (left_side_is vars c.terms xs same parts.0)) met.0 in
    All-cons (λ (r : Row). Holds r xs) (row_of vars c) (map (row_of vars) cs) here (rows_hold vars cs xs same parts.1 met.1)

-- values that meet each constraint solve the system
pub solves : (vars : ℕ) (cs : List Constraint) (xs : List ℤ) → length xs ≡ vars → list_all (is_over vars) cs ≡ true → AllByRecursion (IsMet xs) cs → IsWholeSolution (system_of vars cs) xs
solves vars cs xs same over met = record { values = same; rows = rows_hold vars cs xs same over met }

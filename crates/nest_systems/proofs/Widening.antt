-- Whole solutions of what is left solve the whole system.
use Rattle.std.proofs.Common.{◌≡◌, ℕ, zero, suc, ◌+◌, ◌-◌, ◌<◌, ◌≤◌, ℤ, pos, ◌≤ℤ◌, true, false, List, [], ◌∷◌, ◌++◌, map, length, get_or, inl, inr, if◌then◌else◌, refl, ap, ap₂, sym, ◌∙◌, subst, arith}
use Rattle.std.specs.Prelude.{◌==◌, ◌||◌, nat_le}
use Rattle.std.specs.List.{All, flat_map, list_all, range_with_len}
use Rattle.std.proofs.lemmas.Bool.{cases_Bool, eqb-true, false≢true, le-leb, ne_eqb, or_cases, or_left, or_parts}
use Rattle.std.proofs.lemmas.List.{map-append}
use Rattle.std.proofs.lemmas.List.Elements.{All-append, All-head, All-nil, All-push}
use Rattle.std.proofs.lemmas.List.FromFn.{length-map-range_with_len}
use Rattle.list_lemmas.proofs.Each.{All-left, All-right}
use Rattle.farkas_cert.specs.declared.system.Row.{Row}
use Rattle.farkas_cert.specs.Inequalities.{Holds, Inequalities, IsWholeSolution, left_side}
use Rattle.presolve.specs.Columns.{AreRising, is_kept, kept, kept_row, spread, with_columns}
use Rattle.presolve.specs.Rows.{rows_at, with_rows}
use Rattle.presolve.specs.Presolution.{IsPresolved, Presolution, first_kept, with_last, with_row}
use Rattle.presolve.proofs.Pushed.{first_of_pushed}
use Rattle.presolve.proofs.Solutions.{side_kept, solution_widened, spread_kept}
use Rattle.nest_rows.specs.declared.constraint.Constraint.{Constraint}
use Rattle.nest_rows.specs.declared.constraint.Sign.TheVariants.{Plus, Minus}
use Rattle.nest_rows.specs.Constraints.{coefficient, row_of, system_of}
use Rattle.nest_rows.specs.Groups.{constants_have, equal}
use Rattle.nest_rows.proofs.GroupsMet.{constants_met}
use Rattle.nest_rows.proofs.Sums.{is_over, solves}
use Rattle.nest_systems.specs.Growing.{with_constraints}
use Rattle.nest_systems.specs.Kept.{NamesKept, row_over, value_of}
use Rattle.nest_systems.specs.Widened.{Widens}
use Rattle.nest_systems.proofs.GrowingParts.{one-behind, rows-left}
use Rattle.nest_systems.proofs.KeptConstants.{kept-append, kept-places}
use Rattle.nest_systems.proofs.KeptPlaces.{kept-same, zero-outside}

-- ---- of lists

-- ---- what is spread

spread-out : (fill : ℕ → ℤ) (from n : ℕ) (keep : List ℕ) (xs : List ℤ) (i : ℕ) (d : ℤ) → i < n → is_kept keep (from + i) ≡ false → get_or (spread fill from n keep xs) i d ≡ fill (from + i)
spread-out fill from zero keep xs i d lt out = absurd (omega (arith, lt))
spread-out fill from (suc n) [] xs zero d lt out = ap fill (omega arith)
spread-out fill from (suc n) [] xs (suc i) d lt out = let e : from + 1 + i ≡ from + suc i = omega arith in spread-out fill (from + 1) n [] xs i d (omega (arith, lt)) refl ∙ ap fill e
spread-out fill from (suc n) (k ∷ keep) [] zero d lt out = ap fill (omega arith)
spread-out fill from (suc n) (k ∷ keep) [] (suc i) d lt out = let e : from + 1 + i ≡ from + suc i = omega arith in spread-out fill (from + 1) n [] [] i d (omega (arith, lt)) refl ∙ ap fill e
spread-out fill from (suc n) (k ∷ keep) (x ∷ xs) zero d lt out =
    let front : from ≡ from + 0 = omega arith in
    elim (cases_Bool (k == from)) [
      | inl same ↦ absurd (false≢true (sym out ∙ or_left (k == from + 0) (is_kept keep (from + 0)) (ap (λ j. k == j) (sym front) ∙ same)))
      | inr other ↦ ap (λ b. get_or (if b then x ∷ spread fill (from + 1) n keep xs else fill from ∷ spread fill (from + 1) n (k ∷ keep) (x ∷ xs)) 0 d) other ∙ ap fill front
    ]
spread-out fill from (suc n) (k ∷ keep) (x ∷ xs) (suc i) d lt out =
    let e : from + suc i ≡ from + 1 + i = omega arith in
    elim (cases_Bool (k == from)) [
      | inl same ↦
          ap (λ b. get_or (if b then x ∷ spread fill (from + 1) n keep xs else fill from ∷ spread fill (from + 1) n (k ∷ keep) (x ∷ xs)) (suc i) d) same
          ∙ spread-out fill (from + 1) n keep xs i d (omega (arith, lt)) (ap (is_kept keep) (sym e) ∙ (or_parts (k == from + suc i) (is_kept keep (from + suc i)) out).1) ∙ ap fill (sym e)
      | inr other ↦
          ap (λ b. get_or (if b then x ∷ spread fill (from + 1) n keep xs else fill from ∷ spread fill (from + 1) n (k ∷ keep) (x ∷ xs)) (suc i) d) other
          ∙ spread-out fill (from + 1) n (k ∷ keep) (x ∷ xs) i d (omega (arith, lt)) (ap (is_kept (k ∷ keep)) (sym e) ∙ out) ∙ ap fill (sym e)
    ]

from-none : (zs : List ℤ) (keep : List ℕ) → kept keep zs ≡ map (λ k. get_or zs (k - 0) (pos 0)) keep
from-none zs [] = refl
from-none zs (k ∷ keep) = let place : k ≡ k - 0 = omega arith in ap₂ (λ y ys. y ∷ ys) (ap (λ j. get_or zs j (pos 0)) place) (from-none zs keep)

-- ---- the rows of constants' values

holds-of : (P : Row → Type 0) (vars : ℕ) (vs : List ℤ) (ones : List ℕ) (n : ℕ) → is_kept ones n ≡ true → All P (map (row_of vars) (flat_map (value_of vs) ones)) → All P (map (row_of vars) (value_of vs n))
holds-of P vars vs [] n h all = absurd (false≢true h)
holds-of P vars vs (k ∷ ones) n h all =
    let split = subst (All P) (map-append (row_of vars) (value_of vs k) (flat_map (value_of vs) ones)) all in
    elim (or_cases (k == n) (is_kept ones n) h) [
      | inl same ↦ subst (λ j. All P (map (row_of vars) (value_of vs j))) (eqb-true k n same) (All-left P (map (row_of vars) (value_of vs k)) (map (row_of vars) (flat_map (value_of vs) ones)) split)
      | inr later ↦ holds-of P vars vs ones n later (All-right P (map (row_of vars) (value_of vs k)) (map (row_of vars) (flat_map (value_of vs) ones)) split)
    ]

constants-hold : (P : Row → Type 0) (vars n : ℕ) (ws : List ℤ) → ((k : ℕ) → k < length ws → All P (map (row_of vars) (equal Plus (n + k) (get_or ws k (pos 0)) ∷ equal Minus (n + k) (get_or ws k (pos 0)) ∷ []))) → All P (map (row_of vars) (constants_have n ws))
constants-hold P vars n [] each = All-nil P
constants-hold P vars n (w ∷ ws) each =
    let here : n + 0 ≡ n = omega arith in
    let both = subst (λ j. All P (map (row_of vars) (equal Plus j w ∷ equal Minus j w ∷ []))) here (each 0 (omega arith)) in
    let rest = constants-hold P vars (suc n) ws (λ k lt. let e : n + suc k ≡ suc n + k = omega arith in subst (λ j. All P (map (row_of vars) (equal Plus j (get_or ws k (pos 0)) ∷ equal Minus j (get_or ws k (pos 0)) ∷ []))) e (each (suc k) (omega (arith, lt)))) in
    All-append P (map (row_of vars) (equal Plus n w ∷ equal Minus n w ∷ [])) (map (row_of vars) (constants_have (suc n) ws)) both rest

-- where the constant has its value
value-holds : (vars n : ℕ) (v : ℤ) (ys : List ℤ) → length ys ≡ vars → 1 ≤ n → n ≤ vars → get_or ys (n - 1) (pos 0) ≡ v → All (λ r. Holds r ys) (map (row_of vars) (equal Plus n v ∷ equal Minus n v ∷ []))
value-holds vars n v ys long low high is =
    let over : list_all (is_over vars) (equal Plus n v ∷ equal Minus n v ∷ []) ≡ true = rw (le-leb 1 n low, le-leb n vars high) refl in
    (solves vars (constants_have n (v ∷ [])) ys long over (constants_met ys n (v ∷ []) (λ k d lt. value k d lt))).rows where
      value : (k : ℕ) (d : ℤ) → k < 1 → get_or ys (n + k - 1) (pos 0) ≡ get_or (v ∷ []) k d
      value zero d lt = let e : n + 0 - 1 ≡ n - 1 = omega arith in ap (λ j. get_or ys j (pos 0)) e ∙ is
      value (suc k) d lt = absurd (omega (arith, lt))

-- ---- a system of constraints

range-none : (from count k : ℕ) → k < from → is_kept (range_with_len from count) k ≡ false
range-none from zero k lt = refl
range-none from (suc count) k lt =
    ap (λ b. b || is_kept (range_with_len (from + 1) count) k) (ne_eqb from k (λ e. omega (arith, e, lt))) ∙ range-none (from + 1) count k (omega (arith, lt))

column-out : (constants vars : ℕ) (ones : List ℕ) (k : ℕ) → AreRising 1 (constants + 1) ones → k < constants → is_kept ones (k + 1) ≡ false → is_kept (map (λ n. n - 1) ones ++ range_with_len constants (vars - constants)) k ≡ false
column-out constants vars ones k rising lt out =
    kept-append (map (λ n. n - 1) ones) (range_with_len constants (vars - constants)) k
    ∙ ap₂ (λ a b. a || b) (kept-places 0 (constants + 1) ones k rising ∙ out) (range-none constants (vars - constants) k lt)

module _ (constants vars : ℕ) (vs : List ℤ) (cs : List Constraint) (ones : List ℕ) (p : Presolution) (xs : List ℤ) (rising : AreRising 1 (constants + 1) ones) (within : constants ≤ vars) (few : length vs ≤ constants) (is : IsPresolved (system_of vars (constants_have 1 vs ++ cs)) p)
    (columns-is : p.columns ≡ map (λ n. n - 1) ones ++ range_with_len constants (vars - constants)) (left : rows_at p.numbers (map (row_of vars) (constants_have 1 vs ++ cs)) ≡ map (row_of vars) (flat_map (value_of vs) ones ++ cs)) (solution : IsWholeSolution p.system xs) where
  abbrev system : Inequalities
  system = system_of vars (constants_have 1 vs ++ cs)

  abbrev fill : ℕ → ℤ
  fill k = get_or vs k (pos 0)

  abbrev ys : List ℤ
  ys = spread fill 0 vars p.columns xs

  abbrev StandsAt : Row → Type 0
  StandsAt r = Holds r ys

  narrow : IsWholeSolution (with_columns p.columns (with_rows p.numbers system)) xs
  narrow = subst (λ (s : Inequalities). IsWholeSolution s xs) is.system solution

  whole : IsWholeSolution (with_rows p.numbers system) ys
  whole = solution_widened (with_rows p.numbers system) p.columns fill xs is.all narrow

  of-left : All StandsAt (map (row_of vars) (flat_map (value_of vs) ones) ++ map (row_of vars) cs)
  of-left = subst (All StandsAt) (left ∙ map-append (row_of vars) (flat_map (value_of vs) ones) cs) whole.rows

  one : (k : ℕ) → k < length vs → All StandsAt (map (row_of vars) (equal Plus (1 + k) (get_or vs k (pos 0)) ∷ equal Minus (1 + k) (get_or vs k (pos 0)) ∷ []))
  one k lt = elim (cases_Bool (is_kept ones (k + 1))) [
    | inl there ↦
        let turn : 1 + k ≡ k + 1 = omega arith in
        let at : 1 + k - 1 ≡ k = omega arith in
        let inside : nat_le (1 + k) (length vs) ≡ true = le-leb (1 + k) (length vs) (omega (arith, lt)) in
        let found = holds-of StandsAt vars vs ones (1 + k) (ap (is_kept ones) turn ∙ there) (All-left StandsAt (map (row_of vars) (flat_map (value_of vs) ones)) (map (row_of vars) cs) of-left) in
        let plain = subst (λ b. All StandsAt (map (row_of vars) (if b then equal Plus (1 + k) (get_or vs (1 + k - 1) (pos 0)) ∷ equal Minus (1 + k) (get_or vs (1 + k - 1) (pos 0)) ∷ [] else []))) inside found in
        subst (λ j. All StandsAt (map (row_of vars) (equal Plus (1 + k) (get_or vs j (pos 0)) ∷ equal Minus (1 + k) (get_or vs j (pos 0)) ∷ []))) at plain
    | inr out ↦
        let at : 1 + k - 1 ≡ k = omega arith in
        let front : 0 + k ≡ k = omega arith in
        let none : is_kept p.columns (0 + k) ≡ false = ap₂ is_kept columns-is front ∙ column-out constants vars ones k rising (omega (arith, lt, few)) out in
        let value : get_or ys (1 + k - 1) (pos 0) ≡ get_or vs k (pos 0) = ap (λ j. get_or ys j (pos 0)) at ∙ spread-out fill 0 vars p.columns xs k (pos 0) (omega (arith, lt, few, within)) none ∙ ap fill front in
        value-holds vars (1 + k) (get_or vs k (pos 0)) ys whole.values (omega arith) (omega (arith, lt, few, within)) value
  ]

  found : (ys : List ℤ) × (kept p.columns ys ≡ xs) × IsWholeSolution system ys
  found =
      let front : 0 + vars ≡ vars = omega arith in
      let back : kept p.columns ys ≡ xs = from-none ys p.columns ∙ spread_kept fill vars 0 vars p.columns xs front is.all.rising narrow.values in
      let behind = All-right StandsAt (map (row_of vars) (flat_map (value_of vs) ones)) (map (row_of vars) cs) of-left in
      let all = All-append StandsAt (map (row_of vars) (constants_have 1 vs)) (map (row_of vars) cs) (constants-hold StandsAt vars 1 vs one) behind in
      (ys, back, record { values = whole.values; rows = subst (All StandsAt) (sym (map-append (row_of vars) (constants_have 1 vs) cs)) all })

pub widened : (constants vars : ℕ) (vs : List ℤ) (cs : List Constraint) (ones : List ℕ) (p : Presolution) → AreRising 1 (constants + 1) ones → constants ≤ vars → length vs ≤ constants → IsPresolved (system_of vars (constants_have 1 vs ++ cs)) p →
    p.columns ≡ map (λ n. n - 1) ones ++ range_with_len constants (vars - constants) → rows_at p.numbers (map (row_of vars) (constants_have 1 vs ++ cs)) ≡ map (row_of vars) (flat_map (value_of vs) ones ++ cs) → Widens (system_of vars (constants_have 1 vs ++ cs)) p
widened constants vars vs cs ones p rising within few is columns-is left xs solution = found constants vars vs cs ones p xs rising within few is columns-is left solution

-- ---- a row more at the end

pub more-widened : (s : Inequalities) (cs : List Constraint) (c : Constraint) (row : Row) (p : Presolution) → IsPresolved (with_constraints cs s) p → Widens (with_constraints cs s) p → NamesKept s.vars p.columns c → row ≡ row_over p.columns c → Widens (with_constraints (cs ++ c ∷ []) s) (with_last row p)
more-widened s cs c row p is widens named same xs solution =
    let before : IsWholeSolution p.system xs = record { values = solution.values; rows = All-left (λ r. Holds r xs) p.system.rows (row ∷ []) solution.rows } in
    let last : Holds row xs = All-head (λ r. Holds r xs) row [] (All-right (λ r. Holds r xs) p.system.rows (row ∷ []) solution.rows) in
    let (ys, back, whole) = widens xs before in
    let side = side_kept s.vars p.columns (row_of s.vars c) ys is.all.rising (length-map-range_with_len (coefficient c.terms) 1 s.vars) whole.values (zero-outside s.vars c p.columns named) in
    let row-is : kept_row p.columns (row_of s.vars c) ≡ row = kept-same s.vars c p.columns is.all.rising ∙ sym same in
    let sides : left_side (row_of s.vars c).coefs ys ≡ left_side row.coefs xs = side ∙ ap₂ left_side (ap (λ (r : Row). r.coefs) row-is) back in
    let bound : row.bound ≡ c.bound = sym (ap (λ (r : Row). r.bound) row-is) in
    let here : Holds (row_of s.vars c) ys = subst (λ z. z ≤ℤ c.bound) (sym sides) (subst (λ z. left_side row.coefs xs ≤ℤ z) bound last) in
    let all : IsWholeSolution (with_row (row_of s.vars c) (with_constraints cs s)) ys = record { values = whole.values; rows = All-push (λ r. Holds r ys) (with_constraints cs s).rows (row_of s.vars c) whole.rows here } in
    (ys, back, subst (λ (x : Inequalities). IsWholeSolution x ys) (sym (one-behind s cs c)) all)

pub first-widened : (whole s : Inequalities) (row : Row) (most : ℕ) (p : Presolution) → IsPresolved whole p → most ≤ length p.numbers → Widens s (first_kept most p) → Widens s (first_kept most (with_last row p))
first-widened whole s row most p is le first = subst (Widens s) (sym (first_of_pushed p row most le (rows-left whole p is))) first

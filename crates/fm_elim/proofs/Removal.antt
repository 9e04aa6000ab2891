-- A variable is removed: values that satisfy the combinations can be moved so that they satisfy the rows.
use Rattle.std.proofs.Common.{◌≡◌, ℕ, suc, ◌+◌, ◌-◌, ◌≤◌, ◌<◌, ℤ, pos, negsuc, ◌+ℤ◌, ◌*ℤ◌, ◌≤ℤ◌, ◌<ℤ◌, neg_ℤ, unsigned_abs, ◌⊎◌, ⊎_elim, inl, inr, List, [], ◌∷◌, length, get_or, refl, ap, ◌∙◌, arith}
use Rattle.std.specs.List.{All, Contains}
use Rattle.std.proofs.lemmas.Int.{ints, by_lt_z}
use Rattle.std.proofs.lemmas.List.Elements.{All-cons, All-nil, All-weaker, Contains-get_or}
use Rattle.std.proofs.Math.IntN.{*ℤ_comm, zero-*ℤ}
use lib.Signed.{≤ℤ_refl}
use Rattle.list_lemmas.proofs.Integers.{mul-add, mul_assoc_ℤ}
use Rattle.farkas_cert.specs.declared.system.Row.{Row}
use Rattle.farkas_cert.specs.Inequalities.{left_side as dot}
use Rattle.elim_rows.specs.Pairs.{coef_of}
use Rattle.farkas_cert.proofs.Integers.{mul_le_ℤ}
use Rattle.fm_elim.proofs.Integers.{mul-neg, mul_swap, mul_le_cancel}
use Rattle.fm_elim.proofs.Values.{moved, dot-moved, length-moved}

-- how far the row is from its bound at x / d, times d
abbrev pub slack : List ℤ → ℤ → Row → ℤ
slack x d row = row.bound *ℤ d +ℤ neg_ℤ (dot row.coefs x)

-- p / q <= r / s, in whole numbers: what is at most what is at most
pub ratio_trans : (p q r s u v : ℤ) → pos 0 <ℤ q → pos 0 <ℤ s → pos 0 <ℤ v → (p *ℤ s) ≤ℤ (r *ℤ q) → (r *ℤ v) ≤ℤ (u *ℤ s) → (p *ℤ v) ≤ℤ (u *ℤ q)
ratio_trans p q r s u v hq hs hv first second =
    let a : (v *ℤ (p *ℤ s)) ≤ℤ (v *ℤ (r *ℤ q)) = mul_le_ℤ v _ _ (omega (arith, ints, hv)) first in
    let b : (q *ℤ (r *ℤ v)) ≤ℤ (q *ℤ (u *ℤ s)) = mul_le_ℤ q _ _ (omega (arith, ints, hq)) second in
    let middle : v *ℤ (r *ℤ q) ≡ q *ℤ (r *ℤ v) = *ℤ_comm v (r *ℤ q) ∙ mul_assoc_ℤ r q v ∙ mul_swap r q v in
    let left : v *ℤ (p *ℤ s) ≡ s *ℤ (p *ℤ v) = *ℤ_comm v (p *ℤ s) ∙ mul_assoc_ℤ p s v ∙ mul_swap p s v in
    let right : q *ℤ (u *ℤ s) ≡ s *ℤ (u *ℤ q) = *ℤ_comm q (u *ℤ s) ∙ mul_assoc_ℤ u s q ∙ mul_swap u s q in
    mul_le_cancel s (p *ℤ v) (u *ℤ q) hs (omega (arith, ints, a, b, middle, left, right))

-- at x / d the row bounds a variable from above more tightly than the other, if that one does
abbrev pub IsTighter : ℕ → List ℤ → ℤ → Row → Row → Type 0
IsTighter v x d top row = pos 0 <ℤ coef_of v row → (slack x d top *ℤ coef_of v row) ≤ℤ (slack x d row *ℤ coef_of v top)

-- of the rows that bound a variable from above the tightest one at x / d
pub record IsTightest (v : ℕ) (x : List ℤ) (d : ℤ) (rows : List Row) (top : Row) : Type 0 where
  pub there : Contains rows top
  pub above : pos 0 <ℤ coef_of v top
  pub tighter : All (IsTighter v x d top) rows

Contains-tail : (r row : Row) (rows : List Row) → Contains rows r → Contains (row ∷ rows) r
Contains-tail r row rows h = (suc h.0, omega (arith, h.1), h.2)

module _ (v : ℕ) (x : List ℤ) (d : ℤ) (row : Row) (rows : List Row) where
  -- the first row is the only one
  first_alone : pos 0 <ℤ coef_of v row → All (λ r. coef_of v r ≤ℤ pos 0) rows → IsTightest v x d (row ∷ rows) row
  first_alone above none = record {
    there = (0, omega arith, refl);
    above = above;
    tighter = All-cons (IsTighter v x d row) row rows (λ h. ≤ℤ_refl (slack x d row *ℤ coef_of v row)) (All-weaker (λ r. coef_of v r ≤ℤ pos 0) (IsTighter v x d row) (λ r below above'. absurd (omega (arith, ints, below, above'))) rows none);
  }

  -- the first row is no tighter
  first_looser : (top : Row) → IsTightest v x d rows top → IsTighter v x d top row → IsTightest v x d (row ∷ rows) top
  first_looser top best here = record {
    there = Contains-tail top row rows best.there;
    above = best.above;
    tighter = All-cons (IsTighter v x d top) row rows here best.tighter;
  }

  -- the first row is tighter
  first_tighter : (top : Row) → IsTightest v x d rows top → pos 0 <ℤ coef_of v row → (slack x d row *ℤ coef_of v top) ≤ℤ (slack x d top *ℤ coef_of v row) → IsTightest v x d (row ∷ rows) row
  first_tighter top best above less = record {
    there = (0, omega arith, refl);
    above = above;
    tighter = All-cons (IsTighter v x d row) row rows (λ h. ≤ℤ_refl (slack x d row *ℤ coef_of v row))
        (All-weaker (IsTighter v x d top) (IsTighter v x d row) (λ r upto h. ratio_trans (slack x d row) (coef_of v row) (slack x d top) (coef_of v top) (slack x d r) (coef_of v r) above best.above h less (upto h)) rows best.tighter);
  }

  Next : Type 0
  Next = ((top : Row) × IsTightest v x d (row ∷ rows) top) ⊎ All (λ r. coef_of v r ≤ℤ pos 0) (row ∷ rows)

  with_best : (top : Row) → IsTightest v x d rows top → Next
  unfolding Next
  with_best top best =
      by_lt_z {P = Next} (pos 0) (coef_of v row)
      (λ above. by_lt_z {P = Next} (slack x d row *ℤ coef_of v top) (slack x d top *ℤ coef_of v row)
      (λ less. inl (row, first_tighter top best above (omega (arith, ints, less))))
      (λ more. inl (top, first_looser top best (λ h. more))))
      (λ not_above. inl (top, first_looser top best (λ h. absurd (omega (arith, ints, h, not_above)))))

  with_none : All (λ r. coef_of v r ≤ℤ pos 0) rows → Next
  unfolding Next
  with_none none =
      by_lt_z {P = Next} (pos 0) (coef_of v row)
      (λ above. inl (row, first_alone above none))
      (λ not_above. inr (All-cons (λ r. coef_of v r ≤ℤ pos 0) row rows not_above none))

  pub next : ((top : Row) × IsTightest v x d rows top) ⊎ All (λ r. coef_of v r ≤ℤ pos 0) rows → ((top : Row) × IsTightest v x d (row ∷ rows) top) ⊎ All (λ r. coef_of v r ≤ℤ pos 0) (row ∷ rows)
  unfolding Next
  next h = ⊎_elim (λ b. with_best b.0 b.1) with_none h

-- some row is the tightest bound from above, or none is one
pub tightest : (v : ℕ) (x : List ℤ) (d : ℤ) (rows : List Row) → ((top : Row) × IsTightest v x d rows top) ⊎ All (λ r. coef_of v r ≤ℤ pos 0) rows
tightest v x d [] = inr (All-nil (λ r. coef_of v r ≤ℤ pos 0))
tightest v x d (row ∷ rows) = next v x d row rows (tightest v x d rows)

-- the values moved to where this row is met exactly
module _ (v : ℕ) (x : List ℤ) (d : ℤ) (top row : Row) (full : length row.coefs ≡ length x) (within : v - 1 < length x) where
  -- the row holds there, if the ratio of slack to coefficient is at least that of the other
  pub holds_moved : (coef_of v row *ℤ slack x d top) ≤ℤ (coef_of v top *ℤ slack x d row) → dot row.coefs (moved (coef_of v top) (slack x d top) (v - 1) x) ≤ℤ (row.bound *ℤ (coef_of v top *ℤ d))
  holds_moved h =
      let q = coef_of v top in
      let t = slack x d top in
      let sum = dot-moved q t (v - 1) row.coefs x (omega arith) (omega arith) in
      let split = mul-add q (row.bound *ℤ d) (neg_ℤ (dot row.coefs x)) in
      omega (arith, ints, h, sum, split, mul-neg q (dot row.coefs x), mul_swap q row.bound d)

-- the sizes of all slacks together
reach : List ℤ → ℤ → List Row → ℕ
reach x d [] = 0
reach x d (row ∷ rows) = unsigned_abs (slack x d row) + reach x d rows

within_reach : (x : List ℤ) (d : ℤ) (rows : List Row) → All (λ r. unsigned_abs (slack x d r) ≤ reach x d rows) rows
unfolding reach
within_reach x d [] = All-nil (λ r. unsigned_abs (slack x d r) ≤ 0)
within_reach x d (row ∷ rows) =
    let n = unsigned_abs (slack x d row) + reach x d rows in
    All-cons (λ r. unsigned_abs (slack x d r) ≤ n) row rows (omega arith) (All-weaker (λ r. unsigned_abs (slack x d r) ≤ reach x d rows) (λ r. unsigned_abs (slack x d r) ≤ n) (λ r h. omega (arith, h)) rows (within_reach x d rows))

-- a negative number times a far value is below what is within reach
far_below : (a s : ℤ) (n : ℕ) → a <ℤ pos 0 → unsigned_abs s ≤ n → (a *ℤ pos n) ≤ℤ s
far_below a s n h k =
    let scaled : (pos n *ℤ a) ≤ℤ (pos n *ℤ negsuc 0) = mul_le_ℤ (pos n) a (negsuc 0) (omega (arith, ints)) (omega (arith, ints, h)) in
    omega (arith, ints, scaled, *ℤ_comm (pos n) a, size s)
  where
    size : (z : ℤ) → neg_ℤ (pos (unsigned_abs z)) ≤ℤ z
    size (pos m) = omega (arith, ints)
    size (negsuc m) = omega (arith, ints)

-- rows that hold at x / d
abbrev pub AllHold : List ℤ → ℤ → List Row → Type 0
AllHold x d rows = All (λ r. dot r.coefs x ≤ℤ (r.bound *ℤ d)) rows

-- some x / d at which the rows hold
pub record IsSolvable (vars : ℕ) (rows : List Row) : Type 0 where
  pub x : List ℤ
  pub d : ℤ
  pub values : length x ≡ vars
  pub divisor : pos 1 ≤ℤ d
  pub holds : AllHold x d rows

-- the rows without the variable hold, and each pair of opposite sign leaves room between
module _ (v : ℕ) (x : List ℤ) (d : ℤ) (rows : List Row) (divisor : pos 1 ≤ℤ d) (full : All (λ r. length r.coefs ≡ length x) rows) (within : v - 1 < length x)
    (apart : All (λ r. coef_of v r ≡ pos 0 → pos 0 ≤ℤ slack x d r) rows)
    (room : (upper lower : Row) → Contains rows upper → Contains rows lower → pos 0 <ℤ coef_of v upper → coef_of v lower <ℤ pos 0 → (coef_of v lower *ℤ slack x d upper) ≤ℤ (coef_of v upper *ℤ slack x d lower)) where
  -- at the tightest bound from above
  at_top : (top : Row) → IsTightest v x d rows top → IsSolvable (length x) rows
  at_top top best = record {
    x = moved (coef_of v top) (slack x d top) (v - 1) x;
    d = coef_of v top *ℤ d;
    values = length-moved (coef_of v top) (slack x d top) (v - 1) x;
    divisor = product_above (coef_of v top) d best.above divisor;
    holds = λ k e h.
        let row = get_or rows k e in
        let there = Contains-get_or rows k e h in
        holds_moved v x d top row (full k e h) within (fits row there (best.tighter k e h) (apart k e h));
  }
    where
      product_above : (a b : ℤ) → pos 0 <ℤ a → pos 1 ≤ℤ b → pos 1 ≤ℤ (a *ℤ b)
      product_above a b ha hb = let more : (a *ℤ pos 1) ≤ℤ (a *ℤ b) = mul_le_ℤ a (pos 1) b (omega (arith, ints, ha)) hb in omega (arith, ints, more, ha)

      fits : (row : Row) → Contains rows row → IsTighter v x d top row → (coef_of v row ≡ pos 0 → pos 0 ≤ℤ slack x d row) → (coef_of v row *ℤ slack x d top) ≤ℤ (coef_of v top *ℤ slack x d row)
      fits row there tighter alone =
          by_lt_z {P = (coef_of v row *ℤ slack x d top) ≤ℤ (coef_of v top *ℤ slack x d row)} (pos 0) (coef_of v row)
          (λ above. omega (arith, ints, tighter above, *ℤ_comm (coef_of v row) (slack x d top), *ℤ_comm (coef_of v top) (slack x d row)))
          (λ not_above. by_lt_z {P = (coef_of v row *ℤ slack x d top) ≤ℤ (coef_of v top *ℤ slack x d row)} (coef_of v row) (pos 0)
          (λ below. room top row best.there there best.above below)
          (λ not_below.
          let none : coef_of v row ≡ pos 0 = omega (arith, ints, not_above, not_below) in
          let left = ap (λ z. z *ℤ slack x d top) none ∙ zero-*ℤ (slack x d top) in
          let right : (coef_of v top *ℤ pos 0) ≤ℤ (coef_of v top *ℤ slack x d row) = mul_le_ℤ (coef_of v top) (pos 0) (slack x d row) (omega (arith, ints, best.above)) (alone none) in
          omega (arith, ints, left, right)))

  -- far enough up, where no row bounds it from above
  far_up : All (λ r. coef_of v r ≤ℤ pos 0) rows → IsSolvable (length x) rows
  far_up none = record {
    x = moved (pos 1) (pos (reach x d rows)) (v - 1) x;
    d = d;
    values = length-moved (pos 1) (pos (reach x d rows)) (v - 1) x;
    divisor = divisor;
    holds = λ k e h.
        let row = get_or rows k e in
        let sum = dot-moved (pos 1) (pos (reach x d rows)) (v - 1) row.coefs x (omega (arith, full k e h, within)) (omega (arith, full k e h)) in
        omega (arith, ints, sum, fits row (none k e h) (apart k e h) (within_reach x d rows k e h));
  }
    where
      fits : (row : Row) → coef_of v row ≤ℤ pos 0 → (coef_of v row ≡ pos 0 → pos 0 ≤ℤ slack x d row) → unsigned_abs (slack x d row) ≤ reach x d rows → (coef_of v row *ℤ pos (reach x d rows)) ≤ℤ slack x d row
      fits row not_above alone size =
          by_lt_z {P = (coef_of v row *ℤ pos (reach x d rows)) ≤ℤ slack x d row} (coef_of v row) (pos 0)
          (λ below. far_below (coef_of v row) (slack x d row) (reach x d rows) below size)
          (λ not_below.
          let zero' : coef_of v row ≡ pos 0 = omega (arith, ints, not_above, not_below) in
          omega (arith, ints, ap (λ z. z *ℤ pos (reach x d rows)) zero' ∙ zero-*ℤ (pos (reach x d rows)), alone zero'))

  pub solvable : IsSolvable (length x) rows
  solvable = ⊎_elim (λ best. at_top best.0 best.1) far_up (tightest v x d rows)

-- Sums modulo 2^64 that make cells.
use Rattle.std.proofs.Common.{◌≡◌, ℕ, ◌+◌, ◌-◌, ◌<◌, ◌≤◌, ℤ, pos, neg_ℤ, ◌+ℤ◌, ◌-ℤ◌, ◌*ℤ◌, List, [], ◌∷◌, length, drop, get_or, set, w64, FitsSigned, ⊎_elim, refl, ap, sym, ◌∙◌, arith}
use Rattle.std.proofs.lemmas.Bool.{cases_lt}
use Rattle.std.proofs.lemmas.Int.{ints, fits_signed_from_abs, int_wrap_fits, SFits-int_wrap, int_wrap-add_left, int_wrap-add_right, int_wrap-sub_right, int_wrap-mul_left, int_wrap-mul_right}
use Rattle.std.proofs.lemmas.List.{drop_all, drop_more}
use Rattle.std.proofs.Math.IntN.{*ℤ-zero}
use Rattle.nest_tree.specs.Form.{Form}
use Rattle.nest_tree.specs.Values.{wrapped}
use Rattle.nest_tree.proofs.Places.{Dimension}
use Rattle.nest_walk.specs.CellForms.{dot_by_depth}
use Rattle.nest_walk.specs.Paths.{Round, form_among, origin}
use Rattle.nest_walk.specs.Places.{place_among}
use Rattle.nest_walk.proofs.Affine.{IsAffine, step_of}

pub int_wrap-again : (z : ℤ) → wrapped (wrapped z) ≡ wrapped z
int_wrap-again z = int_wrap_fits w64 (wrapped z) (SFits-int_wrap w64 z)

-- equal parts modulo 2^64 make equal sums
both_same : (a a' b b' : ℤ) → wrapped a ≡ wrapped a' → wrapped b ≡ wrapped b' → wrapped (a +ℤ b) ≡ wrapped (a' +ℤ b')
both_same a a' b b' p q =
    sym (int_wrap-add_left w64 a b) ∙ ap (λ z. wrapped (z +ℤ b)) p ∙ int_wrap-add_left w64 a' b
    ∙ sym (int_wrap-add_right w64 a' b) ∙ ap (λ z. wrapped (a' +ℤ z)) q ∙ int_wrap-add_right w64 a' b'

-- a dimension's part, of values modulo 2^64
dimension_same : (low extent x place : ℤ) → wrapped ((wrapped x -ℤ low) +ℤ extent *ℤ wrapped place) ≡ wrapped ((x -ℤ low) +ℤ extent *ℤ place)
dimension_same low extent x place =
    let first : wrapped x -ℤ low ≡ wrapped x +ℤ neg_ℤ low = omega (arith, ints) in
    let back : x +ℤ neg_ℤ low ≡ x -ℤ low = omega (arith, ints) in
    both_same (wrapped x -ℤ low) (x -ℤ low) (extent *ℤ wrapped place) (extent *ℤ place)
    (ap wrapped first ∙ int_wrap-add_left w64 x (neg_ℤ low) ∙ ap wrapped back) (int_wrap-mul_right w64 extent place)

pub place_step : (bounds : List (ℤ × ℤ)) (subscripts : List Form) (rounds : List Round) (params : List ℤ) (k : ℕ) (b : ℤ × ℤ) (f : Form) (value later next : ℤ) → 0 < k → k ≤ length bounds → length subscripts ≡ length bounds →
    b ≡ get_or bounds (k - 1) (pos 0, pos 0) → f ≡ get_or subscripts (k - 1) f → value ≡ wrapped (form_among f rounds params) → later ≡ wrapped (place_among (drop k bounds) (drop k subscripts) rounds params) →
    next ≡ wrapped ((value -ℤ b.0) +ℤ (b.1 -ℤ b.0 +ℤ pos 1) *ℤ later) → next ≡ wrapped (place_among (drop (k - 1) bounds) (drop (k - 1) subscripts) rounds params)
place_step bounds subscripts rounds params k b f value later next some within as_many b_is f_is value_is later_is is =
    let extent = b.1 -ℤ b.0 +ℤ pos 1 in
    let lt : k - 1 < length bounds = omega (arith, some, within) in
    let lt' : k - 1 < length subscripts = omega (arith, lt, as_many) in
    let at : k - 1 + 1 ≡ k = omega (arith, some) in
    let bs : drop (k - 1) bounds ≡ b ∷ drop k bounds = drop_more bounds (k - 1) (pos 0, pos 0) lt ∙ ap (λ x. x ∷ drop (k - 1 + 1) bounds) (sym b_is) ∙ ap (λ n. b ∷ drop n bounds) at in
    let fs : drop (k - 1) subscripts ≡ f ∷ drop k subscripts = drop_more subscripts (k - 1) f lt' ∙ ap (λ x. x ∷ drop (k - 1 + 1) subscripts) (sym f_is) ∙ ap (λ n. f ∷ drop n subscripts) at in
    is ∙ ap (λ z. wrapped ((z -ℤ b.0) +ℤ extent *ℤ later)) value_is ∙ ap (λ z. wrapped ((wrapped (form_among f rounds params) -ℤ b.0) +ℤ extent *ℤ z)) later_is
    ∙ dimension_same b.0 extent (form_among f rounds params) (place_among (drop k bounds) (drop k subscripts) rounds params)
    ∙ sym (ap (λ xs. wrapped (place_among xs (drop (k - 1) subscripts) rounds params)) bs ∙ ap (λ ys. wrapped (place_among (b ∷ drop k bounds) ys rounds params)) fs)

-- a step of the sum of a cell's form
pub dot_step : (steps values : List ℤ) (i : ℕ) (sum next : ℤ) → i < length steps → i < length values →
    next ≡ wrapped (sum +ℤ get_or steps i (pos 0) *ℤ get_or values i (pos 0)) →
    wrapped (next +ℤ dot_by_depth (drop (i + 1) steps) (drop (i + 1) values)) ≡ wrapped (sum +ℤ dot_by_depth (drop i steps) (drop i values))
dot_step steps values i sum next h k e =
    let product = get_or steps i (pos 0) *ℤ get_or values i (pos 0) in
    let rest = dot_by_depth (drop (i + 1) steps) (drop (i + 1) values) in
    let more : dot_by_depth (drop i steps) (drop i values) ≡ product +ℤ rest =
    ap (λ xs. dot_by_depth xs (drop i values)) (drop_more steps i (pos 0) h) ∙ ap (dot_by_depth (get_or steps i (pos 0) ∷ drop (i + 1) steps)) (drop_more values i (pos 0) k) in
    let regrouped : sum +ℤ product +ℤ rest ≡ sum +ℤ (product +ℤ rest) = omega (arith, ints) in
    ap (λ z. wrapped (z +ℤ rest)) e ∙ int_wrap-add_left w64 (sum +ℤ product) rest ∙ ap wrapped regrouped ∙ ap (λ z. wrapped (sum +ℤ z)) (sym more)

-- the parts of a form, as the code makes them: its base, and a step along each loop
pub record AreSteps (g : List ℤ → ℤ) (depth : ℕ) (base : ℤ) (steps : List ℤ) : Type 0 where
  pub start : base ≡ wrapped (g origin)
  pub along : (d : ℕ) → d < depth → get_or steps d (pos 0) ≡ wrapped (wrapped (g (set origin d (pos 1))) -ℤ wrapped (g origin))
  pub others : (d : ℕ) → depth ≤ d → get_or steps d (pos 0) ≡ pos 0

-- one product
term_same : (g : List ℤ → ℤ) (depth : ℕ) (base : ℤ) (steps : List ℤ) (d : ℕ) (v : ℤ) → AreSteps g depth base steps → (depth ≤ d → v ≡ pos 0) →
    wrapped (get_or steps d (pos 0) *ℤ v) ≡ wrapped (step_of g d *ℤ v)
term_same g depth base steps d v are none =
    let one = g (set origin d (pos 1)) in
    let start = g origin in
    let inside = λ (h : d < depth).
    let first : wrapped one -ℤ start ≡ wrapped one +ℤ neg_ℤ start = omega (arith, ints) in
    let back : one +ℤ neg_ℤ start ≡ one -ℤ start = omega (arith, ints) in
    let step : wrapped (wrapped one -ℤ wrapped start) ≡ wrapped (one -ℤ start) =
    int_wrap-sub_right w64 (wrapped one) start ∙ ap wrapped first ∙ int_wrap-add_left w64 one (neg_ℤ start) ∙ ap wrapped back in
    ap (λ z. wrapped (z *ℤ v)) (are.along d h ∙ step) ∙ int_wrap-mul_left w64 (one -ℤ start) v in
    let outside = λ (h : depth ≤ d).
    ap (λ z. wrapped (get_or steps d (pos 0) *ℤ z)) (none h) ∙ ap wrapped (*ℤ-zero (get_or steps d (pos 0)) ∙ sym (*ℤ-zero (step_of g d))) ∙ ap (λ z. wrapped (step_of g d *ℤ z)) (sym (none h)) in
    ⊎_elim inside outside (cases_lt d depth)

six_is : (xs : List ℤ) → length xs ≡ 6 → xs ≡ get_or xs 0 (pos 0) ∷ get_or xs 1 (pos 0) ∷ get_or xs 2 (pos 0) ∷ get_or xs 3 (pos 0) ∷ get_or xs 4 (pos 0) ∷ get_or xs 5 (pos 0) ∷ []
six_is [] h = absurd (omega (arith, h))
six_is (a ∷ []) h = absurd (omega (arith, h))
six_is (a ∷ b ∷ []) h = absurd (omega (arith, h))
six_is (a ∷ b ∷ c ∷ []) h = absurd (omega (arith, h))
six_is (a ∷ b ∷ c ∷ d ∷ []) h = absurd (omega (arith, h))
six_is (a ∷ b ∷ c ∷ d ∷ e ∷ []) h = absurd (omega (arith, h))
six_is (a ∷ b ∷ c ∷ d ∷ e ∷ f ∷ []) h = refl
six_is (a ∷ b ∷ c ∷ d ∷ e ∷ f ∷ x ∷ xs) h = absurd (omega (arith, h))

-- the form gives the function's value
pub form_is : (g : List ℤ → ℤ) (depth : ℕ) (base : ℤ) (steps values : List ℤ) → IsAffine g → AreSteps g depth base steps → length steps ≡ 6 → length values ≡ 6 →
    ((d : ℕ) → depth ≤ d → get_or values d (pos 0) ≡ pos 0) → wrapped (base +ℤ dot_by_depth steps values) ≡ wrapped (g values)
form_is g depth base steps values affine are six_steps six_values zeros =
    let s = λ (d : ℕ). get_or steps d (pos 0) in
    let v = λ (d : ℕ). get_or values d (pos 0) in
    let u = λ (d : ℕ). step_of g d *ℤ v d in
    let t = λ (d : ℕ). s d *ℤ v d in
    let same = λ (d : ℕ). term_same g depth base steps d (v d) are (zeros d) in
    let start : wrapped base ≡ wrapped (g origin) = ap wrapped are.start ∙ int_wrap-again (g origin) in
    let listed = ap (λ xs. wrapped (base +ℤ dot_by_depth xs values)) (six_is steps six_steps)
    ∙ ap (λ ys. wrapped (base +ℤ dot_by_depth (s 0 ∷ s 1 ∷ s 2 ∷ s 3 ∷ s 4 ∷ s 5 ∷ []) ys)) (six_is values six_values) in
    let five = both_same (t 5) (u 5) (pos 0) (pos 0) (same 5) refl in
    let four = both_same (t 4) (u 4) (t 5 +ℤ pos 0) (u 5 +ℤ pos 0) (same 4) five in
    let three = both_same (t 3) (u 3) (t 4 +ℤ (t 5 +ℤ pos 0)) (u 4 +ℤ (u 5 +ℤ pos 0)) (same 3) four in
    let two = both_same (t 2) (u 2) (t 3 +ℤ (t 4 +ℤ (t 5 +ℤ pos 0))) (u 3 +ℤ (u 4 +ℤ (u 5 +ℤ pos 0))) (same 2) three in
    let one = both_same (t 1) (u 1) (t 2 +ℤ (t 3 +ℤ (t 4 +ℤ (t 5 +ℤ pos 0)))) (u 2 +ℤ (u 3 +ℤ (u 4 +ℤ (u 5 +ℤ pos 0)))) (same 1) two in
    let none = both_same (t 0) (u 0) (t 1 +ℤ (t 2 +ℤ (t 3 +ℤ (t 4 +ℤ (t 5 +ℤ pos 0))))) (u 1 +ℤ (u 2 +ℤ (u 3 +ℤ (u 4 +ℤ (u 5 +ℤ pos 0))))) (same 0) one in
    let all = both_same base (g origin) (t 0 +ℤ (t 1 +ℤ (t 2 +ℤ (t 3 +ℤ (t 4 +ℤ (t 5 +ℤ pos 0)))))) (u 0 +ℤ (u 1 +ℤ (u 2 +ℤ (u 3 +ℤ (u 4 +ℤ (u 5 +ℤ pos 0)))))) start none in
    listed ∙ all ∙ sym (ap wrapped (ap g (six_is values six_values) ∙ affine.sum (v 0) (v 1) (v 2) (v 3) (v 4) (v 5)))

-- past the last step
pub sum_done : (steps values : List ℤ) (i : ℕ) (sum all : ℤ) → length steps ≡ 6 → 6 ≤ i → FitsSigned w64 sum →
    wrapped (sum +ℤ dot_by_depth (drop i steps) (drop i values)) ≡ wrapped all → sum ≡ wrapped all
sum_done steps values i sum all six past fits e =
    let none : dot_by_depth (drop i steps) (drop i values) ≡ pos 0 = ap (λ xs. dot_by_depth xs (drop i values)) (drop_all i steps (omega (arith, six, past))) in
    let plain : sum +ℤ pos 0 ≡ sum = omega (arith, ints) in
    sym (int_wrap_fits w64 sum fits) ∙ ap wrapped (sym plain) ∙ ap (λ z. wrapped (sum +ℤ z)) (sym none) ∙ e

-- a dimension's extent is a number of 64 bits
pub span_fits : (bounds : ℤ × ℤ) → Dimension bounds → FitsSigned w64 (bounds.1 -ℤ bounds.0)
span_fits bounds good = fits_signed_from_abs w64 (bounds.1 -ℤ bounds.0) (omega (arith, ints, good.low, good.high))

pub extent_fits : (bounds : ℤ × ℤ) → Dimension bounds → FitsSigned w64 (bounds.1 -ℤ bounds.0 +ℤ pos 1)
extent_fits bounds good = fits_signed_from_abs w64 (bounds.1 -ℤ bounds.0 +ℤ pos 1) (omega (arith, ints, good.low, good.high))

-- The laws of value arithmetic.
use Rattle.std.proofs.Common.{◌≡◌, ℕ, zero, suc, ◌+◌, ◌-◌, ◌*◌, ◌/◌, ◌%◌, ◌^◌, ◌<◌, ◌≤◌, ℤ, pos, negsuc, ◌+ℤ◌, ◌-ℤ◌, ◌*ℤ◌, neg_ℤ, unsigned_abs, FitsSigned, w64, List, [], ◌∷◌, All, Contains, ap, inl, inr, refl, sym, ◌∙◌, arith, to_z, le_trans, le_refl, mul-le-mul, ⊎_elim}
use Rattle.std.proofs.lemmas.Bool.{cases_lt}
use Rattle.std.proofs.Math.Facts.{to_z-neg}
use Rattle.std.specs.Prelude.{int_div, int_rem, ◌≤ℤ◌}
use Rattle.std.specs.Int.{int_wrap}
use Rattle.std.proofs.lemmas.Int.{ints, int_wrap_fits, SFits-int_wrap, int_wrap-add_left, int_wrap-add_right, int_wrap-sub_right, int_wrap-mul_left, int_wrap-mul_right, quot-rem, rem_below, unsigned_abs-mul, fits_signed_from_abs, to_z_pos, fold-int_min_bounds, fold-int_min_reached, fold-int_max_bounds, fold-int_max_reached}
use Rattle.std.proofs.lemmas.List.Elements.{All-cons, Contains-append_right}
use Rattle.std.proofs.Math.IntN.{*ℤ-zero, pred_ℤ, pred_ℤ-*ℤ}
use Rattle.std.proofs.Math.Nat.{div-le_self, div-mul-le_self}
use Rattle.nest_tree.specs.Values.{wrapped, quotient}
use Rattle.nest_tree.proofs.Quotients.{int_div-abs}
use Rattle.nest_model.specs.Meaning.{least, greatest}
use Rattle.seq_meaning.specs.ValueLaws.{IsSameModulo, least_value, IsTruncated}

pub wrapped-fits : (z : ℤ) → FitsSigned w64 (wrapped z)
wrapped-fits = SFits-int_wrap w64

pub wrapped-kept : (z : ℤ) → FitsSigned w64 z → wrapped z ≡ z
wrapped-kept = int_wrap_fits w64

wrapped-multiple : (k : ℤ) → wrapped (k *ℤ pos (2 ^ 64)) ≡ pos 0
unfolding int_wrap
wrapped-multiple k = sym (int_wrap-mul_right w64 k (pos (2 ^ 64))) ∙ ap wrapped (*ℤ-zero k)

pub wrapped-same : (a b : ℤ) → IsSameModulo a b → wrapped a ≡ wrapped b
wrapped-same a b h = ap wrapped h.1 ∙ sym (int_wrap-add_right w64 b (h.0 *ℤ pos (2 ^ 64))) ∙ ap (λ m. wrapped (b +ℤ m)) (wrapped-multiple h.0) ∙ ap wrapped (omega (arith, ints))

pub wrapped-sums : (a b : ℤ) → wrapped (wrapped a +ℤ wrapped b) ≡ wrapped (a +ℤ b)
wrapped-sums a b = int_wrap-add_left w64 a (wrapped b) ∙ int_wrap-add_right w64 a b

pub wrapped-differences : (a b : ℤ) → wrapped (wrapped a -ℤ wrapped b) ≡ wrapped (a -ℤ b)
wrapped-differences a b = int_wrap-add_left w64 a (neg_ℤ (wrapped b)) ∙ int_wrap-sub_right w64 a b

zero_minus : (a : ℤ) → pos 0 -ℤ a ≡ neg_ℤ a
zero_minus a = omega (arith, ints)

pub wrapped-negatives : (a : ℤ) → wrapped (neg_ℤ (wrapped a)) ≡ wrapped (neg_ℤ a)
wrapped-negatives a = ap wrapped (sym (zero_minus (wrapped a))) ∙ int_wrap-sub_right w64 (pos 0) a ∙ ap wrapped (zero_minus a)

pub wrapped-products : (a b : ℤ) → wrapped (wrapped a *ℤ wrapped b) ≡ wrapped (a *ℤ b)
wrapped-products a b = int_wrap-mul_left w64 a (wrapped b) ∙ int_wrap-mul_right w64 a b

-- n less 2 ^ 64
negsuc_left : (n : ℕ) (z m : ℤ) → n < 2 ^ 64 → pos n ≡ z +ℤ m → negsuc (2 ^ 64 - 1 - n) ≡ z +ℤ (m -ℤ pos (2 ^ 64))
negsuc_left n z m lt e = omega (arith, ints)

-- n, which is z but for a multiple of 2 ^ 64, read as a signed number is z but for a multiple
differs_signed : (z k : ℤ) (n : ℕ) → n < 2 ^ 64 → pos n ≡ z +ℤ k *ℤ pos (2 ^ 64) → IsSameModulo (to_z w64 n) z
differs_signed z k n lt e = ⊎_elim small large (cases_lt n (2 ^ 63))
  where
    small : n < 2 ^ 63 → IsSameModulo (to_z w64 n) z
    small below = (k, to_z_pos w64 n below ∙ e)

    large : 2 ^ 63 ≤ n → IsSameModulo (to_z w64 n) z
    large above =
        let left = 2 ^ 64 - 1 - n in
        let is : n ≡ 2 ^ 64 - suc left = omega arith in
        let read : to_z w64 n ≡ negsuc left = ap (to_z w64) is ∙ to_z-neg w64 left (omega arith) in
        (pred_ℤ k, read ∙ negsuc_left n z (k *ℤ pos (2 ^ 64)) lt e ∙ ap (λ m. z +ℤ m) (sym (pred_ℤ-*ℤ k (pos (2 ^ 64)))))

neg_multiple : (q : ℕ) → neg_ℤ (pos q) *ℤ pos (2 ^ 64) ≡ neg_ℤ (pos (q * 2 ^ 64))
neg_multiple zero = refl
neg_multiple (suc q) = refl

pub wrapped-differs : (z : ℤ) → IsSameModulo (wrapped z) z
unfolding int_wrap
wrapped-differs (pos a) =
    let q = a / 2 ^ 64 in
    let e : pos (a % 2 ^ 64) ≡ pos a +ℤ neg_ℤ (pos (q * 2 ^ 64)) = omega (arith, ints) in
    differs_signed (pos a) (neg_ℤ (pos q)) (a % 2 ^ 64) (omega arith) (rw (neg_multiple q) e)
wrapped-differs (negsuc a) =
    let q = a / 2 ^ 64 in
    let e : pos (2 ^ 64 - 1 - a % 2 ^ 64) ≡ negsuc a +ℤ pos ((q + 1) * 2 ^ 64) = omega (arith, ints) in
    differs_signed (negsuc a) (pos (q + 1)) (2 ^ 64 - 1 - a % 2 ^ 64) (omega arith) e

int_div-below : (a d : ℤ) → unsigned_abs a / unsigned_abs d < 2 ^ 63 → FitsSigned w64 (int_div a d)
int_div-below a d h = fits_signed_from_abs w64 (int_div a d) (rw (int_div-abs a d) h)

halved : (n d : ℕ) → n ≤ 2 ^ 63 → n / suc (suc d) < 2 ^ 63
halved n d le =
    let h = div-mul-le_self n (suc (suc d)) in
    let m : n / suc (suc d) * 2 ≤ n = le_trans (mul-le-mul (le_refl _) (omega arith)) h in
    omega arith

int_div-fits : (a d : ℤ) → FitsSigned w64 a → 0 < unsigned_abs d → (a ≡ least_value → d ≡ negsuc 0 → ⊥) → FitsSigned w64 (int_div a d)
int_div-fits (pos a) d f p other = int_div-below (pos a) d (omega (arith, div-le_self a (unsigned_abs d), f.sfits))
int_div-fits (negsuc a) (pos zero) f p other = absurd (omega arith)
int_div-fits (negsuc a) (pos (suc zero)) f p other =
    let e : int_div (negsuc a) (pos 1) ≡ negsuc a = ap (λ n. neg_ℤ (pos n)) {y = suc a} (omega arith) in
    rw e f
int_div-fits (negsuc a) (pos (suc (suc d))) f p other = int_div-below (negsuc a) (pos (suc (suc d))) (halved (suc a) d f.sfits)
int_div-fits (negsuc a) (negsuc zero) f p other =
    let not_least : a ≡ 2 ^ 63 - 1 → ⊥ = λ e. other (ap negsuc e) refl in
    int_div-below (negsuc a) (negsuc 0) (omega (arith, f.sfits, not_least))
int_div-fits (negsuc a) (negsuc (suc d)) f p other = int_div-below (negsuc a) (negsuc (suc d)) (halved (suc a) d f.sfits)

left_over : (a m r : ℤ) → m +ℤ r ≡ a → a -ℤ m ≡ r
left_over a m r e = omega (arith, ints)

pub quotient-truncated : (a d : ℤ) → FitsSigned w64 a → 0 < unsigned_abs d → (a ≡ least_value → d ≡ negsuc 0 → ⊥) → IsTruncated a d (quotient a d)
quotient-truncated a d f p other =
    rw (int_wrap_fits w64 (int_div a d) (int_div-fits a d f p other)) (record {
      no_farther = rw (unsigned_abs-mul, int_div-abs a d) (div-mul-le_self (unsigned_abs a) (unsigned_abs d));
      less_left = rw (left_over a (int_div a d *ℤ d) (int_rem a d) (quot-rem a d)) (rem_below a d p);
    })

-- rows: -7 divided by 2 is -3, and not -4
truncated-toward_zero : IsTruncated (negsuc 6) (pos 2) (negsuc 2)
truncated-toward_zero = record { no_farther = omega arith; less_left = omega arith }

truncated-not_down : IsTruncated (negsuc 6) (pos 2) (negsuc 3) → ⊥
truncated-not_down h = omega (arith, h.no_farther)

pub quotient-least_by_minus_one : quotient least_value (negsuc 0) ≡ least_value
unfolding int_wrap
quotient-least_by_minus_one = refl

pub least-below : (x : ℤ) (rest : List ℤ) → All (λ y. least (x ∷ rest) ≤ℤ y) (x ∷ rest)
least-below x rest =
    let h = fold-int_min_bounds x rest _ refl in
    All-cons (λ y. least (x ∷ rest) ≤ℤ y) x rest h.0 h.1

pub least-among : (x : ℤ) (rest : List ℤ) → Contains (x ∷ rest) (least (x ∷ rest))
least-among x rest = elim (fold-int_min_reached x rest _ refl) [ inl e ↦ (0, omega arith, sym e) | inr h ↦ Contains-append_right (x ∷ []) rest _ h ]

pub greatest-above : (x : ℤ) (rest : List ℤ) → All (λ y. y ≤ℤ greatest (x ∷ rest)) (x ∷ rest)
greatest-above x rest =
    let h = fold-int_max_bounds x rest _ refl in
    All-cons (λ y. y ≤ℤ greatest (x ∷ rest)) x rest h.0 h.1

pub greatest-among : (x : ℤ) (rest : List ℤ) → Contains (x ∷ rest) (greatest (x ∷ rest))
greatest-among x rest = elim (fold-int_max_reached x rest _ refl) [ inl e ↦ (0, omega arith, sym e) | inr h ↦ Contains-append_right (x ∷ []) rest _ h ]

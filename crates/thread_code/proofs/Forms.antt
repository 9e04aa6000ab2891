-- Values of forms that the emitter writes: without a loop, with so many times another form, and with coefficients that are reduced by the workers.
use Rattle.std.proofs.Common.{◌≡◌, ℕ, ◌-◌, ◌*◌, ◌<◌, ◌==◌, not, nat_lt, ℤ, pos, ◌+ℤ◌, ◌-ℤ◌, ◌*ℤ◌, Bool, true, false, List, [], ◌∷◌, length, if◌then◌else◌, ⊎_elim, refl, ap, sym, subst, ◌∙◌, arith}
use Rattle.std.specs.Int.{int_rem_euclid}
use Rattle.std.specs.List.{filter}
use Rattle.std.proofs.Math.IntN.{*ℤ-zero, *ℤ_comm}
use Rattle.std.proofs.lemmas.Bool.{and_parts, cases_Bool, eqb-true, eqb-false, ltb-true}
use Rattle.std.proofs.lemmas.Int.{ints}
use Rattle.std.proofs.lemmas.List.{get_or-set_other, get_or-set_same}
use Rattle.list_lemmas.proofs.Integers.{add-mul, mul-add, mul_assoc_ℤ}
use Rattle.nest_tree.specs.Layout.{count_of}
use Rattle.nest_tree.specs.Form.{Form, dot, form_value, is_form, is_small, numbered, rises_above}
use Rattle.nest_model.specs.Instances.{with_loop}
use Rattle.nest_rows.proofs.Dots.{dot-append}
use Rattle.owner_partition.proofs.Congruences.{residue_of}
use Rattle.thread_code.specs.Closed.{IsSamePlace}
use Rattle.thread_code.specs.Code.{plus_times, reduced, reduced_pairs, times_pairs, without}
use Rattle.thread_code.proofs.Rounded.{same_rest}

-- ---- without a loop

dot_without : (n least : ℕ) (pairs : List (ℕ × ℤ)) (values : List ℤ) → 0 < n → n - 1 < length values → rises_above least pairs ≡ true → dot (filter (λ p. not (p.0 == n)) pairs) values ≡ dot pairs (with_loop values n (pos 0))
dot_without n least [] values some within rises = refl
dot_without n least (p ∷ pairs) values some within rises =
    let a = and_parts _ (rises_above p.0 pairs) rises in
    let b = and_parts _ (is_small p.1) a.0 in
    let c = and_parts (nat_lt least p.0) _ b.0 in
    let low = ltb-true least p.0 c.0 in
    let later = dot_without n p.0 pairs values some within a.1 in
    let rest = filter (λ (q : ℕ × ℤ). not (q.0 == n)) pairs in
    let choice : Bool → ℤ = λ b. dot (if not b then p ∷ rest else rest) values in
    let here = λ (h : (p.0 == n) ≡ true).
    let number = eqb-true p.0 n h in
    let at : numbered (with_loop values n (pos 0)) p.0 ≡ pos 0 = ap (λ k. numbered (with_loop values n (pos 0)) k) number ∙ get_or-set_same values (n - 1) (pos 0) (pos 0) within in
    let none = ap (λ z. p.1 *ℤ z) at ∙ *ℤ-zero p.1 in
    ap choice h ∙ later ∙ omega (arith, ints, none) in
    let there = λ (h : (p.0 == n) ≡ false).
    let ne : p.0 - 1 ≡ n - 1 → ⊥ = λ (e : p.0 - 1 ≡ n - 1). eqb-false p.0 n h (omega (arith, low, some, e)) in
    ap choice h ∙ ap (λ z. p.1 *ℤ numbered values p.0 +ℤ z) later ∙ sym (ap (λ x. p.1 *ℤ x +ℤ dot pairs (with_loop values n (pos 0))) (get_or-set_other values (n - 1) (p.0 - 1) (pos 0) (pos 0) ne)) in
    ⊎_elim here there (cases_Bool (p.0 == n))

pub without_is : (n : ℕ) (f : Form) (loops params : List ℤ) → is_form f ≡ true → 0 < n → n - 1 < length loops → form_value (without n f) loops params ≡ form_value f (with_loop loops n (pos 0)) params
without_is n f loops params form some within =
    let rises = (and_parts (is_small f.constant) (rises_above 0 f.loops) (and_parts _ (rises_above 0 f.params) form).0).1 in
    ap (λ z. f.constant +ℤ z +ℤ dot f.params params) (dot_without n 0 f.loops loops some within rises)

-- ---- so many times another one

dot_times : (c : ℤ) (ps : List (ℕ × ℤ)) (values : List ℤ) → dot (times_pairs c ps) values ≡ c *ℤ dot ps values
dot_times c [] values = sym (*ℤ-zero c)
dot_times c (p ∷ ps) values =
    let later = dot_times c ps values in
    let spread = mul-add c (p.1 *ℤ numbered values p.0) (dot ps values) in
    let inner = mul_assoc_ℤ c p.1 (numbered values p.0) in
    omega (arith, ints, later, spread, inner)

pub plus_times_is : (f : Form) (c : ℤ) (g : Form) (loops params : List ℤ) → form_value (plus_times f c g) loops params ≡ form_value f loops params +ℤ c *ℤ form_value g loops params
plus_times_is f c g loops params =
    let a = dot-append f.loops (times_pairs c g.loops) loops in
    let b = dot_times c g.loops loops in
    let d = dot-append f.params (times_pairs c g.params) params in
    let e = dot_times c g.params params in
    let one = mul-add c (g.constant +ℤ dot g.loops loops) (dot g.params params) in
    let two = mul-add c g.constant (dot g.loops loops) in
    omega (arith, ints, a, b, d, e, one, two)

-- ---- reduced by the workers

-- a remainder is below the workers
pub rest_below : (m : ℕ) (z : ℤ) → 0 < m → count_of (int_rem_euclid z (pos m)) < m
rest_below m z some = let r = residue_of m z some in subst (λ n. n < m) (ap count_of (sym r.is)) r.below

-- equal but for a multiple
abbrev Multiple : ℕ → ℤ → ℤ → Type 0
Multiple m a b = (k : ℤ) × (a ≡ b +ℤ k *ℤ pos m)

residue_multiple : (m : ℕ) (z : ℤ) → 0 < m → Multiple m (int_rem_euclid z (pos m)) z
residue_multiple m z some =
    let r = residue_of m z some in
    let split = add-mul (pos r.up -ℤ pos r.down) (pos r.down) (pos m) in
    let back : pos r.up -ℤ pos r.down +ℤ pos r.down ≡ pos r.up = omega (arith, ints) in
    let product = ap (λ x. x *ℤ pos m) back in
    let up : pos r.up *ℤ pos m ≡ pos (r.up * m) = refl in
    let down : pos r.down *ℤ pos m ≡ pos (r.down * m) = refl in
    (pos r.up -ℤ pos r.down, r.is ∙ omega (arith, ints, r.same, split, product, up, down))

same_of : (m : ℕ) (a b : ℤ) → 0 < m → Multiple m a b → IsSamePlace m a b
same_of m a b some (k, e) =
    let (j, f) = residue_multiple m a some in
    let (i, g) = residue_multiple m b some in
    let ra = residue_of m a some in
    let rb = residue_of m b some in
    let one = add-mul k j (pos m) in
    let whole : i *ℤ pos m +ℤ pos ra.residue ≡ (k +ℤ j) *ℤ pos m +ℤ pos rb.residue = omega (arith, ints, e, sym ra.is ∙ f, sym rb.is ∙ g, one) in
    ra.is ∙ ap pos (same_rest i (k +ℤ j) m ra.residue rb.residue ra.below rb.below whole) ∙ sym rb.is

dot_reduced : (m : ℕ) (pairs : List (ℕ × ℤ)) (values : List ℤ) → 0 < m → Multiple m (dot (reduced_pairs m pairs) values) (dot pairs values)
dot_reduced m [] values some = (pos 0, omega (arith, ints))
dot_reduced m (p ∷ pairs) values some =
    let v = numbered values p.0 in
    let (k, e) = residue_multiple m p.1 some in
    let (j, f) = dot_reduced m pairs values some in
    let product = ap (λ z. z *ℤ v) e ∙ add-mul p.1 (k *ℤ pos m) v in
    let turned : k *ℤ pos m *ℤ v ≡ k *ℤ v *ℤ pos m = mul_assoc_ℤ k (pos m) v ∙ ap (λ z. k *ℤ z) (*ℤ_comm (pos m) v) ∙ sym (mul_assoc_ℤ k v (pos m)) in
    let sum = add-mul (k *ℤ v) j (pos m) in
    (k *ℤ v +ℤ j, omega (arith, ints, product, turned, sum, f))

pub reduced_is : (m : ℕ) (f : Form) (loops params : List ℤ) → 0 < m → IsSamePlace m (form_value (reduced m f) loops params) (form_value f loops params)
reduced_is m f loops params some =
    let (i, e) = residue_multiple m f.constant some in
    let (j, g) = dot_reduced m f.loops loops some in
    let (k, h) = dot_reduced m f.params params some in
    let one = add-mul (i +ℤ j) k (pos m) in
    let two = add-mul i j (pos m) in
    same_of m (form_value (reduced m f) loops params) (form_value f loops params) some (i +ℤ j +ℤ k, omega (arith, ints, e, g, h, one, two))

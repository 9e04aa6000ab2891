-- Places that are alike but for multiples of the workers, and sums of them.
use Rattle.std.proofs.Common.{◌≡◌, ℕ, ◌+◌, ◌-◌, ◌*◌, ◌/◌, ◌%◌, ◌<◌, ℤ, pos, negsuc, ◌+ℤ◌, ◌*ℤ◌, List, IsTrue, refl, ap, sym, ◌∙◌, arith}
use Rattle.std.specs.Int.{int_rem_euclid}
use Rattle.std.proofs.Math.IntN.{*ℤ_comm}
use Rattle.std.proofs.lemmas.Int.{ints}
use Rattle.list_lemmas.proofs.Integers.{add-mul, mul_assoc_ℤ}
use Rattle.c_expressions.specs.Sums.{Adds, IsPlain, SumsUp, Values, terms_at, total}
use Rattle.c_expressions.specs.declared.sum.Sum.{Sum}
use Rattle.c_expressions.specs.declared.sum.Term.{Term}
use Rattle.c_owners.specs.Owners.{Alike, IsAlike, SumsUpAlike}

pub same_alike : (m : ℕ) (a b : ℤ) → a ≡ b → Alike m a b
same_alike m a b e = (pos 0, omega (arith, ints, e))

pub alike_then : (m : ℕ) (a b c : ℤ) → Alike m a b → Alike m b c → Alike m a c
alike_then m a b c (k, e) (j, f) = let both = add-mul j k (pos m) in (j +ℤ k, omega (arith, ints, e, f, both))

pub alike_sum : (m : ℕ) (a b c d : ℤ) → Alike m a b → Alike m c d → Alike m (a +ℤ c) (b +ℤ d)
alike_sum m a b c d (k, e) (j, f) = let both = add-mul k j (pos m) in (k +ℤ j, omega (arith, ints, e, f, both))

pub alike_times : (m : ℕ) (a b x : ℤ) → Alike m a b → Alike m (a *ℤ x) (b *ℤ x)
alike_times m a b x (k, e) =
    let product = ap (λ z. z *ℤ x) e ∙ add-mul b (k *ℤ pos m) x in
    let turned : k *ℤ pos m *ℤ x ≡ k *ℤ x *ℤ pos m = mul_assoc_ℤ k (pos m) x ∙ ap (λ z. k *ℤ z) (*ℤ_comm (pos m) x) ∙ sym (mul_assoc_ℤ k x (pos m)) in
    (k *ℤ x, omega (arith, ints, product, turned))

pub alike_product : (m : ℕ) (a b c d : ℤ) → Alike m a b → Alike m c d → Alike m (a *ℤ c) (b *ℤ d)
alike_product m a b c d x y =
    let turned = alike_then m (b *ℤ c) (c *ℤ b) (d *ℤ b) (same_alike m (b *ℤ c) (c *ℤ b) (*ℤ_comm b c)) (alike_times m c d b y) in
    alike_then m (a *ℤ c) (b *ℤ c) (b *ℤ d) (alike_times m a b c x) (alike_then m (b *ℤ c) (d *ℤ b) (b *ℤ d) turned (same_alike m (d *ℤ b) (b *ℤ d) (*ℤ_comm d b)))

pub residue_alike : (m : ℕ) (z : ℤ) → 0 < m → Alike m (int_rem_euclid z (pos m)) z
residue_alike m (pos a) some =
    let whole : a ≡ a / m * m + a % m = omega (arith, some) in
    let product : negsuc 0 *ℤ pos (a / m) *ℤ pos m ≡ negsuc 0 *ℤ pos (a / m * m) = mul_assoc_ℤ (negsuc 0) (pos (a / m)) (pos m) in
    (negsuc 0 *ℤ pos (a / m), omega (arith, ints, whole, product))
residue_alike m (negsuc a) some =
    let whole : a ≡ a / m * m + a % m = omega (arith, some) in
    let below : a % m < m = omega (arith, some) in
    let product : pos (a / m + 1) *ℤ pos m ≡ pos ((a / m + 1) * m) = refl in
    let split : (a / m + 1) * m ≡ a / m * m + m = omega arith in
    (pos (a / m + 1), omega (arith, ints, whole, below, product, split))

-- a remainder as a coefficient, and a product of two
pub term_alike : (m : ℕ) (r z x : ℤ) → 0 < m → r ≡ int_rem_euclid z (pos m) → Alike m (r *ℤ pos 1 *ℤ x) (z *ℤ x)
term_alike m r z x some e =
    let one : r *ℤ pos 1 ≡ int_rem_euclid z (pos m) = omega (arith, ints, e) in
    alike_then m (r *ℤ pos 1 *ℤ x) (int_rem_euclid z (pos m) *ℤ x) (z *ℤ x) (same_alike m (r *ℤ pos 1 *ℤ x) (int_rem_euclid z (pos m) *ℤ x) (ap (λ y. y *ℤ x) one)) (alike_times m (int_rem_euclid z (pos m)) z x (residue_alike m z some))

pub residues_alike : (m : ℕ) (r s y z : ℤ) → 0 < m → r ≡ int_rem_euclid y (pos m) → s ≡ int_rem_euclid z (pos m) → Alike m (r *ℤ s) (y *ℤ z)
residues_alike m r s y z some e f =
    alike_product m r y s z (alike_then m r (int_rem_euclid y (pos m)) y (same_alike m r (int_rem_euclid y (pos m)) e) (residue_alike m y some))
    (alike_then m s (int_rem_euclid z (pos m)) z (same_alike m s (int_rem_euclid z (pos m)) f) (residue_alike m z some))

pub constant_alike : (m : ℕ) (r z : ℤ) → 0 < m → r ≡ int_rem_euclid z (pos m) → Alike m (r *ℤ pos 1) z
constant_alike m r z some e =
    let one : r *ℤ pos 1 ≡ int_rem_euclid z (pos m) = omega (arith, ints, e) in
    alike_then m (r *ℤ pos 1) (int_rem_euclid z (pos m)) z (same_alike m (r *ℤ pos 1) (int_rem_euclid z (pos m)) one) (residue_alike m z some)

-- ---- sums

-- of all, this is left
abbrev pub AlikeLeft : ℕ → Sum → (Values → ℤ) → (Values → ℤ) → Type 0
AlikeLeft m s rest all = IsTrue s.is_exact → (v : Values) → Alike m (total v s +ℤ rest v) (all v)

pub nothing_alike : (m : ℕ) (s : Sum) → SumsUp s (λ v. pos 0) → IsAlike m s (λ v. pos 0)
nothing_alike m s u = λ h v. same_alike m (total v s) (pos 0) (u.exact h v)

pub left_first : (m : ℕ) (s : Sum) (all rest : Values → ℤ) → IsAlike m s all → AlikeLeft m s rest (λ v. all v +ℤ rest v)
left_first m s all rest x = λ h v. alike_sum m (total v s) (all v) (rest v) (rest v) (x h v) (same_alike m (rest v) (rest v) refl)

pub left_step : (m : ℕ) (s next : Sum) (rest more wanted rest' all : Values → ℤ) → AlikeLeft m s rest all → Adds s next more → ((v : Values) → rest v ≡ wanted v +ℤ rest' v) → ((v : Values) → Alike m (more v) (wanted v)) →
    AlikeLeft m next rest' all
left_step m s next rest more wanted rest' all x a e f = λ h v.
    let added = a.exact h in
    let here = alike_sum m (total v s) (total v s) (more v) (wanted v) (same_alike m (total v s) (total v s) refl) (f v) in
    let with_rest = alike_sum m (total v s +ℤ more v) (total v s +ℤ wanted v) (rest' v) (rest' v) here (same_alike m (rest' v) (rest' v) refl) in
    let same = e v in
    let is = added.1 v in
    alike_then m (total v next +ℤ rest' v) (total v s +ℤ more v +ℤ rest' v) (all v) (same_alike m (total v next +ℤ rest' v) (total v s +ℤ more v +ℤ rest' v) (ap (λ y. y +ℤ rest' v) is))
    (alike_then m (total v s +ℤ more v +ℤ rest' v) (total v s +ℤ wanted v +ℤ rest' v) (all v) with_rest
    (alike_then m (total v s +ℤ wanted v +ℤ rest' v) (total v s +ℤ rest v) (all v) (same_alike m (total v s +ℤ wanted v +ℤ rest' v) (total v s +ℤ rest v) (assoc (total v s) (wanted v) (rest' v) ∙ ap (λ y. total v s +ℤ y) (sym same))) (x added.0 v)))
  where
    assoc : (a b c : ℤ) → a +ℤ b +ℤ c ≡ a +ℤ (b +ℤ c)
    assoc a b c = omega (arith, ints)

pub left_over : (m : ℕ) (s : Sum) (rest all : Values → ℤ) → AlikeLeft m s rest all → ((v : Values) → rest v ≡ pos 0) → IsAlike m s all
left_over m s rest all x e = λ h v.
    let none = e v in
    alike_then m (total v s) (total v s +ℤ rest v) (all v) (same_alike m (total v s) (total v s +ℤ rest v) (zero_more (total v s) (rest v) none)) (x h v)
  where
    zero_more : (a b : ℤ) → b ≡ pos 0 → a ≡ a +ℤ b
    zero_more a b e = omega (arith, ints, e)

pub adds_alike : (m : ℕ) (s next : Sum) (all more wanted : Values → ℤ) → IsAlike m s all → Adds s next more → ((v : Values) → Alike m (more v) (wanted v)) → IsAlike m next (λ v. all v +ℤ wanted v)
adds_alike m s next all more wanted x a f = λ h v.
    let added = a.exact h in
    alike_then m (total v next) (total v s +ℤ more v) (all v +ℤ wanted v) (same_alike m (total v next) (total v s +ℤ more v) (added.1 v)) (alike_sum m (total v s) (all v) (more v) (wanted v) (x added.0 v) (f v))

pub alike_for : (m : ℕ) (s : Sum) (all other : Values → ℤ) → IsAlike m s all → ((v : Values) → all v ≡ other v) → IsAlike m s other
alike_for m s all other x e = λ h v. alike_then m (total v s) (all v) (other v) (x h v) (same_alike m (all v) (other v) (e v))

pub left_start : (m : ℕ) (s whole : Sum) (items : List (Term × ℤ)) → items ≡ whole.terms.items → IsAlike m s (λ v. pos 0 +ℤ whole.constant) → AlikeLeft m s (λ v. terms_at v items) (λ v. total v whole)
left_start m s whole items e x = λ h v.
    let sum = alike_sum m (total v s) (pos 0 +ℤ whole.constant) (terms_at v items) (terms_at v items) (x h v) (same_alike m (terms_at v items) (terms_at v items) refl) in
    alike_then m (total v s +ℤ terms_at v items) (pos 0 +ℤ whole.constant +ℤ terms_at v items) (total v whole) sum
    (same_alike m (pos 0 +ℤ whole.constant +ℤ terms_at v items) (total v whole) (zero_first whole.constant (terms_at v items) ∙ ap (λ ts. whole.constant +ℤ terms_at v ts) e))
  where
    zero_first : (a b : ℤ) → pos 0 +ℤ a +ℤ b ≡ a +ℤ b
    zero_first a b = omega (arith, ints)

-- ---- a whole place

pub parts_alike : (m : ℕ) (s : Sum) (k : ℤ) (d l : Values → ℤ) → IsAlike m s (λ v. pos 0 +ℤ k +ℤ d v +ℤ l v) → IsAlike m s (λ v. k +ℤ l v +ℤ d v)
parts_alike m s k d l x = alike_for m s (λ v. pos 0 +ℤ k +ℤ d v +ℤ l v) (λ v. k +ℤ l v +ℤ d v) x (λ v. turned k (d v) (l v))
  where
    turned : (a b c : ℤ) → pos 0 +ℤ a +ℤ b +ℤ c ≡ a +ℤ c +ℤ b
    turned a b c = omega (arith, ints)

pub plain_alike : (m : ℕ) (s t : Sum) (all : Values → ℤ) → IsAlike m s all → IsAlike m t (λ v. total v s) → IsPlain s → IsPlain t → SumsUpAlike m t all
plain_alike m s t all x y p q = record {
  other = λ v. total v t;
  sums = record { words = λ v. refl; exact = λ h v. refl };
  alike = λ v. alike_then m (total v t) (total v s) (all v) (y q.exact v) (x p.exact v);
}

pub itself_alike : (m : ℕ) (s : Sum) (all : Values → ℤ) → SumsUp s all → SumsUpAlike m s all
itself_alike m s all u = record { other = all; sums = u; alike = λ v. same_alike m (all v) (all v) refl }

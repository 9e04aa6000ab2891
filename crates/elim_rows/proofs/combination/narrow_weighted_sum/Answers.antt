use Rattle.std.proofs.Common.{◌≡◌, ℤ, pos, ◌+ℤ◌, ◌*ℤ◌, FitsSigned, to_z, of_z, refl, sym, ap, ◌∙◌, subst}
use Rattle.std.specs.Int.{w128}
use Rattle.std.proofs.lemmas.Int.{to_z-of_z}
use Rattle.elim_rows.proofs.Combined.{fits_narrow, narrow_parts, once}
use Rattle.elim_rows.proofs.combination.narrow_weighted_sum.Goals as goal

is_one : (z : ℤ) → FitsSigned w128 z → of_z w128 z ≡ 1 → z ≡ pos 1
is_one z fits e = sym (to_z-of_z w128 z fits) ∙ ap (to_z w128) e

-- by the multipliers 1
plain : (m a n b : ℤ) → FitsSigned w128 m → FitsSigned w128 n → of_z w128 m ≡ 1 → of_z w128 n ≡ 1 → m *ℤ a +ℤ n *ℤ b ≡ a +ℤ b
plain m a n b fits_m fits_n e f = ap (λ z. z *ℤ a +ℤ n *ℤ b) (is_one m fits_m e) ∙ ap (λ z. pos 1 *ℤ a +ℤ z *ℤ b) (is_one n fits_n f) ∙ ap (λ z. z +ℤ pos 1 *ℤ b) (once a) ∙ ap (λ z. a +ℤ z) (once b)

pub overflow_add-result : goal.overflow_add-result
overflow_add-result c =
    let m = c.args.m in
    let a = c.args.a in
    let n = c.args.n in
    let b = c.args.b in
    let fits_a : FitsSigned w128 a = c.ranges.a in
    let fits_b : FitsSigned w128 b = c.ranges.b in
    let fits_s : FitsSigned w128 (a +ℤ b) = subst (FitsSigned w128) (plain m a n b c.ranges.m c.ranges.n c.if-m-eq1.true c.if-n-eq1.true) (fits_narrow (m *ℤ a +ℤ n *ℤ b) (narrow_parts (m *ℤ a) (n *ℤ b) c.requires).2) in
    simp to_z-of_z fits_s

pub returns-then-n-eq1 : goal.returns-then-n-eq1
returns-then-n-eq1 c =
    let m = c.args.m in
    let a = c.args.a in
    let n = c.args.n in
    let b = c.args.b in
    let fits_a : FitsSigned w128 a = c.ranges.a in
    let fits_b : FitsSigned w128 b = c.ranges.b in
    let fits_s : FitsSigned w128 (a +ℤ b) = subst (FitsSigned w128) (plain m a n b c.ranges.m c.ranges.n c.if-m-eq1.true c.if-n-eq1.true) (fits_narrow (m *ℤ a +ℤ n *ℤ b) (narrow_parts (m *ℤ a) (n *ℤ b) c.requires).2) in
    simp to_z-of_z (sym (plain m a n b c.ranges.m c.ranges.n c.if-m-eq1.true c.if-n-eq1.true))

pub overflow_add-result-2 : goal.overflow_add-result-2
overflow_add-result-2 c =
    let p = c.args.m *ℤ c.args.a in
    let q = c.args.n *ℤ c.args.b in
    let fits_m : FitsSigned w128 c.args.m = c.ranges.m in
    let fits_a : FitsSigned w128 c.args.a = c.ranges.a in
    let fits_n : FitsSigned w128 c.args.n = c.ranges.n in
    let fits_b : FitsSigned w128 c.args.b = c.ranges.b in
    let parts = narrow_parts p q c.requires in
    let fits_p : FitsSigned w128 p = fits_narrow p parts.0 in
    let fits_q : FitsSigned w128 q = fits_narrow q parts.1 in
    let fits_s : FitsSigned w128 (p +ℤ q) = fits_narrow (p +ℤ q) parts.2 in
    simp to_z-of_z fits_s

pub returns : goal.returns
returns c =
    let p = c.args.m *ℤ c.args.a in
    let q = c.args.n *ℤ c.args.b in
    let fits_m : FitsSigned w128 c.args.m = c.ranges.m in
    let fits_a : FitsSigned w128 c.args.a = c.ranges.a in
    let fits_n : FitsSigned w128 c.args.n = c.ranges.n in
    let fits_b : FitsSigned w128 c.args.b = c.ranges.b in
    let parts = narrow_parts p q c.requires in
    let fits_p : FitsSigned w128 p = fits_narrow p parts.0 in
    let fits_q : FitsSigned w128 q = fits_narrow q parts.1 in
    let fits_s : FitsSigned w128 (p +ℤ q) = fits_narrow (p +ℤ q) parts.2 in
    simp to_z-of_z refl

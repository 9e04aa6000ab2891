use Rattle.std.proofs.Common.{rules, ◌≡◌, ◌+◌, ◌≤◌, ◌<◌, pos, ◌*ℤ◌, FitsSigned, IsTrue, length, get_or, drop, ◌++◌, ◌∷◌, [], append_assoc, to_z, of_z, sym, ◌∙◌, ap, arith}
use Rattle.std.specs.Int.{w128}
use Rattle.std.proofs.lemmas.Int.{to_z-of_z}
use Rattle.std.proofs.lemmas.List.{append-nil}
use Rattle.farkas_cert.specs.Combination.{stays_narrow}
use Rattle.elim_rows.specs.Pairs.{combined}
use Rattle.farkas_cert.proofs.Sums.{entry_at-last}
use Rattle.elim_rows.proofs.Combined.{entry_at-coef, combined-drop, combined-done}
use Rattle.elim_rows.proofs.combination.combine.Goals as goal

pub narrow_weighted_sum-requires : goal.narrow_weighted_sum-requires
narrow_weighted_sum-requires c =
    let u = c.args.upper.now in
    let l = c.args.lower.now in
    let vars = length u.coefs in
    let k = c.loop-k.k in
    let below : k < vars = omega (arith, c.loop-k-test.true, ap length c.as_slice-coef-items.ensures) in
    let fits_m : FitsSigned w128 c.args.m = c.ranges.m in
    let fits_n : FitsSigned w128 c.args.n = c.ranges.n in
    let fits_x : FitsSigned w128 (get_or c.as_slice-coef-items.result.now k (pos 0)) = search rules in
    let fits_y : FitsSigned w128 (get_or c.as_slice-others.result.now k (pos 0)) = search rules in
    let narrow : IsTrue (stays_narrow (pos 0) ((c.args.m *ℤ get_or u.coefs k (pos 0)) ∷ (c.args.n *ℤ get_or l.coefs k (pos 0)) ∷ [])) = rw (entry_at-coef vars u k below, entry_at-coef vars l k below) at (c.requires.narrow k (omega arith)) in
    simp to_z-of_z (rw (c.as_slice-coef-items.ensures, c.as_slice-others.ensures) narrow)

pub narrow_weighted_sum-bound-requires : goal.narrow_weighted_sum-bound-requires
narrow_weighted_sum-bound-requires c =
    let u = c.args.upper.now in
    let l = c.args.lower.now in
    let vars = length u.coefs in
    let fits_m : FitsSigned w128 c.args.m = c.ranges.m in
    let fits_n : FitsSigned w128 c.args.n = c.ranges.n in
    let fits_u : FitsSigned w128 u.bound = search rules in
    let fits_l : FitsSigned w128 l.bound = search rules in
    let narrow : IsTrue (stays_narrow (pos 0) ((c.args.m *ℤ u.bound) ∷ (c.args.n *ℤ l.bound) ∷ [])) = rw (entry_at-last vars u, entry_at-last vars l) at (c.requires.narrow vars (omega arith)) in
    simp to_z-of_z narrow

pub loop-k-preserved : goal.loop-k-preserved
loop-k-preserved c =
    let u = c.args.upper.now in
    let l = c.args.lower.now in
    let vars = length u.coefs in
    let k = c.loop-k.k in
    let s = c.narrow_weighted_sum.result in
    let below : k < vars = omega (arith, c.loop-k-test.true, ap length c.as_slice-coef-items.ensures) in
    let fits_m : FitsSigned w128 c.args.m = c.ranges.m in
    let fits_n : FitsSigned w128 c.args.n = c.ranges.n in
    let fits_x : FitsSigned w128 (get_or c.as_slice-coef-items.result.now k (pos 0)) = search rules in
    let fits_y : FitsSigned w128 (get_or c.as_slice-others.result.now k (pos 0)) = search rules in
    let fits_s : FitsSigned w128 s = search rules in
    let sum = rw (c.as_slice-coef-items.ensures, c.as_slice-others.ensures) at (simp to_z-of_z at c.narrow_weighted_sum.ensures) in
    let entries = simp to_z-of_z at c.loop-k.invariant in
    let pushed = simp to_z-of_z at c.in_ok-push.ensures.items in
    let next = combined-drop c.args.m c.args.n u.coefs l.coefs k (pos 0) below c.requires.same in
    let rest = combined c.args.m (drop (k + 1) u.coefs) c.args.n (drop (k + 1) l.coefs) in
    let back_m : to_z w128 (of_z w128 c.args.m) ≡ c.args.m = to_z-of_z w128 c.args.m fits_m in
    let back_n : to_z w128 (of_z w128 c.args.n) ≡ c.args.n = to_z-of_z w128 c.args.n fits_n in
    rw (back_m, back_n) (ap (λ xs. xs ++ rest) pushed ∙ append_assoc c.loop-k.coefs.items (s ∷ []) rest ∙ ap (λ z. c.loop-k.coefs.items ++ z ∷ rest) sum ∙ ap (λ xs. c.loop-k.coefs.items ++ xs) (sym next) ∙ entries)

pub returns : goal.returns
returns c =
    let u = c.args.upper.now in
    let l = c.args.lower.now in
    let vars = length u.coefs in
    let k = c.loop-k.k in
    let b = c.narrow_weighted_sum-bound.result in
    let fits_m : FitsSigned w128 c.args.m = c.ranges.m in
    let fits_n : FitsSigned w128 c.args.n = c.ranges.n in
    let fits_u : FitsSigned w128 u.bound = search rules in
    let fits_l : FitsSigned w128 l.bound = search rules in
    let fits_b : FitsSigned w128 b = search rules in
    let whole : vars ≤ k = omega (arith, c.loop-k-test.false, ap length c.as_slice-coef-items.ensures) in
    let sum = simp to_z-of_z at c.narrow_weighted_sum-bound.ensures in
    let entries = simp to_z-of_z at c.loop-k.invariant in
    let back : to_z w128 (of_z w128 b) ≡ b = to_z-of_z w128 b fits_b in
    let coefs : c.loop-k.coefs.items ≡ combined c.args.m u.coefs c.args.n l.coefs = sym (append-nil c.loop-k.coefs.items) ∙ ap (λ xs. c.loop-k.coefs.items ++ xs) (sym (combined-done c.args.m c.args.n u.coefs l.coefs k whole)) ∙ entries in
    ap (λ xs. record { coefs = xs; bound = to_z w128 (of_z w128 b) }) coefs ∙ ap (λ z. record { coefs = combined c.args.m u.coefs c.args.n l.coefs; bound = z }) (back ∙ sum)

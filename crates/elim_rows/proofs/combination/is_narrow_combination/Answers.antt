use Rattle.std.proofs.Common.{rules, ◌≡◌, ◌≤◌, ◌<◌, pos, ◌*ℤ◌, FitsSigned, IsTrue, length, get_or, to_z, of_z, ap, subst, arith}
use Rattle.std.specs.Int.{w128}
use Rattle.std.proofs.lemmas.Int.{to_z-of_z}
use Rattle.farkas_cert.specs.Combination.{stays_narrow}
use Rattle.elim_rows.specs.Pairs.{products_of}
use Rattle.farkas_cert.proofs.Sums.{entry_at-last}
use Rattle.elim_rows.proofs.Combined.{sum_is_wide, sum_is_narrow, entry_at-coef, by_lt}
use borrow.Author.Count.{below_more}
use Rattle.elim_rows.proofs.combination.is_narrow_combination.Goals as goal

pub returns-then-is_none : goal.returns-then-is_none
returns-then-is_none c =
    let u = c.args.upper.now in
    let l = c.args.lower.now in
    let vars = length u.coefs in
    let fits_m : FitsSigned w128 c.args.m = c.ranges.m in
    let fits_n : FitsSigned w128 c.args.n = c.ranges.n in
    let fits_u : FitsSigned w128 u.bound = search rules in
    let fits_l : FitsSigned w128 l.bound = search rules in
    let wide = sum_is_wide (c.args.m *ℤ u.bound) (c.args.n *ℤ l.bound) c.weighted_sum.result (simp to_z-of_z at c.weighted_sum.ensures) c.if-is_none.ensures in
    (vars, omega arith, rw (entry_at-last vars u, entry_at-last vars l) wide)

pub returns-then-is_none-2 : goal.returns-then-is_none-2
returns-then-is_none-2 c =
    let u = c.args.upper.now in
    let l = c.args.lower.now in
    let vars = length u.coefs in
    let k = c.loop-k.k in
    let below : k < vars = omega (arith, c.loop-k-test.true, ap length c.as_slice-coef-items.ensures) in
    let fits_m : FitsSigned w128 c.args.m = c.ranges.m in
    let fits_n : FitsSigned w128 c.args.n = c.ranges.n in
    let fits_x : FitsSigned w128 (get_or c.as_slice-coef-items.result.now k (pos 0)) = search rules in
    let fits_y : FitsSigned w128 (get_or c.as_slice-others.result.now k (pos 0)) = search rules in
    let answer = rw (c.as_slice-coef-items.ensures, c.as_slice-others.ensures) at (simp to_z-of_z at c.weighted_sum-in-loop-k.ensures) in
    let wide = sum_is_wide (c.args.m *ℤ get_or u.coefs k (pos 0)) (c.args.n *ℤ get_or l.coefs k (pos 0)) c.weighted_sum-in-loop-k.result answer c.if-is_none-2.ensures in
    let at_u = entry_at-coef vars u k below in
    let at_l = entry_at-coef vars l k below in
    (k, omega arith, rw (at_u, at_l) wide)

pub loop-k-preserved : goal.loop-k-preserved
loop-k-preserved c =
    let u = c.args.upper.now in
    let l = c.args.lower.now in
    let vars = length u.coefs in
    let k = c.loop-k.k in
    let below : k < vars = omega (arith, c.loop-k-test.true, ap length c.as_slice-coef-items.ensures) in
    let fits_m : FitsSigned w128 c.args.m = c.ranges.m in
    let fits_n : FitsSigned w128 c.args.n = c.ranges.n in
    let fits_x : FitsSigned w128 (get_or c.as_slice-coef-items.result.now k (pos 0)) = search rules in
    let fits_y : FitsSigned w128 (get_or c.as_slice-others.result.now k (pos 0)) = search rules in
    let answer = rw (c.as_slice-coef-items.ensures, c.as_slice-others.ensures) at (simp to_z-of_z at c.weighted_sum-in-loop-k.ensures) in
    let narrow = sum_is_narrow (c.args.m *ℤ get_or u.coefs k (pos 0)) (c.args.n *ℤ get_or l.coefs k (pos 0)) c.weighted_sum-in-loop-k.result answer c.if-is_none-2.ensures in
    let at_u = entry_at-coef vars u k below in
    let at_l = entry_at-coef vars l k below in
    let here : IsTrue (stays_narrow (pos 0) (products_of vars c.args.m u c.args.n l k)) = rw (at_u, at_l) narrow in
    let so_far = simp to_z-of_z at c.loop-k.invariant in
    let back_m : to_z w128 (of_z w128 c.args.m) ≡ c.args.m = to_z-of_z w128 c.args.m fits_m in
    let back_n : to_z w128 (of_z w128 c.args.n) ≡ c.args.n = to_z-of_z w128 c.args.n fits_n in
    rw (back_m, back_n) (below_more _ _ so_far here)

pub returns : goal.returns
returns c =
    let u = c.args.upper.now in
    let l = c.args.lower.now in
    let vars = length u.coefs in
    let k = c.loop-k.k in
    let fits_m : FitsSigned w128 c.args.m = c.ranges.m in
    let fits_n : FitsSigned w128 c.args.n = c.ranges.n in
    let fits_u : FitsSigned w128 u.bound = search rules in
    let fits_l : FitsSigned w128 l.bound = search rules in
    let whole : vars ≤ k = omega (arith, c.loop-k-test.false, ap length c.as_slice-coef-items.ensures) in
    let bound = sum_is_narrow (c.args.m *ℤ u.bound) (c.args.n *ℤ l.bound) c.weighted_sum.result (simp to_z-of_z at c.weighted_sum.ensures) c.if-is_none.ensures in
    let so_far = simp to_z-of_z at c.loop-k.invariant in
    let last : IsTrue (stays_narrow (pos 0) (products_of vars c.args.m u c.args.n l vars)) = rw (entry_at-last vars u, entry_at-last vars l) bound in
    λ j h. by_lt j vars (λ lt. so_far j (omega arith)) (λ ge. let e : vars ≡ j = omega arith in subst (λ i. IsTrue (stays_narrow (pos 0) (products_of vars c.args.m u c.args.n l i))) e last)

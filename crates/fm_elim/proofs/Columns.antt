-- Removed variables: after the last level no row has a coefficient.
use Rattle.std.proofs.Common.{◌≡◌, ℕ, zero, suc, ◌+◌, ◌-◌, ◌/◌, ◌<◌, max, ℤ, pos, negsuc, neg_ℤ, ◌*ℤ◌, ◌<ℤ◌, int_div, unsigned_abs, slice_index, ⊎_elim, List, [], ◌∷◌, map, replicate, length, get_or, refl, ap, sym, ◌∙◌, subst, arith}
use Rattle.std.specs.List.{Contains, range_with_len}
use Rattle.std.specs.List.Sorted.{IsPermutation}
use Rattle.std.proofs.Math.Nat.{mul-div_cancel'}
use Rattle.std.proofs.lemmas.Int.{ints}
use Rattle.std.proofs.lemmas.List.{get_or_default, length-replicate}
use Rattle.std.proofs.lemmas.List.FromFn.{length-range_with_len, get_or-range_with_len}
use Rattle.std.proofs.lemmas.List.Elements.{Contains-get_or}
use Rattle.std.proofs.lemmas.List.Sorted.{Contains-permutation}
use Rattle.std.proofs.Math.IntN.{*ℤ_comm, *ℤ-zero, pos-*ℤ-pos}
use Rattle.list_lemmas.proofs.Integers.{mul_assoc_ℤ}
use Rattle.farkas_cert.specs.declared.system.Row.{Row}
use Rattle.elim_rows.specs.Reduction.{IsReduced}
use Rattle.elim_rows.specs.Pairs.{coef_of, combined, combination, IsPair}
use Rattle.elim_rows.specs.Candidates.{IsEmpty}
use Rattle.elim_level.specs.Levels.{IsRaw, IsCombined}
use Rattle.fm_elim.proofs.Integers.{mul_swap, mul-neg}
use Rattle.elim_rows.proofs.Combined.{by_lt, combined-at}
use Rattle.fm_elim.proofs.Removal.{IsSolvable}

-- 0 stays 0 in a combination
combined-zero : (m n : ℤ) (us ls : List ℤ) (k : ℕ) → length ls ≡ length us → get_or us k (pos 0) ≡ pos 0 → get_or ls k (pos 0) ≡ pos 0 → get_or (combined m us n ls) k (pos 0) ≡ pos 0
combined-zero m n us ls k same a b =
    combined-at m n us ls k same ∙ omega (arith, ints, ap (λ z. m *ℤ z) a ∙ *ℤ-zero m, ap (λ z. n *ℤ z) b ∙ *ℤ-zero n)

-- and the variable of the pair cancels
pair-cancels : (v : ℕ) (upper lower : Row) (m n : ℤ) → length lower.coefs ≡ length upper.coefs → IsPair v upper lower m n → coef_of v (combination m upper n lower) ≡ pos 0
pair-cancels v upper lower m n same pair =
    let au = coef_of v upper in
    let al = coef_of v lower in
    let g = pos pair.divisor in
    let lower_size : g *ℤ m ≡ neg_ℤ al = ap (λ z. g *ℤ z) pair.upper_times ∙ pos-*ℤ-pos pair.divisor (unsigned_abs al / pair.divisor) ∙ ap pos (mul-div_cancel' pair.divisor pair.common.1) ∙ size_below al pair.below in
    let upper_size : g *ℤ n ≡ au = ap (λ z. g *ℤ z) pair.lower_times ∙ pos-*ℤ-pos pair.divisor (unsigned_abs au / pair.divisor) ∙ ap pos (mul-div_cancel' pair.divisor pair.common.0) ∙ size_above au pair.above in
    let first : m *ℤ au ≡ n *ℤ neg_ℤ al = ap (λ z. m *ℤ z) (sym upper_size) ∙ mul_swap m g n ∙ sym (mul_assoc_ℤ g m n) ∙ ap (λ z. z *ℤ n) lower_size ∙ *ℤ_comm (neg_ℤ al) n in
    combined-at m n upper.coefs lower.coefs (v - 1) same ∙ omega (arith, ints, first, mul-neg n al)
  where
    size_below : (z : ℤ) → z <ℤ pos 0 → pos (unsigned_abs z) ≡ neg_ℤ z
    size_below (pos k) h = absurd (omega (arith, ints, h))
    size_below (negsuc k) h = refl

    size_above : (z : ℤ) → pos 0 <ℤ z → pos (unsigned_abs z) ≡ z
    size_above (pos k) h = refl
    size_above (negsuc k) h = absurd (omega (arith, ints, h))

-- 0 stays 0 in a reduction
divided-zero : (g k : ℕ) (coefs : List ℤ) → get_or coefs k (pos 0) ≡ pos 0 → get_or (map (λ a. int_div a (pos g)) coefs) k (pos 0) ≡ pos 0
divided-zero g k [] h = refl
divided-zero g zero (a ∷ coefs) h = ap (λ z. int_div z (pos g)) h ∙ ap pos (omega arith)
divided-zero g (suc k) (a ∷ coefs) h = divided-zero g k coefs h

-- a reduction keeps its zeros
pub zero_reduced : (v : ℕ) (raw row : Row) → IsReduced raw row → coef_of v raw ≡ pos 0 → coef_of v row ≡ pos 0
zero_reduced v raw row reduced none = ap (coef_of v) reduced.1.1 ∙ divided-zero (max reduced.0 1) (v - 1) raw.coefs none

-- one variable more
pub rid_next : (order : List ℕ) (k vars : ℕ) (set : Row → Type 0) → ((r : Row) → set r → length r.coefs ≡ vars) → ((r : Row) → set r → (j : ℕ) → j < k → coef_of (slice_index order j) r ≡ pos 0) → (raw : Row) → IsRaw (slice_index order k) set raw → (j : ℕ) → j < suc k → coef_of (slice_index order j) raw ≡ pos 0
rid_next order k vars set full rid raw is_raw j lt = ⊎_elim alone both is_raw
  where
    alone : set raw × (coef_of (slice_index order k) raw ≡ pos 0) → coef_of (slice_index order j) raw ≡ pos 0
    alone a = by_lt {P = coef_of (slice_index order j) raw ≡ pos 0} j k
        (λ below. rid raw a.0 j below)
        (λ above. let same : k ≡ j = omega arith in subst (λ n. coef_of (slice_index order n) raw ≡ pos 0) same a.1)

    both : IsCombined (slice_index order k) set raw → coef_of (slice_index order j) raw ≡ pos 0
    both b =
        let same : length b.lower.coefs ≡ length b.upper.coefs = full b.lower b.has_lower ∙ sym (full b.upper b.has_upper) in
        by_lt {P = coef_of (slice_index order j) raw ≡ pos 0} j k
        (λ below. ap (λ r. coef_of (slice_index order j) r) b.made ∙ combined-zero b.m b.n b.upper.coefs b.lower.coefs (slice_index order j - 1) same
        (rid b.upper b.has_upper j below) (rid b.lower b.has_lower j below))
        (λ above. let e : k ≡ j = omega arith in subst (λ n. coef_of (slice_index order n) raw ≡ pos 0) e (ap (λ r. coef_of (slice_index order k) r) b.made ∙ pair-cancels (slice_index order k) b.upper b.lower b.m b.n same b.pair))

-- where the order names each variable, no coefficient is left
pub empty_from_rid : (order : List ℕ) (vars : ℕ) (row : Row) → IsPermutation (range_with_len 1 vars) order → length row.coefs ≡ vars → ((j : ℕ) → j < length order → coef_of (slice_index order j) row ≡ pos 0) → IsEmpty row
empty_from_rid order vars row named full rid k d h =
    let within : k < vars = omega arith in
    let listed : Contains (range_with_len 1 vars) (k + 1) = (k, omega (arith, length-range_with_len 1 vars), get_or-range_with_len 1 vars k (k + 1) within ∙ omega arith) in
    let there = Contains-permutation (range_with_len 1 vars) order (k + 1) named listed in
    let at : slice_index order there.0 ≡ k + 1 = get_or_default order there.0 0 (k + 1) there.1 ∙ there.2 in
    let place : slice_index order there.0 - 1 ≡ k = omega arith in
    get_or_default row.coefs k d (pos 0) h ∙ ap (λ n. get_or row.coefs n (pos 0)) (sym place) ∙ rid there.0 there.1

-- no row at all is satisfied by zeros
pub solvable_nothing : (vars : ℕ) (rows : List Row) → ((r : Row) → Contains rows r → ⊥) → IsSolvable vars rows
solvable_nothing vars rows none = record {
  x = replicate vars (pos 0);
  d = pos 1;
  values = length-replicate vars (pos 0);
  divisor = omega (arith, ints);
  holds = λ k e h. absurd (none (get_or rows k e) (Contains-get_or rows k e h));
}

-- Back substitution: what satisfies a level can be moved to satisfy the level before it, and level 0 the system.
use Rattle.std.proofs.Common.{◌≡◌, ℕ, ◌/◌, ◌≤◌, ◌<◌, max, ℤ, pos, negsuc, neg_ℤ, ◌+ℤ◌, ◌*ℤ◌, ◌≤ℤ◌, ◌<ℤ◌, int_div, unsigned_abs, ⊎_elim, inl, inr, List, map, length, get_or, refl, ap, sym, ◌∙◌, subst, arith}
use Rattle.std.specs.Int.{int_div_euclid}
use Rattle.std.specs.List.{All, Contains}
use Rattle.std.proofs.Math.Nat.{mul-div_cancel'}
use Rattle.std.proofs.lemmas.Int.{ints}
use Rattle.std.proofs.lemmas.List.Elements.{All-contains, Contains-get_or}
use Rattle.std.proofs.Math.IntN.{*ℤ_comm, *ℤ-zero, pos-*ℤ-pos}
use Rattle.list_lemmas.proofs.Integers.{add-mul, mul-add, mul_assoc_ℤ}
use Rattle.farkas_cert.specs.declared.system.Row.{Row}
use Rattle.farkas_cert.specs.Inequalities.{left_side as dot, AreFull}
use Rattle.elim_rows.specs.Reduction.{IsReduced}
use Rattle.elim_rows.specs.Pairs.{coef_of, IsPair, combination}
use Rattle.elim_level.specs.Levels.{IsRaw}
use Rattle.elim_rows.specs.Candidates.{Covers}
use Rattle.farkas_cert.proofs.Integers.{mul_le_ℤ}
use Rattle.fm_elim.proofs.Integers.{mul-neg, mul_swap}
use Rattle.fm_elim.proofs.Values.{dot-zero, dot-quotients, floor_le, dot-combined}
use Rattle.fm_elim.proofs.Removal.{slack, AllHold, IsSolvable, solvable}
use Rattle.elim_level.proofs.Existence.{divides_max, pair_exists}

-- where the reduced row holds, the raw one does
raw_from_reduced : (raw row : Row) (x : List ℤ) (d : ℤ) → pos 1 ≤ℤ d → IsReduced raw row → dot row.coefs x ≤ℤ (row.bound *ℤ d) → dot raw.coefs x ≤ℤ (raw.bound *ℤ d)
raw_from_reduced raw row x d hd reduced h =
    let g = max reduced.0 1 in
    let positive : 0 < g = omega arith in
    let coefs : row.coefs ≡ map (λ a. int_div a (pos g)) raw.coefs = ap (λ r. r.coefs) reduced.1.1 in
    let bound : row.bound ≡ int_div_euclid raw.bound (pos g) = ap (λ r. r.bound) reduced.1.1 in
    let sum = dot-quotients g raw.coefs x positive (divides_max reduced.0 raw.coefs reduced.1.0.0) in
    let sum' : pos g *ℤ dot row.coefs x ≡ dot raw.coefs x = ap (λ cs. pos g *ℤ dot cs x) coefs ∙ sum in
    let scaled : (pos g *ℤ dot row.coefs x) ≤ℤ (pos g *ℤ (row.bound *ℤ d)) = mul_le_ℤ (pos g) _ _ (omega (arith, ints)) h in
    let floor : (pos g *ℤ row.bound) ≤ℤ raw.bound = subst (λ b. (pos g *ℤ b) ≤ℤ raw.bound) (sym bound) (floor_le g raw.bound positive) in
    let times : (d *ℤ (pos g *ℤ row.bound)) ≤ℤ (d *ℤ raw.bound) = mul_le_ℤ d _ _ (omega (arith, ints, hd)) floor in
    omega (arith, ints, scaled, times, sum', mul_swap d (pos g) row.bound, *ℤ_comm d row.bound, ap (λ z. pos g *ℤ z) (*ℤ_comm d row.bound), *ℤ_comm d raw.bound)

-- where the list holds, a row that it covers does
covered_holds : (rows : List Row) (row : Row) (x : List ℤ) (d : ℤ) → pos 1 ≤ℤ d → AllHold x d rows → Covers rows row → dot row.coefs x ≤ℤ (row.bound *ℤ d)
covered_holds rows row x d hd all covers =
    ⊎_elim (λ none.
    let zero' : (d *ℤ pos 0) ≤ℤ (d *ℤ row.bound) = mul_le_ℤ d _ _ (omega (arith, ints, hd)) none.1 in
    omega (arith, ints, dot-zero row.coefs x none.0, zero', *ℤ-zero d, *ℤ_comm d row.bound))
    (λ some.
    let holds : dot some.0.coefs x ≤ℤ (some.0.bound *ℤ d) = All-contains (λ r. dot r.coefs x ≤ℤ (r.bound *ℤ d)) rows some.0 all some.1 in
    let more : (d *ℤ some.0.bound) ≤ℤ (d *ℤ row.bound) = mul_le_ℤ d _ _ (omega (arith, ints, hd)) some.3 in
    omega (arith, ints, holds, more, ap (λ cs. dot cs x) some.2, *ℤ_comm d some.0.bound, *ℤ_comm d row.bound)) covers

-- the list covers the reduction of each raw row
abbrev pub IsComplete : (Row → Type 0) → List Row → Type 0
IsComplete raws rows = (raw : Row) → raws raw → (row : Row) × IsReduced raw row × Covers rows row

-- where such a list holds, every raw row does
raw_holds : (raws : Row → Type 0) (rows : List Row) (x : List ℤ) (d : ℤ) → pos 1 ≤ℤ d → IsComplete raws rows → AllHold x d rows → (raw : Row) → raws raw → dot raw.coefs x ≤ℤ (raw.bound *ℤ d)
raw_holds raws rows x d hd complete all raw has =
    let found = complete raw has in
    raw_from_reduced raw found.0 x d hd found.1 (covered_holds rows found.0 x d hd all found.2)

-- a combination that holds leaves room between its rows
room_between : (v : ℕ) (upper lower : Row) (m n : ℤ) (x : List ℤ) (d : ℤ) → length lower.coefs ≡ length upper.coefs → IsPair v upper lower m n → dot (combination m upper n lower).coefs x ≤ℤ ((combination m upper n lower).bound *ℤ d) → (coef_of v lower *ℤ slack x d upper) ≤ℤ (coef_of v upper *ℤ slack x d lower)
room_between v upper lower m n x d same pair holds =
    let au = coef_of v upper in
    let al = coef_of v lower in
    let g = pos pair.divisor in
    let su = slack x d upper in
    let sl = slack x d lower in
    let sum = dot-combined m n upper.coefs lower.coefs x same in
    let bound = add-mul (m *ℤ upper.bound) (n *ℤ lower.bound) d in
    let upper_split = mul-add m (upper.bound *ℤ d) (neg_ℤ (dot upper.coefs x)) in
    let lower_split = mul-add n (lower.bound *ℤ d) (neg_ℤ (dot lower.coefs x)) in
    let together : pos 0 ≤ℤ (m *ℤ su +ℤ n *ℤ sl) =
    omega (arith, ints, holds, sum, bound, upper_split, lower_split, mul-neg m (dot upper.coefs x), mul-neg n (dot lower.coefs x), mul_assoc_ℤ m upper.bound d, mul_assoc_ℤ n lower.bound d) in
    let scaled : (g *ℤ pos 0) ≤ℤ (g *ℤ (m *ℤ su +ℤ n *ℤ sl)) = mul_le_ℤ g _ _ (omega (arith, ints)) together in
    let lower_size : g *ℤ m ≡ neg_ℤ al = ap (λ z. g *ℤ z) pair.upper_times ∙ pos-*ℤ-pos pair.divisor (unsigned_abs al / pair.divisor) ∙ ap pos (mul-div_cancel' pair.divisor pair.common.1) ∙ size_below al pair.below in
    let upper_size : g *ℤ n ≡ au = ap (λ z. g *ℤ z) pair.lower_times ∙ pos-*ℤ-pos pair.divisor (unsigned_abs au / pair.divisor) ∙ ap pos (mul-div_cancel' pair.divisor pair.common.0) ∙ size_above au pair.above in
    let first : g *ℤ (m *ℤ su) ≡ neg_ℤ (al *ℤ su) = sym (mul_assoc_ℤ g m su) ∙ ap (λ z. z *ℤ su) lower_size ∙ *ℤ_comm (neg_ℤ al) su ∙ mul-neg su al ∙ ap neg_ℤ (*ℤ_comm su al) in
    let second : g *ℤ (n *ℤ sl) ≡ au *ℤ sl = sym (mul_assoc_ℤ g n sl) ∙ ap (λ z. z *ℤ sl) upper_size in
    omega (arith, ints, scaled, *ℤ-zero g, mul-add g (m *ℤ su) (n *ℤ sl), first, second)
  where
    size_below : (z : ℤ) → z <ℤ pos 0 → pos (unsigned_abs z) ≡ neg_ℤ z
    size_below (pos k) h = absurd (omega (arith, ints, h))
    size_below (negsuc k) h = refl

    size_above : (z : ℤ) → pos 0 <ℤ z → pos (unsigned_abs z) ≡ z
    size_above (pos k) h = refl
    size_above (negsuc k) h = absurd (omega (arith, ints, h))

-- one level back
pub solvable_before : (v vars : ℕ) (rows next : List Row) → 1 ≤ v → v ≤ vars → AreFull vars rows → IsComplete (IsRaw v (Contains rows)) next → IsSolvable vars next → IsSolvable vars rows
solvable_before v vars rows next low high full complete s =
    let holds : (raw : Row) → IsRaw v (Contains rows) raw → dot raw.coefs s.x ≤ℤ (raw.bound *ℤ s.d) = raw_holds (IsRaw v (Contains rows)) next s.x s.d s.divisor complete s.holds in
    let full' : All (λ r. length r.coefs ≡ length s.x) rows = λ k e h. full k e h ∙ sym s.values in
    let found = solvable v s.x s.d rows s.divisor full' (omega (arith, s.values))
    (λ k e h none. let at = holds (get_or rows k e) (inl (Contains-get_or rows k e h, none)) in omega (arith, ints, at))
    (λ upper lower has_upper has_lower above below.
    let pair = pair_exists v upper lower above below in
    let same : length lower.coefs ≡ length upper.coefs = All-contains (λ r. length r.coefs ≡ vars) rows lower full has_lower ∙ sym (All-contains (λ r. length r.coefs ≡ vars) rows upper full has_upper) in
    room_between v upper lower pair.0 pair.1 s.x s.d same pair.2
    (holds (combination pair.0 upper pair.1 lower) (inr (record { upper = upper; lower = lower; m = pair.0; n = pair.1; has_upper = has_upper; has_lower = has_lower; pair = pair.2; made = refl })))) in
    subst (λ n. IsSolvable n rows) s.values found

-- level 0 back to the system
pub solvable_system : (vars : ℕ) (rows next : List Row) → IsComplete (Contains rows) next → IsSolvable vars next → IsSolvable vars rows
solvable_system vars rows next complete s = record {
  x = s.x;
  d = s.d;
  values = s.values;
  divisor = s.divisor;
  holds = λ k e h. raw_holds (Contains rows) next s.x s.d s.divisor complete s.holds (get_or rows k e) (Contains-get_or rows k e h);
}

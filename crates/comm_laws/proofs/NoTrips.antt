-- Where a loop makes no trip, its end lies in front of its beginning, and the values of the loops round it solve the system that says so.
use Rattle.std.proofs.Common.{◌≡◌, ℕ, zero, suc, ◌+◌, ◌*◌, ◌-◌, ◌<◌, ◌≤◌, ◌&&◌, nat_lt, ℤ, pos, negsuc, neg_ℤ, ◌+ℤ◌, ◌-ℤ◌, ◌≤ℤ◌, true, None, List, [], ◌∷◌, ◌++◌, get_or, length, length-append, unsigned_abs, if◌then◌else◌, refl, ap, sym, ◌∙◌, subst, arith}
use Rattle.std.specs.Prelude.{int_div}
use Rattle.std.specs.List.{AllByRecursion}
use Rattle.std.proofs.lemmas.Bool.{and_from, and_parts, le-leb, ltb-true}
use Rattle.std.proofs.lemmas.Int.{ints}
use Rattle.std.proofs.lemmas.List.{append-nil, get_or_append_left, get_or_default, length-map}
use Rattle.farkas_cert.specs.Inequalities.{IsWholeSolution}
use Rattle.nest_tree.specs.Form.{form_value}
use Rattle.nest_tree.specs.Layout.{count_of}
use Rattle.nest_tree.specs.Tree.{Constant, Head, Tree, param_values}
use Rattle.nest_tree.specs.WellFormed.{names_only}
use Rattle.nest_model.specs.Instances.{trip_count}
use Rattle.nest_rows.specs.Constraints.{IsMet, system_of}
use Rattle.nest_rows.specs.Groups.{differ, loops_have, sign_of}
use Rattle.nest_rows.specs.Nested.{AreTrips}
use Rattle.nest_rows.specs.Places.{AreLaid, laid, terms_of}
use Rattle.nest_rows.specs.Signs.{flipped, signed, with_sign}
use Rattle.nest_rows.specs.declared.constraint.Sign.TheVariants.{Plus, Minus}
use Rattle.nest_rows.proofs.Dots.{AreConstants, constants-in-front, numbers}
use Rattle.nest_rows.proofs.GroupsMet.{both_met, differ_met, is_head_among, loops_met}
use Rattle.nest_rows.proofs.Over.{both-over, form-over, loops_have-over}
use Rattle.nest_rows.proofs.Sums.{is_over, solves}
use Rattle.sync_plan.specs.declared.plan.Conditions.{Conditions}
use Rattle.sync_plan.specs.Fit.{unmet}
use Rattle.comm_system.specs.PairRows.{conditions_have, first_of}
use Rattle.comm_laws.proofs.LastTrips.{over_quotient}
use Rattle.comm_laws.proofs.Lies.{laid-length, laid_there, lies_behind}
use Rattle.comm_laws.proofs.PairOver.{lists_over}
use Rattle.comm_laws.proofs.Solved.{AreGoodConditions, conditions_met, conditions_over}
use Rattle.comm_system.proofs.Stations.{trips_of}

-- ---- its end lies in front of its beginning

none_rising : (k : ℕ) (m1 m2 span : ℤ) → span ≡ m2 -ℤ m1 +ℤ pos (suc k) → count_of (int_div span (pos (suc k))) ≡ 0 → (m2 +ℤ neg_ℤ m1) ≤ℤ negsuc 0
none_rising k m1 m2 (pos d) e is = by (subst (λ q. d < suc k * q + suc k) is (over_quotient d (suc k) (omega arith)))
  where
    by : d < suc k * 0 + suc k → (m2 +ℤ neg_ℤ m1) ≤ℤ negsuc 0
    by less = omega (arith, ints, e, less)
none_rising k m1 m2 (negsuc d) e is = omega (arith, ints, e)

none_falling : (k : ℕ) (m1 m2 span : ℤ) → span ≡ m2 -ℤ m1 +ℤ negsuc k → count_of (int_div span (negsuc k)) ≡ 0 → (neg_ℤ m2 +ℤ m1) ≤ℤ negsuc 0
none_falling k m1 m2 (pos d) e is = omega (arith, ints, e)
none_falling k m1 m2 (negsuc d) e is = by (subst (λ q. suc d < suc k * q + suc k) is (over_quotient (suc d) (suc k) (omega arith)))
  where
    by : suc d < suc k * 0 + suc k → (neg_ℤ m2 +ℤ m1) ≤ℤ negsuc 0
    by less = omega (arith, ints, e, less)

ends_before : (m1 m2 step : ℤ) → 0 < unsigned_abs step → trip_count m1 m2 step ≡ 0 → (signed (sign_of step) m2 +ℤ signed (flipped (sign_of step)) m1) ≤ℤ negsuc 0
ends_before m1 m2 (pos zero) moves none = absurd (omega (arith, moves))
ends_before m1 m2 (pos (suc k)) moves none =
    subst (λ b. (signed (if b then Plus else Minus) m2 +ℤ signed (flipped (if b then Plus else Minus)) m1) ≤ℤ negsuc 0) (sym (le-leb 0 (suc k) (omega arith))) (none_rising k m1 m2 (m2 -ℤ m1 +ℤ pos (suc k)) refl none)
ends_before m1 m2 (negsuc k) moves none = none_falling k m1 m2 (m2 -ℤ m1 +ℤ negsuc k) refl none

-- ---- its system

module _ (tree : Tree) (conditions : Conditions) (heads : List Head) (head : Head) (ns : List ℕ) (loops : List ℤ) (goods : AreGoodConditions (length (param_values tree)) conditions) (none : unmet (param_values tree) conditions ≡ None)
    (named : AllByRecursion (λ h. is_head_among (length (param_values tree)) (numbers heads) h ≡ true) heads) (own : is_head_among (length (param_values tree)) (numbers heads) head ≡ true) (trips : AreTrips (param_values tree) loops heads ns) where
  abbrev vs : List ℤ
  vs = param_values tree ++ laid loops heads ns

  as_many : length (param_values tree) ≡ length tree.params
  as_many = length-map tree.params (λ (p : Constant). p.value)

  constants : AreConstants vs (param_values tree)
  constants = constants-in-front (param_values tree) (laid loops heads ns)

  are_laid : AreLaid vs (first_of tree) loops heads ns
  are_laid =
      let params = param_values tree in
      let rows = laid loops heads ns in
      let lies = lies_behind params rows [] in
      subst (λ zs. AreLaid zs (first_of tree) loops heads ns) (ap (λ zs. params ++ zs) (append-nil rows))
      (subst (λ n. AreLaid (params ++ (rows ++ [])) (n + 1) loops heads ns) as_many (laid_there (params ++ (rows ++ [])) (length params + 1) params loops heads ns trips lies))

  -- the number of the last unknown
  abbrev vars : ℕ
  vars = first_of tree + 2 * length heads - 1

  long : length vs ≡ vars
  long = omega (arith, as_many, length-append (param_values tree) (laid loops heads ns), laid-length (param_values tree) loops heads ns trips)

  parts : (names_only (length (param_values tree)) (numbers heads) head.m1 ≡ true) × (names_only (length (param_values tree)) (numbers heads) head.m2 ≡ true) × (0 < unsigned_abs head.step)
  parts =
      let C = length (param_values tree) in
      let last = and_parts (names_only C (numbers heads) head.m1 && names_only C (numbers heads) head.m2) (nat_lt 0 (unsigned_abs head.step)) own in
      let two = and_parts (names_only C (numbers heads) head.m1) (names_only C (numbers heads) head.m2) last.0 in
      (two.0, two.1, ltb-true 0 (unsigned_abs head.step) last.1)

  pub none_solved : trips_of (param_values tree) head loops ≡ 0 →
      IsWholeSolution (system_of (first_of tree + 2 * length heads - 1) (conditions_have (param_values tree) conditions ++ (loops_have (first_of tree) heads (first_of tree) heads ++ differ (sign_of head.step) (first_of tree) heads head.m2 head.m1 (negsuc 0) ∷ []))) (param_values tree ++ laid loops heads ns)
  none_solved zero_trips =
      let params = param_values tree in
      let m = first_of tree in
      let sign = sign_of head.step in
      let C = conditions_have params conditions in
      let L = loops_have m heads m heads in
      let D = differ sign m heads head.m2 head.m1 (negsuc 0) in
      let few : length params ≤ vars = omega (arith, as_many) in
      let room : m + 2 * length heads ≤ vars + 1 = omega arith in
      let values_at = λ (k : ℕ) (d : ℤ) (lt : k < length params).
      let place : 1 + k - 1 ≡ k = omega arith in
      ap (λ j. get_or vs j (pos 0)) place ∙ get_or_append_left params (laid loops heads ns) (pos 0) k lt ∙ get_or_default params k (pos 0) d lt in
      let c = conditions_met vs params conditions constants values_at goods none in
      let l = loops_met vs m loops heads ns params are_laid constants m heads ns are_laid named trips in
      let d : IsMet vs D = differ_met vs m loops heads ns params are_laid constants sign head.m2 head.m1 (negsuc 0) parts.1 parts.0 (ends_before (form_value head.m1 loops params) (form_value head.m2 loops params) head.step parts.2 zero_trips) in
      let terms = both-over vars (with_sign sign (terms_of m heads head.m2)) (with_sign (flipped sign) (terms_of m heads head.m1))
      (form-over vars (length params) m heads (omega arith) few room sign head.m2 parts.1) (form-over vars (length params) m heads (omega arith) few room (flipped sign) head.m1 parts.0) in
      let over = lists_over vars C (L ++ D ∷ []) (conditions_over vars params conditions few goods)
      (lists_over vars L (D ∷ []) (loops_have-over vars (length params) m heads (omega arith) few room m heads (omega arith) room named) (and_from (is_over vars D) true terms refl)) in
      solves vars (C ++ (L ++ D ∷ [])) vs long over (both_met vs C (L ++ D ∷ []) c (both_met vs L (D ∷ []) l (d, tt)))

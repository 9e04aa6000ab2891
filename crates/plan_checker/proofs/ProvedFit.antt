-- A plan that is proved on a program is accepted for each program that it fits.
use Rattle.std.proofs.Common.{◌≡◌, ℕ, zero, suc, ◌+◌, ◌-◌, ◌<◌, ℤ, pos, negsuc, neg_ℤ, ◌+ℤ◌, ◌*ℤ◌, ◌<ℤ◌, ◌≤ℤ◌, Bool, true, false, not, List, [], ◌∷◌, drop, length, Option, Some, None, if◌then◌else◌, refl, sym, ap, subst, ◌∙◌, arith}
use Rattle.std.specs.Prelude.{◌↔◌, IsTrue, int_le, slice_index_or}
use Rattle.std.specs.Option.{IsNone, option_map, option_or}
use Rattle.std.proofs.lemmas.Int.{ints}
use Rattle.std.proofs.lemmas.List.{drop_all, length-map}
use Rattle.nest_agree.specs.Agree.{Agree, do_agree}
use Rattle.nest_agree.proofs.Equal.{agree_is, agree_same}
use Rattle.nest_tree.specs.Form.{numbered}
use Rattle.nest_tree.specs.Tree.{Constant, Tree, param_values}
use Rattle.nest_tree.proofs.FirstLimits.{neither}
use Rattle.sync_plan.specs.declared.plan.Conditions.{Conditions}
use Rattle.sync_plan.specs.declared.plan.Conditions.TheVariants.{Values, Rows}
use Rattle.sync_plan.specs.declared.plan.Plan.{Plan}
use Rattle.sync_plan.specs.Fit.{first_misfit, unmet_among}
use Rattle.comm_system.specs.PairRows.{conditions_have}
use Rattle.comm_system.specs.declared.obligation.Obligation.{Obligation}
use Rattle.plan_checker.specs.Accepted.{AreCertified, IsAccepted}
use Rattle.plan_checker.specs.Proved.{IsProved, first_other, first_unfit, value_rows}
use Rattle.plan_checker.specs.Refusals.{first_refusal, refusal_of}
use Rattle.plan_checker.specs.declared.refusal.PlanRefusal.{PlanRefusal}
use Rattle.plan_checker.specs.declared.refusal.PlanRefusal.TheVariants.{Condition, Differs}
use Rattle.plan_checker.proofs.Agreeing.{agreeing_obligations, same_long}
use Rattle.plan_checker.proofs.Certified.{unmapped}

-- ---- rows of values, and other values

at_place : (vs : List ℤ) (m : ℕ) → m < length vs → drop m vs ≡ slice_index_or vs m (pos 0) ∷ drop (suc m) vs
at_place [] m lt = absurd (omega arith)
at_place (v ∷ vs) zero lt = refl
at_place (v ∷ vs) (suc m) lt = at_place vs m (omega arith)

by_number : (vs : List ℤ) (m : ℕ) → numbered vs (suc m) ≡ slice_index_or vs m (pos 0)
by_number vs m = let place : suc m - 1 ≡ m = omega arith in ap (λ n. slice_index_or vs n (pos 0)) place

no_greater : (w v : ℤ) → w ≤ℤ v → int_le (pos 1 *ℤ w +ℤ pos 0) v ≡ true
no_greater w v h = grind (arith, ints)

greater : (w v : ℤ) → v <ℤ w → int_le (pos 1 *ℤ w +ℤ pos 0) v ≡ false
greater w v h = grind (arith, ints)

no_less : (w v : ℤ) → v ≤ℤ w → int_le (negsuc 0 *ℤ w +ℤ pos 0) (neg_ℤ v) ≡ true
no_less w v h = grind (arith, ints)

less : (w v : ℤ) → w <ℤ v → int_le (negsuc 0 *ℤ w +ℤ pos 0) (neg_ℤ v) ≡ false
less w v h = grind (arith, ints)

between : (w v : ℤ) → int_le (pos 1 *ℤ w +ℤ pos 0) v ≡ true → int_le (negsuc 0 *ℤ w +ℤ pos 0) (neg_ℤ v) ≡ true → w ≡ v
between w v h k = grind (arith, ints)

-- the rows from a place on, by the two of the value there
by_two : Bool → Bool → ℕ → Option ℕ → Option ℕ
by_two upper lower row later = if upper then (if lower then later else Some (suc row)) else Some row

module _ (row m : ℕ) (others values : List ℤ) (w v : ℤ) (lt : m < length values) (value : slice_index_or values m (pos 0) ≡ v) (other : slice_index_or others m (pos 0) ≡ w) where
  two_rows : unmet_among row others (value_rows (m + 1) (drop m values)) ≡
      by_two (int_le (pos 1 *ℤ w +ℤ pos 0) v) (int_le (negsuc 0 *ℤ w +ℤ pos 0) (neg_ℤ v)) row (unmet_among (suc (suc row)) others (value_rows (suc (suc m)) (drop (suc m) values)))
  unfolding by_two
  two_rows =
      let next : m + 1 ≡ suc m = omega arith in
      let later = unmet_among (suc (suc row)) others (value_rows (suc (suc m)) (drop (suc m) values)) in
      ap (λ n. unmet_among row others (value_rows n (drop m values))) next
      ∙ ap (λ vs. unmet_among row others (value_rows (suc m) vs)) (at_place values m lt ∙ ap (λ z. z ∷ drop (suc m) values) value)
      ∙ ap (λ z. by_two (int_le (pos 1 *ℤ z +ℤ pos 0) v) (int_le (negsuc 0 *ℤ z +ℤ pos 0) (neg_ℤ v)) row later) (by_number others m ∙ other)

  pub value_greater : v <ℤ w → unmet_among row others (value_rows (m + 1) (drop m values)) ≡ Some row
  unfolding by_two
  value_greater h = two_rows ∙ rw (greater w v h) refl

  pub value_less : w <ℤ v → unmet_among row others (value_rows (m + 1) (drop m values)) ≡ Some (row + 1)
  unfolding by_two
  value_less h =
      let next : suc row ≡ row + 1 = omega arith in
      let below : w ≤ℤ v = omega (arith, ints, h) in
      two_rows ∙ rw (no_greater w v below) (rw (less w v h) (ap Some next))

  pub value_same : w ≤ℤ v → v ≤ℤ w → unmet_among row others (value_rows (m + 1) (drop m values)) ≡ unmet_among (row + 2) others (value_rows (m + 1 + 1) (drop (m + 1) values))
  unfolding by_two
  value_same h k =
      let rows : suc (suc row) ≡ row + 2 = omega arith in
      let next : suc m ≡ m + 1 = omega arith in
      let after : suc (suc m) ≡ m + 1 + 1 = omega arith in
      two_rows ∙ rw (no_greater w v h) (rw (no_less w v k) refl)
      ∙ ap (λ n. unmet_among n others (value_rows (suc (suc m)) (drop (suc m) values))) rows
      ∙ ap (λ n. unmet_among (row + 2) others (value_rows n (drop (suc m) values))) after
      ∙ ap (λ n. unmet_among (row + 2) others (value_rows (m + 1 + 1) (drop n values))) next

kept : {A : Type 0} (b : Bool) (x : Option A) (y : A) → (if b then x else Some y) ≡ None → (b ≡ true) × (x ≡ None)
kept true x y h = (refl, h)
kept false x y h = absurd (cc)

-- values that meet the rows of values are these
values_met : (row m : ℕ) (others vs : List ℤ) → length others ≡ m + length vs → unmet_among row others (value_rows (suc m) vs) ≡ None → drop m others ≡ vs
values_met row m others [] long none = drop_all m others (omega (arith, long))
values_met row m others (v ∷ vs) long none =
    let w = numbered others (suc m) in
    let first = kept (int_le (pos 1 *ℤ w +ℤ pos 0) v) _ row none in
    let second = kept (int_le (negsuc 0 *ℤ w +ℤ pos 0) (neg_ℤ v)) _ (suc row) first.1 in
    let later = values_met (suc (suc row)) (suc m) others vs (omega (arith, long)) second.1 in
    at_place others m (omega (arith, long)) ∙ ap (λ x. x ∷ drop (suc m) others) (sym (by_number others m) ∙ between w v first.0 second.0) ∙ ap (λ xs. v ∷ xs) later

-- ---- what a plan that fits another program has there

same_conditions : (f g : Tree) (c : Conditions) → length f.params ≡ length g.params → first_other (param_values f) c (param_values g) ≡ None → conditions_have (param_values f) c ≡ conditions_have (param_values g) c
same_conditions f g Values long none =
    let f_long = length-map f.params (λ (c : Constant). c.value) in
    let g_long = length-map g.params (λ (c : Constant). c.value) in
    let same = values_met 1 0 (param_values g) (param_values f) (omega (arith, f_long, g_long, long)) none in
    ap (λ vs. conditions_have vs Values) (sym same)
same_conditions f g (Rows rows) long none = refl

agreed : (b : Bool) (x : Option PlanRefusal) → (if not b then Some Differs else x) ≡ None → (b ≡ true) × (x ≡ None)
agreed true x h = (refl, h)
agreed false x h = absurd (cc)

pub proved_plans_fit : (f g : Tree) (plan : Plan) → IsProved f plan → first_unfit f plan g ≡ None → IsAccepted g plan
proved_plans_fit f g plan proved fits =
    let parts = agreed (do_agree f g) _ fits in
    let agree : Agree f g = agree_is f g parts.0 in
    let none = neither (first_refusal g plan) _ parts.1 in
    let met = unmapped Condition (first_other (param_values f) plan.conditions (param_values g)) none.1 in
    let same = agreeing_obligations f g plan agree (same_conditions f g plan.conditions (same_long f g agree) met) in
    record {
      fits = unmapped refusal_of (first_misfit g plan) none.0;
      certified = subst (λ (os : List Obligation). AreCertified os plan.certificates) same proved.certified;
    }

-- ---- the first reason why a plan doesn't fit, part by part

pub none_is : {A : Type 0} (o : Option A) → IsNone o → o ≡ None
none_is None h = refl
none_is (Some x) h = absurd (cc)

pub same_test : (b : Bool) (f g : Tree) → IsTrue b ↔ Agree f g → b ≡ do_agree f g
same_test true f g h = sym (agree_same f g (h.0 refl))
same_test false f g h = by (do_agree f g) refl
  where
    by : (t : Bool) → do_agree f g ≡ t → false ≡ t
    by true e = sym (sym (h.1 (agree_is f g e)))
    by false e = refl

pub unfit_differs : (f g : Tree) (plan : Plan) → do_agree f g ≡ false → Some Differs ≡ first_unfit f plan g
unfit_differs f g plan h = sym (ap (λ b. if not b then Some Differs else option_or (first_refusal g plan) (option_map Condition (first_other (param_values f) plan.conditions (param_values g)))) h)

pub unfit_by : (f g : Tree) (plan : Plan) (refusal : Option PlanRefusal) (row : Option ℕ) → do_agree f g ≡ true → refusal ≡ first_refusal g plan → row ≡ first_other (param_values f) plan.conditions (param_values g) → option_or refusal (option_map Condition row) ≡ first_unfit f plan g
unfit_by f g plan refusal row h a b =
    ap (λ r. option_or r (option_map Condition row)) a ∙ ap (λ r. option_or (first_refusal g plan) (option_map Condition r)) b
    ∙ sym (ap (λ b. if not b then Some Differs else option_or (first_refusal g plan) (option_map Condition (first_other (param_values f) plan.conditions (param_values g)))) h)

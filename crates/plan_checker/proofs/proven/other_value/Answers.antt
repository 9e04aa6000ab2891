use Rattle.std.proofs.Common.{◌≡◌, ℕ, ◌+◌, ◌*◌, ◌<◌, ◌<ℤ◌, ◌≤ℤ◌, ℤ, pos, Bool, true, false, List, drop, get_or, length, map, Some, FitsSigned, of_z, to_z, w64, rules, ap, subst, sym, ◌∙◌, arith}
use lib.Signed.{lt_z}
use Rattle.std.specs.Prelude.{slice_index_or}
use Rattle.std.proofs.lemmas.Int.{ints, to_z-of_z}
use Rattle.std.proofs.lemmas.List.{get_or-map, length-map}
use Rattle.nest_tree.specs.declared.tree.Parameter.{Parameter}
use Rattle.sync_plan.specs.Fit.{unmet_among}
use Rattle.plan_checker.specs.Proved.{value_rows}
use Rattle.plan_checker.proofs.ProvedFit.{value_greater, value_less, value_same}
use Rattle.plan_checker.proofs.proven.other_value.Goals as goal

abbrev values_in : List Parameter → List ℤ
values_in ps = map (λ (p : Parameter). p.value) ps

-- two values of 64 bits, compared
abbrev is_less : ℤ → ℤ → Bool
is_less x y = lt_z (to_z w64 (of_z w64 x)) (to_z w64 (of_z w64 y))

less_so : (x y : ℤ) → FitsSigned w64 x → FitsSigned w64 y → is_less x y ≡ true → x <ℤ y
less_so x y f g h = let a = to_z-of_z w64 x f in let b = to_z-of_z w64 y g in omega (arith, ints, a, b, h)

no_less_so : (x y : ℤ) → FitsSigned w64 x → FitsSigned w64 y → is_less x y ≡ false → y ≤ℤ x
no_less_so x y f g h = let a = to_z-of_z w64 x f in let b = to_z-of_z w64 y g in omega (arith, ints, a, b, h)

-- a constant at a place, and the one there that another list has, read with some default
module _ (ps qs : List Parameter) (i : ℕ) (p : Parameter) (long : length ps ≡ length qs) (lt : i < length ps) (is : p ≡ get_or ps i p) where
  value_at : slice_index_or (values_in ps) i (pos 0) ≡ p.value
  value_at = get_or-map (λ (q : Parameter). q.value) ps i p (pos 0) lt ∙ ap (λ (q : Parameter). q.value) (sym is)

  other_at : (d : Parameter) → slice_index_or (values_in qs) i (pos 0) ≡ (get_or qs i d).value
  other_at d = get_or-map (λ (q : Parameter). q.value) qs i d (pos 0) (omega (arith, lt, long))

  within : i < length (values_in ps)
  within = let same = length-map ps (λ (q : Parameter). q.value) in omega (arith, lt, same)

  greater_at : (d : Parameter) → p.value <ℤ (get_or qs i d).value → unmet_among (2 * i + 1) (values_in qs) (value_rows (i + 1) (drop i (values_in ps))) ≡ Some (2 * i + 1)
  greater_at d h = value_greater (2 * i + 1) i (values_in qs) (values_in ps) (get_or qs i d).value p.value within value_at (other_at d) h

  less_at : (d : Parameter) → (get_or qs i d).value <ℤ p.value → unmet_among (2 * i + 1) (values_in qs) (value_rows (i + 1) (drop i (values_in ps))) ≡ Some (2 * i + 1 + 1)
  less_at d h = value_less (2 * i + 1) i (values_in qs) (values_in ps) (get_or qs i d).value p.value within value_at (other_at d) h

  same_at : (d e : Parameter) → (get_or qs i d).value ≤ℤ p.value → p.value ≤ℤ (get_or qs i e).value →
      unmet_among (2 * i + 1) (values_in qs) (value_rows (i + 1) (drop i (values_in ps))) ≡ unmet_among (2 * (i + 1) + 1) (values_in qs) (value_rows (i + 1 + 1) (drop (i + 1) (values_in ps)))
  same_at d e h k =
      let row : 2 * i + 1 + 2 ≡ 2 * (i + 1) + 1 = omega arith in
      let one : (get_or qs i e).value ≡ (get_or qs i d).value = sym (other_at e) ∙ other_at d in
      value_same (2 * i + 1) i (values_in qs) (values_in ps) (get_or qs i d).value p.value within value_at (other_at d) h (subst (λ z. p.value ≤ℤ z) one k)
      ∙ ap (λ n. unmet_among n (values_in qs) (value_rows (i + 1 + 1) (drop (i + 1) (values_in ps)))) row

pub returns-then-others-place : goal.returns-then-others-place
returns-then-others-place c =
    let i = c.loop-place.place in
    let p = c.index-values-place.result in
    let d = c.index-others-place.result in
    let f : FitsSigned w64 (get_or c.args.values.now i p).value = search rules in
    let g : FitsSigned w64 (get_or c.args.others.now i d).value = search rules in
    let fits = subst (λ (q : Parameter). FitsSigned w64 q.value) (sym c.index-values-place.is) f in
    let above = less_so p.value (get_or c.args.others.now i d).value fits g c.if-others-place.true in
    sym (greater_at c.args.values.now c.args.others.now i p c.requires c.loop-place-test.true c.index-values-place.is d above) ∙ c.loop-place.invariant

pub returns-then-others-place-2 : goal.returns-then-others-place-2
returns-then-others-place-2 c =
    let i = c.loop-place.place in
    let p = c.index-values-place.result in
    let d = c.index-others-place-in-loop-place.result in
    let f : FitsSigned w64 (get_or c.args.values.now i p).value = search rules in
    let g : FitsSigned w64 (get_or c.args.others.now i d).value = search rules in
    let fits = subst (λ (q : Parameter). FitsSigned w64 q.value) (sym c.index-values-place.is) f in
    let below = less_so (get_or c.args.others.now i d).value p.value g fits c.if-others-place-2.true in
    sym (less_at c.args.values.now c.args.others.now i p c.requires c.loop-place-test.true c.index-values-place.is d below) ∙ c.loop-place.invariant

pub loop-place-preserved : goal.loop-place-preserved
loop-place-preserved c =
    let i = c.loop-place.place in
    let p = c.index-values-place.result in
    let d = c.index-others-place.result in
    let e = c.index-others-place-in-loop-place.result in
    let f : FitsSigned w64 (get_or c.args.values.now i p).value = search rules in
    let g : FitsSigned w64 (get_or c.args.others.now i d).value = search rules in
    let h : FitsSigned w64 (get_or c.args.others.now i e).value = search rules in
    let fits = subst (λ (q : Parameter). FitsSigned w64 q.value) (sym c.index-values-place.is) f in
    let most = no_less_so p.value (get_or c.args.others.now i d).value fits g c.if-others-place.false in
    let least = no_less_so (get_or c.args.others.now i e).value p.value h fits c.if-others-place-2.false in
    sym (same_at c.args.values.now c.args.others.now i p c.requires c.loop-place-test.true c.index-values-place.is d e most least) ∙ c.loop-place.invariant

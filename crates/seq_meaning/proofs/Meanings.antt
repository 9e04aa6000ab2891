-- A good expression has a value, which depends on the loops round it alone.
use Rattle.std.proofs.Common.{◌≡◌, ℕ, ◌&&◌, ◌==◌, ℤ, true, nat_lt, unsigned_abs, neg_ℤ, ◌+ℤ◌, ◌-ℤ◌, ◌*ℤ◌, List, ◌∷◌, length, drop, refl, ap, ◌∙◌}
use Rattle.std.specs.List.{list_any}
use Rattle.std.proofs.lemmas.Bool.{and_from, and_parts}
use Rattle.nest_tree.specs.Form.{numbered}
use Rattle.nest_tree.specs.Loads.{loads_in}
use Rattle.nest_tree.specs.Tree.{Expression, Expressions, number, loop_value, param, load, neg, add, sub, mul, div, least_of, greatest_of, no_more, one_more}
use Rattle.nest_tree.specs.Values.{quotient, wrapped}
use Rattle.nest_tree.specs.WellFormed.{Scope, are_good_expressions, is_good_expression, is_number_of, is_value}
use Rattle.nest_model.specs.Meaning.{greatest, has_value, have_values, least, value_of, values_of}

module _ (scope : Scope) (around : List ℕ) (loops loops' params : List ℤ) (same : (n : ℕ) → list_any (λ k. k == n) around ≡ true → numbered loops n ≡ numbered loops' n) where
  both_same : (f : ℤ → ℤ → ℤ) (a b : Expression) (loaded : List ℤ) → value_of a loops params loaded ≡ value_of a loops' params loaded →
      value_of b loops params (drop (length (loads_in a)) loaded) ≡ value_of b loops' params (drop (length (loads_in a)) loaded) →
      f (value_of a loops params loaded) (value_of b loops params (drop (length (loads_in a)) loaded)) ≡ f (value_of a loops' params loaded) (value_of b loops' params (drop (length (loads_in a)) loaded))
  both_same f a b loaded p q = ap (λ x. f x (value_of b loops params (drop (length (loads_in a)) loaded))) p ∙ ap (f (value_of a loops' params loaded)) q

  mutual
    pub value_same : (e : Expression) (loaded : List ℤ) → is_good_expression scope around e ≡ true → value_of e loops params loaded ≡ value_of e loops' params loaded
    value_same (number n) loaded good = refl
    value_same (loop_value l) loaded good = same l good
    value_same (param p) loaded good = refl
    value_same (load a) loaded good = refl
    value_same (neg a) loaded good = ap (λ x. wrapped (neg_ℤ x)) (value_same a loaded good)
    value_same (add a b) loaded good =
        let g = and_parts (is_good_expression scope around a) (is_good_expression scope around b) good in
        both_same (λ x y. wrapped (x +ℤ y)) a b loaded (value_same a loaded g.0) (value_same b (drop (length (loads_in a)) loaded) g.1)
    value_same (sub a b) loaded good =
        let g = and_parts (is_good_expression scope around a) (is_good_expression scope around b) good in
        both_same (λ x y. wrapped (x -ℤ y)) a b loaded (value_same a loaded g.0) (value_same b (drop (length (loads_in a)) loaded) g.1)
    value_same (mul a b) loaded good =
        let g = and_parts (is_good_expression scope around a) (is_good_expression scope around b) good in
        both_same (λ x y. wrapped (x *ℤ y)) a b loaded (value_same a loaded g.0) (value_same b (drop (length (loads_in a)) loaded) g.1)
    value_same (div a divisor) loaded good =
        let g = and_parts (is_good_expression scope around a && nat_lt 0 (unsigned_abs divisor)) (is_value divisor) good in
        ap (λ x. quotient x divisor) (value_same a loaded (and_parts (is_good_expression scope around a) (nat_lt 0 (unsigned_abs divisor)) g.0).0)
    value_same (least_of no_more) loaded good = refl
    value_same (least_of (one_more e rest)) loaded good =
        let g = and_parts (is_good_expression scope around e) (are_good_expressions scope around rest) good in
        ap (λ x. least (x ∷ values_of rest loops params (drop (length (loads_in e)) loaded))) (value_same e loaded g.0) ∙ ap (λ xs. least (value_of e loops' params loaded ∷ xs)) (values_same rest (drop (length (loads_in e)) loaded) g.1)
    value_same (greatest_of no_more) loaded good = refl
    value_same (greatest_of (one_more e rest)) loaded good =
        let g = and_parts (is_good_expression scope around e) (are_good_expressions scope around rest) good in
        ap (λ x. greatest (x ∷ values_of rest loops params (drop (length (loads_in e)) loaded))) (value_same e loaded g.0) ∙ ap (λ xs. greatest (value_of e loops' params loaded ∷ xs)) (values_same rest (drop (length (loads_in e)) loaded) g.1)

    values_same : (es : Expressions) (loaded : List ℤ) → are_good_expressions scope around es ≡ true → values_of es loops params loaded ≡ values_of es loops' params loaded
    values_same no_more loaded good = refl
    values_same (one_more e rest) loaded good =
        let g = and_parts (is_good_expression scope around e) (are_good_expressions scope around rest) good in
        ap (λ x. x ∷ values_of rest loops params (drop (length (loads_in e)) loaded)) (value_same e loaded g.0) ∙ ap (λ xs. value_of e loops' params loaded ∷ xs) (values_same rest (drop (length (loads_in e)) loaded) g.1)

module _ (scope : Scope) (around : List ℕ) (count : ℕ) (there : (n : ℕ) → list_any (λ k. k == n) around ≡ true → is_number_of count n ≡ true) where
  mutual
    pub good_has_value : (e : Expression) → is_good_expression scope around e ≡ true → has_value count scope.constants e ≡ true
    good_has_value (number n) good = refl
    good_has_value (loop_value l) good = there l good
    good_has_value (param p) good = good
    good_has_value (load a) good = refl
    good_has_value (neg a) good = good_has_value a good
    good_has_value (add a b) good =
        let g = and_parts (is_good_expression scope around a) (is_good_expression scope around b) good in
        and_from (has_value count scope.constants a) (has_value count scope.constants b) (good_has_value a g.0) (good_has_value b g.1)
    good_has_value (sub a b) good =
        let g = and_parts (is_good_expression scope around a) (is_good_expression scope around b) good in
        and_from (has_value count scope.constants a) (has_value count scope.constants b) (good_has_value a g.0) (good_has_value b g.1)
    good_has_value (mul a b) good =
        let g = and_parts (is_good_expression scope around a) (is_good_expression scope around b) good in
        and_from (has_value count scope.constants a) (has_value count scope.constants b) (good_has_value a g.0) (good_has_value b g.1)
    good_has_value (div a divisor) good =
        let g = and_parts (is_good_expression scope around a && nat_lt 0 (unsigned_abs divisor)) (is_value divisor) good in
        let h = and_parts (is_good_expression scope around a) (nat_lt 0 (unsigned_abs divisor)) g.0 in
        and_from (has_value count scope.constants a) (nat_lt 0 (unsigned_abs divisor)) (good_has_value a h.0) h.1
    good_has_value (least_of no_more) good = good
    good_has_value (least_of (one_more e rest)) good =
        let g = and_parts (is_good_expression scope around e) (are_good_expressions scope around rest) good in
        and_from (has_value count scope.constants e) (have_values count scope.constants rest) (good_has_value e g.0) (good_have_values rest g.1)
    good_has_value (greatest_of no_more) good = good
    good_has_value (greatest_of (one_more e rest)) good =
        let g = and_parts (is_good_expression scope around e) (are_good_expressions scope around rest) good in
        and_from (has_value count scope.constants e) (have_values count scope.constants rest) (good_has_value e g.0) (good_have_values rest g.1)

    good_have_values : (es : Expressions) → are_good_expressions scope around es ≡ true → have_values count scope.constants es ≡ true
    good_have_values no_more good = refl
    good_have_values (one_more e rest) good =
        let g = and_parts (is_good_expression scope around e) (are_good_expressions scope around rest) good in
        and_from (has_value count scope.constants e) (have_values count scope.constants rest) (good_has_value e g.0) (good_have_values rest g.1)

-- The first wide end of forms one behind another.
use Rattle.std.proofs.Common.{◌≡◌, ℕ, ℤ, List, [], ◌∷◌, ◌++◌, Option, Some, None, IsTrue, refl, ap, sym, ◌∙◌}
use Rattle.std.specs.Option.{option_or}
use Rattle.std.proofs.lemmas.Bool.{and_parts}
use Rattle.std.proofs.lemmas.Grind.{flat_map-append}
use Rattle.std.proofs.lemmas.List.Folds.{list_all-append}
use Rattle.nest_tree.specs.declared.tree.Access.{Access}
use Rattle.nest_tree.specs.Form.{Form, is_given}
use Rattle.nest_tree.specs.Given.{are_given, are_loads_given}
use Rattle.nest_tree.specs.Intervals.{form_interval}
use Rattle.nest_tree.specs.Limits.{wide_end, wide_forms, wide_loads}
use Rattle.nest_tree.specs.Loads.{subscript_forms}

pub option_or-assoc : {X : Type 0} (a b c : Option X) → option_or (option_or a b) c ≡ option_or a (option_or b c)
option_or-assoc None b c = refl
option_or-assoc (Some x) b c = refl

pub wide_forms-append : (params : List ℤ) (ends : List (ℤ × ℤ)) (xs ys : List Form) → wide_forms params ends (xs ++ ys) ≡ option_or (wide_forms params ends xs) (wide_forms params ends ys)
wide_forms-append params ends [] ys = refl
wide_forms-append params ends (f ∷ xs) ys =
    ap (option_or (wide_end (form_interval f ends params))) (wide_forms-append params ends xs ys) ∙ sym (option_or-assoc (wide_end (form_interval f ends params)) (wide_forms params ends xs) (wide_forms params ends ys))

pub wide_loads-append : (params : List ℤ) (ends : List (ℤ × ℤ)) (xs ys : List Access) → wide_loads params ends (xs ++ ys) ≡ option_or (wide_loads params ends xs) (wide_loads params ends ys)
wide_loads-append params ends xs ys =
    ap (wide_forms params ends) (flat_map-append (λ (a : Access). a.subscripts) xs ys) ∙ wide_forms-append params ends (subscript_forms xs) (subscript_forms ys)

pub given-append : (loops constants : ℕ) (xs ys : List Form) → IsTrue (are_given loops constants (xs ++ ys)) → IsTrue (are_given loops constants xs) × IsTrue (are_given loops constants ys)
given-append loops constants xs ys h =
    and_parts (are_given loops constants xs) (are_given loops constants ys) (sym (list_all-append (λ f. is_given f loops constants) xs ys) ∙ h)

pub loads_given-append : (loops constants : ℕ) (xs ys : List Access) → IsTrue (are_loads_given loops constants (xs ++ ys)) → IsTrue (are_loads_given loops constants xs) × IsTrue (are_loads_given loops constants ys)
loads_given-append loops constants xs ys h =
    given-append loops constants (subscript_forms xs) (subscript_forms ys) (sym (ap (are_given loops constants) (flat_map-append (λ (a : Access). a.subscripts) xs ys)) ∙ h)

-- what is refused first, of two checks one behind the other
pub first_refused : {E : Type 0} (end : E) (a b all : Option E) → Some end ≡ a → all ≡ option_or a b → Some end ≡ all
first_refused end a b all e is = ap (λ o. option_or o b) e ∙ sym is

-- of three checks one behind the other
pub wide_forms-three : (params : List ℤ) (ends : List (ℤ × ℤ)) (xs ys zs : List Form) → None ≡ wide_forms params ends xs →
    wide_forms params ends (xs ++ ys ++ zs) ≡ option_or (wide_forms params ends ys) (wide_forms params ends zs)
wide_forms-three params ends xs ys zs none =
    let wide = wide_forms params ends in
    wide_forms-append params ends (xs ++ ys) zs ∙ ap (λ o. option_or o (wide zs)) (wide_forms-append params ends xs ys ∙ ap (λ o. option_or o (wide ys)) (sym none))

-- What an expression comes to, by what its operands come to.
use Rattle.std.proofs.Common.{◌≡◌, ℤ, negsuc, Bool, true, false, ◌&&◌, ◌||◌, not, List, [], ◌∷◌, ◌++◌, map, if◌then◌else◌, refl, ap, ◌∙◌}
use Rattle.std.proofs.lemmas.Grind.{flat_map-append}
use Rattle.std.proofs.lemmas.List.Folds.{list_any-append}
use Rattle.std.specs.List.{list_all, list_any, flat_map}
use Rattle.nest_tree.specs.Form.{Form, is_small}
use Rattle.f77_forms.specs.declared.form.Sign.{Sign}
use Rattle.f77_forms.specs.declared.form.Sign.TheVariants.{Plus, Minus}
use Rattle.f77_forms.specs.declared.form.Operator.{Operator}
use Rattle.f77_forms.specs.declared.form.Operator.TheVariants.{Add, Subtract, Multiply, Divide}
use Rattle.f77_forms.specs.Form.{ExpressionForm, call, signed, binary, ArgumentForms, no_more, one_more}
use Rattle.f77_scene.specs.Scene.{Name, Scene, is_function, is_open}
use Rattle.f77_scene.specs.Expressions.{parts_of, parts_among, list_of, name_in, is_constant, are_constants, value_of, value_among, sign_value, chosen}
use Rattle.f77_scene.specs.Affine.{plus, times, numbers_of, has_loop, is_affine, form_of, met, taken}
use Rattle.f77_program.specs.declared.linear.Linear.TheVariants.{NotAffine}
use Rattle.f77_program.specs.declared.measure.Measure.{Measure}
use Rattle.f77_program.specs.Functions.{is_minimum}
use Rattle.f77_program.specs.Linear.{past, linear_with, linear_of, negated, added, times_value}
use Rattle.f77_program.specs.Measures.{measure_of, value_linear, chosen_from, chosen_among, call_measure, signed_measure, factors, multiplied, binary_linear, binary_measure}
use Rattle.f77_program.proofs.Limited.{past-append}
use Rattle.f77_program.proofs.Reached.{subscripts-append, subscripts-call, divided-arguments, bad_division}
use Rattle.f77_program.specs.declared.reach.Reach.TheVariants as reaches
use Rattle.f77_program.specs.Reaches.{reach_of}
use Rattle.f77_scene.specs.Tests.{divides_badly, subscripts_in}

abbrev arguments_measure : Scene → ArgumentForms → List Measure
arguments_measure s es = map (measure_of s) (list_of es)

-- ---- loop variables

abbrev any_open : Scene → List ExpressionForm → Bool
any_open s ps = list_any (is_open s) (flat_map (name_in s) ps)

any_open-append : (s : Scene) (ps qs : List ExpressionForm) → any_open s (ps ++ qs) ≡ (any_open s ps || any_open s qs)
any_open-append s ps qs = ap (list_any (is_open s)) (flat_map-append (name_in s) ps qs) ∙ list_any-append (is_open s) (flat_map (name_in s) ps) (flat_map (name_in s) qs)

looped-arguments : (s : Scene) (es : ArgumentForms) → any_open s (parts_among es) ≡ list_any (λ (m : Measure). m.looped) (arguments_measure s es)
looped-arguments s no_more = refl
looped-arguments s (one_more e es) = any_open-append s (parts_of e) (parts_among es) ∙ ap (λ b. has_loop s e || b) (looped-arguments s es)

looped-call : (s : Scene) (n : Name) (es : ArgumentForms) → has_loop s (call n es) ≡ ((not (is_function s n) && is_open s n) || list_any (λ (m : Measure). m.looped) (arguments_measure s es))
looped-call s n es = by_test (is_function s n) refl
  where
    by_open : (b x : Bool) → (b || x) ≡ ((true && b) || x)
    by_open true x = refl
    by_open false x = refl

    by_test : (b : Bool) → is_function s n ≡ b → has_loop s (call n es) ≡ ((not (is_function s n) && is_open s n) || list_any (λ (m : Measure). m.looped) (arguments_measure s es))
    by_test true e = rw e (looped-arguments s es)
    by_test false e = rw e (ap (λ x. is_open s n || x) (looped-arguments s es) ∙ by_open (is_open s n) (list_any (λ (m : Measure). m.looped) (arguments_measure s es)))

-- ---- calls

constant-arguments : (s : Scene) (es : ArgumentForms) → are_constants s es ≡ list_all (λ (m : Measure). m.constant) (arguments_measure s es)
constant-arguments s no_more = refl
constant-arguments s (one_more e es) = ap (λ b. is_constant s e && b) (constant-arguments s es)

value-arguments : (s : Scene) (n : Name) (es : ArgumentForms) (z : ℤ) → value_among s n z es ≡ chosen_from (is_minimum n) z (arguments_measure s es)
value-arguments s n no_more z = refl
value-arguments s n (one_more e es) z = value-arguments s n es (chosen n z (value_of s e))

value-call : (s : Scene) (n : Name) (es : ArgumentForms) → value_of s (call n es) ≡ chosen_among (is_minimum n) (arguments_measure s es)
value-call s n no_more = refl
value-call s n (one_more e es) = value-arguments s n es (value_of s e)

pub measured-call : (s : Scene) (n : Name) (es : ArgumentForms) → measure_of s (call n es) ≡ call_measure s n (arguments_measure s es)
measured-call s n es =
    let ms = arguments_measure s es in
    let constant : is_constant s (call n es) ≡ (is_function s n && list_all (λ (m : Measure). m.constant) ms) = ap (λ b. is_function s n && b) (constant-arguments s es) in
    ap (λ c. record (measure_of s (call n es)) { constant = c; linear = value_linear c (value_of s (call n es)) }) constant
    ∙ ap (λ v. record (measure_of s (call n es)) { constant = is_function s n && list_all (λ (m : Measure). m.constant) ms; value = v; linear = value_linear (is_function s n && list_all (λ (m : Measure). m.constant) ms) v }) (value-call s n es)
    ∙ ap (λ l. record (call_measure s n ms) { looped = l; divided = list_any (divides_badly s) (parts_among es); subscripts = reach_of s (subscripts_in s (call n es)) }) (looped-call s n es)
    ∙ ap (λ d. record (call_measure s n ms) { divided = d; subscripts = reach_of s (subscripts_in s (call n es)) }) (divided-arguments s es) ∙ ap (λ r. record (call_measure s n ms) { subscripts = r }) (subscripts-call s n es)

-- ---- signs

negated-case : (affine : Bool) (xs : List ℤ) (f : Form) → (if affine then linear_with xs (times (negsuc 0) f) else NotAffine) ≡ negated (if affine then linear_with xs f else NotAffine)
negated-case true [] f = refl
negated-case true (z ∷ zs) f = refl
negated-case false xs f = refl

pub measured-signed : (s : Scene) (sign : Sign) (e : ExpressionForm) → measure_of s (signed sign e) ≡ signed_measure sign (measure_of s e)
measured-signed s Plus e = refl
measured-signed s Minus e = ap (λ l. record (measure_of s e) { value = sign_value Minus (value_of s e); linear = l }) (negated-case (is_affine s e) (past (met s e)) (form_of s e))

-- ---- operators

sum-case : (a b : Bool) (xs ys : List ℤ) (f g : Form) → (if a && b then linear_with ((xs ++ ys) ++ past (numbers_of (plus f g))) (plus f g) else NotAffine) ≡ added (if a then linear_with xs f else NotAffine) (if b then linear_with ys g else NotAffine)
sum-case false b [] ys f g = refl
sum-case false b (x ∷ xs) ys f g = refl
sum-case true false [] ys f g = refl
sum-case true false (x ∷ xs) ys f g = refl
sum-case true true [] [] f g = refl
sum-case true true [] (y ∷ ys) f g = refl
sum-case true true (x ∷ xs) [] f g = refl
sum-case true true (x ∷ xs) (y ∷ ys) f g = refl

met-parts : (xs ys zs : List ℤ) → past (xs ++ ys ++ zs) ≡ (past xs ++ past ys) ++ past zs
met-parts xs ys zs = past-append (xs ++ ys) zs ∙ ap (λ ps. ps ++ past zs) (past-append xs ys)

linear-add : (s : Scene) (a b : ExpressionForm) → linear_of s (binary Add a b) ≡ added (linear_of s a) (linear_of s b)
linear-add s a b =
    ap (λ zs. if is_affine s a && is_affine s b then linear_with zs (form_of s (binary Add a b)) else NotAffine) (met-parts (met s a) (met s b) (numbers_of (form_of s (binary Add a b))))
    ∙ sum-case (is_affine s a) (is_affine s b) (past (met s a)) (past (met s b)) (form_of s a) (form_of s b)

linear-subtract : (s : Scene) (a b : ExpressionForm) → linear_of s (binary Subtract a b) ≡ added (linear_of s a) (negated (linear_of s b))
linear-subtract s a b =
    ap (λ zs. if is_affine s a && is_affine s b then linear_with zs (form_of s (binary Subtract a b)) else NotAffine) (met-parts (met s a) (met s b) (numbers_of (form_of s (binary Subtract a b))))
    ∙ sum-case (is_affine s a) (is_affine s b) (past (met s a)) (past (met s b)) (form_of s a) (times (negsuc 0) (form_of s b))
    ∙ ap (added (linear_of s a)) (negated-case (is_affine s b) (past (met s b)) (form_of s b))

taken-case : (z : ℤ) (f : Form) → linear_with (past (z ∷ numbers_of (times z f))) (times z f) ≡ times_value z f
taken-case z f = by_test (is_small z) refl
  where
    by_test : (b : Bool) → is_small z ≡ b → linear_with (past (z ∷ numbers_of (times z f))) (times z f) ≡ times_value z f
    by_test true e = rw e refl
    by_test false e = rw e refl

abbrev factor : ℤ → Bool → Measure
factor v l = record { constant = true; value = v; looped = l; linear = NotAffine; divided = false; subscripts = reaches.Within }

product-case : (a b l k : Bool) (v w : ℤ) (xs ys : List ℤ) (f g : Form)
    → (if a && b && not (l && k) then linear_with ((xs ++ ys) ++ past ((if l then w else v) ∷ numbers_of (if l then times w f else times v g))) (if l then times w f else times v g) else NotAffine)
    ≡ (if l && k then NotAffine else factors (factor v l) (factor w k) (if a then linear_with xs f else NotAffine) (if b then linear_with ys g else NotAffine))
product-case false b true true v w xs ys f g = refl
product-case false b true false v w [] ys f g = refl
product-case false b true false v w (x ∷ xs) ys f g = refl
product-case false b false k v w [] ys f g = refl
product-case false b false k v w (x ∷ xs) ys f g = refl
product-case true false true true v w xs ys f g = refl
product-case true false true false v w [] ys f g = refl
product-case true false true false v w (x ∷ xs) ys f g = refl
product-case true false false k v w [] ys f g = refl
product-case true false false k v w (x ∷ xs) ys f g = refl
product-case true true true true v w xs ys f g = refl
product-case true true true false v w [] [] f g = taken-case w f
product-case true true true false v w [] (y ∷ ys) f g = refl
product-case true true true false v w (x ∷ xs) [] f g = refl
product-case true true true false v w (x ∷ xs) (y ∷ ys) f g = refl
product-case true true false k v w [] [] f g = taken-case v g
product-case true true false k v w [] (y ∷ ys) f g = refl
product-case true true false k v w (x ∷ xs) [] f g = refl
product-case true true false k v w (x ∷ xs) (y ∷ ys) f g = refl

linear-multiply : (s : Scene) (a b : ExpressionForm) → linear_of s (binary Multiply a b) ≡ multiplied (measure_of s a) (measure_of s b)
linear-multiply s a b =
    ap (λ zs. if is_affine s a && is_affine s b && not (has_loop s a && has_loop s b) then linear_with zs (form_of s (binary Multiply a b)) else NotAffine)
    (met-parts (met s a) (met s b) (taken s a b ∷ numbers_of (form_of s (binary Multiply a b))))
    ∙ product-case (is_affine s a) (is_affine s b) (has_loop s a) (has_loop s b) (value_of s a) (value_of s b) (past (met s a)) (past (met s b)) (form_of s a) (form_of s b)

linear-binary : (s : Scene) (op : Operator) (a b : ExpressionForm) → linear_of s (binary op a b) ≡ binary_linear op (measure_of s a) (measure_of s b)
linear-binary s Add a b = linear-add s a b
linear-binary s Subtract a b = linear-subtract s a b
linear-binary s Multiply a b = linear-multiply s a b
linear-binary s Divide a b = refl

pub measured-binary : (s : Scene) (op : Operator) (a b : ExpressionForm) → measure_of s (binary op a b) ≡ binary_measure op (measure_of s a) (measure_of s b)
measured-binary s op a b =
    let whole = measure_of s (binary op a b) in
    let made = binary_measure op (measure_of s a) (measure_of s b) in
    let divided : list_any (divides_badly s) (parts_of (binary op a b)) ≡ made.divided =
    ap (λ d. divides_badly s (binary op a b) || d) (list_any-append (divides_badly s) (parts_of a) (parts_of b)) ∙ ap (λ d. d || (list_any (divides_badly s) (parts_of a) || list_any (divides_badly s) (parts_of b))) (bad_division s op a b) in
    ap (λ l. record whole { looped = l }) (any_open-append s (parts_of a) (parts_of b)) ∙ ap (λ l. record made { linear = l; divided = whole.divided; subscripts = whole.subscripts }) (linear-binary s op a b)
    ∙ ap (λ d. record made { divided = d; subscripts = whole.subscripts }) divided ∙ ap (λ r. record made { subscripts = r }) (subscripts-append s (parts_of a) (parts_of b))

-- Expressions that have to be affine, one after another.
use Rattle.std.proofs.Common.{◌≡◌, ℕ, suc, ◌+◌, ◌<◌, ℤ, Bool, true, false, not, ◌||◌, List, [], ◌∷◌, ◌++◌, length, map, get_or, min, take, drop, if◌then◌else◌, refl, sym, ap, ◌∙◌, arith, add-one}
use Rattle.std.proofs.Math.Seq.{drop-cons}
use Rattle.std.proofs.lemmas.Grind.{flat_map-append}
use Rattle.std.proofs.lemmas.List.{append-nil, length-map, length-append}
use Rattle.std.proofs.lemmas.List.Folds.{list_any-append}
use Rattle.std.specs.List.{list_any, flat_map}
use Rattle.nest_tree.specs.Form.{Form}
use Rattle.f77_forms.specs.declared.form.Operator.{Operator}
use Rattle.f77_forms.specs.declared.form.Operator.TheVariants.{Add, Subtract, Multiply, Divide}
use Rattle.f77_forms.specs.Form.{ExpressionForm, call, binary, ArgumentForms, no_more, one_more}
use Rattle.f77_scene.specs.Expressions.{parts_of, parts_among, list_of}
use Rattle.f77_scene.specs.Scene.{Name, Scene, is_array}
use Rattle.f77_scene.specs.Tests.{divides_badly, subscripts_at, subscripts_in}
use Rattle.f77_scene.specs.Affine.{is_affine, form_of, met}
use Rattle.f77_program.specs.declared.reach.Reach.{Reach}
use Rattle.f77_program.specs.declared.reach.Reach.TheVariants.{NotAffine, Past, Within}
use Rattle.f77_program.specs.declared.linear.Linear.TheVariants as linear
use Rattle.f77_program.specs.declared.measure.Measure.{Measure}
use Rattle.f77_program.specs.Linear.{past, linear_with, linear_of}
use Rattle.f77_program.specs.Measures.{measure_of, linear_reaches, inner_reaches, call_reach, is_bad_division}
use Rattle.f77_program.specs.Reaches.{reach_with, reach_of, also, reach_at}
use Rattle.f77_program.proofs.Limited.{past-append}

pub also-assoc : (a b c : Reach) → also (also a b) c ≡ also a (also b c)
also-assoc NotAffine b c = refl
also-assoc (Past z) NotAffine c = refl
also-assoc (Past z) (Past w) NotAffine = refl
also-assoc (Past z) (Past w) (Past v) = refl
also-assoc (Past z) (Past w) Within = refl
also-assoc (Past z) Within NotAffine = refl
also-assoc (Past z) Within (Past v) = refl
also-assoc (Past z) Within Within = refl
also-assoc Within NotAffine c = refl
also-assoc Within (Past w) NotAffine = refl
also-assoc Within (Past w) (Past v) = refl
also-assoc Within (Past w) Within = refl
also-assoc Within Within NotAffine = refl
also-assoc Within Within (Past v) = refl
also-assoc Within Within Within = refl

pub also-within : (a : Reach) → also a Within ≡ a
also-within NotAffine = refl
also-within (Past z) = refl
also-within Within = refl

pub within-also : (a : Reach) → also Within a ≡ a
within-also NotAffine = refl
within-also (Past z) = refl
within-also Within = refl

also-case : (a b : Bool) (xs ys : List ℤ) → (if a || b then NotAffine else reach_with (xs ++ ys)) ≡ also (if a then NotAffine else reach_with xs) (if b then NotAffine else reach_with ys)
also-case true b xs ys = refl
also-case false true [] ys = refl
also-case false true (x ∷ xs) ys = refl
also-case false false [] [] = refl
also-case false false [] (y ∷ ys) = refl
also-case false false (x ∷ xs) [] = refl
also-case false false (x ∷ xs) (y ∷ ys) = refl

pub reach_of-append : (s : Scene) (es fs : List ExpressionForm) → reach_of s (es ++ fs) ≡ also (reach_of s es) (reach_of s fs)
reach_of-append s es fs =
    ap (λ b. if b then NotAffine else reach_with (past (flat_map (met s) (es ++ fs)))) (list_any-append (λ e. not (is_affine s e)) es fs)
    ∙ ap (λ zs. if list_any (λ e. not (is_affine s e)) es || list_any (λ e. not (is_affine s e)) fs then NotAffine else reach_with zs) (ap past (flat_map-append (met s) es fs) ∙ past-append (flat_map (met s) es) (flat_map (met s) fs))
    ∙ also-case (list_any (λ e. not (is_affine s e)) es) (list_any (λ e. not (is_affine s e)) fs) (past (flat_map (met s) es)) (past (flat_map (met s) fs))

-- ---- loops

pub linear_reaches_step : (ms : List Measure) (i : ℕ) (m : Measure) (r : Reach) → i < length ms → m ≡ get_or ms i m → also (also r (reach_at m.linear)) (linear_reaches (drop (i + 1) ms)) ≡ also r (linear_reaches (drop i ms))
linear_reaches_step ms i m r lt is =
    rw (add-one) (also-assoc r (reach_at m.linear) (linear_reaches (drop (suc i) ms)) ∙ ap (λ x. also r (linear_reaches x)) (ap (λ x. x ∷ drop (suc i) ms) is ∙ sym (drop-cons ms i m lt)))

pub inner_reaches_step : (ms : List Measure) (i : ℕ) (m : Measure) (r : Reach) → i < length ms → m ≡ get_or ms i m → also (also r m.subscripts) (inner_reaches (drop (i + 1) ms)) ≡ also r (inner_reaches (drop i ms))
inner_reaches_step ms i m r lt is =
    rw (add-one) (also-assoc r m.subscripts (inner_reaches (drop (suc i) ms)) ∙ ap (λ x. also r (inner_reaches x)) (ap (λ x. x ∷ drop (suc i) ms) is ∙ sym (drop-cons ms i m lt)))

-- ---- arguments

one-case : (a : Bool) (xs : List ℤ) (f : Form) → (if not a || false then NotAffine else reach_with xs) ≡ reach_at (if a then linear_with xs f else linear.NotAffine)
one-case true [] f = refl
one-case true (x ∷ xs) f = refl
one-case false xs f = refl

pub reach_of-one : (s : Scene) (e : ExpressionForm) → reach_of s (e ∷ []) ≡ reach_at (linear_of s e)
reach_of-one s e =
    ap (λ zs. if not (is_affine s e) || false then NotAffine else reach_with (past zs)) (append-nil (met s e)) ∙ one-case (is_affine s e) (past (met s e)) (form_of s e)

pub linear-arguments : (s : Scene) (es : ArgumentForms) → reach_of s (list_of es) ≡ linear_reaches (map (measure_of s) (list_of es))
linear-arguments s no_more = refl
linear-arguments s (one_more e es) = reach_of-append s (e ∷ []) (list_of es) ∙ ap (λ r. also r (reach_of s (list_of es))) (reach_of-one s e) ∙ ap (also (reach_at (linear_of s e))) (linear-arguments s es)

pub subscripts-append : (s : Scene) (ps qs : List ExpressionForm) → reach_of s (flat_map (subscripts_at s) (ps ++ qs)) ≡ also (reach_of s (flat_map (subscripts_at s) ps)) (reach_of s (flat_map (subscripts_at s) qs))
subscripts-append s ps qs = ap (reach_of s) (flat_map-append (subscripts_at s) ps qs) ∙ reach_of-append s (flat_map (subscripts_at s) ps) (flat_map (subscripts_at s) qs)

inner-arguments : (s : Scene) (es : ArgumentForms) → reach_of s (flat_map (subscripts_at s) (parts_among es)) ≡ inner_reaches (map (measure_of s) (list_of es))
inner-arguments s no_more = refl
inner-arguments s (one_more e es) = subscripts-append s (parts_of e) (parts_among es) ∙ ap (also (reach_of s (subscripts_in s e))) (inner-arguments s es)

pub subscripts-call : (s : Scene) (n : Name) (es : ArgumentForms) → reach_of s (subscripts_in s (call n es)) ≡ call_reach (is_array s n) (map (measure_of s) (list_of es))
subscripts-call s n es = by_test (is_array s n) refl
  where
    inner : List ExpressionForm
    inner = flat_map (subscripts_at s) (parts_among es)

    by_test : (b : Bool) → is_array s n ≡ b → reach_of s (subscripts_in s (call n es)) ≡ call_reach (is_array s n) (map (measure_of s) (list_of es))
    by_test true e =
        ap (λ b. reach_of s ((if b then list_of es else []) ++ inner)) e ∙ reach_of-append s (list_of es) inner ∙ ap (λ r. also r (reach_of s inner)) (linear-arguments s es)
        ∙ ap (also (linear_reaches (map (measure_of s) (list_of es)))) (inner-arguments s es) ∙ ap (λ b. call_reach b (map (measure_of s) (list_of es))) (sym e)
    by_test false e = ap (λ b. reach_of s ((if b then list_of es else []) ++ inner)) e ∙ inner-arguments s es ∙ ap (λ b. call_reach b (map (measure_of s) (list_of es))) (sym e)

pub divided-arguments : (s : Scene) (es : ArgumentForms) → list_any (divides_badly s) (parts_among es) ≡ list_any (λ (m : Measure). m.divided) (map (measure_of s) (list_of es))
divided-arguments s no_more = refl
divided-arguments s (one_more e es) = list_any-append (divides_badly s) (parts_of e) (parts_among es) ∙ ap (λ b. list_any (divides_badly s) (parts_of e) || b) (divided-arguments s es)

pub bad_division : (s : Scene) (op : Operator) (a b : ExpressionForm) → divides_badly s (binary op a b) ≡ is_bad_division op (measure_of s b)
bad_division s Add a b = refl
bad_division s Subtract a b = refl
bad_division s Multiply a b = refl
bad_division s Divide a b = refl

-- ---- lists of expressions

pub linear-list : (s : Scene) (es : List ExpressionForm) → linear_reaches (map (measure_of s) es) ≡ reach_of s es
linear-list s [] = refl
linear-list s (e ∷ es) = sym (reach_of-append s (e ∷ []) es ∙ ap (λ r. also r (reach_of s es)) (reach_of-one s e) ∙ ap (also (reach_at (linear_of s e))) (sym (linear-list s es)))

pub inner-list : (s : Scene) (es : List ExpressionForm) → inner_reaches (map (measure_of s) es) ≡ reach_of s (flat_map (subscripts_in s) es)
inner-list s [] = refl
inner-list s (e ∷ es) = sym (reach_of-append s (subscripts_in s e) (flat_map (subscripts_in s) es) ∙ ap (also (reach_of s (subscripts_in s e))) (sym (inner-list s es)))

take-all : {X Y : Type 0} (f : X → Y) (es fs : List X) → take (length es) (map f (es ++ fs)) ≡ map f es
take-all f [] fs = refl
take-all f (e ∷ es) fs = ap (λ xs. f e ∷ xs) (take-all f es fs)

drop-all : {X Y : Type 0} (f : X → Y) (es fs : List X) → drop (length es) (map f (es ++ fs)) ≡ map f fs
drop-all f [] fs = refl
drop-all f (e ∷ es) fs = drop-all f es fs

-- a list cut behind so many of its first expressions
pub record Cuts (s : Scene) (es fs : List ExpressionForm) (front back : List Measure) : Type 0 where
  pub affine : linear_reaches front ≡ reach_of s es
  pub others : also (linear_reaches front) (inner_reaches back) ≡ reach_of s (es ++ flat_map (subscripts_in s) fs)

pub cut : (s : Scene) (es fs : List ExpressionForm) (ms front back : List Measure) (count k : ℕ) → ms ≡ map (measure_of s) (es ++ fs) → count ≡ length es → k ≡ min count (length ms) → front ≡ take k ms → back ≡ drop k ms → Cuts s es fs front back
cut s es fs ms front back count k whole counted least taken dropped =
    let f = measure_of s in
    let all : length ms ≡ length es + length fs = ap length whole ∙ length-map (es ++ fs) f ∙ length-append es fs in
    let at : k ≡ length es = omega arith in
    let first : front ≡ map f es = taken ∙ ap (λ n. take n ms) at ∙ ap (take (length es)) whole ∙ take-all f es fs in
    let rest : back ≡ map f fs = dropped ∙ ap (λ n. drop n ms) at ∙ ap (drop (length es)) whole ∙ drop-all f es fs in
    let linear : linear_reaches front ≡ reach_of s es = ap linear_reaches first ∙ linear-list s es in
    record {
      affine = linear;
      others = ap (λ r. also r (inner_reaches back)) linear ∙ ap (λ ms. also (reach_of s es) (inner_reaches ms)) rest ∙ ap (also (reach_of s es)) (inner-list s fs) ∙ sym (reach_of-append s es (flat_map (subscripts_in s) fs));
    }

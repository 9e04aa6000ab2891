-- Trees of parts, by the trees of their operands.
use Rattle.std.proofs.Common.{◌≡◌, ℕ, ◌-◌, Bool, true, false, List, [], ◌∷◌, ◌++◌, length, map, reverse, take, drop, get_or, if◌then◌else◌, Result, Ok, Err, OnOk, refl, sym, ap, ◌∙◌, arith}
use Rattle.std.proofs.Math.Seq.{drop-append_seam}
use Rattle.std.proofs.lemmas.List.{take_all, map_push, length-append, length-map, length-reverse, reverse-reverse}
use Rattle.f77_forms.specs.declared.form.Operator.{Operator}
use Rattle.f77_forms.specs.declared.form.Operator.TheVariants.{Add, Subtract, Multiply, Divide}
use Rattle.f77_forms.specs.Form.{ExpressionForm, call, binary, arguments_in}
use Rattle.nest_tree.specs.Form.{Form}
use Rattle.nest_tree.specs.Tree as tree
use Rattle.nest_tree.specs.Tree.{Expression, one_more}
use Rattle.nest_tree.specs.View.{expression_of, expressions_from}
use Rattle.nest_tree.specs.declared.tree.Expr.{Expr}
use Rattle.f77_program.specs.declared.measure.Measure.{Measure}
use Rattle.f77_program.specs.declared.reach.Reach.TheVariants.{Within}
use Rattle.f77_program.specs.Measures.{measure_of}
use Rattle.f77_program.specs.Reaches.{reach_of}
use Rattle.f77_program.proofs.Parted.{listed_arguments}
use Rattle.f77_scene.specs.Affine.{form_of}
use Rattle.f77_scene.specs.Expressions.{list_of, value_of}
use Rattle.f77_scene.specs.Scene.{Name, Scene, is_array, number_among}
use Rattle.f77_scene.specs.Trees.{tree_of, trees_of, chosen_tree}
use Rattle.f77_scene.specs.Tests.{subscripts_at}
use Rattle.f77_source.specs.Forms.{form_at}
use Rattle.f77_source.specs.Grown.{call_tree, binary_tree}
use Rattle.f77_source.proofs.Formed.{forms_within}

pub trees_listed : (variables : List Name) (s : Scene) (es : List ExpressionForm) (xs : List Expr) → map expression_of xs ≡ map (tree_of variables s) es → expressions_from xs ≡ trees_of variables s (arguments_in es)
trees_listed variables s [] [] h = refl
trees_listed variables s [] (x ∷ xs) h = absurd cc
trees_listed variables s (e ∷ es) [] h = absurd cc
trees_listed variables s (e ∷ es) (x ∷ xs) h =
    let first : expression_of x ≡ tree_of variables s e = cc in
    let rest : map expression_of xs ≡ map (tree_of variables s) es = cc in
    ap (λ t. one_more t (expressions_from xs)) first ∙ ap (one_more (tree_of variables s e)) (trees_listed variables s es xs rest)

pub call-tree : (variables : List Name) (s : Scene) (n : Name) (es : List ExpressionForm) (xs : List Expr) → map expression_of xs ≡ map (tree_of variables s) es → (is_array s n ≡ true → reach_of s es ≡ Within)
    → call_tree variables s n xs (map (measure_of s) es) ≡ tree_of variables s (call n (arguments_in es))
call-tree variables s n es xs h within = by_test (is_array s n) refl
  where
    element : List Form → Expression
    element fs = tree.load (record { variable = number_among variables n; subscripts = fs })

    by_test : (b : Bool) → is_array s n ≡ b → call_tree variables s n xs (map (measure_of s) es) ≡ tree_of variables s (call n (arguments_in es))
    by_test true e =
        ap (λ b. if b then element (map form_at (map (measure_of s) es)) else chosen_tree n (expressions_from xs)) e ∙ ap element (forms_within s es (within e)) ∙ ap (λ fs. element (map (form_of s) fs)) (sym (listed_arguments es))
        ∙ sym (ap (λ b. if b then element (map (form_of s) (list_of (arguments_in es))) else chosen_tree n (trees_of variables s (arguments_in es))) e)
    by_test false e =
        ap (λ b. if b then element (map form_at (map (measure_of s) es)) else chosen_tree n (expressions_from xs)) e ∙ ap (chosen_tree n) (trees_listed variables s es xs h)
        ∙ sym (ap (λ b. if b then element (map (form_of s) (list_of (arguments_in es))) else chosen_tree n (trees_of variables s (arguments_in es))) e)

pub binary-tree : (variables : List Name) (s : Scene) (op : Operator) (a b : ExpressionForm) → binary_tree op (tree_of variables s a) (tree_of variables s b) (value_of s b) ≡ tree_of variables s (binary op a b)
binary-tree variables s Add a b = refl
binary-tree variables s Subtract a b = refl
binary-tree variables s Multiply a b = refl
binary-tree variables s Divide a b = refl

-- ---- what the operands come to

at_seam : (front rest : List Measure) (m d : Measure) → get_or (front ++ m ∷ rest) (length front) d ≡ m
at_seam [] rest m d = refl
at_seam (x ∷ front) rest m d = at_seam front rest m d

-- of two operands the second, which lies below the first
pub second_measured : (ms front : List Measure) (a b m : Measure) → ms ≡ front ++ b ∷ a ∷ [] → m ≡ get_or ms (length ms - 2) m → m ≡ b
second_measured ms front a b m h is =
    let at : length ms - 2 ≡ length front = omega (arith, ap length h, length-append front (b ∷ a ∷ [])) in
    is ∙ ap (λ k. get_or ms k m) at ∙ ap (λ xs. get_or xs (length front) m) h ∙ at_seam front (a ∷ []) b m

-- all operands
pub operands_measured : (s : Scene) (ms front : List Measure) (es : List ExpressionForm) (count : ℕ) → ms ≡ front ++ reverse (map (measure_of s) es) → count ≡ length es
    → reverse (take (length ms - (length ms - count)) (drop (length ms - count) ms)) ≡ map (measure_of s) es
operands_measured s ms front es count h counted =
    let top = reverse (map (measure_of s) es) in
    let as_many : length top ≡ length es = length-reverse (map (measure_of s) es) ∙ length-map es (measure_of s) in
    let at : length ms - count ≡ length front = omega (arith, ap length h, length-append front top) in
    let rest : drop (length ms - count) ms ≡ top = ap (λ k. drop k ms) at ∙ ap (drop (length front)) h ∙ drop-append_seam front top in
    let whole : take (length ms - (length ms - count)) top ≡ top = take_all (length ms - (length ms - count)) top (omega (arith, ap length h, length-append front top)) in
    ap (λ xs. reverse (take (length ms - (length ms - count)) xs)) rest ∙ ap reverse whole ∙ reverse-reverse (map (measure_of s) es)

pub call_within : (s : Scene) (n : Name) (es : List ExpressionForm) → reach_of s (subscripts_at s (call n (arguments_in es))) ≡ Within → is_array s n ≡ true → reach_of s es ≡ Within
call_within s n es h e = sym (ap (λ b. reach_of s (if b then list_of (arguments_in es) else [])) e ∙ ap (reach_of s) (listed_arguments es)) ∙ h

-- ---- one tree on top of what is left

pub topped : (front : List Expression) (left new : List Expr) (t : Expr) (u : Expression) → new ≡ left ++ t ∷ [] → map expression_of left ≡ front → expression_of t ≡ u → map expression_of new ≡ front ++ u ∷ []
topped front left new t u pushed rest same = ap (map expression_of) pushed ∙ map_push expression_of left t ∙ ap (λ st. st ++ expression_of t ∷ []) rest ∙ ap (λ x. front ++ x ∷ []) same

pub on_ok : {T E A B : Type 0} (r : Result T E) → OnOk r A → (A → B) → OnOk r B
on_ok (Ok x) h g = g h
on_ok (Err e) h g = tt

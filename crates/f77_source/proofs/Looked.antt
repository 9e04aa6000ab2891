-- A statement's tree looks at named constants, arrays and loops alone.
use Rattle.std.proofs.Common.{◌≡◌, ℕ, ◌+◌, ℤ, true, ◌&&◌, ◌||◌, not, List, [], ◌∷◌, ◌++◌, map, if◌then◌else◌, Option, Some, None, refl, ap, ◌∙◌}
use Rattle.std.specs.List.{flat_map, list_any}
use Rattle.nest_tree.specs.Form.{Form}
use Rattle.nest_tree.specs.Tree as tree
use Rattle.nest_tree.specs.Tree.{Constant, Expression, Head, Printed, Statement}
use Rattle.nest_tree.specs.declared.tree.Access.{Access}
use Rattle.nest_tree.specs.declared.tree.Compare.{Compare}
use Rattle.nest_tree.specs.declared.tree.Guard.{Guard}
use Rattle.f77_forms.specs.declared.form.Operator.TheVariants.{Add, Subtract, Multiply, Divide}
use Rattle.f77_forms.specs.declared.form.Sign.TheVariants.{Minus}
use Rattle.f77_forms.specs.Characters.{decimal}
use Rattle.f77_forms.specs.Form.{ArgumentForms, AssignmentForm, ComparisonForm, DoForm, ExpressionForm, PrintedForm, StatementForm, assign, binary, call, constant, continue, dimension, do_loop, end, integer, logical_if, name, no_more, number, one_more, parameter, parenthesized, print, program, signed, stop, value}
use Rattle.f77_program.specs.Linear.{past}
use Rattle.f77_program.specs.Reaches.{reach_of, reach_with}
use Rattle.f77_program.specs.declared.reach.Reach.TheVariants.{NotAffine}
use Rattle.f77_scene.specs.Affine.{fixed, form_of, has_loop, is_affine, met, numbers_of, plus, sign_times, taken, times}
use Rattle.f77_scene.specs.Expressions.{are_constants, chosen, is_constant, list_of, operator_value, sign_value, value_among, value_of}
use Rattle.f77_scene.specs.Scene.{Array, Name, Open, Scene, is_array, is_function, number_among}
use Rattle.f77_scene.specs.Tests.{affine_in}
use Rattle.f77_scene.specs.Trees.{Body, access, assignment_tree, body_behind, chosen_tree, closed, compare_of, guard_of, head_of, item_tree, sign_tree, statement_tree, step_value, tree_of, trees_of}

abbrev pub looked_at : List Constant → List Array → ℕ → List Open → Scene
looked_at constants arrays loops opened =
    record { count = 0; executes = true; labels = []; names = []; integers = []; constants = constants; arrays = arrays; scalars = []; loop_variables = []; loops = loops; opened = opened }

-- what is known, without what no tree looks at
abbrev pub looked : Scene → Scene
looked s = looked_at s.constants s.arrays s.loops s.opened

-- ---- constants and their values

mutual
  constant-looked : (s : Scene) (e : ExpressionForm) → is_constant s e ≡ is_constant (looked s) e
  constant-looked s (number ds) = refl
  constant-looked s (name n) = refl
  constant-looked s (call n es) = ap (λ b. is_function s n && b) (constants-looked s es)
  constant-looked s (parenthesized e) = constant-looked s e
  constant-looked s (signed sign e) = constant-looked s e
  constant-looked s (binary op a b) = ap (λ x. x && is_constant s b) (constant-looked s a) ∙ ap (λ x. is_constant (looked s) a && x) (constant-looked s b)

  constants-looked : (s : Scene) (es : ArgumentForms) → are_constants s es ≡ are_constants (looked s) es
  constants-looked s no_more = refl
  constants-looked s (one_more e es) = ap (λ x. x && are_constants s es) (constant-looked s e) ∙ ap (λ x. is_constant (looked s) e && x) (constants-looked s es)

mutual
  value-looked : (s : Scene) (e : ExpressionForm) → value_of s e ≡ value_of (looked s) e
  value-looked s (number ds) = refl
  value-looked s (name n) = refl
  value-looked s (call n no_more) = refl
  value-looked s (call n (one_more e es)) = ap (λ z. value_among s n z es) (value-looked s e) ∙ values-looked s n (value_of (looked s) e) es
  value-looked s (parenthesized e) = value-looked s e
  value-looked s (signed sign e) = ap (sign_value sign) (value-looked s e)
  value-looked s (binary op a b) = ap (λ z. operator_value op z (value_of s b)) (value-looked s a) ∙ ap (operator_value op (value_of (looked s) a)) (value-looked s b)

  values-looked : (s : Scene) (n : Name) (z : ℤ) (es : ArgumentForms) → value_among s n z es ≡ value_among (looked s) n z es
  values-looked s n z no_more = refl
  values-looked s n z (one_more e es) = ap (λ v. value_among s n (chosen n z v) es) (value-looked s e) ∙ values-looked s n (chosen n z (value_of (looked s) e)) es

-- ---- affine forms

affine-looked : (s : Scene) (e : ExpressionForm) → is_affine s e ≡ is_affine (looked s) e
affine-looked s (number ds) = refl
affine-looked s (name n) = refl
affine-looked s (call n es) = constant-looked s (call n es)
affine-looked s (parenthesized e) = affine-looked s e
affine-looked s (signed sign e) = affine-looked s e
affine-looked s (binary Add a b) = ap (λ x. x && is_affine s b) (affine-looked s a) ∙ ap (λ x. is_affine (looked s) a && x) (affine-looked s b)
affine-looked s (binary Subtract a b) = ap (λ x. x && is_affine s b) (affine-looked s a) ∙ ap (λ x. is_affine (looked s) a && x) (affine-looked s b)
affine-looked s (binary Multiply a b) =
    ap (λ x. x && is_affine s b && not (has_loop s a && has_loop s b)) (affine-looked s a) ∙ ap (λ x. is_affine (looked s) a && x && not (has_loop s a && has_loop s b)) (affine-looked s b)
affine-looked s (binary Divide a b) = constant-looked s (binary Divide a b)

form-looked : (s : Scene) (e : ExpressionForm) → form_of s e ≡ form_of (looked s) e
form-looked s (number ds) = refl
form-looked s (name n) = refl
form-looked s (call n es) = ap fixed (value-looked s (call n es))
form-looked s (parenthesized e) = form-looked s e
form-looked s (signed sign e) = ap (sign_times sign) (form-looked s e)
form-looked s (binary Add a b) = ap (λ f. plus f (form_of s b)) (form-looked s a) ∙ ap (plus (form_of (looked s) a)) (form-looked s b)
form-looked s (binary Subtract a b) =
    ap (λ f. plus f (sign_times Minus (form_of s b))) (form-looked s a) ∙ ap (λ f. plus (form_of (looked s) a) (sign_times Minus f)) (form-looked s b)
form-looked s (binary Multiply a b) =
    ap (λ z. if has_loop s a then times z (form_of s a) else times (value_of s a) (form_of s b)) (value-looked s b)
    ∙ ap (λ f. if has_loop s a then times (value_of (looked s) b) f else times (value_of s a) (form_of s b)) (form-looked s a)
    ∙ ap (λ z. if has_loop s a then times (value_of (looked s) b) (form_of (looked s) a) else times z (form_of s b)) (value-looked s a)
    ∙ ap (λ f. if has_loop s a then times (value_of (looked s) b) (form_of (looked s) a) else times (value_of (looked s) a) f) (form-looked s b)
form-looked s (binary Divide a b) = ap fixed (value-looked s (binary Divide a b))

forms-looked : (s : Scene) (es : List ExpressionForm) → map (form_of s) es ≡ map (form_of (looked s)) es
forms-looked s [] = refl
forms-looked s (e ∷ es) = ap (λ f. f ∷ map (form_of s) es) (form-looked s e) ∙ ap (λ fs. form_of (looked s) e ∷ fs) (forms-looked s es)

taken-looked : (s : Scene) (a b : ExpressionForm) → taken s a b ≡ taken (looked s) a b
taken-looked s a b = ap (λ z. if has_loop s a then z else value_of s a) (value-looked s b) ∙ ap (λ z. if has_loop s a then value_of (looked s) b else z) (value-looked s a)

met-looked : (s : Scene) (e : ExpressionForm) → met s e ≡ met (looked s) e
met-looked s (number ds) = refl
met-looked s (name n) = refl
met-looked s (call n es) = ap (λ z. z ∷ []) (value-looked s (call n es))
met-looked s (parenthesized e) = met-looked s e
met-looked s (signed sign e) = met-looked s e
met-looked s (binary Add a b) =
    ap (λ x. x ++ met s b ++ numbers_of (form_of s (binary Add a b))) (met-looked s a) ∙ ap (λ x. met (looked s) a ++ x ++ numbers_of (form_of s (binary Add a b))) (met-looked s b)
    ∙ ap (λ f. met (looked s) a ++ met (looked s) b ++ numbers_of f) (form-looked s (binary Add a b))
met-looked s (binary Subtract a b) =
    ap (λ x. x ++ met s b ++ numbers_of (form_of s (binary Subtract a b))) (met-looked s a) ∙ ap (λ x. met (looked s) a ++ x ++ numbers_of (form_of s (binary Subtract a b))) (met-looked s b)
    ∙ ap (λ f. met (looked s) a ++ met (looked s) b ++ numbers_of f) (form-looked s (binary Subtract a b))
met-looked s (binary Multiply a b) =
    ap (λ x. x ++ met s b ++ taken s a b ∷ numbers_of (form_of s (binary Multiply a b))) (met-looked s a)
    ∙ ap (λ x. met (looked s) a ++ x ++ taken s a b ∷ numbers_of (form_of s (binary Multiply a b))) (met-looked s b)
    ∙ ap (λ z. met (looked s) a ++ met (looked s) b ++ z ∷ numbers_of (form_of s (binary Multiply a b))) (taken-looked s a b)
    ∙ ap (λ f. met (looked s) a ++ met (looked s) b ++ taken (looked s) a b ∷ numbers_of f) (form-looked s (binary Multiply a b))
met-looked s (binary Divide a b) = ap (λ z. z ∷ []) (value-looked s (binary Divide a b))

all-affine-looked : (s : Scene) (es : List ExpressionForm) → list_any (λ e. not (is_affine s e)) es ≡ list_any (λ e. not (is_affine (looked s) e)) es
all-affine-looked s [] = refl
all-affine-looked s (e ∷ es) =
    ap (λ b. not b || list_any (λ x. not (is_affine s x)) es) (affine-looked s e) ∙ ap (λ b. not (is_affine (looked s) e) || b) (all-affine-looked s es)

all-met-looked : (s : Scene) (es : List ExpressionForm) → flat_map (met s) es ≡ flat_map (met (looked s)) es
all-met-looked s [] = refl
all-met-looked s (e ∷ es) = ap (λ zs. zs ++ flat_map (met s) es) (met-looked s e) ∙ ap (λ zs. met (looked s) e ++ zs) (all-met-looked s es)

reach-among : (s : Scene) (es : List ExpressionForm) → reach_of s es ≡ reach_of (looked s) es
reach-among s es =
    ap (λ b. if b then NotAffine else reach_with (past (flat_map (met s) es))) (all-affine-looked s es)
    ∙ ap (λ zs. if list_any (λ e. not (is_affine (looked s) e)) es then NotAffine else reach_with (past zs)) (all-met-looked s es)

pub reach-looked : (s : Scene) (f : StatementForm) → reach_of s (affine_in s f) ≡ reach_of (looked s) (affine_in (looked s) f)
reach-looked s f = reach-among s (affine_in s f)

-- ---- trees of expressions

abbrev accessed : List Name → Name → List Form → Access
accessed variables n subscripts = record { variable = number_among variables n; subscripts = subscripts }

access-looked : (variables : List Name) (s : Scene) (n : Name) (es : ArgumentForms) → access variables s n es ≡ access variables (looked s) n es
access-looked variables s n es = ap (accessed variables n) (forms-looked s (list_of es))

mutual
  tree-looked : (variables : List Name) (s : Scene) (e : ExpressionForm) → tree_of variables s e ≡ tree_of variables (looked s) e
  tree-looked variables s (number ds) = refl
  tree-looked variables s (name n) = refl
  tree-looked variables s (call n es) =
      ap (λ a. if is_array s n then tree.load a else chosen_tree n (trees_of variables s es)) (access-looked variables s n es)
      ∙ ap (λ ts. if is_array s n then tree.load (access variables (looked s) n es) else chosen_tree n ts) (trees-looked variables s es)
  tree-looked variables s (parenthesized e) = tree-looked variables s e
  tree-looked variables s (signed sign e) = ap (sign_tree sign) (tree-looked variables s e)
  tree-looked variables s (binary Add a b) = ap (λ x. tree.add x (tree_of variables s b)) (tree-looked variables s a) ∙ ap (tree.add (tree_of variables (looked s) a)) (tree-looked variables s b)
  tree-looked variables s (binary Subtract a b) = ap (λ x. tree.sub x (tree_of variables s b)) (tree-looked variables s a) ∙ ap (tree.sub (tree_of variables (looked s) a)) (tree-looked variables s b)
  tree-looked variables s (binary Multiply a b) = ap (λ x. tree.mul x (tree_of variables s b)) (tree-looked variables s a) ∙ ap (tree.mul (tree_of variables (looked s) a)) (tree-looked variables s b)
  tree-looked variables s (binary Divide a b) = ap (λ x. tree.div x (value_of s b)) (tree-looked variables s a) ∙ ap (tree.div (tree_of variables (looked s) a)) (value-looked s b)

  trees-looked : (variables : List Name) (s : Scene) (es : ArgumentForms) → trees_of variables s es ≡ trees_of variables (looked s) es
  trees-looked variables s no_more = refl
  trees-looked variables s (one_more e es) =
      ap (λ x. tree.one_more x (trees_of variables s es)) (tree-looked variables s e) ∙ ap (tree.one_more (tree_of variables (looked s) e)) (trees-looked variables s es)

-- ---- trees of statements

abbrev assigned : Access → Expression → Option Guard → ℕ → Statement
assigned target a guard line = tree.work (tree.assign (record { target = target; value = a; guard = guard; line = line }))

abbrev compared : Form → Compare → Form → Guard
compared left op right = record { left = left; op = op; right = right }

abbrev printed : List Printed → ℕ → Statement
printed items line = tree.work (tree.print (record { items = items; line = line }))

abbrev headed : ℕ → Form → Form → ℤ → ℕ → Head
headed n m1 m2 step line = record { number = n; m1 = m1; m2 = m2; step = step; line = line }

abbrev begins : ℕ → Body → Head → Body
begins label body head = record { begun = record { label = label; head = head; front = body.items } ∷ body.begun; items = [] }

assignment-looked : (variables : List Name) (s : Scene) (line : ℕ) (guard : Option Guard) (a : AssignmentForm) → assignment_tree variables s line guard a ≡ assignment_tree variables (looked s) line guard a
assignment-looked variables s line guard a =
    ap (λ t. assigned t (tree_of variables s a.value) guard line) (access-looked variables s a.target.name a.target.arguments)
    ∙ ap (λ x. assigned (access variables (looked s) a.target.name a.target.arguments) x guard line) (tree-looked variables s a.value)

guard-looked : (s : Scene) (c : ComparisonForm) → guard_of s c ≡ guard_of (looked s) c
guard-looked s c = ap (λ f. compared f (compare_of c.compare) (form_of s c.right)) (form-looked s c.left) ∙ ap (compared (form_of (looked s) c.left) (compare_of c.compare)) (form-looked s c.right)

item-looked : (variables : List Name) (s : Scene) (item : PrintedForm) → item_tree variables s item ≡ item_tree variables (looked s) item
item-looked variables s (constant characters) = refl
item-looked variables s (value (number ds)) = refl
item-looked variables s (value (name n)) = refl
item-looked variables s (value (call n es)) = ap tree.value (tree-looked variables s (call n es))
item-looked variables s (value (parenthesized e)) = ap tree.value (tree-looked variables s (parenthesized e))
item-looked variables s (value (signed sign e)) = ap tree.value (tree-looked variables s (signed sign e))
item-looked variables s (value (binary op a b)) = ap tree.value (tree-looked variables s (binary op a b))

items-looked : (variables : List Name) (s : Scene) (items : List PrintedForm) → map (item_tree variables s) items ≡ map (item_tree variables (looked s)) items
items-looked variables s [] = refl
items-looked variables s (i ∷ items) = ap (λ x. x ∷ map (item_tree variables s) items) (item-looked variables s i) ∙ ap (λ xs. item_tree variables (looked s) i ∷ xs) (items-looked variables s items)

step-looked : (s : Scene) (step : Option ExpressionForm) → step_value s step ≡ step_value (looked s) step
step-looked s None = refl
step-looked s (Some e) = value-looked s e

head-looked : (s : Scene) (line : ℕ) (d : DoForm) → head_of s line d ≡ head_of (looked s) line d
head-looked s line d =
    ap (λ f. headed (s.loops + 1) f (form_of s d.last) (step_value s d.step) line) (form-looked s d.first) ∙ ap (λ f. headed (s.loops + 1) (form_of (looked s) d.first) f (step_value s d.step) line) (form-looked s d.last)
    ∙ ap (λ z. headed (s.loops + 1) (form_of (looked s) d.first) (form_of (looked s) d.last) z line) (step-looked s d.step)

closes : (label : ℕ) (body : Body) (xs ys : List Statement) → xs ≡ ys → closed label body.begun (body.items ++ xs) ≡ closed label body.begun (body.items ++ ys)
closes label body xs ys e = ap (λ zs. closed label body.begun (body.items ++ zs)) e

pub body-looked : (variables : List Name) (s : Scene) (line label : ℕ) (f : StatementForm) (body : Body) → body_behind variables s line label f body ≡ body_behind variables (looked s) line label f body
body-looked variables s line label (program n) body = refl
body-looked variables s line label (integer ds) body = refl
body-looked variables s line label (dimension ds) body = refl
body-looked variables s line label (parameter ds) body = refl
body-looked variables s line label (do_loop d) body = ap (begins (decimal d.label) body) (head-looked s line d)
body-looked variables s line label (assign a) body =
    closes label body (statement_tree variables s line (assign a)) (statement_tree variables (looked s) line (assign a)) (ap (λ x. x ∷ []) (assignment-looked variables s line None a))
body-looked variables s line label (logical_if c a) body =
    closes label body (statement_tree variables s line (logical_if c a)) (statement_tree variables (looked s) line (logical_if c a))
    (ap (λ g. assignment_tree variables s line (Some g) a ∷ []) (guard-looked s c) ∙ ap (λ x. x ∷ []) (assignment-looked variables s line (Some (guard_of (looked s) c)) a))
body-looked variables s line label (print items) body =
    closes label body (statement_tree variables s line (print items)) (statement_tree variables (looked s) line (print items)) (ap (λ xs. printed xs line ∷ []) (items-looked variables s items))
body-looked variables s line label continue body = refl
body-looked variables s line label stop body = refl
body-looked variables s line label end body = refl

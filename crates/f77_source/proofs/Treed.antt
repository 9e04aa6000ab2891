-- The trees of expressions are good.
use Rattle.std.proofs.Common.{◌≡◌, ℕ, ◌==◌, nat_lt, pos, unsigned_abs, Bool, true, false, not, ◌&&◌, ◌||◌, List, [], ◌∷◌, ◌++◌, length, map, if◌then◌else◌, codes, refl, sym, ap, subst, ◌∙◌}
use Rattle.std.proofs.lemmas.Bool.{and_from, and_parts, and_right, eq-eqb, eqb-true, not-false, not-true, not_from_true, or_from, or_left, or_parts, or_right}
use Rattle.std.proofs.lemmas.List.{length-map}
use Rattle.std.proofs.lemmas.List.Folds.{list_any-append}
use Rattle.std.proofs.lemmas.Grind.{flat_map-append}
use Rattle.std.specs.List.{list_all, list_any, flat_map}
use Rattle.std.specs.Ordering.{int_eq}
use Rattle.std.specs.Str.{bytes_eq}
use Rattle.nest_tree.specs.Tree as tree
use Rattle.nest_tree.specs.Tree.{Constant, Expression, Expressions}
use Rattle.nest_tree.specs.WellFormed.{Scope, is_good_access, is_good_constant, is_good_expression, are_good_expressions, is_number_of, is_value, names_only, rank_of}
use Rattle.f77_forms.specs.declared.form.Operator.{Operator}
use Rattle.f77_forms.specs.declared.form.Operator.TheVariants.{Add, Subtract, Multiply, Divide}
use Rattle.f77_forms.specs.declared.form.Sign.TheVariants.{Plus, Minus}
use Rattle.f77_forms.specs.Characters.{is_name}
use Rattle.f77_forms.specs.Form.{ExpressionForm, number, name, call, parenthesized, signed, binary, ArgumentForms, no_more, one_more}
use Rattle.f77_forms.specs.Text.{Rank, sum, term, is_sum_rank, left_rank, right_rank, makes, is_expression, are_expressions}
use Rattle.f77_program.proofs.Limited.{some_size}
use Rattle.f77_program.proofs.Mapped.{same_itself}
use Rattle.f77_program.specs.declared.reach.Reach.TheVariants.{Within}
use Rattle.f77_program.specs.Reaches.{reach_of}
use Rattle.f77_scene.specs.Affine.{form_of}
use Rattle.f77_scene.specs.Behind.{is_scalar}
use Rattle.f77_scene.specs.Expressions.{parts_of, parts_among, list_of, name_in, is_constant, is_divisor, value_of}
use Rattle.f77_scene.specs.Scene.{Name, Scene, Array, bounds_named, constant_names, is_among, is_array, is_constant_name, is_function, is_open, loop_named, number_among}
use Rattle.f77_scene.specs.Tests.{divides_badly, has_wrong_subscripts, is_bad_rank, is_unknown_call, subscripts_at}
use Rattle.f77_scene.specs.Trees.{access, chosen_tree, name_tree, tree_of, trees_of}
use Rattle.f77_source.proofs.Affined.{all_names-good, are_counted, loop_there, loops_around, number_there}
use Rattle.f77_source.proofs.Formed.{reach_both}
use Rattle.f77_source.proofs.Valued.{expression_value, number_value}

-- ---- what is known of names at a statement

-- the loops round it, the named constants, and the variables with their numbers of dimensions
pub record IsSeen (scope : Scope) (around : List ℕ) (variables : List Name) (s : Scene) : Type 0 where
  pub constants : scope.constants ≡ length s.constants
  pub inside : around ≡ loops_around s
  pub counted : are_counted s.opened ≡ true
  pub values : list_all is_good_constant s.constants ≡ true
  pub many : length scope.ranks ≡ length variables
  pub ranked : (n : Name) → is_among variables n ≡ true → rank_of scope (number_among variables n) ≡ length (bounds_named s.arrays n)

-- those of these names that are arrays or scalars are variables
abbrev pub AreNamed : List Name → Scene → List Name → Type 0
AreNamed variables s names = (n : Name) → is_among names n ≡ true → (is_array s n || is_scalar s n) ≡ true → is_among variables n ≡ true

pub named-front : (variables : List Name) (s : Scene) (ms ns : List Name) → AreNamed variables s (ms ++ ns) → AreNamed variables s ms
named-front variables s ms ns h = λ n t k. h n (list_any-append (λ m. bytes_eq m n) ms ns ∙ or_left (is_among ms n) (is_among ns n) t) k

pub named-behind : (variables : List Name) (s : Scene) (ms ns : List Name) → AreNamed variables s (ms ++ ns) → AreNamed variables s ns
named-behind variables s ms ns h = λ n t k. h n (list_any-append (λ m. bytes_eq m n) ms ns ∙ or_right (is_among ms n) (is_among ns n) t) k

-- ---- parts without fault

pub record AreSound (variables : List Name) (s : Scene) (ps : List ExpressionForm) : Type 0 where
  pub known : list_any (is_unknown_call s) ps ≡ false
  pub ranked : list_any (has_wrong_subscripts s) ps ≡ false
  pub divided : list_any (divides_badly s) ps ≡ false
  pub reached : reach_of s (flat_map (subscripts_at s) ps) ≡ Within
  pub named : AreNamed variables s (flat_map (name_in s) ps)

-- the parts in front, and those behind them
pub sound-parts : (variables : List Name) (s : Scene) (ps qs : List ExpressionForm) → AreSound variables s (ps ++ qs) → AreSound variables s ps × AreSound variables s qs
sound-parts variables s ps qs h =
    let k = or_parts (list_any (is_unknown_call s) ps) (list_any (is_unknown_call s) qs) (sym (list_any-append (is_unknown_call s) ps qs) ∙ h.known) in
    let r = or_parts (list_any (has_wrong_subscripts s) ps) (list_any (has_wrong_subscripts s) qs) (sym (list_any-append (has_wrong_subscripts s) ps qs) ∙ h.ranked) in
    let d = or_parts (list_any (divides_badly s) ps) (list_any (divides_badly s) qs) (sym (list_any-append (divides_badly s) ps qs) ∙ h.divided) in
    let w = reach_both s (flat_map (subscripts_at s) ps) (flat_map (subscripts_at s) qs) (sym (ap (reach_of s) (flat_map-append (subscripts_at s) ps qs)) ∙ h.reached) in
    let ms = flat_map (name_in s) ps in
    let ns = flat_map (name_in s) qs in
    let n : AreNamed variables s (ms ++ ns) = subst (AreNamed variables s) (flat_map-append (name_in s) ps qs) h.named in
    (record { known = k.0; ranked = r.0; divided = d.0; reached = w.0; named = named-front variables s ms ns n }, record { known = k.1; ranked = r.1; divided = d.1; reached = w.1; named = named-behind variables s ms ns n })

-- ---- accesses

-- a name that is no array has no bounds
pub no_bounds : (arrays : List Array) (n : Name) → is_among (map (λ (a : Array). a.name) arrays) n ≡ false → bounds_named arrays n ≡ []
no_bounds [] n h = refl
no_bounds (a ∷ arrays) n h = by_test (bytes_eq a.name n) h (no_bounds arrays n)
  where
    by_test : (b : Bool) → (b || is_among (map (λ (x : Array). x.name) arrays) n) ≡ false → (is_among (map (λ (x : Array). x.name) arrays) n ≡ false → bounds_named arrays n ≡ [])
        → (if b then a.bounds else bounds_named arrays n) ≡ []
    by_test true t rest = absurd cc
    by_test false t rest = rest t

pub forms-good : {scope : Scope} {around : List ℕ} {variables : List Name} {s : Scene} (w : IsSeen scope around variables s) (es : List ExpressionForm) → reach_of s es ≡ Within
    → list_all (names_only scope.constants around) (map (form_of s) es) ≡ true
forms-good {scope} {around} {variables} {s} w es h =
    ap (λ c. list_all (names_only c around) (map (form_of s) es)) w.constants ∙ ap (λ a. list_all (names_only (length s.constants) a) (map (form_of s) es)) w.inside ∙ all_names-good s es h w.counted

pub access-good : {scope : Scope} {around : List ℕ} {variables : List Name} {s : Scene} (w : IsSeen scope around variables s) (n : Name) (arguments : ArgumentForms) → is_among variables n ≡ true
    → length (list_of arguments) ≡ length (bounds_named s.arrays n) → reach_of s (list_of arguments) ≡ Within → is_good_access scope around (access variables s n arguments) ≡ true
access-good {scope} {around} {variables} {s} w n arguments there as_many within =
    let k = number_among variables n in
    let forms = map (form_of s) (list_of arguments) in
    let numbered : is_number_of (length scope.ranks) k ≡ true = ap (λ m. is_number_of m k) w.many ∙ number_there variables n there in
    let same : length forms ≡ rank_of scope k = length-map (list_of arguments) (form_of s) ∙ as_many ∙ sym (w.ranked n there) in
    let ranked : (length forms == rank_of scope k) ≡ true = eq-eqb (length forms) (rank_of scope k) same in
    and_from (is_number_of (length scope.ranks) k && length forms == rank_of scope k) (list_all (names_only scope.constants around) forms)
    (and_from (is_number_of (length scope.ranks) k) (length forms == rank_of scope k) numbered ranked) (forms-good w (list_of arguments) within)

-- an element, with as many subscripts as its array has dimensions
pub element-good : {scope : Scope} {around : List ℕ} {variables : List Name} {s : Scene} (w : IsSeen scope around variables s) (n : Name) (arguments : ArgumentForms) → is_array s n ≡ true → is_bad_rank s n arguments ≡ false
    → is_among variables n ≡ true → reach_of s (list_of arguments) ≡ Within → is_good_access scope around (access variables s n arguments) ≡ true
element-good {scope} {around} {variables} {s} w n arguments a r there within =
    let equal = length (list_of arguments) == length (bounds_named s.arrays n) in
    let same : equal ≡ true = not-false equal (sym (ap (λ b. b && not equal) a) ∙ r) in
    access-good w n arguments there (eqb-true (length (list_of arguments)) (length (bounds_named s.arrays n)) same) within

-- a name that is none of the rest is a scalar
pub scalar-named : (s : Scene) (n : Name) → is_array s n ≡ false → is_constant_name s n ≡ false → is_open s n ≡ false → (is_array s n || is_scalar s n) ≡ true
scalar-named s n a c o = or_right (is_array s n) (is_scalar s n) (ap not (or_from (is_array s n || is_constant_name s n) (is_open s n) (or_from (is_array s n) (is_constant_name s n) a c) o))

pub scalar-good : {scope : Scope} {around : List ℕ} {variables : List Name} {s : Scene} (w : IsSeen scope around variables s) (n : Name) → is_array s n ≡ false → is_among variables n ≡ true
    → is_good_access scope around (access variables s n no_more) ≡ true
scalar-good {scope} {around} {variables} {s} w n a there = access-good w n no_more there (sym (ap length (no_bounds s.arrays n a))) refl

-- ---- names

name-good : {scope : Scope} {around : List ℕ} {variables : List Name} {s : Scene} (w : IsSeen scope around variables s) (n : Name) → is_array s n ≡ false → AreNamed variables s (n ∷ [])
    → is_good_expression scope around (name_tree variables s n) ≡ true
name-good {scope} {around} {variables} {s} w n a h = by_open (is_open s n) refl
  where
    k : ℕ
    k = number_among (constant_names s) n

    by_constant : (b : Bool) → is_constant_name s n ≡ b → is_open s n ≡ false → is_good_expression scope around (if b then tree.param k else tree.load (access variables s n no_more)) ≡ true
    by_constant true e o =
        let many : scope.constants ≡ length (constant_names s) = w.constants ∙ sym (length-map s.constants (λ (c : Constant). c.name)) in
        ap (λ m. is_number_of m k) many ∙ number_there (constant_names s) n e
    by_constant false e o = scalar-good w n a (h n (or_left (bytes_eq n n) false (same_itself n)) (scalar-named s n a e o))

    by_open : (b : Bool) → is_open s n ≡ b
        → is_good_expression scope around (if b then tree.loop_value (loop_named s.opened n) else (if is_constant_name s n then tree.param k else tree.load (access variables s n no_more))) ≡ true
    by_open true o = ap (λ ls. list_any (λ l. l == loop_named s.opened n) ls) w.inside ∙ loop_there s.opened n o
    by_open false o = by_constant (is_constant_name s n) refl o

-- ---- calls

array-named : (s : Scene) (n : Name) (arguments : ArgumentForms) → is_array s n ≡ true → is_among (name_in s (call n arguments)) n ≡ true
array-named s n arguments a = by_function (is_function s n) (and_right (is_among (codes "MIN" ∷ codes "MAX" ∷ []) n) (not (is_array s n)) (not_from_true (is_array s n) a))
  where
    by_function : (b : Bool) → b ≡ false → is_among (if b then [] else n ∷ []) n ≡ true
    by_function true e = absurd cc
    by_function false e = or_left (bytes_eq n n) false (same_itself n)

chosen-good : (scope : Scope) (around : List ℕ) (n : Name) (e : Expression) (rest : Expressions) → is_good_expression scope around e ≡ true → are_good_expressions scope around rest ≡ true
    → is_good_expression scope around (chosen_tree n (tree.one_more e rest)) ≡ true
chosen-good scope around n e rest g h = by_test (bytes_eq n (codes "MIN"))
  where
    by_test : (b : Bool) → is_good_expression scope around (if b then tree.least_of (tree.one_more e rest) else tree.greatest_of (tree.one_more e rest)) ≡ true
    by_test true = and_from (is_good_expression scope around e) (are_good_expressions scope around rest) g h
    by_test false = and_from (is_good_expression scope around e) (are_good_expressions scope around rest) g h

call-good : {scope : Scope} {around : List ℕ} {variables : List Name} {s : Scene} (w : IsSeen scope around variables s) (n : Name) (e : ExpressionForm) (rest : ArgumentForms) → AreSound variables s (call n (one_more e rest) ∷ [])
    → is_good_expression scope around (tree_of variables s e) ≡ true → are_good_expressions scope around (trees_of variables s rest) ≡ true
    → is_good_expression scope around (tree_of variables s (call n (one_more e rest))) ≡ true
call-good {scope} {around} {variables} {s} w n e rest h g k = by_array (is_array s n) refl
  where
    arguments : ArgumentForms
    arguments = one_more e rest

    within : is_array s n ≡ true → reach_of s (list_of arguments) ≡ Within
    within a = (reach_both s (list_of arguments) [] (sym (ap (λ b. reach_of s ((if b then list_of arguments else []) ++ [])) a) ∙ h.reached)).0

    named : is_array s n ≡ true → is_among variables n ≡ true
    named a = named-front variables s (name_in s (call n arguments)) [] h.named n (array-named s n arguments a) (or_left (is_array s n) (is_scalar s n) a)

    by_array : (b : Bool) → is_array s n ≡ b
        → is_good_expression scope around (if b then tree.load (access variables s n arguments) else chosen_tree n (tree.one_more (tree_of variables s e) (trees_of variables s rest))) ≡ true
    by_array true a = element-good w n arguments a (or_parts (is_bad_rank s n arguments) false h.ranked).0 (named a) (within a)
    by_array false a = chosen-good scope around n (tree_of variables s e) (trees_of variables s rest) g k

-- ---- operators

divisor-good : (scope : Scope) (around : List ℕ) (s : Scene) (a b : ExpressionForm) (t : Expression) → is_good_expression scope around t ≡ true → divides_badly s (binary Divide a b) ≡ false → is_value (value_of s b) ≡ true
    → is_good_expression scope around (tree.div t (value_of s b)) ≡ true
divisor-good scope around s a b t g d v =
    let divisor = not-false (is_divisor s b) d in
    let other = not-true (int_eq (value_of s b) (pos 0)) (and_parts (is_constant s b) (not (int_eq (value_of s b) (pos 0))) divisor).1 in
    let size = nat_lt 0 (unsigned_abs (value_of s b)) in
    and_from (is_good_expression scope around t && size) (is_value (value_of s b)) (and_from (is_good_expression scope around t) size g (some_size (value_of s b) other)) v

binary-good : (scope : Scope) (around : List ℕ) (variables : List Name) (s : Scene) (op : Operator) (a b : ExpressionForm) → is_good_expression scope around (tree_of variables s a) ≡ true
    → is_good_expression scope around (tree_of variables s b) ≡ true → divides_badly s (binary op a b) ≡ false → is_value (value_of s b) ≡ true → is_good_expression scope around (tree_of variables s (binary op a b)) ≡ true
binary-good scope around variables s Add a b g h d v = and_from (is_good_expression scope around (tree_of variables s a)) (is_good_expression scope around (tree_of variables s b)) g h
binary-good scope around variables s Subtract a b g h d v = and_from (is_good_expression scope around (tree_of variables s a)) (is_good_expression scope around (tree_of variables s b)) g h
binary-good scope around variables s Multiply a b g h d v = and_from (is_good_expression scope around (tree_of variables s a)) (is_good_expression scope around (tree_of variables s b)) g h
binary-good scope around variables s Divide a b g h d v = divisor-good scope around s a b (tree_of variables s a) g d v

-- ---- expressions

mutual
  pub tree-good : {scope : Scope} {around : List ℕ} {variables : List Name} {s : Scene} (w : IsSeen scope around variables s) (r : Rank) (e : ExpressionForm) → is_expression r e ≡ true → AreSound variables s (parts_of e)
      → is_good_expression scope around (tree_of variables s e) ≡ true
  tree-good w r (number ds) g h = number_value ds g
  tree-good {scope} {around} {variables} {s} w r (name n) g h = name-good w n (or_parts (is_array s n) false h.ranked).0 h.named
  tree-good w r (call n no_more) g h = absurd (let none = (and_parts (is_name n) false (and_parts (is_name n && false) true g).0).1 in cc)
  tree-good {scope} {around} {variables} {s} w r (call n (one_more e rest)) g h =
      let both = sound-parts variables s (call n (one_more e rest) ∷ []) (parts_of e ++ parts_among rest) h in
      let parts = sound-parts variables s (parts_of e) (parts_among rest) both.1 in
      let good = and_parts (is_expression sum e) (are_expressions rest) (and_parts (is_name n && true) (is_expression sum e && are_expressions rest) g).1 in
      call-good w n e rest both.0 (tree-good w sum e good.0 parts.0) (trees-good w rest good.1 parts.1)
  tree-good {scope} {around} {variables} {s} w r (parenthesized e) g h = tree-good w sum e g (sound-parts variables s (parenthesized e ∷ []) (parts_of e) h).1
  tree-good {scope} {around} {variables} {s} w r (signed Plus e) g h = tree-good w term e (and_parts (is_sum_rank r) (is_expression term e) g).1 (sound-parts variables s (signed Plus e ∷ []) (parts_of e) h).1
  tree-good {scope} {around} {variables} {s} w r (signed Minus e) g h = tree-good w term e (and_parts (is_sum_rank r) (is_expression term e) g).1 (sound-parts variables s (signed Minus e ∷ []) (parts_of e) h).1
  tree-good {scope} {around} {variables} {s} w r (binary op a b) g h =
      let good = and_parts (makes r op && is_expression (left_rank op) a) (is_expression (right_rank op) b) g in
      let left = (and_parts (makes r op) (is_expression (left_rank op) a) good.0).1 in
      let both = sound-parts variables s (binary op a b ∷ []) (parts_of a ++ parts_of b) h in
      let parts = sound-parts variables s (parts_of a) (parts_of b) both.1 in
      let divided = (or_parts (divides_badly s (binary op a b)) false both.0.divided).0 in
      binary-good scope around variables s op a b (tree-good w (left_rank op) a left parts.0) (tree-good w (right_rank op) b good.1 parts.1) divided (expression_value s (right_rank op) b good.1 w.values)

  trees-good : {scope : Scope} {around : List ℕ} {variables : List Name} {s : Scene} (w : IsSeen scope around variables s) (es : ArgumentForms) → are_expressions es ≡ true → AreSound variables s (parts_among es)
      → are_good_expressions scope around (trees_of variables s es) ≡ true
  trees-good w no_more g h = refl
  trees-good {scope} {around} {variables} {s} w (one_more e rest) g h =
      let good = and_parts (is_expression sum e) (are_expressions rest) g in
      let parts = sound-parts variables s (parts_of e) (parts_among rest) h in
      and_from (is_good_expression scope around (tree_of variables s e)) (are_good_expressions scope around (trees_of variables s rest)) (tree-good w sum e good.0 parts.0) (trees-good w rest good.1 parts.1)

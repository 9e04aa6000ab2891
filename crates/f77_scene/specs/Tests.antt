-- The tests of a statement that has a form, one for each fault but those of limits.
use Rattle.std.specs.Prelude.{ℕ, ◌==◌, nat_lt, nat_le, pos, Bool, true, false, ◌&&◌, ◌||◌, not, if◌then◌else◌, List, [], ◌∷◌, ◌++◌, length, map, flat_map}
use Rattle.std.specs.List.{list_any}
use Rattle.std.specs.Ordering.{int_eq}
use Rattle.f77_forms.specs.declared.form.Operator.TheVariants.{Divide}
use Rattle.f77_forms.specs.Form.{ExpressionForm, name, call, binary, ArgumentForms, no_more, one_more, TargetForm, DefinitionForm, DoForm, StatementForm, program, integer, dimension, parameter, do_loop, assign, logical_if, print, continue, stop, end}
use Rattle.f77_scene.specs.Scene.{Name, Given, Scene, Open, is_among, comes_again, constant_names, is_constant_name, array_names, is_array, bounds_named, is_function, is_open}
use Rattle.f77_scene.specs.Expressions.{parts_of, list_of, is_constant, value_of, is_divisor}
use Rattle.f77_scene.specs.Affine.{is_affine}
use Rattle.f77_scene.specs.Statements.{Spot, optional, declarator_names, bounded, expressions_in, spots_in, names_of, declarators_in, integers_in, definitions_in, targets_in, loops_in}

-- what holds of a part of an expression somewhere in a statement
abbrev pub somewhere : (Scene → ExpressionForm → Bool) → List Spot → Bool
somewhere test spots = list_any (λ (spot : Spot). list_any (test spot.0) (parts_of spot.1)) spots

-- ---- F1: order, and MIN or MAX of one argument

abbrev pub is_empty : {A : Type 0} → List A → Bool
is_empty [] = true
is_empty (x ∷ xs) = false

-- a statement in its place, with so many statements behind it: PROGRAM first, then declarations, then executable statements; STOP directly before END and outside all loops
abbrev pub is_in_order : Scene → ℕ → StatementForm → Bool
is_in_order s behind (program n) = s.count == 0
is_in_order s behind (integer ds) = not s.executes
is_in_order s behind (dimension ds) = not s.executes
is_in_order s behind (parameter ds) = not s.executes
is_in_order s behind (do_loop d) = true
is_in_order s behind (assign a) = true
is_in_order s behind (logical_if c a) = true
is_in_order s behind (print items) = true
is_in_order s behind continue = true
is_in_order s behind stop = behind == 1 && is_empty s.opened
is_in_order s behind end = behind == 0

abbrev pub is_lone_call : Scene → ExpressionForm → Bool
is_lone_call s (call n (one_more e no_more)) = is_function s n
is_lone_call s e = false

abbrev pub has_bad_syntax : Given → Scene → ℕ → StatementForm → Bool
has_bad_syntax given s behind f =
    not (is_in_order s behind f) || somewhere is_lone_call (spots_in given s f)

-- ---- F4: names that are not what they are used as

abbrev pub is_unknown_call : Scene → ExpressionForm → Bool
is_unknown_call s (call n arguments) = not (is_array s n) && not (is_function s n)
is_unknown_call s e = false

-- a target that is a named constant, or has parentheses and is no array
abbrev pub is_bad_target : Scene → TargetForm → Bool
is_bad_target s t = is_constant_name s t.name
    || (nat_lt 0 (length (list_of t.arguments)) && not (is_array s t.name))

-- a declaration's expressions are constants
abbrev pub is_declaration : StatementForm → Bool
is_declaration (integer ds) = true
is_declaration (dimension ds) = true
is_declaration (parameter ds) = true
is_declaration f = false

-- a name comes twice in INTEGER statements, or has two declarators, two values, or a declarator and a value
abbrev pub declares_again : Scene → StatementForm → Bool
declares_again s f =
    comes_again s.integers (integers_in f) || comes_again (array_names s ++ constant_names s)
    (declarator_names (bounded (declarators_in f)))
    || comes_again (array_names s ++ constant_names s)
    (map (λ (d : DefinitionForm). d.name) (definitions_in f))

abbrev pub has_unknown : Given → Scene → StatementForm → Bool
has_unknown given s f =
    somewhere is_unknown_call (spots_in given s f) || list_any (is_bad_target s) (targets_in f)
    || (is_declaration f && list_any (λ (spot : Spot). not (is_constant spot.0 spot.1))
    (spots_in given s f)) || declares_again s f

-- ---- F3: variables that are not INTEGER

-- a name begins with I to N
abbrev pub begins_i_to_n : Name → Bool
begins_i_to_n [] = false
begins_i_to_n (c ∷ cs) = nat_le 73 c && nat_le c 78

abbrev pub has_other_type : Given → Scene → StatementForm → Bool
has_other_type given s f =
    list_any (λ n. not (begins_i_to_n n || is_among given.integers n)) (names_of s f)

-- ---- F10: DO variables

-- the variable of a loop that is not round this place
abbrev pub is_read_outside : Scene → ExpressionForm → Bool
is_read_outside s (name n) = is_among s.loop_variables n && not (is_open s n)
is_read_outside s e = false

-- this name
abbrev pub is_named : Name → ExpressionForm → Bool
is_named n (name m) = is_among (m ∷ []) n
is_named n e = false

-- the variable of this DO statement is an array, a named constant or a scalar, is in use in a loop round it, or is read in its bounds or its step
abbrev pub is_bad_loop : Scene → DoForm → Bool
is_bad_loop s d =
    is_array s d.variable || is_constant_name s d.variable || is_among s.scalars d.variable
    || is_open s d.variable
    || list_any (λ e. list_any (is_named d.variable) (parts_of e))
    (d.first ∷ d.last ∷ optional d.step)

abbrev pub misuses_loop_variable : Given → Scene → StatementForm → Bool
misuses_loop_variable given s f =
    list_any (λ (t : TargetForm). is_among s.loop_variables t.name) (targets_in f)
    || somewhere is_read_outside (spots_in given s f) || list_any (is_bad_loop s) (loops_in f)

-- ---- F5: subscripts

-- an array with so many subscripts
abbrev pub is_bad_rank : Scene → Name → ArgumentForms → Bool
is_bad_rank s n arguments =
    is_array s n && not (length (list_of arguments) == length (bounds_named s.arrays n))

abbrev pub has_wrong_subscripts : Scene → ExpressionForm → Bool
has_wrong_subscripts s (name n) = is_array s n
has_wrong_subscripts s (call n arguments) = is_bad_rank s n arguments
has_wrong_subscripts s e = false

abbrev pub has_bad_rank : Given → Scene → StatementForm → Bool
has_bad_rank given s f = list_any (λ (t : TargetForm). is_bad_rank s t.name t.arguments)
    (targets_in f) || somewhere has_wrong_subscripts (spots_in given s f)

-- ---- F8: divisors

abbrev pub divides_badly : Scene → ExpressionForm → Bool
divides_badly s (binary Divide a b) = not (is_divisor s b)
divides_badly s e = false

abbrev pub has_bad_divisor : Given → Scene → StatementForm → Bool
has_bad_divisor given s f = somewhere divides_badly (spots_in given s f)

-- ---- F6 and F7: subscripts, bounds, comparisons and steps

-- the subscripts of a part that is an element of an array
abbrev pub subscripts_at : Scene → ExpressionForm → List ExpressionForm
subscripts_at s (call n arguments) = if is_array s n then list_of arguments else []
subscripts_at s part = []

-- the subscripts in an expression
abbrev pub subscripts_in : Scene → ExpressionForm → List ExpressionForm
subscripts_in s e = flat_map (subscripts_at s) (parts_of e)

-- the expressions of a statement that have to be affine, in the order of the text: DO bounds, the sides of a comparison, and subscripts
abbrev pub affine_in : Scene → StatementForm → List ExpressionForm
affine_in s (do_loop d) = d.first ∷ d.last ∷ []
affine_in s (assign a) = list_of a.target.arguments ++ subscripts_in s a.value
affine_in s (logical_if c a) =
    c.left ∷ c.right ∷ list_of a.target.arguments ++ subscripts_in s a.value
affine_in s (print items) = flat_map (subscripts_in s) (expressions_in s (print items))
affine_in s f = []

abbrev pub steps_in : StatementForm → List ExpressionForm
steps_in f = flat_map (λ (d : DoForm). optional d.step) (loops_in f)

abbrev pub is_not_affine : Scene → StatementForm → Bool
is_not_affine s f = list_any (λ e. not (is_affine s e)) (affine_in s f)
    || list_any (λ e. not (is_constant s e)) (steps_in f)

abbrev pub has_zero_step : Scene → StatementForm → Bool
has_zero_step s f = list_any (λ e. int_eq (value_of s e) (pos 0)) (steps_in f)

-- ---- F9: labels

-- a statement that a loop may end with
abbrev pub is_terminal : StatementForm → Bool
is_terminal (assign a) = true
is_terminal (logical_if c a) = true
is_terminal (print items) = true
is_terminal continue = true
is_terminal f = false

abbrev pub is_end : StatementForm → Bool
is_end end = true
is_end f = false

abbrev pub ends_a_loop : ℕ → List Open → Bool
ends_a_loop label opened = list_any (λ (o : Open). o.label == label) opened

-- the loops that stay open behind a statement with this label
abbrev pub left_open : ℕ → List Open → List Open
left_open label [] = []
left_open label (o ∷ opened) = if o.label == label then left_open label opened else o ∷ opened

abbrev pub has_bad_label : Scene → ℕ → StatementForm → Bool
has_bad_label s label f =
    (nat_lt 0 label && list_any (λ l. l == label) s.labels)
    || (ends_a_loop label s.opened && not (is_terminal f))
    || ends_a_loop label (left_open label s.opened)
    || (is_end f && not (is_empty s.opened))

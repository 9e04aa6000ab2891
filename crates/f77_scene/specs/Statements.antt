-- What stands in a statement: its names, its expressions and its declarators.
use Rattle.std.specs.Prelude.{ℤ, Bool, false, not, if◌then◌else◌, List, [], ◌∷◌, ◌++◌, length, map, filter, flat_map, Option, Some, None, nat_lt}
use Rattle.std.specs.Str.{bytes_eq}
use Rattle.f77_forms.specs.Form.{ExpressionForm, number, name, call, parenthesized, signed, binary, BoundForm, DeclaratorForm, DefinitionForm, TargetForm, AssignmentForm, DoForm, PrintedForm, value, constant, StatementForm, program, integer, dimension, parameter, do_loop, assign, logical_if, print, continue, stop, end}
use Rattle.f77_scene.specs.Scene.{Name, Scene, Given, is_array}
use Rattle.f77_scene.specs.Expressions.{list_of, names_in, value_of}

-- ---- declarations

abbrev pub optional : Option ExpressionForm → List ExpressionForm
optional None = []
optional (Some e) = e ∷ []

abbrev pub bound_expressions : List BoundForm → List ExpressionForm
bound_expressions bounds = flat_map (λ (b : BoundForm). optional b.lower ++ b.upper ∷ []) bounds

abbrev pub declarator_names : List DeclaratorForm → List Name
declarator_names ds = map (λ (d : DeclaratorForm). d.name) ds

-- those that declare an array
abbrev pub bounded : List DeclaratorForm → List DeclaratorForm
bounded ds = filter (λ (d : DeclaratorForm). nat_lt 0 (length d.bounds)) ds

-- the value that a name gets: the last setting's of that name, or the one that is written
abbrev pub value_set : List (Name × ℤ) → Name → ℤ → ℤ
value_set [] n written = written
value_set ((m, z) ∷ settings) n written = value_set settings n (if bytes_eq m n then z else written)

-- a scene with one more named constant
abbrev pub with_constant : Given → Scene → DefinitionForm → Scene
with_constant given s d =
    record s {
      constants = s.constants ++ record {
        name = d.name;
        value = value_set given.settings d.name (value_of s d.value);
      } ∷ [];
    }

abbrev pub with_constants : Given → Scene → List DefinitionForm → Scene
with_constants given s [] = s
with_constants given s (d ∷ ds) = with_constants given (with_constant given s d) ds

-- an expression with what is known in front of it
abbrev pub Spot : Type 0
Spot = Scene × ExpressionForm

-- the values of a PARAMETER statement; each may use the names in front of it
abbrev pub definition_spots : Given → Scene → List DefinitionForm → List Spot
definition_spots given s [] = []
definition_spots given s (d ∷ ds) =
    (s, d.value) ∷ definition_spots given (with_constant given s d) ds

-- ---- all statements

-- an item that is the name of a whole array
abbrev pub is_whole : Scene → ExpressionForm → Bool
is_whole s (number ds) = false
is_whole s (name n) = is_array s n
is_whole s (call n arguments) = false
is_whole s (parenthesized e) = false
is_whole s (signed sign e) = false
is_whole s (binary op a b) = false

abbrev pub item_expressions : PrintedForm → List ExpressionForm
item_expressions (value e) = e ∷ []
item_expressions (constant characters) = []

abbrev pub assignment_expressions : AssignmentForm → List ExpressionForm
assignment_expressions a = list_of a.target.arguments ++ a.value ∷ []

-- the expressions of a statement in the order of the text; a whole array among the items of a PRINT is none
abbrev pub expressions_in : Scene → StatementForm → List ExpressionForm
expressions_in s (program n) = []
expressions_in s (integer ds) = flat_map (λ (d : DeclaratorForm). bound_expressions d.bounds) ds
expressions_in s (dimension ds) = flat_map (λ (d : DeclaratorForm). bound_expressions d.bounds) ds
expressions_in s (parameter ds) = map (λ (d : DefinitionForm). d.value) ds
expressions_in s (do_loop d) = d.first ∷ d.last ∷ optional d.step
expressions_in s (assign a) = assignment_expressions a
expressions_in s (logical_if c a) = c.left ∷ c.right ∷ assignment_expressions a
expressions_in s (print items) = filter (λ e. not (is_whole s e)) (flat_map item_expressions items)
expressions_in s continue = []
expressions_in s stop = []
expressions_in s end = []

-- the same, each with what is known in front of it
abbrev pub spots_in : Given → Scene → StatementForm → List Spot
spots_in given s (parameter ds) = definition_spots given s ds
spots_in given s f = map (λ e. (s, e)) (expressions_in s f)

abbrev pub names_among : Scene → List ExpressionForm → List Name
names_among s es = flat_map (names_in s) es

-- the names of variables and constants in a statement, in the order of the text; the name of a program is none of them
abbrev pub names_of : Scene → StatementForm → List Name
names_of s (program n) = []
names_of s (integer ds) =
    flat_map (λ (d : DeclaratorForm). d.name ∷ names_among s (bound_expressions d.bounds)) ds
names_of s (dimension ds) =
    flat_map (λ (d : DeclaratorForm). d.name ∷ names_among s (bound_expressions d.bounds)) ds
names_of s (parameter ds) = flat_map (λ (d : DefinitionForm). d.name ∷ names_in s d.value) ds
names_of s (do_loop d) = d.variable ∷ names_among s (d.first ∷ d.last ∷ optional d.step)
names_of s (assign a) = a.target.name ∷ names_among s (assignment_expressions a)
names_of s (logical_if c a) = names_among s (c.left ∷ c.right ∷ [])
    ++ a.target.name ∷ names_among s (assignment_expressions a)
names_of s (print items) = names_among s (flat_map item_expressions items)
names_of s continue = []
names_of s stop = []
names_of s end = []

-- the declarators of a declaration
abbrev pub declarators_in : StatementForm → List DeclaratorForm
declarators_in (integer ds) = ds
declarators_in (dimension ds) = ds
declarators_in f = []

-- the names that an INTEGER statement declares
abbrev pub integers_in : StatementForm → List Name
integers_in (integer ds) = declarator_names ds
integers_in f = []

-- the definitions of a PARAMETER statement
abbrev pub definitions_in : StatementForm → List DefinitionForm
definitions_in (parameter ds) = ds
definitions_in f = []

-- the assignment in a statement: of a logical IF the one behind it
abbrev pub targets_in : StatementForm → List TargetForm
targets_in (assign a) = a.target ∷ []
targets_in (logical_if c a) = a.target ∷ []
targets_in f = []

abbrev pub loops_in : StatementForm → List DoForm
loops_in (do_loop d) = d ∷ []
loops_in f = []

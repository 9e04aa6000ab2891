-- The last test: limits of a statement, with the number that passes one.
use Rattle.std.specs.Prelude.{ℕ, ◌+◌, nat_lt, ℤ, pos, ◌+ℤ◌, ◌-ℤ◌, int_lt, not, if◌then◌else◌, List, [], ◌∷◌, ◌++◌, length, map, filter, flat_map, Option, Some, None}
use Rattle.nest_tree.specs.Form.{is_small}
use Rattle.nest_tree.specs.WellFormed.{most_statements}
use Rattle.f77_forms.specs.Form.{ExpressionForm, BoundForm, DeclaratorForm, DoForm, StatementForm}
use Rattle.f77_scene.specs.Scene.{Scene}
use Rattle.f77_scene.specs.Expressions.{value_of}
use Rattle.f77_scene.specs.Affine.{met}
use Rattle.f77_scene.specs.Statements.{declarators_in, loops_in}
use Rattle.f77_scene.specs.Tests.{affine_in, steps_in}

-- of numbers those past plus or minus 2147483647
abbrev pub past : List ℤ → List ℤ
past zs = filter (λ z. not (is_small z)) zs

-- a count that is past its limit
abbrev pub counted : ℕ → ℕ → List ℤ
counted most count = if nat_lt most count then pos count ∷ [] else []

-- a lower bound that is left out is 1
abbrev pub lower_value : Scene → Option ExpressionForm → ℤ
lower_value s None = pos 1
lower_value s (Some e) = value_of s e

abbrev pub bounds_of : Scene → BoundForm → ℤ × ℤ
bounds_of s b = (lower_value s b.lower, value_of s b.upper)

-- an array has one element at least along each dimension
abbrev pub extent_past : ℤ × ℤ → List ℤ
extent_past (low, high) = if int_lt high low then (high -ℤ low +ℤ pos 1) ∷ [] else []

abbrev pub bounds_past : Scene → BoundForm → List ℤ
bounds_past s b = past ((bounds_of s b).0 ∷ (bounds_of s b).1 ∷ []) ++ extent_past (bounds_of s b)

-- at most three dimensions
abbrev pub declarator_past : Scene → DeclaratorForm → List ℤ
declarator_past s d = counted 3 (length d.bounds) ++ flat_map (bounds_past s) d.bounds

-- what passes a limit in a statement, in the order of the text: the number of statements, declarators, nested loops, the numbers met in forms, and steps
abbrev pub limits_past : Scene → StatementForm → List ℤ
limits_past s f =
    counted most_statements (s.count + 1) ++ flat_map (declarator_past s) (declarators_in f)
    ++ flat_map (λ (d : DoForm). counted 6 (length s.opened + 1)) (loops_in f)
    ++ past (flat_map (met s) (affine_in s f)) ++ past (map (value_of s) (steps_in f))

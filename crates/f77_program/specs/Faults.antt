-- The first fault of a statement, by what its tests and its expressions come to.
use Rattle.std.specs.Prelude.{ℕ, ◌+◌, ◌<◌, ◌^◌, ◌++◌, ℤ, pos, Bool, true, false, ◌&&◌, ◌||◌, not, List, [], ◌∷◌, Option, Some, None}
use Rattle.std.specs.List.{list_any}
use Rattle.std.specs.Ordering.{int_eq}
use Rattle.f77_scene.specs.Fault.{Fault, syntax, unknown, not_integer, loop_variable, rank, bad_divisor, not_affine, zero_step, do_label}
use Rattle.f77_program.specs.declared.measure.Measure.{Measure}
use Rattle.f77_program.specs.declared.reach.Reach.{Reach}
use Rattle.f77_program.specs.declared.reach.Reach.TheVariants.{NotAffine, Past, Within}
use Rattle.f77_program.specs.declared.tested.Tested.{Tested}
use Rattle.f77_scene.specs.Limits.{counted}
use Rattle.f77_program.specs.Linear.{past}
use Rattle.f77_program.specs.Surveys.{SurveyOf}

abbrev pub has_unknown : Bool → Tested → SurveyOf → Bool
has_unknown declares t v = v.marks.unknown_call || t.bad_target
    || (declares && list_any (λ (m : Measure). not m.constant) v.measures) || t.again

abbrev pub named_tests : Bool → Tested → SurveyOf → List (Bool × Fault)
named_tests declares t v =
    (t.misplaced || v.marks.lone_call, syntax) ∷ (has_unknown declares t v, unknown)
    ∷ (t.other_type, not_integer)
    ∷ (t.stores_to_loop || v.marks.read_outside || t.bad_loop, loop_variable)
    ∷ (t.bad_rank || v.marks.wrong_subscripts, rank) ∷ []

abbrev pub is_unaffine : Reach → Bool
is_unaffine NotAffine = true
is_unaffine (Past z) = false
is_unaffine Within = false

abbrev pub is_variable : Option Measure → Bool
is_variable None = false
is_variable (Some m) = not m.constant

abbrev pub is_zero : Option Measure → Bool
is_zero None = false
is_zero (Some m) = int_eq m.value (pos 0)

abbrev pub formed_tests : Tested → SurveyOf → Reach → Option Measure → List (Bool × Fault)
formed_tests t v r step = (list_any (λ (m : Measure). m.divided) v.measures, bad_divisor)
    ∷ (is_unaffine r || is_variable step, not_affine) ∷ (is_zero step, zero_step)
    ∷ (t.bad_label, do_label) ∷ []

-- ---- limits

abbrev pub numbers_in : Option ℤ → List ℤ
numbers_in None = []
numbers_in (Some z) = z ∷ []

abbrev pub reach_numbers : Reach → List ℤ
reach_numbers NotAffine = []
reach_numbers (Past z) = z ∷ []
reach_numbers Within = []

abbrev pub step_numbers : Option Measure → List ℤ
step_numbers None = []
step_numbers (Some m) = past (m.value ∷ [])

-- loops that are open round a DO statement
abbrev pub loop_numbers : Option ℕ → List ℤ
loop_numbers None = []
loop_numbers (Some loops) = counted 6 (loops + 1)

abbrev pub IsFew : Option ℕ → Type 0
IsFew None = Unit {0}
IsFew (Some loops) = loops < 2 ^ 62

abbrev pub limit_numbers : Tested → ℕ → Option ℕ → Reach → Option Measure → List ℤ
limit_numbers t count loops r step = counted 400 (count + 1) ++ numbers_in t.past
    ++ loop_numbers loops ++ reach_numbers r ++ step_numbers step

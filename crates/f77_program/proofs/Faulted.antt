-- The first fault of a statement, by what its tests and its expressions come to.
use Rattle.std.proofs.Common.{◌≡◌, ℕ, ◌+◌, ℤ, pos, Bool, true, false, ◌||◌, ◌&&◌, not, List, [], ◌∷◌, ◌++◌, length, map, if◌then◌else◌, Option, Some, None, ◌⊎◌, inl, inr, refl, sym, ap, ◌∙◌}
use Rattle.std.proofs.Math.Bool.{or-false}
use Rattle.std.specs.List.{list_any, flat_map}
use Rattle.std.specs.Option.{option_map, option_or}
use Rattle.std.specs.Ordering.{int_eq}
use Rattle.std.proofs.lemmas.List.{append-nil}
use Rattle.f77_forms.specs.Form.{ExpressionForm, DoForm, StatementForm, program, integer, dimension, parameter, do_loop, assign, logical_if, print, continue, stop, end}
use Rattle.f77_scene.specs.Affine.{is_affine, met}
use Rattle.f77_scene.specs.Expressions.{is_constant, value_of}
use Rattle.f77_scene.specs.Fault as faults
use Rattle.f77_scene.specs.Fault.{Fault, past_limit}
use Rattle.f77_scene.specs.Limits as limits
use Rattle.f77_scene.specs.Reading as reading
use Rattle.f77_scene.specs.Reading.{fault_of_form, first_past}
use Rattle.f77_scene.specs.Scene.{Scene, Given}
use Rattle.f77_scene.specs.Statements.{Spot, optional, spots_in, declarators_in, loops_in}
use Rattle.f77_scene.specs.Tests as tests
use Rattle.f77_scene.specs.Tests.{is_declaration, affine_in, steps_in}
use Rattle.f77_program.specs.declared.measure.Measure.{Measure}
use Rattle.f77_program.specs.declared.reach.Reach.{Reach}
use Rattle.f77_program.specs.declared.reach.Reach.TheVariants.{NotAffine}
use Rattle.f77_program.specs.declared.tested.Tested.{Tested}
use Rattle.f77_program.specs.Faults.{named_tests, formed_tests, is_unaffine, is_variable, is_zero, numbers_in, reach_numbers, step_numbers, loop_numbers, limit_numbers}
use Rattle.f77_program.specs.Firsts.{first_of}
use Rattle.f77_program.specs.Judged.{tested_of}
use Rattle.f77_program.specs.Linear.{past}
use Rattle.f77_program.specs.Measures.{measure_of}
use Rattle.f77_program.specs.Reaches.{reach_with, reach_of}
use Rattle.f77_program.specs.Surveys.{SurveyOf, survey_of, measures_of}

abbrev Test : Type 0
Test = Bool × Fault

first-append : (xs ys : List Test) → reading.first_of (xs ++ ys) ≡ option_or (reading.first_of xs) (reading.first_of ys)
first-append [] ys = refl
first-append (x ∷ xs) ys = by_test x.0 (first-append xs ys)
  where
    by_test : (b : Bool) → reading.first_of (xs ++ ys) ≡ option_or (reading.first_of xs) (reading.first_of ys) → (if b then Some x.1 else reading.first_of (xs ++ ys)) ≡ option_or (if b then Some x.1 else reading.first_of xs) (reading.first_of ys)
    by_test true h = refl
    by_test false h = h

any-measured : (g : Measure → Bool) (spots : List Spot) → list_any g (measures_of spots) ≡ list_any (λ (spot : Spot). g (measure_of spot.0 spot.1)) spots
any-measured g [] = refl
any-measured g (spot ∷ spots) = ap (λ b. g (measure_of spot.0 spot.1) || b) (any-measured g spots)

-- ---- the step

-- a statement's step, if any, comes to this
abbrev pub IsStep : Scene → StatementForm → Option Measure → Type 0
IsStep s f None = steps_in f ≡ []
IsStep s f (Some m) = map (measure_of s) (steps_in f) ≡ m ∷ []

lone : (g : Measure → Bool) (s : Scene) (es : List ExpressionForm) (m : Measure) → map (measure_of s) es ≡ m ∷ [] → list_any (λ e. g (measure_of s e)) es ≡ g m
lone g s [] m h = absurd cc
lone g s (e ∷ []) m h = let same : measure_of s e ≡ m = cc in or-false (g (measure_of s e)) ∙ ap g same
lone g s (e ∷ x ∷ es) m h = absurd cc

variable-step : (s : Scene) (f : StatementForm) (o : Option Measure) → IsStep s f o → is_variable o ≡ list_any (λ e. not (is_constant s e)) (steps_in f)
variable-step s f None h = sym (ap (list_any (λ e. not (is_constant s e))) h)
variable-step s f (Some m) h = sym (lone (λ m. not m.constant) s (steps_in f) m h)

zero-step : (s : Scene) (f : StatementForm) (o : Option Measure) → IsStep s f o → is_zero o ≡ list_any (λ e. int_eq (value_of s e) (pos 0)) (steps_in f)
zero-step s f None h = sym (ap (list_any (λ e. int_eq (value_of s e) (pos 0))) h)
zero-step s f (Some m) h = sym (lone (λ m. int_eq m.value (pos 0)) s (steps_in f) m h)

values-step : (s : Scene) (f : StatementForm) (o : Option Measure) → IsStep s f o → step_numbers o ≡ past (map (value_of s) (steps_in f))
values-step s f None h = sym (ap (λ es. past (map (value_of s) es)) h)
values-step s f (Some m) h = by_list (steps_in f) h
  where
    by_list : (es : List ExpressionForm) → map (measure_of s) es ≡ m ∷ [] → past (m.value ∷ []) ≡ past (map (value_of s) es)
    by_list [] e = absurd cc
    by_list (x ∷ []) e = let same : measure_of s x ≡ m = cc in ap (λ (n : Measure). past (n.value ∷ [])) (sym same)
    by_list (x ∷ y ∷ es) e = absurd cc

-- ---- expressions that have to be affine

unaffine : (s : Scene) (es : List ExpressionForm) → is_unaffine (reach_of s es) ≡ list_any (λ e. not (is_affine s e)) es
unaffine s es = by_cases (list_any (λ e. not (is_affine s e)) es) (past (flat_map (met s) es))
  where
    by_cases : (b : Bool) (zs : List ℤ) → is_unaffine (if b then NotAffine else reach_with zs) ≡ b
    by_cases true zs = refl
    by_cases false [] = refl
    by_cases false (z ∷ zs) = refl

first-reach : (s : Scene) (es : List ExpressionForm) → is_unaffine (reach_of s es) ≡ false → first_of (reach_numbers (reach_of s es)) ≡ first_of (past (flat_map (met s) es))
first-reach s es h = by_cases (list_any (λ e. not (is_affine s e)) es) (past (flat_map (met s) es)) h
  where
    by_cases : (b : Bool) (zs : List ℤ) → is_unaffine (if b then NotAffine else reach_with zs) ≡ false → first_of (reach_numbers (if b then NotAffine else reach_with zs)) ≡ first_of zs
    by_cases true zs e = absurd cc
    by_cases false [] e = refl
    by_cases false (z ∷ zs) e = refl

-- ---- tests

abbrev judged : Given → Scene → ℕ → ℕ → StatementForm → Option Measure → List Test
judged given s after label f o = named_tests (is_declaration f) (tested_of given s after label f) (survey_of (spots_in given s f)) ++ formed_tests (tested_of given s after label f) (survey_of (spots_in given s f)) (reach_of s (affine_in s f)) o

abbrev scene_tests : Given → Scene → ℕ → ℕ → StatementForm → List Test
scene_tests given s after label f =
    (tests.has_bad_syntax given s after f, faults.syntax) ∷ (tests.has_unknown given s f, faults.unknown) ∷ (tests.has_other_type given s f, faults.not_integer) ∷ (tests.misuses_loop_variable given s f, faults.loop_variable)
    ∷ (tests.has_bad_rank given s f, faults.rank) ∷ (tests.has_bad_divisor given s f, faults.bad_divisor) ∷ (tests.is_not_affine s f, faults.not_affine) ∷ (tests.has_zero_step s f, faults.zero_step) ∷ (tests.has_bad_label s label f, faults.do_label) ∷ []

same-tests : (given : Given) (s : Scene) (after label : ℕ) (f : StatementForm) (o : Option Measure) → IsStep s f o → judged given s after label f o ≡ scene_tests given s after label f
same-tests given s after label f o h =
    let spots = spots_in given s f in
    let t = tested_of given s after label f in
    let v = survey_of spots in
    let rest : List Test = formed_tests t v (reach_of s (affine_in s f)) o in
    let whole : List Test = scene_tests given s after label f in
    let unknown : (v.marks.unknown_call || t.bad_target || (is_declaration f && list_any (λ (m : Measure). not m.constant) v.measures) || t.again) ≡ tests.has_unknown given s f =
    ap (λ b. v.marks.unknown_call || t.bad_target || (is_declaration f && b) || t.again) (any-measured (λ m. not m.constant) spots) in
    let divided : list_any (λ (m : Measure). m.divided) v.measures ≡ tests.has_bad_divisor given s f = any-measured (λ m. m.divided) spots in
    let affine : (is_unaffine (reach_of s (affine_in s f)) || is_variable o) ≡ tests.is_not_affine s f = ap (λ b. b || is_variable o) (unaffine s (affine_in s f)) ∙ ap (λ b. list_any (λ e. not (is_affine s e)) (affine_in s f) || b) (variable-step s f o h) in
    ap (λ b. (tests.has_bad_syntax given s after f, faults.syntax) ∷ (b, faults.unknown) ∷ (t.other_type, faults.not_integer) ∷ (tests.misuses_loop_variable given s f, faults.loop_variable) ∷ (tests.has_bad_rank given s f, faults.rank) ∷ rest) unknown
    ∙ ap (λ b. (tests.has_bad_syntax given s after f, faults.syntax) ∷ (tests.has_unknown given s f, faults.unknown) ∷ (t.other_type, faults.not_integer) ∷ (tests.misuses_loop_variable given s f, faults.loop_variable) ∷ (tests.has_bad_rank given s f, faults.rank)
    ∷ (b, faults.bad_divisor) ∷ (is_unaffine (reach_of s (affine_in s f)) || is_variable o, faults.not_affine) ∷ (is_zero o, faults.zero_step) ∷ (t.bad_label, faults.do_label) ∷ []) divided
    ∙ ap (λ b. (tests.has_bad_syntax given s after f, faults.syntax) ∷ (tests.has_unknown given s f, faults.unknown) ∷ (t.other_type, faults.not_integer) ∷ (tests.misuses_loop_variable given s f, faults.loop_variable) ∷ (tests.has_bad_rank given s f, faults.rank)
    ∷ (tests.has_bad_divisor given s f, faults.bad_divisor) ∷ (b, faults.not_affine) ∷ (is_zero o, faults.zero_step) ∷ (t.bad_label, faults.do_label) ∷ []) affine
    ∙ ap (λ b. (tests.has_bad_syntax given s after f, faults.syntax) ∷ (tests.has_unknown given s f, faults.unknown) ∷ (t.other_type, faults.not_integer) ∷ (tests.misuses_loop_variable given s f, faults.loop_variable) ∷ (tests.has_bad_rank given s f, faults.rank)
    ∷ (tests.has_bad_divisor given s f, faults.bad_divisor) ∷ (tests.is_not_affine s f, faults.not_affine) ∷ (b, faults.zero_step) ∷ (t.bad_label, faults.do_label) ∷ []) (zero-step s f o h)

-- ---- limits

first-both : (xs ys xs' ys' : List ℤ) → first_of xs ≡ first_of xs' → first_of ys ≡ first_of ys' → first_of (xs ++ ys) ≡ first_of (xs' ++ ys')
first-both [] ys [] ys' h k = k
first-both [] ys (x ∷ xs') ys' h k = absurd cc
first-both (x ∷ xs) ys [] ys' h k = absurd cc
first-both (x ∷ xs) ys (y ∷ xs') ys' h k = h

first-number : (zs : List ℤ) → first_of (numbers_in (first_of zs)) ≡ first_of zs
first-number [] = refl
first-number (z ∷ zs) = refl

pub same-limits : (given : Given) (s : Scene) (after label : ℕ) (f : StatementForm) (o : Option Measure) (loops : Option ℕ) → IsStep s f o → loop_numbers loops ≡ flat_map (λ d. limits.counted 6 (length s.opened + 1)) (loops_in f) → is_unaffine (reach_of s (affine_in s f)) ≡ false
    → first_of (limit_numbers (tested_of given s after label f) s.count loops (reach_of s (affine_in s f)) o) ≡ first_of (limits.limits_past s f)
same-limits given s after label f o loops h l a =
    let counts = limits.counted 400 (s.count + 1) in
    let declared = flat_map (limits.declarator_past s) (declarators_in f) in
    let rounds = flat_map (λ d. limits.counted 6 (length s.opened + 1)) (loops_in f) in
    let t = tested_of given s after label f in
    let one = first-both counts (numbers_in t.past) counts declared refl (first-number declared) in
    let two = first-both (counts ++ numbers_in t.past) (loop_numbers loops) (counts ++ declared) rounds one (ap first_of l) in
    let three = first-both (counts ++ numbers_in t.past ++ loop_numbers loops) (reach_numbers (reach_of s (affine_in s f))) (counts ++ declared ++ rounds) (past (flat_map (met s) (affine_in s f))) two (first-reach s (affine_in s f) a) in
    first-both (counts ++ numbers_in t.past ++ loop_numbers loops ++ reach_numbers (reach_of s (affine_in s f))) (step_numbers o) (counts ++ declared ++ rounds ++ past (flat_map (met s) (affine_in s f))) (past (map (value_of s) (steps_in f))) three (ap first_of (values-step s f o h))

first-past : (zs : List ℤ) → first_past zs ≡ option_map past_limit (first_of zs)
first-past [] = refl
first-past (z ∷ zs) = refl

-- ---- the fault

pub faulted : (given : Given) (s : Scene) (after label : ℕ) (f : StatementForm) (o : Option Measure) → IsStep s f o
    → fault_of_form given s after label f ≡ option_or (option_or (reading.first_of (named_tests (is_declaration f) (tested_of given s after label f) (survey_of (spots_in given s f)))) (reading.first_of (formed_tests (tested_of given s after label f) (survey_of (spots_in given s f)) (reach_of s (affine_in s f)) o)))
    (option_map past_limit (first_of (limits.limits_past s f)))
faulted given s after label f o h =
    ap (λ ts. option_or (reading.first_of ts) (first_past (limits.limits_past s f))) (sym (same-tests given s after label f o h))
    ∙ ap (λ x. option_or x (first_past (limits.limits_past s f))) (first-append (named_tests (is_declaration f) (tested_of given s after label f) (survey_of (spots_in given s f))) (formed_tests (tested_of given s after label f) (survey_of (spots_in given s f)) (reach_of s (affine_in s f)) o))
    ∙ ap (option_or (option_or (reading.first_of (named_tests (is_declaration f) (tested_of given s after label f) (survey_of (spots_in given s f)))) (reading.first_of (formed_tests (tested_of given s after label f) (survey_of (spots_in given s f)) (reach_of s (affine_in s f)) o)))) (first-past (limits.limits_past s f))

-- where no test holds, the expressions that have to be affine are
pub affine_there : (t : Tested) (v : SurveyOf) (r : Reach) (o : Option Measure) → reading.first_of (formed_tests t v r o) ≡ None → is_unaffine r ≡ false
affine_there t v r o h = by_cases (list_any (λ (m : Measure). m.divided) v.measures) (is_unaffine r) h
  where
    by_cases : (d u : Bool) → (if d then Some faults.bad_divisor else (if u || is_variable o then Some faults.not_affine else reading.first_of ((is_zero o, faults.zero_step) ∷ (t.bad_label, faults.do_label) ∷ []))) ≡ None → u ≡ false
    by_cases true u e = absurd cc
    by_cases false true e = absurd cc
    by_cases false false e = refl

-- ---- by cases

-- each statement has a step or none
pub a_step : (s : Scene) (f : StatementForm) → (o : Option Measure) × IsStep s f o
a_step s f = by_loops (loops_in f) (few f)
  where
    few : (f : StatementForm) → (loops_in f ≡ []) ⊎ ((d : DoForm) × (loops_in f ≡ d ∷ []))
    few (program n) = inl refl
    few (integer ds) = inl refl
    few (dimension ds) = inl refl
    few (parameter ds) = inl refl
    few (do_loop d) = inr (d, refl)
    few (assign a) = inl refl
    few (logical_if c a) = inl refl
    few (print items) = inl refl
    few continue = inl refl
    few stop = inl refl
    few end = inl refl

    by_step : (d : DoForm) (e : Option ExpressionForm) → flat_map (λ (x : DoForm). optional x.step) (loops_in f) ≡ optional e → (o : Option Measure) × IsStep s f o
    by_step d None h = (None, h)
    by_step d (Some e) h = (Some (measure_of s e), ap (map (measure_of s)) h)

    by_loops : (ds : List DoForm) → (loops_in f ≡ []) ⊎ ((d : DoForm) × (loops_in f ≡ d ∷ [])) → (o : Option Measure) × IsStep s f o
    by_loops ds (inl none) = (None, ap (flat_map (λ (x : DoForm). optional x.step)) none)
    by_loops ds (inr one) = by_step one.0 one.0.step (ap (flat_map (λ (x : DoForm). optional x.step)) one.1 ∙ append-nil (optional one.0.step))

abbrev named_of : Given → Scene → ℕ → ℕ → StatementForm → Option Fault
named_of given s after label f = reading.first_of (named_tests (is_declaration f) (tested_of given s after label f) (survey_of (spots_in given s f)))

abbrev formed_of : Given → Scene → ℕ → ℕ → StatementForm → Option Measure → Option Fault
formed_of given s after label f o = reading.first_of (formed_tests (tested_of given s after label f) (survey_of (spots_in given s f)) (reach_of s (affine_in s f)) o)

pub by_named : (given : Given) (s : Scene) (after label : ℕ) (f : StatementForm) (x : Fault) → named_of given s after label f ≡ Some x → Some x ≡ fault_of_form given s after label f
by_named given s after label f x h =
    let step = a_step s f in
    sym (faulted given s after label f step.0 step.1 ∙ ap (λ n. option_or (option_or n (formed_of given s after label f step.0)) (option_map past_limit (first_of (limits.limits_past s f)))) h)

pub by_formed : (given : Given) (s : Scene) (after label : ℕ) (f : StatementForm) (o : Option Measure) (x : Fault) → IsStep s f o → named_of given s after label f ≡ None → formed_of given s after label f o ≡ Some x → Some x ≡ fault_of_form given s after label f
by_formed given s after label f o x step h k =
    sym (faulted given s after label f o step ∙ ap (λ n. option_or (option_or n (formed_of given s after label f o)) (option_map past_limit (first_of (limits.limits_past s f)))) h
    ∙ ap (λ m. option_or (option_or None m) (option_map past_limit (first_of (limits.limits_past s f)))) k)

pub by_limit : (given : Given) (s : Scene) (after label : ℕ) (f : StatementForm) (o : Option Measure) (loops : Option ℕ) (number : Option ℤ) → IsStep s f o → named_of given s after label f ≡ None → formed_of given s after label f o ≡ None
    → loop_numbers loops ≡ flat_map (λ d. limits.counted 6 (length s.opened + 1)) (loops_in f) → number ≡ first_of (limit_numbers (tested_of given s after label f) s.count loops (reach_of s (affine_in s f)) o) → option_map past_limit number ≡ fault_of_form given s after label f
by_limit given s after label f o loops number step h k l m =
    let affine = affine_there (tested_of given s after label f) (survey_of (spots_in given s f)) (reach_of s (affine_in s f)) o k in
    ap (option_map past_limit) (m ∙ same-limits given s after label f o loops step l affine)
    ∙ sym (faulted given s after label f o step ∙ ap (λ n. option_or (option_or n (formed_of given s after label f o)) (option_map past_limit (first_of (limits.limits_past s f)))) h
    ∙ ap (λ m. option_or (option_or None m) (option_map past_limit (first_of (limits.limits_past s f)))) k)

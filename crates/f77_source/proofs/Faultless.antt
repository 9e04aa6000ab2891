-- What holds of a statement without fault.
use Rattle.std.proofs.Common.{◌≡◌, ℕ, ◌+◌, ℤ, Bool, true, false, not, ◌||◌, List, [], ◌∷◌, ◌++◌, length, map, if◌then◌else◌, Some, None, refl, ap, ◌∙◌}
use Rattle.std.specs.List.{list_any, flat_map}
use Rattle.nest_tree.specs.WellFormed.{most_statements}
use Rattle.nest_tree.proofs.FirstLimits.{neither}
use Rattle.f77_forms.specs.Form.{DoForm, StatementForm}
use Rattle.f77_scene.specs.Affine.{is_affine, met}
use Rattle.f77_scene.specs.Expressions.{value_of}
use Rattle.f77_scene.specs.Fault.{Fault, syntax, unknown, not_integer, loop_variable, rank, bad_divisor, not_affine, zero_step, do_label}
use Rattle.f77_scene.specs.Limits.{past, counted, declarator_past, limits_past}
use Rattle.f77_scene.specs.Reading.{first_of, first_past, fault_of_form}
use Rattle.f77_scene.specs.Scene.{Scene, Given}
use Rattle.f77_scene.specs.Statements.{declarators_in, loops_in}
use Rattle.f77_scene.specs.Tests.{has_bad_syntax, has_unknown, has_other_type, misuses_loop_variable, has_bad_rank, has_bad_divisor, is_not_affine, has_zero_step, has_bad_label, affine_in, steps_in}
use Rattle.f77_program.specs.declared.reach.Reach.TheVariants.{NotAffine, Within}
use Rattle.f77_program.specs.Reaches.{reach_of, reach_with}

-- ---- nothing is the first of several

test_fails : (t : Bool × Fault) (ts : List (Bool × Fault)) → first_of (t ∷ ts) ≡ None → (t.0 ≡ false) × (first_of ts ≡ None)
test_fails t ts h = by_test t.0 refl h
  where
    by_test : (b : Bool) → t.0 ≡ b → (if b then Some t.1 else first_of ts) ≡ None → (t.0 ≡ false) × (first_of ts ≡ None)
    by_test true e g = absurd cc
    by_test false e g = (e, g)

none_past : (zs : List ℤ) → first_past zs ≡ None → zs ≡ []
none_past [] h = refl
none_past (z ∷ zs) h = absurd cc

pub both_empty : {X : Type 0} (xs ys : List X) → xs ++ ys ≡ [] → (xs ≡ []) × (ys ≡ [])
both_empty [] ys h = (refl, h)
both_empty (x ∷ xs) ys h = absurd cc

-- ---- no test holds, and no number is past a limit

pub record IsFaultless (given : Given) (s : Scene) (after label : ℕ) (f : StatementForm) : Type 0 where
  pub ordered : has_bad_syntax given s after f ≡ false
  pub known : has_unknown given s f ≡ false
  pub typed : has_other_type given s f ≡ false
  pub looped : misuses_loop_variable given s f ≡ false
  pub ranked : has_bad_rank given s f ≡ false
  pub divided : has_bad_divisor given s f ≡ false
  pub affine : is_not_affine s f ≡ false
  pub stepped : has_zero_step s f ≡ false
  pub labelled : has_bad_label s label f ≡ false
  pub limited : limits_past s f ≡ []

pub faultless : (given : Given) (s : Scene) (after label : ℕ) (f : StatementForm) → fault_of_form given s after label f ≡ None → IsFaultless given s after label f
faultless given s after label f h =
    let tests9 : List (Bool × Fault) = (has_bad_label s label f, do_label) ∷ [] in
    let tests8 : List (Bool × Fault) = (has_zero_step s f, zero_step) ∷ tests9 in
    let tests7 : List (Bool × Fault) = (is_not_affine s f, not_affine) ∷ tests8 in
    let tests6 : List (Bool × Fault) = (has_bad_divisor given s f, bad_divisor) ∷ tests7 in
    let tests5 : List (Bool × Fault) = (has_bad_rank given s f, rank) ∷ tests6 in
    let tests4 : List (Bool × Fault) = (misuses_loop_variable given s f, loop_variable) ∷ tests5 in
    let tests3 : List (Bool × Fault) = (has_other_type given s f, not_integer) ∷ tests4 in
    let tests2 : List (Bool × Fault) = (has_unknown given s f, unknown) ∷ tests3 in
    let both = neither (first_of ((has_bad_syntax given s after f, syntax) ∷ tests2)) (first_past (limits_past s f)) h in
    let t1 = test_fails (has_bad_syntax given s after f, syntax) tests2 both.0 in
    let t2 = test_fails (has_unknown given s f, unknown) tests3 t1.1 in
    let t3 = test_fails (has_other_type given s f, not_integer) tests4 t2.1 in
    let t4 = test_fails (misuses_loop_variable given s f, loop_variable) tests5 t3.1 in
    let t5 = test_fails (has_bad_rank given s f, rank) tests6 t4.1 in
    let t6 = test_fails (has_bad_divisor given s f, bad_divisor) tests7 t5.1 in
    let t7 = test_fails (is_not_affine s f, not_affine) tests8 t6.1 in
    let t8 = test_fails (has_zero_step s f, zero_step) tests9 t7.1 in
    let t9 = test_fails (has_bad_label s label f, do_label) [] t8.1 in
    record { ordered = t1.0; known = t2.0; typed = t3.0; looped = t4.0; ranked = t5.0; divided = t6.0; affine = t7.0; stepped = t8.0; labelled = t9.0; limited = none_past (limits_past s f) both.1 }

-- ---- no number of its is past a limit

pub record PassesNoLimit (s : Scene) (f : StatementForm) : Type 0 where
  pub count : counted most_statements (s.count + 1) ≡ []
  pub declarators : flat_map (declarator_past s) (declarators_in f) ≡ []
  pub nested : flat_map (λ (d : DoForm). counted 6 (length s.opened + 1)) (loops_in f) ≡ []
  pub met : past (flat_map (met s) (affine_in s f)) ≡ []
  pub steps : past (map (value_of s) (steps_in f)) ≡ []

pub passes_no_limit : (s : Scene) (f : StatementForm) → limits_past s f ≡ [] → PassesNoLimit s f
passes_no_limit s f h =
    let a = counted most_statements (s.count + 1) in
    let b = flat_map (declarator_past s) (declarators_in f) in
    let c = flat_map (λ (d : DoForm). counted 6 (length s.opened + 1)) (loops_in f) in
    let d = past (flat_map (met s) (affine_in s f)) in
    let h4 = both_empty (a ++ b ++ c ++ d) (past (map (value_of s) (steps_in f))) h in
    let h3 = both_empty (a ++ b ++ c) d h4.0 in
    let h2 = both_empty (a ++ b) c h3.0 in
    let h1 = both_empty a b h2.0 in
    record { count = h1.0; declarators = h1.1; nested = h2.1; met = h3.1; steps = h4.1 }

-- its expressions that have to be affine are, within the limit
pub affine_within : (given : Given) (s : Scene) (after label : ℕ) (f : StatementForm) → fault_of_form given s after label f ≡ None → reach_of s (affine_in s f) ≡ Within
affine_within given s after label f h =
    let t = faultless given s after label f h in
    let k = passes_no_limit s f t.limited in
    by_cases (list_any (λ e. not (is_affine s e)) (affine_in s f)) (past (flat_map (met s) (affine_in s f))) (first_false _ _ t.affine) k.met
  where
    first_false : (a b : Bool) → (a || b) ≡ false → a ≡ false
    first_false true b e = e
    first_false false b e = refl

    by_cases : (b : Bool) (zs : List ℤ) → b ≡ false → zs ≡ [] → (if b then NotAffine else reach_with zs) ≡ Within
    by_cases b zs e z = ap (λ x. if x then NotAffine else reach_with zs) e ∙ ap reach_with z

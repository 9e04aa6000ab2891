-- Behind a statement without fault the limits are kept.
use Rattle.std.proofs.Common.{◌≡◌, ℕ, ◌+◌, ◌≤◌, ◌==◌, nat_lt, nat_le, ℤ, pos, negsuc, ◌+ℤ◌, ◌-ℤ◌, int_lt, int_le, Bool, true, false, not, ◌&&◌, List, [], ◌∷◌, ◌++◌, length, map, if◌then◌else◌, None, Result, Ok, Err, refl, ap, ◌∙◌, arith}
use Rattle.std.proofs.lemmas.Bool.{and_from}
use Rattle.std.proofs.lemmas.Bool.Decides.{nat_tests}
use Rattle.std.proofs.lemmas.List.{length-map}
use Rattle.std.proofs.lemmas.List.Folds.{list_all-append}
use Rattle.std.specs.List.{list_all, flat_map}
use Rattle.nest_tree.specs.Form.{is_small}
use Rattle.nest_tree.specs.WellFormed.{is_good_dimension, most_statements}
use Rattle.f77_forms.specs.declared.fault.TextFault.{TextFault}
use Rattle.f77_forms.specs.Form.{BoundForm, DeclaratorForm, DefinitionForm, StatementForm, program, integer, dimension, parameter, do_loop, assign, logical_if, print, continue, stop, end}
use Rattle.f77_scene.specs.Behind.{arrays_of, behind}
use Rattle.f77_scene.specs.Limits.{past, counted, bounds_of, extent_past, bounds_past, declarator_past}
use Rattle.f77_scene.specs.Reading.{fault_of_form, fault_with, scene_with}
use Rattle.f77_scene.specs.Scene.{Scene, Given, Array, Open}
use Rattle.f77_scene.specs.Statements.{bounded, with_constant, with_constants}
use Rattle.f77_scene.specs.Tests.{left_open}
use Rattle.f77_source.specs.Limits.{is_good_array, KeepsLimits}
use Rattle.f77_source.proofs.Faultless.{both_empty, faultless, PassesNoLimit, passes_no_limit}

-- ---- the bounds of arrays

pub small : (z : ℤ) (zs : List ℤ) → past (z ∷ zs) ≡ [] → (is_small z ≡ true) × (past zs ≡ [])
small z zs h = by_test (is_small z) refl h
  where
    by_test : (b : Bool) → is_small z ≡ b → (if not b then z ∷ past zs else past zs) ≡ [] → (is_small z ≡ true) × (past zs ≡ [])
    by_test true e g = (e, g)
    by_test false e g = absurd cc

not_less : (low high : ℤ) → int_lt high low ≡ false → int_le low high ≡ true
not_less (pos a) (pos b) e = grind (arith, nat_tests)
not_less (pos a) (negsuc b) e = absurd cc
not_less (negsuc a) (pos b) e = refl
not_less (negsuc a) (negsuc b) e = grind (arith, nat_tests)

in_order : (low high : ℤ) → extent_past (low, high) ≡ [] → int_le low high ≡ true
in_order low high h = by_test (int_lt high low) refl h
  where
    by_test : (b : Bool) → int_lt high low ≡ b → (if b then (high -ℤ low +ℤ pos 1) ∷ [] else []) ≡ [] → int_le low high ≡ true
    by_test true e g = absurd cc
    by_test false e g = not_less low high e

good_bounds : (s : Scene) (bounds : List BoundForm) → flat_map (bounds_past s) bounds ≡ [] → list_all is_good_dimension (map (bounds_of s) bounds) ≡ true
good_bounds s [] h = refl
good_bounds s (b ∷ bounds) h =
    let all = both_empty (bounds_past s b) (flat_map (bounds_past s) bounds) h in
    let low = (bounds_of s b).0 in
    let high = (bounds_of s b).1 in
    let parts = both_empty (past (low ∷ high ∷ [])) (extent_past (low, high)) all.0 in
    let first = small low (high ∷ []) parts.0 in
    let second = small high [] first.1 in
    and_from (is_good_dimension (low, high)) (list_all is_good_dimension (map (bounds_of s) bounds))
    (and_from (is_small low && is_small high) (int_le low high) (and_from (is_small low) (is_small high) first.0 second.0) (in_order low high parts.1)) (good_bounds s bounds all.1)

pub within_count : (most count : ℕ) → counted most count ≡ [] → count ≤ most
within_count most count h = by_test (nat_lt most count) refl h
  where
    by_test : (b : Bool) → nat_lt most count ≡ b → (if b then pos count ∷ [] else []) ≡ [] → count ≤ most
    by_test true e g = absurd cc
    by_test false e g = grind (arith, nat_tests)

good_array : (s : Scene) (d : DeclaratorForm) → nat_lt 0 (length d.bounds) ≡ true → declarator_past s d ≡ [] → is_good_array (record { name = d.name; bounds = map (bounds_of s) d.bounds }) ≡ true
good_array s d some h =
    let parts = both_empty (counted 3 (length d.bounds)) (flat_map (bounds_past s) d.bounds) h in
    let few : length d.bounds ≤ 3 = within_count 3 (length d.bounds) parts.0 in
    let same : length (map (bounds_of s) d.bounds) ≡ length d.bounds = length-map d.bounds (bounds_of s) in
    let one : nat_le 1 (length (map (bounds_of s) d.bounds)) ≡ true = grind (arith, nat_tests) in
    let three : nat_le (length (map (bounds_of s) d.bounds)) 3 ≡ true = grind (arith, nat_tests) in
    and_from (list_all is_good_dimension (map (bounds_of s) d.bounds) && nat_le 1 (length (map (bounds_of s) d.bounds))) (nat_le (length (map (bounds_of s) d.bounds)) 3)
    (and_from (list_all is_good_dimension (map (bounds_of s) d.bounds)) (nat_le 1 (length (map (bounds_of s) d.bounds))) (good_bounds s d.bounds parts.1) one) three

good_arrays : (s : Scene) (ds : List DeclaratorForm) → flat_map (declarator_past s) ds ≡ [] → list_all is_good_array (arrays_of s ds) ≡ true
good_arrays s [] h = refl
good_arrays s (d ∷ ds) h = (let all = both_empty (declarator_past s d) (flat_map (declarator_past s) ds) h in by_test (nat_lt 0 (length d.bounds)) refl all.0 (good_arrays s ds all.1))
  where
    declared : Bool → List Array
    declared b = map (λ (x : DeclaratorForm). record { name = x.name; bounds = map (bounds_of s) x.bounds }) (if b then d ∷ bounded ds else bounded ds)

    by_test : (b : Bool) → nat_lt 0 (length d.bounds) ≡ b → declarator_past s d ≡ [] → list_all is_good_array (arrays_of s ds) ≡ true → list_all is_good_array (arrays_of s (d ∷ ds)) ≡ true
    by_test true e first rest =
        ap (λ b. list_all is_good_array (declared b)) e
        ∙ and_from (is_good_array (record { name = d.name; bounds = map (bounds_of s) d.bounds })) (list_all is_good_array (arrays_of s ds)) (good_array s d e first) rest
    by_test false e first rest = ap (λ b. list_all is_good_array (declared b)) e ∙ rest

more_arrays : (s : Scene) (ds : List DeclaratorForm) → KeepsLimits s → flat_map (declarator_past s) ds ≡ [] → list_all is_good_array (s.arrays ++ arrays_of s ds) ≡ true
more_arrays s ds w h = list_all-append is_good_array s.arrays (arrays_of s ds) ∙ and_from (list_all is_good_array s.arrays) (list_all is_good_array (arrays_of s ds)) w.arrays (good_arrays s ds h)

-- ---- loops

pub fewer_open : (label : ℕ) (opened : List Open) → length (left_open label opened) ≤ length opened
fewer_open label [] = omega arith
fewer_open label (o ∷ opened) = by_test (o.label == label) (fewer_open label opened)
  where
    by_test : (b : Bool) → length (left_open label opened) ≤ length opened → length (if b then left_open label opened else o ∷ opened) ≤ length (o ∷ opened)
    by_test true h = omega arith
    by_test false h = omega arith

-- ---- constants

-- named constants change nothing else
pub record KeepsAllButConstants (s t : Scene) : Type 0 where
  pub count : t.count ≡ s.count
  pub executes : t.executes ≡ s.executes
  pub names : t.names ≡ s.names
  pub arrays : t.arrays ≡ s.arrays
  pub scalars : t.scalars ≡ s.scalars
  pub loop_variables : t.loop_variables ≡ s.loop_variables
  pub loops : t.loops ≡ s.loops
  pub opened : t.opened ≡ s.opened

pub constants_alone : (given : Given) (s : Scene) (ds : List DefinitionForm) → KeepsAllButConstants s (with_constants given s ds)
constants_alone given s [] = record { count = refl; executes = refl; names = refl; arrays = refl; scalars = refl; loop_variables = refl; loops = refl; opened = refl }
constants_alone given s (d ∷ ds) =
    let k = constants_alone given (with_constant given s d) ds in
    record { count = k.count; executes = k.executes; names = k.names; arrays = k.arrays; scalars = k.scalars; loop_variables = k.loop_variables; loops = k.loops; opened = k.opened }

-- ---- a statement

pub kept : (given : Given) (s : Scene) (after label : ℕ) (f : StatementForm) → fault_of_form given s after label f ≡ None → KeepsLimits s → KeepsLimits (behind given s label f)
kept given s after label f h w = by_form f (passes_no_limit s f (faultless given s after label f h).limited)
  where
    next : counted most_statements (s.count + 1) ≡ [] → s.count + 1 ≤ 400
    next e = within_count 400 (s.count + 1) e

    worked : s.count + 1 ≤ 400 → KeepsLimits (record s { count = s.count + 1; opened = left_open label s.opened })
    worked n = (let w1 = w.loops in let w2 = w.opened in let fewer = fewer_open label s.opened in record { count = n; loops = omega arith; opened = omega arith; arrays = w.arrays })

    by_form : (g : StatementForm) → PassesNoLimit s g → KeepsLimits (behind given s label g)
    by_form (program n) k = (let w1 = w.loops in let w2 = w.opened in record { count = next k.count; loops = omega arith; opened = omega arith; arrays = w.arrays })
    by_form (integer ds) k = (let w1 = w.loops in let w2 = w.opened in record { count = next k.count; loops = omega arith; opened = omega arith; arrays = more_arrays s ds w k.declarators })
    by_form (dimension ds) k = (let w1 = w.loops in let w2 = w.opened in record { count = next k.count; loops = omega arith; opened = omega arith; arrays = more_arrays s ds w k.declarators })
    by_form (parameter ds) k =
        let c = constants_alone given s ds in
        let w1 = w.loops in
        let w2 = w.opened in
        let many : s.count + 1 ≤ 400 = next k.count in
        let count : (with_constants given s ds).count ≡ s.count = c.count in
        let loops : (with_constants given s ds).loops ≡ s.loops = c.loops in
        let opened : length (with_constants given s ds).opened ≡ length s.opened = ap length c.opened in
        record { count = omega arith; loops = omega arith; opened = omega arith; arrays = ap (list_all is_good_array) c.arrays ∙ w.arrays }
    by_form (do_loop d) k = (let w1 = w.loops in let w2 = w.opened in record { count = next k.count; loops = omega arith; opened = omega arith; arrays = w.arrays })
    by_form (assign a) k = (let n = worked (next k.count) in record { count = n.count; loops = n.loops; opened = n.opened; arrays = n.arrays })
    by_form (logical_if c a) k = (let n = worked (next k.count) in record { count = n.count; loops = n.loops; opened = n.opened; arrays = n.arrays })
    by_form (print items) k = (let n = worked (next k.count) in record { count = n.count; loops = n.loops; opened = n.opened; arrays = n.arrays })
    by_form continue k = (let n = worked (next k.count) in record { count = n.count; loops = n.loops; opened = n.opened; arrays = n.arrays })
    by_form stop k = (let n = worked (next k.count) in record { count = n.count; loops = n.loops; opened = n.opened; arrays = n.arrays })
    by_form end k = (let n = worked (next k.count) in record { count = n.count; loops = n.loops; opened = n.opened; arrays = n.arrays })

-- the same of a text that has no fault
pub kept_with : (given : Given) (s : Scene) (after label : ℕ) (r : Result StatementForm TextFault) → fault_with given s after label r ≡ None → KeepsLimits s → KeepsLimits (scene_with given s label r)
kept_with given s after label (Ok f) h w = kept given s after label f h w
kept_with given s after label (Err fault) h w = absurd cc

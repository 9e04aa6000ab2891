-- Variables are declared well.
use Rattle.std.proofs.Common.{◌≡◌, ℕ, ◌≤◌, nat_le, ℤ, Bool, true, false, ◌&&◌, ◌||◌, List, [], ◌∷◌, length, map, if◌then◌else◌, IsTrue, None, refl, sym, subst, ◌∙◌, arith}
use Rattle.std.proofs.lemmas.Bool.{and_from, and_parts}
use Rattle.std.proofs.lemmas.Bool.Decides.{nat_tests}
use Rattle.std.specs.List.{list_all, list_any}
use Rattle.std.specs.Str.{bytes_eq}
use Rattle.nest_tree.specs.WellFormed.{is_number_of, is_good_dimension, is_good_placing, is_good_declaration}
use Rattle.nest_tree.specs.declared.tree.Spread.TheVariants.{Block}
use Rattle.f77_scene.specs.Directives.{Placing, directive_text, placings, placed_by, placed_after, placed}
use Rattle.f77_scene.specs.Reading.{SourceStatement, fault_with, scene_with, fault_from, scene_from, declaration}
use Rattle.f77_scene.specs.Scene.{Name, Scene, Given, Array, first_scene, is_array, bounds_named}
use Rattle.f77_source.specs.Limits.{is_good_array, KeepsLimits}
use Rattle.f77_source.proofs.Folded.{scene_from-more, scene_from-none, passes, first_passes}
use Rattle.f77_source.proofs.Kept.{kept_with}

pub first_kept : KeepsLimits first_scene
first_kept = record { count = omega arith; loops = omega arith; opened = omega arith; arrays = refl }

-- behind statements without fault the limits are kept
pub kept_from : (given : Given) (s : Scene) (ps : List SourceStatement) → fault_from given s ps ≡ None → KeepsLimits s → KeepsLimits (scene_from given s ps)
kept_from given s [] h w = subst KeepsLimits (sym (scene_from-none given s)) w
kept_from given s (p ∷ ps) h w =
    let none : fault_with given s (length ps) p.label p.reading ≡ None = first_passes given s p ps h in
    let rest : fault_from given (scene_with given s p.label p.reading) ps ≡ None = sym (passes given s p ps none) ∙ h in
    subst KeepsLimits (sym (scene_from-more given s p ps)) (kept_from given (scene_with given s p.label p.reading) ps rest (kept_with given s (length ps) p.label p.reading none w))

-- ---- an array is distributed along one of its dimensions

placed_by-within : (ps : List Placing) (text : List ℕ) (n : Name) (dimensions : ℕ) (p : Placing) → list_all (λ (q : Placing). nat_le 1 q.0) ps ≡ true → is_number_of dimensions p.0 ≡ true
    → is_number_of dimensions (placed_by ps text n dimensions p).0 ≡ true
placed_by-within [] text n dimensions p c h = h
placed_by-within (q ∷ ps) text n dimensions p c h =
    let both = and_parts (nat_le 1 q.0) (list_all (λ (x : Placing). nat_le 1 x.0) ps) c in
    by_test (nat_le q.0 dimensions) (bytes_eq text (directive_text n dimensions q)) refl both.0 (placed_by-within ps text n dimensions p both.1 h)
  where
    by_test : (r b : Bool) → nat_le q.0 dimensions ≡ r → nat_le 1 q.0 ≡ true → is_number_of dimensions (placed_by ps text n dimensions p).0 ≡ true
        → is_number_of dimensions (if r && b then q else placed_by ps text n dimensions p).0 ≡ true
    by_test true true e one rest = and_from (nat_le 1 q.0) (nat_le q.0 dimensions) one e
    by_test true false e one rest = rest
    by_test false b e one rest = rest

placed_after-within : (texts : List (List ℕ)) (n : Name) (dimensions : ℕ) (p : Placing) → is_number_of dimensions p.0 ≡ true → is_number_of dimensions (placed_after texts n dimensions p).0 ≡ true
placed_after-within [] n dimensions p h = h
placed_after-within (text ∷ texts) n dimensions p h = placed_after-within texts n dimensions (placed_by placings text n dimensions p) (placed_by-within placings text n dimensions p refl h)

placed-within : (texts : List (List ℕ)) (n : Name) (dimensions : ℕ) → 1 ≤ dimensions → is_number_of dimensions (placed texts n dimensions).0 ≡ true
placed-within texts n dimensions h = placed_after-within texts n dimensions (dimensions, Block) (grind (arith, nat_tests))

-- ---- an array that is there is a good one

pub found_good : (arrays : List Array) (n : Name) → list_all is_good_array arrays ≡ true → IsTrue (list_any (λ m. bytes_eq m n) (map (λ (a : Array). a.name) arrays))
    → is_good_array (record { name = n; bounds = bounds_named arrays n }) ≡ true
found_good [] n h there = absurd cc
found_good (a ∷ arrays) n h there = (let both = and_parts (is_good_array a) (list_all is_good_array arrays) h in by_test (bytes_eq a.name n) both.0 there (found_good arrays n both.1))
  where
    by_test : (b : Bool) → is_good_array a ≡ true → (b || list_any (λ m. bytes_eq m n) (map (λ (x : Array). x.name) arrays)) ≡ true
        → (list_any (λ m. bytes_eq m n) (map (λ (x : Array). x.name) arrays) ≡ true → is_good_array (record { name = n; bounds = bounds_named arrays n }) ≡ true)
        → is_good_array (record { name = n; bounds = if b then a.bounds else bounds_named arrays n }) ≡ true
    by_test true good t rest = good
    by_test false good t rest = rest t

placing_good : (bounds : List (ℤ × ℤ)) (p : Placing) → 1 ≤ length bounds → is_number_of (length bounds) p.0 ≡ true → nat_le (length bounds) 3 ≡ true → is_good_placing bounds p.0 p.1 ≡ true
placing_good [] p one within few = absurd (omega arith)
placing_good (b ∷ bounds) p one within few = and_from (is_number_of (length (b ∷ bounds)) p.0) (nat_le (length (b ∷ bounds)) 3) within few

pub declaration-good : (texts : List (List ℕ)) (s : Scene) (n : Name) → KeepsLimits s → is_good_declaration (declaration texts s n) ≡ true
declaration-good texts s n w = by_test (is_array s n) refl
  where
    bounds : List (ℤ × ℤ)
    bounds = bounds_named s.arrays n

    p : Placing
    p = placed texts n (length bounds)

    by_test : (b : Bool) → is_array s n ≡ b → is_good_declaration (if b then record { name = n; bounds = bounds; axis = p.0; spread = p.1 } else record { name = n; bounds = []; axis = 0; spread = Block }) ≡ true
    by_test true e =
        let good = found_good s.arrays n w.arrays e in
        let parts = and_parts (list_all is_good_dimension bounds && nat_le 1 (length bounds)) (nat_le (length bounds) 3) good in
        let first = and_parts (list_all is_good_dimension bounds) (nat_le 1 (length bounds)) parts.0 in
        let some : nat_le 1 (length bounds) ≡ true = first.1 in
        let one : 1 ≤ length bounds = grind (arith, nat_tests) in
        and_from (list_all is_good_dimension bounds) (is_good_placing bounds p.0 p.1) first.0 (placing_good bounds p one (placed-within texts n (length bounds) one) parts.1)
    by_test false e = refl

pub declarations-good : (texts : List (List ℕ)) (s : Scene) (ns : List Name) → KeepsLimits s → list_all is_good_declaration (map (declaration texts s) ns) ≡ true
declarations-good texts s [] w = refl
declarations-good texts s (n ∷ ns) w = and_from (is_good_declaration (declaration texts s n)) (list_all is_good_declaration (map (declaration texts s) ns)) (declaration-good texts s n w) (declarations-good texts s ns w)

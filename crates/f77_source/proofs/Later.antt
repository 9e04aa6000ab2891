-- What is known at a statement is known at the end.
use Rattle.std.proofs.Common.{◌≡◌, ◌⊎◌, inl, inr, ℕ, ℤ, suc, ◌-◌, ◌≤◌, nat_le, Bool, true, false, not, ◌||◌, List, [], ◌∷◌, ◌++◌, length, map, filter, slice_index_or, if◌then◌else◌, None, Result, Ok, Err, refl, sym, ap, subst, ◌∙◌, arith}
use Rattle.std.proofs.lemmas.Bool.{and_parts, leb-true, not-false, not-true, or_cases, or_left, or_parts, or_right}
use Rattle.std.proofs.lemmas.List.{length-map}
use Rattle.std.proofs.lemmas.List.Folds.{list_any-append}
use Rattle.std.specs.List.{list_all, flat_map}
use Rattle.std.specs.Str.{bytes_eq}
use Rattle.nest_tree.specs.WellFormed.{Scope, is_good_constant, is_number_of, rank}
use Rattle.nest_tree.specs.declared.tree.Spread.TheVariants.{Block}
use Rattle.f77_forms.proofs.Told.{same_bytes}
use Rattle.f77_forms.specs.declared.fault.TextFault.{TextFault}
use Rattle.f77_forms.specs.Form.{ExpressionForm, number, name, call, parenthesized, signed, binary, StatementForm, program, integer, dimension, parameter, do_loop, assign, logical_if, print, continue, stop, end}
use Rattle.f77_scene.specs.Behind.{behind, behind_form, is_scalar}
use Rattle.f77_scene.specs.Directives.{placed}
use Rattle.f77_scene.specs.Expressions.{name_in, names_in, parts_of}
use Rattle.f77_scene.specs.Reading.{SourceStatement, declaration, fault_of_form, fault_with, fault_from, scene_with, scene_from, variables_of}
use Rattle.f77_scene.specs.Scene.{Name, Scene, Given, Array, bounds_named, is_among, is_array, number_among, with_names}
use Rattle.f77_scene.specs.Statements.{names_among, names_of, spots_in, with_constants}
use Rattle.f77_scene.specs.Tests.{is_in_order, is_lone_call, somewhere}
use Rattle.f77_source.proofs.Affined.{are_counted, loops_around, number_there}
use Rattle.f77_source.proofs.Faultless.{faultless}
use Rattle.f77_source.proofs.Folded.{first_passes, passes, scene_from-more, scene_from-none}
use Rattle.f77_source.proofs.Kept.{constants_alone}
use Rattle.f77_source.proofs.Treed.{AreNamed, IsSeen, no_bounds}

-- ---- names among others

pub known-kept : (known names : List Name) (n : Name) → is_among known n ≡ true → is_among (with_names known names) n ≡ true
known-kept known [] n h = h
known-kept known (m ∷ names) n h = known-kept (if is_among known m then known else known ++ m ∷ []) names n (by_test (is_among known m))
  where
    by_test : (b : Bool) → is_among (if b then known else known ++ m ∷ []) n ≡ true
    by_test true = h
    by_test false = list_any-append (λ x. bytes_eq x n) known (m ∷ []) ∙ or_left (is_among known n) (is_among (m ∷ []) n) h

same_among : (names : List Name) (m n : Name) → is_among names m ≡ true → bytes_eq m n ≡ true → is_among names n ≡ true
same_among names m n h e = sym (ap (is_among names) (same_bytes m n e)) ∙ h

pub named-kept : (known names : List Name) (n : Name) → is_among names n ≡ true → is_among (with_names known names) n ≡ true
named-kept known [] n h = absurd cc
named-kept known (m ∷ names) n h = by_first (bytes_eq m n) refl h (named-kept (if is_among known m then known else known ++ m ∷ []) names n)
  where
    more : List Name
    more = if is_among known m then known else known ++ m ∷ []

    there : bytes_eq m n ≡ true → is_among more n ≡ true
    there e = by_test (is_among known m) refl
      where
        by_test : (b : Bool) → is_among known m ≡ b → is_among (if b then known else known ++ m ∷ []) n ≡ true
        by_test true k = same_among known m n k e
        by_test false k = list_any-append (λ x. bytes_eq x n) known (m ∷ []) ∙ or_right (is_among known n) (is_among (m ∷ []) n) (or_left (bytes_eq m n) false e)

    by_first : (b : Bool) → bytes_eq m n ≡ b → (b || is_among names n) ≡ true → (is_among names n ≡ true → is_among (with_names more names) n ≡ true) → is_among (with_names more names) n ≡ true
    by_first true e t rest = known-kept more names n (there e)
    by_first false e t rest = rest t

pub filter-kept : (test : Name → Bool) (names : List Name) (n : Name) → is_among names n ≡ true → test n ≡ true → is_among (filter test names) n ≡ true
filter-kept test [] n h t = absurd cc
filter-kept test (m ∷ names) n h t = by_first (bytes_eq m n) refl h (λ k. filter-kept test names n k t)
  where
    here : bytes_eq m n ≡ true → is_among (filter test (m ∷ names)) n ≡ true
    here e = ap (λ b. is_among (if b then m ∷ filter test names else filter test names) n) (ap test (same_bytes m n e) ∙ t) ∙ or_left (bytes_eq m n) (is_among (filter test names) n) e

    later : is_among (filter test names) n ≡ true → (b : Bool) → is_among (if b then m ∷ filter test names else filter test names) n ≡ true
    later h true = or_right (bytes_eq m n) (is_among (filter test names) n) h
    later h false = h

    by_first : (b : Bool) → bytes_eq m n ≡ b → (b || is_among names n) ≡ true → (is_among names n ≡ true → is_among (filter test names) n ≡ true) → is_among (filter test (m ∷ names)) n ≡ true
    by_first true e k rest = here e
    by_first false e k rest = later (rest k) (test m)

-- ---- what a scene keeps of an earlier one

pub record IsLater (s t : Scene) : Type 0 where
  pub names : (n : Name) → is_among s.names n ≡ true → is_among t.names n ≡ true
  pub scalars : (n : Name) → is_among s.scalars n ≡ true → is_among t.scalars n ≡ true
  pub executes : s.executes ≡ true → t.executes ≡ true
  pub arrays : s.executes ≡ true → t.arrays ≡ s.arrays
  pub constants : s.executes ≡ true → t.constants ≡ s.constants

same-later : (s : Scene) → IsLater s s
same-later s = record { names = λ n h. h; scalars = λ n h. h; executes = λ h. h; arrays = λ h. refl; constants = λ h. refl }

then-later : (s t u : Scene) → IsLater s t → IsLater t u → IsLater s u
then-later s t u h k =
    record {
      names = λ n x. k.names n (h.names n x);
      scalars = λ n x. k.scalars n (h.scalars n x);
      executes = λ x. k.executes (h.executes x);
      arrays = λ x. k.arrays (h.executes x) ∙ h.arrays x;
      constants = λ x. k.constants (h.executes x) ∙ h.constants x;
    }

-- a declaration stands in front of all executable statements
ordered : (given : Given) (s : Scene) (after label : ℕ) (f : StatementForm) → fault_of_form given s after label f ≡ None → is_in_order s after f ≡ true
ordered given s after label f h = not-false (is_in_order s after f) (or_parts (not (is_in_order s after f)) (somewhere is_lone_call (spots_in given s f)) (faultless given s after label f h).ordered).0

clash : (s : Scene) (X : Type 0) → not s.executes ≡ true → s.executes ≡ true → X
clash s X n e = absurd (let no = not-true s.executes n in cc)

pub behind-later : (given : Given) (s : Scene) (after label : ℕ) (f : StatementForm) → fault_of_form given s after label f ≡ None → IsLater s (behind given s label f)
behind-later given s after label f h = by_form f (ordered given s after label f h)
  where
    more_names : (g : StatementForm) (known : List Name) (n : Name) → is_among known n ≡ true → is_among (with_names known (names_of (behind_form given s label g) g)) n ≡ true
    more_names g known n h = known-kept known (names_of (behind_form given s label g) g) n h

    by_form : (g : StatementForm) → is_in_order s after g ≡ true → IsLater s (behind given s label g)
    by_form (program m) o = record { names = more_names (program m) s.names; scalars = λ n x. x; executes = λ x. x; arrays = λ x. refl; constants = λ x. refl }
    by_form (integer ds) o =
        record {
          names = more_names (integer ds) s.names;
          scalars = λ n x. x;
          executes = λ x. x;
          arrays = λ x. clash s ((behind given s label (integer ds)).arrays ≡ s.arrays) o x;
          constants = λ x. refl;
        }
    by_form (dimension ds) o =
        record {
          names = more_names (dimension ds) s.names;
          scalars = λ n x. x;
          executes = λ x. x;
          arrays = λ x. clash s ((behind given s label (dimension ds)).arrays ≡ s.arrays) o x;
          constants = λ x. refl;
        }
    by_form (parameter ds) o =
        let c = constants_alone given s ds in
        record {
          names = λ n x. more_names (parameter ds) (with_constants given s ds).names n (ap (λ ns. is_among ns n) c.names ∙ x);
          scalars = λ n x. ap (λ ns. is_among ns n) c.scalars ∙ x;
          executes = λ x. c.executes ∙ x;
          arrays = λ x. c.arrays;
          constants = λ x. clash s ((with_constants given s ds).constants ≡ s.constants) o x;
        }
    by_form (do_loop d) o = record { names = more_names (do_loop d) s.names; scalars = λ n x. x; executes = λ x. refl; arrays = λ x. refl; constants = λ x. refl }
    by_form (assign a) o = record { names = more_names (assign a) s.names; scalars = λ n x. known-kept s.scalars (filter (is_scalar s) (names_of s (assign a))) n x; executes = λ x. refl; arrays = λ x. refl; constants = λ x. refl }
    by_form (logical_if c a) o = record { names = more_names (logical_if c a) s.names; scalars = λ n x. known-kept s.scalars (filter (is_scalar s) (names_of s (logical_if c a))) n x; executes = λ x. refl; arrays = λ x. refl; constants = λ x. refl }
    by_form (print items) o = record { names = more_names (print items) s.names; scalars = λ n x. known-kept s.scalars (filter (is_scalar s) (names_of s (print items))) n x; executes = λ x. refl; arrays = λ x. refl; constants = λ x. refl }
    by_form continue o = record { names = more_names continue s.names; scalars = λ n x. x; executes = λ x. refl; arrays = λ x. refl; constants = λ x. refl }
    by_form stop o = record { names = more_names stop s.names; scalars = λ n x. x; executes = λ x. refl; arrays = λ x. refl; constants = λ x. refl }
    by_form end o = record { names = more_names end s.names; scalars = λ n x. x; executes = λ x. refl; arrays = λ x. refl; constants = λ x. refl }

with-later : (given : Given) (s : Scene) (after label : ℕ) (r : Result StatementForm TextFault) → fault_with given s after label r ≡ None → IsLater s (scene_with given s label r)
with-later given s after label (Ok f) h = behind-later given s after label f h
with-later given s after label (Err fault) h = absurd cc

pub from-later : (given : Given) (s : Scene) (ps : List SourceStatement) → fault_from given s ps ≡ None → IsLater s (scene_from given s ps)
from-later given s [] h = subst (IsLater s) (sym (scene_from-none given s)) (same-later s)
from-later given s (p ∷ ps) h =
    let none : fault_with given s (length ps) p.label p.reading ≡ None = first_passes given s p ps h in
    let rest : fault_from given (scene_with given s p.label p.reading) ps ≡ None = sym (passes given s p ps none) ∙ h in
    let next = scene_with given s p.label p.reading in
    subst (IsLater s) (sym (scene_from-more given s p ps)) (then-later s next (scene_from given next ps) (with-later given s (length ps) p.label p.reading none) (from-later given next ps rest))

-- ---- names that stand in a statement

-- which names stand in an expression is told by the arrays alone
names-in : (s t : Scene) → t.arrays ≡ s.arrays → (e : ExpressionForm) → names_in t e ≡ names_in s e
names-in s t a e = among (parts_of e)
  where
    part : (p : ExpressionForm) → name_in t p ≡ name_in s p
    part (number ds) = refl
    part (name n) = refl
    part (call n arguments) = ap (λ (arrays : List Array). name_in (record s { arrays = arrays }) (call n arguments)) a
    part (parenthesized x) = refl
    part (signed sign x) = refl
    part (binary op x y) = refl

    among : (ps : List ExpressionForm) → flat_map (name_in t) ps ≡ flat_map (name_in s) ps
    among [] = refl
    among (p ∷ ps) = ap (λ ns. ns ++ flat_map (name_in t) ps) (part p) ∙ ap (λ ns. name_in s p ++ ns) (among ps)

pub names-among : (s t : Scene) → t.arrays ≡ s.arrays → (es : List ExpressionForm) → names_among t es ≡ names_among s es
names-among s t a [] = refl
names-among s t a (e ∷ es) = ap (λ ns. ns ++ names_among t es) (names-in s t a e) ∙ ap (λ ns. names_in s e ++ ns) (names-among s t a es)

-- ---- variables at the end

-- an array, or a name that is used as a scalar
pub variable-there : (last : Scene) (n : Name) → is_among last.names n ≡ true → (is_array last n || is_among last.scalars n) ≡ true → is_among (variables_of last) n ≡ true
variable-there last n h k = filter-kept (λ m. is_array last m || is_among last.scalars m) last.names n h k

-- the names of a statement that is executable
pub statement-named : (s t last : Scene) (names : List Name) → IsLater t last → t.executes ≡ true → t.arrays ≡ s.arrays → ((n : Name) → is_among names n ≡ true → is_among t.names n ≡ true)
    → ((n : Name) → is_among names n ≡ true → is_scalar s n ≡ true → is_among t.scalars n ≡ true) → AreNamed (variables_of last) s names
statement-named s t last names w e a named scalars = λ n h k. variable-there last n (w.names n (named n h)) (by_kind n h (or_cases (is_array s n) (is_scalar s n) k))
  where
    same : last.arrays ≡ s.arrays
    same = w.arrays e ∙ a

    by_kind : (n : Name) → is_among names n ≡ true → (is_array s n ≡ true) ⊎ (is_scalar s n ≡ true) → (is_array last n || is_among last.scalars n) ≡ true
    by_kind n h (inl k) = or_left (is_array last n) (is_among last.scalars n) (ap (λ (arrays : List Array). is_among (map (λ (x : Array). x.name) arrays) n) same ∙ k)
    by_kind n h (inr k) = or_right (is_array last n) (is_among last.scalars n) (w.scalars n (scalars n h k))

-- ---- the dimensions of a variable, by its number

declared-rank : (texts : List (List ℕ)) (last : Scene) (n : Name) → rank (declaration texts last n) ≡ length (bounds_named last.arrays n)
declared-rank texts last n = by_test (is_array last n) refl
  where
    bounds : List (ℤ × ℤ)
    bounds = bounds_named last.arrays n

    by_test : (b : Bool) → is_array last n ≡ b
        → rank (if b then record { name = n; bounds = bounds; axis = (placed texts n (length bounds)).0; spread = (placed texts n (length bounds)).1 } else record { name = n; bounds = []; axis = 0; spread = Block }) ≡ length bounds
    by_test true e = refl
    by_test false e = sym (ap length (no_bounds last.arrays n e))

numbered-rank : (f : Name → ℕ) (names : List Name) (n : Name) → is_among names n ≡ true → slice_index_or (map f names) (number_among names n - 1) 0 ≡ f n
numbered-rank f [] n h = absurd cc
numbered-rank f (m ∷ names) n h = by_first (bytes_eq m n) refl h (numbered-rank f names n) (number_there names n)
  where
    by_first : (b : Bool) → bytes_eq m n ≡ b → (b || is_among names n) ≡ true → (is_among names n ≡ true → slice_index_or (map f names) (number_among names n - 1) 0 ≡ f n)
        → (is_among names n ≡ true → is_number_of (length names) (number_among names n) ≡ true) → slice_index_or (map f (m ∷ names)) ((if b then 1 else suc (number_among names n)) - 1) 0 ≡ f n
    by_first true e t rest there = ap f (same_bytes m n e)
    by_first false e t rest there =
        let one : 1 ≤ number_among names n = leb-true 1 (number_among names n) (and_parts (nat_le 1 (number_among names n)) (nat_le (number_among names n) (length names)) (there t)).0 in
        let above : suc (number_among names n) - 1 ≡ suc (number_among names n - 1) = omega arith in
        ap (λ k. slice_index_or (f m ∷ map f names) k 0) above ∙ rest t

abbrev pub scope_at : List (List ℕ) → Scene → Scope
scope_at texts last = record { constants = length last.constants; ranks = map rank (map (declaration texts last) (variables_of last)) }

ranks-mapped : (texts : List (List ℕ)) (last : Scene) (names : List Name) → map rank (map (declaration texts last) names) ≡ map (λ n. length (bounds_named last.arrays n)) names
ranks-mapped texts last [] = refl
ranks-mapped texts last (n ∷ names) = ap (λ k. k ∷ map rank (map (declaration texts last) names)) (declared-rank texts last n) ∙ ap (λ ks. length (bounds_named last.arrays n) ∷ ks) (ranks-mapped texts last names)

-- what is known at an executable statement, told in the words of the end
pub seen : (texts : List (List ℕ)) (s t last : Scene) → IsLater t last → t.executes ≡ true → t.arrays ≡ s.arrays → t.constants ≡ s.constants → are_counted s.opened ≡ true → list_all is_good_constant s.constants ≡ true
    → IsSeen (scope_at texts last) (loops_around s) (variables_of last) s
seen texts s t last w e a c counted values =
    let names = variables_of last in
    let same : last.arrays ≡ s.arrays = w.arrays e ∙ a in
    let ranks = ranks-mapped texts last names in
    record {
      constants = ap length (w.constants e ∙ c);
      inside = refl;
      counted = counted;
      values = values;
      many = length-map (map (declaration texts last) names) rank ∙ length-map names (declaration texts last);
      ranked = λ n h. ap (λ ks. slice_index_or ks (number_among names n - 1) 0) ranks ∙ numbered-rank (λ m. length (bounds_named last.arrays m)) names n h ∙ ap (λ (arrays : List Array). length (bounds_named arrays n)) same;
    }

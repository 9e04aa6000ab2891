-- Statements without fault are good.
use Rattle.std.proofs.Common.{◌≡◌, ℕ, ◌≤◌, nat_lt, nat_le, pos, unsigned_abs, Bool, true, false, not, ◌&&◌, ◌||◌, List, [], ◌∷◌, ◌++◌, length, map, filter, if◌then◌else◌, Option, Some, None, IsTrue, refl, sym, ap, ◌∙◌, arith}
use Rattle.std.proofs.lemmas.Bool.{and_from, and_parts, both_ways, leb-true, lt-ltb, false_from_ne_true, not_from_false, or_left, or_parts}
use Rattle.std.specs.List.{list_all, list_any, flat_map}
use Rattle.std.specs.Ordering.{int_eq}
use Rattle.std.specs.Str.{bytes_eq}
use Rattle.nest_tree.specs.declared.tree.Guard.{Guard}
use Rattle.nest_tree.specs.Form.{is_small}
use Rattle.nest_tree.specs.Tree as tree
use Rattle.nest_tree.specs.WellFormed.{Scope, is_good_access, is_good_dimension, is_good_expression, is_good_guard, is_good_head, is_good_item, is_good_work, is_number_of, names_only, rank_of}
use Rattle.f77_forms.specs.Form.{ExpressionForm, number, name, call, parenthesized, signed, binary, ArgumentForms, no_more, one_more, AssignmentForm, ComparisonForm, DoForm, PrintedForm, value, constant, StatementForm, TargetForm}
use Rattle.f77_forms.specs.Text.{sum, is_assignment, is_expression, is_printed, is_target}
use Rattle.f77_program.proofs.Limited.{some_size}
use Rattle.f77_program.proofs.Mapped.{same_itself}
use Rattle.f77_program.specs.declared.reach.Reach.TheVariants.{Within}
use Rattle.f77_program.specs.Reaches.{reach_of}
use Rattle.f77_scene.specs.Affine.{form_of}
use Rattle.f77_scene.specs.Behind.{is_scalar}
use Rattle.f77_scene.specs.Expressions.{parts_of, list_of, names_in, is_constant, value_of}
use Rattle.f77_scene.specs.Limits.{past}
use Rattle.f77_scene.specs.Scene.{Name, Scene, Given, bounds_named, is_among, is_array, is_constant_name, is_open, number_among}
use Rattle.f77_scene.specs.Statements.{Spot, item_expressions, is_whole, loops_in, names_among, optional, spots_in, targets_in}
use Rattle.f77_scene.specs.Tests.{declares_again, divides_badly, has_wrong_subscripts, is_bad_loop, is_bad_rank, is_bad_target, is_declaration, is_read_outside, is_unknown_call, somewhere, subscripts_in}
use Rattle.f77_scene.specs.Trees.{access, guard_of, head_of, item_tree, step_value, tree_of, value_tree}
use Rattle.f77_source.specs.Limits.{is_good_array}
use Rattle.f77_source.proofs.Affined.{number_there}
use Rattle.f77_source.proofs.Declared.{found_good}
use Rattle.f77_source.proofs.Faultless.{IsFaultless}
use Rattle.f77_source.proofs.Formed.{reach_both}
use Rattle.f77_source.proofs.Kept.{small}
use Rattle.f77_source.proofs.Treed.{AreNamed, AreSound, IsSeen, element-good, forms-good, named-behind, named-front, scalar-good, scalar-named, tree-good}

-- ---- the expressions of a statement without fault

pub record AreFine (spots : List Spot) : Type 0 where
  pub known : somewhere is_unknown_call spots ≡ false
  pub ranked : somewhere has_wrong_subscripts spots ≡ false
  pub divided : somewhere divides_badly spots ≡ false

pub fine : {given : Given} {s : Scene} {after label : ℕ} {f : StatementForm} → IsFaultless given s after label f → AreFine (spots_in given s f)
fine {given} {s} {after} {label} {f} h =
    let unknown = somewhere is_unknown_call (spots_in given s f) in
    let targets = list_any (is_bad_target s) (targets_in f) in
    let declared = is_declaration f && list_any (λ (spot : Spot). not (is_constant spot.0 spot.1)) (spots_in given s f) in
    let first = or_parts (unknown || targets || declared) (declares_again s f) h.known in
    let second = or_parts (unknown || targets) declared first.0 in
    let wrong = or_parts (list_any (λ (t : TargetForm). is_bad_rank s t.name t.arguments) (targets_in f)) (somewhere has_wrong_subscripts (spots_in given s f)) h.ranked in
    record { known = (or_parts unknown targets second.0).0; ranked = wrong.1; divided = h.divided }

-- expressions, each with what is known in front of it
abbrev spots : Scene → List ExpressionForm → List Spot
spots s es = map (λ (e : ExpressionForm). (s, e)) es

behind_first : (s : Scene) (e : ExpressionForm) (es : List ExpressionForm) → AreFine (spots s (e ∷ es)) → AreFine (spots s es)
behind_first s e es h =
    record {
      known = (or_parts (list_any (is_unknown_call s) (parts_of e)) (somewhere is_unknown_call (spots s es)) h.known).1;
      ranked = (or_parts (list_any (has_wrong_subscripts s) (parts_of e)) (somewhere has_wrong_subscripts (spots s es)) h.ranked).1;
      divided = (or_parts (list_any (divides_badly s) (parts_of e)) (somewhere divides_badly (spots s es)) h.divided).1;
    }

pub last_fine : (s : Scene) (es : List ExpressionForm) (e : ExpressionForm) → AreFine (spots s (es ++ e ∷ [])) → AreFine (spots s (e ∷ []))
last_fine s [] e h = h
last_fine s (x ∷ es) e h = last_fine s es e (behind_first s x (es ++ e ∷ []) h)

first-sound : (variables : List Name) (s : Scene) (e : ExpressionForm) (es : List ExpressionForm) → AreFine (spots s (e ∷ es)) → reach_of s (subscripts_in s e) ≡ Within → AreNamed variables s (names_in s e) → AreSound variables s (parts_of e)
first-sound variables s e es h w n =
    record {
      known = (or_parts (list_any (is_unknown_call s) (parts_of e)) (somewhere is_unknown_call (spots s es)) h.known).0;
      ranked = (or_parts (list_any (has_wrong_subscripts s) (parts_of e)) (somewhere has_wrong_subscripts (spots s es)) h.ranked).0;
      divided = (or_parts (list_any (divides_badly s) (parts_of e)) (somewhere divides_badly (spots s es)) h.divided).0;
      reached = w;
      named = n;
    }

-- ---- targets

pub record IsFineTarget (s : Scene) (t : TargetForm) : Type 0 where
  pub named : is_bad_target s t ≡ false
  pub ranked : is_bad_rank s t.name t.arguments ≡ false
  pub free : is_among s.loop_variables t.name ≡ false

pub fine_target : {given : Given} {s : Scene} {after label : ℕ} {f : StatementForm} → IsFaultless given s after label f → (t : TargetForm) → targets_in f ≡ t ∷ [] → IsFineTarget s t
fine_target {given} {s} {after} {label} {f} h t is =
    let unknown = somewhere is_unknown_call (spots_in given s f) in
    let targets = list_any (is_bad_target s) (targets_in f) in
    let declared = is_declaration f && list_any (λ (spot : Spot). not (is_constant spot.0 spot.1)) (spots_in given s f) in
    let first = or_parts (unknown || targets || declared) (declares_again s f) h.known in
    let second = or_parts (unknown || targets) declared first.0 in
    let named = (or_parts unknown targets second.0).1 in
    let wrong = λ (x : TargetForm). is_bad_rank s x.name x.arguments in
    let ranked = (or_parts (list_any wrong (targets_in f)) (somewhere has_wrong_subscripts (spots_in given s f)) h.ranked).0 in
    let used = λ (x : TargetForm). is_among s.loop_variables x.name in
    let outside = somewhere is_read_outside (spots_in given s f) in
    let free = (or_parts (list_any used (targets_in f)) outside (or_parts (list_any used (targets_in f) || outside) (list_any (is_bad_loop s) (loops_in f)) h.looped).0).0 in
    record {
      named = (or_parts (is_bad_target s t) false (sym (ap (list_any (is_bad_target s)) is) ∙ named)).0;
      ranked = (or_parts (wrong t) false (sym (ap (list_any wrong) is) ∙ ranked)).0;
      free = (or_parts (used t) false (sym (ap (list_any used) is) ∙ free)).0;
    }

-- the variables of open loops are variables of loops
abbrev pub AreLoops : Scene → Type 0
AreLoops s = (n : Name) → is_open s n ≡ true → is_among s.loop_variables n ≡ true

target-good : {scope : Scope} {around : List ℕ} {variables : List Name} {s : Scene} (w : IsSeen scope around variables s) (n : Name) (arguments : ArgumentForms) → AreLoops s → IsFineTarget s (record { name = n; arguments = arguments })
    → reach_of s (list_of arguments) ≡ Within → AreNamed variables s (n ∷ []) → is_good_access scope around (access variables s n arguments) ≡ true
target-good {scope} {around} {variables} {s} w n arguments loops t within named = by_array (is_array s n) refl arguments t within
  where
    parts : (es : ArgumentForms) → IsFineTarget s (record { name = n; arguments = es }) → (is_constant_name s n ≡ false) × ((nat_lt 0 (length (list_of es)) && not (is_array s n)) ≡ false)
    parts es u = or_parts (is_constant_name s n) (nat_lt 0 (length (list_of es)) && not (is_array s n)) u.named

    closed : is_open s n ≡ false
    closed = false_from_ne_true (is_open s n) (λ o. both_ways (is_among s.loop_variables n) t.free (loops n o))

    here : is_among (n ∷ []) n ≡ true
    here = or_left (bytes_eq n n) false (same_itself n)

    by_array : (b : Bool) → is_array s n ≡ b → (es : ArgumentForms) → IsFineTarget s (record { name = n; arguments = es }) → reach_of s (list_of es) ≡ Within → is_good_access scope around (access variables s n es) ≡ true
    by_array true a es u r = element-good w n es a u.ranked (named n here (or_left (is_array s n) (is_scalar s n) a)) r
    by_array false a no_more u r = scalar-good w n a (named n here (scalar-named s n a (parts no_more u).0 closed))
    by_array false a (one_more e rest) u r =
        let many = nat_lt 0 (length (list_of (one_more e rest))) in
        let some : many ≡ true = lt-ltb 0 (length (list_of (one_more e rest))) (omega arith) in
        absurd (both_ways (many && not (is_array s n)) (parts (one_more e rest) u).1 (and_from many (not (is_array s n)) some (not_from_false (is_array s n) a)))

pub assignment-good : {scope : Scope} {around : List ℕ} {variables : List Name} {s : Scene} (w : IsSeen scope around variables s) (line : ℕ) (guard : Option Guard) (a : AssignmentForm) → AreLoops s → is_assignment a ≡ true → IsFineTarget s a.target
    → AreFine (spots s (a.value ∷ [])) → reach_of s (list_of a.target.arguments ++ subscripts_in s a.value) ≡ Within → AreNamed variables s (a.target.name ∷ names_among s (list_of a.target.arguments ++ a.value ∷ []))
    → is_good_guard scope around guard ≡ true
    → is_good_work scope around (tree.assign (record { target = access variables s a.target.name a.target.arguments; value = tree_of variables s a.value; guard = guard; line = line })) ≡ true
assignment-good {scope} {around} {variables} {s} w line guard a loops g t f r m good =
    let n = a.target.name in
    let arguments = a.target.arguments in
    let spoken = and_parts (is_target a.target) (is_expression sum a.value) g in
    let reached = reach_both s (list_of arguments) (subscripts_in s a.value) r in
    let others = named-behind variables s (n ∷ []) (names_among s (list_of arguments ++ a.value ∷ [])) m in
    let named = named-front variables s (names_in s a.value) [] (last_named variables s (list_of arguments) a.value others) in
    let stored = is_good_access scope around (access variables s n arguments) in
    let read = is_good_expression scope around (tree_of variables s a.value) in
    and_from (stored && read) (is_good_guard scope around guard)
    (and_from stored read (target-good w n arguments loops t reached.0 (named-front variables s (n ∷ []) (names_among s (list_of arguments ++ a.value ∷ [])) m))
    (tree-good w sum a.value spoken.1 (first-sound variables s a.value [] f reached.1 named))) good
  where
    last_named : (variables : List Name) (s : Scene) (es : List ExpressionForm) (e : ExpressionForm) → AreNamed variables s (names_among s (es ++ e ∷ [])) → AreNamed variables s (names_in s e ++ [])
    last_named variables s [] e h = h
    last_named variables s (x ∷ es) e h = last_named variables s es e (named-behind variables s (names_in s x) (names_among s (es ++ e ∷ [])) h)

-- a form that has to be one of this place
one-good : {scope : Scope} {around : List ℕ} {variables : List Name} {s : Scene} (w : IsSeen scope around variables s) (e : ExpressionForm) → reach_of s (e ∷ []) ≡ Within → names_only scope.constants around (form_of s e) ≡ true
one-good {scope} {around} {variables} {s} w e h = (and_parts (names_only scope.constants around (form_of s e)) true (forms-good w (e ∷ []) h)).0

pub guard-good : {scope : Scope} {around : List ℕ} {variables : List Name} {s : Scene} (w : IsSeen scope around variables s) (c : ComparisonForm) → reach_of s (c.left ∷ []) ≡ Within → reach_of s (c.right ∷ []) ≡ Within
    → is_good_guard scope around (Some (guard_of s c)) ≡ true
guard-good {scope} {around} {variables} {s} w c l r = and_from (names_only scope.constants around (form_of s c.left)) (names_only scope.constants around (form_of s c.right)) (one-good w c.left l) (one-good w c.right r)

-- ---- the items of a PRINT

item-good : {scope : Scope} {around : List ℕ} {variables : List Name} {s : Scene} (w : IsSeen scope around variables s) (e : ExpressionForm) → IsTrue (list_all is_good_array s.arrays) → is_expression sum e ≡ true
    → (is_whole s e ≡ false → AreSound variables s (parts_of e)) → AreNamed variables s (names_in s e) → is_good_item scope around (value_tree variables s e) ≡ true
item-good w (number ds) arrays g h m = tree-good w sum (number ds) g (h refl)
item-good {scope} {around} {variables} {s} w (name n) arrays g h m = by_array (is_array s n) refl
  where
    k : ℕ
    k = number_among variables n

    whole : is_array s n ≡ true → (is_number_of (length scope.ranks) k && nat_lt 0 (rank_of scope k)) ≡ true
    whole a =
        let there = m n (or_left (bytes_eq n n) false (same_itself n)) (or_left (is_array s n) (is_scalar s n) a) in
        let bounds = bounds_named s.arrays n in
        let good = and_parts (list_all is_good_dimension bounds && nat_le 1 (length bounds)) (nat_le (length bounds) 3) (found_good s.arrays n arrays a) in
        let one : nat_le 1 (length bounds) ≡ true = (and_parts (list_all is_good_dimension bounds) (nat_le 1 (length bounds)) good.0).1 in
        let above : 1 ≤ length bounds = leb-true 1 (length bounds) one in
        let some : nat_lt 0 (length bounds) ≡ true = lt-ltb 0 (length bounds) (omega arith) in
        and_from (is_number_of (length scope.ranks) k) (nat_lt 0 (rank_of scope k)) (ap (λ c. is_number_of c k) w.many ∙ number_there variables n there) (ap (nat_lt 0) (w.ranked n there) ∙ some)

    by_array : (b : Bool) → is_array s n ≡ b → is_good_item scope around (if b then tree.whole k else tree.value (tree_of variables s (name n))) ≡ true
    by_array true a = whole a
    by_array false a = tree-good w sum (name n) g (h a)
item-good w (call n arguments) arrays g h m = tree-good w sum (call n arguments) g (h refl)
item-good w (parenthesized e) arrays g h m = tree-good w sum (parenthesized e) g (h refl)
item-good w (signed sign e) arrays g h m = tree-good w sum (signed sign e) g (h refl)
item-good w (binary op a b) arrays g h m = tree-good w sum (binary op a b) g (h refl)

abbrev values_in : Scene → List PrintedForm → List ExpressionForm
values_in s items = filter (λ e. not (is_whole s e)) (flat_map item_expressions items)

pub items-good : {scope : Scope} {around : List ℕ} {variables : List Name} {s : Scene} (w : IsSeen scope around variables s) (items : List PrintedForm) → IsTrue (list_all is_good_array s.arrays) → list_all is_printed items ≡ true
    → AreFine (spots s (values_in s items)) → reach_of s (flat_map (subscripts_in s) (values_in s items)) ≡ Within → AreNamed variables s (names_among s (flat_map item_expressions items))
    → list_all (is_good_item scope around) (map (item_tree variables s) items) ≡ true
items-good w [] arrays g f r m = refl
items-good w (constant characters ∷ items) arrays g f r m = items-good w items arrays (and_parts (is_printed (constant characters)) (list_all is_printed items) g).1 f r m
items-good {scope} {around} {variables} {s} w (value e ∷ items) arrays g f r m = by_whole (is_whole s e) refl f r (items-good w items arrays spoken.1)
  where
    spoken : (is_expression sum e ≡ true) × (list_all is_printed items ≡ true)
    spoken = and_parts (is_expression sum e) (list_all is_printed items) g

    first : AreNamed variables s (names_in s e)
    first = named-front variables s (names_in s e) (names_among s (flat_map item_expressions items)) m

    others : AreNamed variables s (names_among s (flat_map item_expressions items))
    others = named-behind variables s (names_in s e) (names_among s (flat_map item_expressions items)) m

    listed : Bool → List ExpressionForm
    listed b = if not b then e ∷ values_in s items else values_in s items

    by_whole : (b : Bool) → is_whole s e ≡ b → AreFine (spots s (listed b)) → reach_of s (flat_map (subscripts_in s) (listed b)) ≡ Within
        → (AreFine (spots s (values_in s items)) → reach_of s (flat_map (subscripts_in s) (values_in s items)) ≡ Within → AreNamed variables s (names_among s (flat_map item_expressions items)) → list_all (is_good_item scope around) (map (item_tree variables s) items) ≡ true)
        → list_all (is_good_item scope around) (map (item_tree variables s) (value e ∷ items)) ≡ true
    by_whole true is fine reach rest =
        and_from (is_good_item scope around (value_tree variables s e)) (list_all (is_good_item scope around) (map (item_tree variables s) items))
        (item-good w e arrays spoken.0 (λ no. absurd (both_ways (is_whole s e) no is)) first) (rest fine reach others)
    by_whole false is fine reach rest =
        let both = reach_both s (subscripts_in s e) (flat_map (subscripts_in s) (values_in s items)) reach in
        and_from (is_good_item scope around (value_tree variables s e)) (list_all (is_good_item scope around) (map (item_tree variables s) items))
        (item-good w e arrays spoken.0 (λ no. first-sound variables s e (values_in s items) fine both.0 first) first) (rest (behind_first s e (values_in s items) fine) both.1 others)

-- ---- DO statements

pub head-good : {scope : Scope} {around : List ℕ} {variables : List Name} {s : Scene} (w : IsSeen scope around variables s) (line : ℕ) (d : DoForm) → reach_of s (d.first ∷ d.last ∷ []) ≡ Within → (step : Option ExpressionForm) → d.step ≡ step
    → list_any (λ e. int_eq (value_of s e) (pos 0)) (optional step ++ []) ≡ false → past (map (value_of s) (optional step ++ [])) ≡ [] → is_good_head scope around (head_of s line d) ≡ true
head-good {scope} {around} {variables} {s} w line d r step is zero limit =
    let both = reach_both s (d.first ∷ []) (d.last ∷ []) r in
    let first = names_only scope.constants around (form_of s d.first) in
    let last = names_only scope.constants around (form_of s d.last) in
    let z = step_value s d.step in
    let good = step-good step zero limit in
    let same = ap (step_value s) is in
    and_from (first && last && nat_lt 0 (unsigned_abs z)) (is_small z)
    (and_from (first && last) (nat_lt 0 (unsigned_abs z)) (and_from first last (one-good w d.first both.0) (one-good w d.last both.1)) (ap (λ x. nat_lt 0 (unsigned_abs x)) same ∙ good.0)) (ap is_small same ∙ good.1)
  where
    step-good : (o : Option ExpressionForm) → list_any (λ e. int_eq (value_of s e) (pos 0)) (optional o ++ []) ≡ false → past (map (value_of s) (optional o ++ [])) ≡ []
        → (nat_lt 0 (unsigned_abs (step_value s o)) ≡ true) × (is_small (step_value s o) ≡ true)
    step-good None h k = (refl, refl)
    step-good (Some e) h k = (some_size (value_of s e) (or_parts (int_eq (value_of s e) (pos 0)) false h).0, (small (value_of s e) [] k).0)

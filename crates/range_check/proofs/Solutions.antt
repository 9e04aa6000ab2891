-- The values of an instance whose subscript leaves a bound solve the system of that bound.
use Rattle.std.proofs.Common.{◌≡◌, ℕ, suc, ◌+◌, ◌*◌, ◌-◌, ◌<◌, ◌&&◌, ℤ, pos, ◌-ℤ◌, neg_ℤ, ◌≤ℤ◌, int_le, Bool, true, false, Option, Some, None, List, [], ◌∷◌, ◌++◌, append_assoc, length, length-append, get_or, map, refl, ap, sym, ◌∙◌, subst, arith, ◌≤◌}
use Rattle.std.specs.List.{AllByRecursion, Contains, list_all, slice_get}
use Rattle.list_lemmas.proofs.Each.{all-contained}
use Rattle.farkas_cert.specs.declared.certificate.Certificate.{Certificate}
use Rattle.farkas_cert.specs.Good.{IsGood}
use Rattle.std.proofs.lemmas.Bool.{and_from, and_parts}
use Rattle.std.proofs.lemmas.Int.{ints}
use Rattle.std.proofs.lemmas.List.{get_or_append_left, get_or_default, length-map}
use Rattle.std.proofs.lemmas.List.Folds.{list_all-append}
use Rattle.std.proofs.lemmas.List.Sums.{AllPass-from_list_all}
use Rattle.nest_tree.specs.declared.tree.Access.{Access}
use Rattle.nest_tree.specs.declared.tree.Guard.{Guard}
use Rattle.nest_tree.specs.Form.{Form, form_value, numbered}
use Rattle.nest_tree.specs.Guards.{holds}
use Rattle.nest_tree.specs.Layout.{are_inside, bounds_of, is_inside}
use Rattle.nest_tree.specs.Tree.{Constant, Head, Work, assign, print, Tree, param_values}
use Rattle.nest_tree.specs.WellFormed.{IsWellFormed, is_good_access, is_good_expression, is_good_guard, is_good_work, names_only, scope_of}
use Rattle.nest_tree.specs.Loads.{loads_in}
use Rattle.nest_model.specs.Instances.{Instance, instances, is_executed}
use Rattle.nest_model.specs.Ranges.{accesses_of, is_access_inside}
use Rattle.farkas_cert.specs.Inequalities.{IsWholeSolution}
use Rattle.farkas_cert.proofs.Exclusion.{good_excludes}
use Rattle.nest_rows.specs.declared.constraint.Sign.{Sign}
use Rattle.nest_rows.specs.declared.constraint.Sign.TheVariants.{Plus, Minus}
use Rattle.nest_rows.specs.Constraints.{IsMet, system_of}
use Rattle.nest_rows.specs.Groups.{at_most, constants_have, guard_has, guard_of, loops_have}
use Rattle.nest_rows.specs.Nested.{AreTrips, IsNestedInstance, Nested, nested_works}
use Rattle.nest_rows.specs.Places.{AreLaid, laid}
use Rattle.nest_rows.specs.Signs.{signed}
use Rattle.nest_rows.proofs.Dots.{at-seam, constants-in-front, numbers}
use Rattle.nest_walk.proofs.GoodAccesses.{good_access-there}
use Rattle.nest_rows.proofs.GoodNesting.{IsGoodNested, form-among, works_good}
use Rattle.nest_rows.proofs.Nesting.{all-at, instance_nested}
use Rattle.nest_rows.proofs.GroupsMet.{at_most_met, both_met, constants_met, guard_met, is_head_among, loops_met}
use Rattle.nest_rows.proofs.Over.{at_most-over, constants_have-over, guard-over, loops_have-over}
use Rattle.nest_rows.proofs.Sums.{is_over, solves}
use Rattle.range_check.specs.Certified.{IsCertified}
use Rattle.range_check.specs.RangeSystems.{above, below, bounds_in, constant_count, first_loop, no_form, standing, unknowns}
use Rattle.range_check.specs.Sites.{site_of}
use Rattle.range_check.proofs.Sound.{both_good, items_loads_good, loads_good}

-- the unknowns' values: the named constants', then the loops' values and trips
laid-length : (params loops : List ℤ) (heads : List Head) (ns : List ℕ) → AreTrips params loops heads ns → length (laid loops heads ns) ≡ 2 * length heads
laid-length params loops [] [] h = omega arith
laid-length params loops [] (n ∷ ns) h = absurd h
laid-length params loops (g ∷ heads) [] h = absurd h
laid-length params loops (g ∷ heads) (n ∷ ns) h = omega (arith, laid-length params loops heads ns h.1)

laid-behind : (before params loops : List ℤ) (heads : List Head) (ns : List ℕ) → AreTrips params loops heads ns → AreLaid (before ++ laid loops heads ns) (length before + 1) loops heads ns
laid-behind before params loops [] [] h = tt
laid-behind before params loops [] (n ∷ ns) h = absurd h
laid-behind before params loops (g ∷ heads) [] h = absurd h
laid-behind before params loops (g ∷ heads) (n ∷ ns) h =
    let v = numbered loops g.number in
    let rest = laid loops heads ns in
    let more = before ++ (v ∷ pos n ∷ []) in
    let one = before ++ v ∷ [] in
    let long : length one ≡ length before + 1 = length-append before (v ∷ []) ∙ omega arith in
    let two : length more + 1 ≡ length before + 1 + 2 = omega (arith, length-append before (v ∷ pos n ∷ [])) in
    let as_one : before ++ (v ∷ (pos n ∷ rest)) ≡ one ++ (pos n ∷ rest) = sym (append_assoc before (v ∷ []) (pos n ∷ rest)) in
    let as_more : more ++ rest ≡ before ++ (v ∷ (pos n ∷ rest)) = append_assoc before (v ∷ pos n ∷ []) rest in
    let trip : numbered (before ++ (v ∷ (pos n ∷ rest))) (length before + 1 + 1) ≡ pos n = ap (λ xs. numbered xs (length before + 1 + 1)) as_one ∙ ap (λ k. numbered (one ++ (pos n ∷ rest)) (k + 1)) (sym long) ∙ at-seam one (pos n) rest in
    (at-seam before v (pos n ∷ rest), trip, subst (λ xs. AreLaid xs (length before + 1 + 2) loops heads ns) as_more (subst (λ k. AreLaid (more ++ rest) k loops heads ns) two (laid-behind more params loops heads ns h.1)))

-- what is known of an access
module _ (tree : Tree) (formed : IsWellFormed tree) (n : Nested) (good : IsGoodNested (scope_of tree) n) (loops : List ℤ) (ns : List ℕ) (trips : AreTrips (param_values tree) loops n.around ns) (executed : is_executed n.what loops (param_values tree) ≡ true) where
  values : List ℤ
  values = param_values tree ++ laid loops n.around ns

  as_many : length (param_values tree) ≡ constant_count tree
  as_many = length-map tree.params (λ (p : Constant). p.value)

  values_long : (a : Access) → length (param_values tree ++ laid loops n.around ns) ≡ unknowns tree (site_of n a)
  values_long a = omega (arith, as_many, length-append (param_values tree) (laid loops n.around ns), laid-length (param_values tree) loops n.around ns trips)

  are_laid : AreLaid (param_values tree ++ laid loops n.around ns) (first_loop tree) loops n.around ns
  are_laid =
      subst (λ k. AreLaid (param_values tree ++ laid loops n.around ns) (k + 1) loops n.around ns) as_many (laid-behind (param_values tree) (param_values tree) loops n.around ns trips)

  heads_known : AllByRecursion (λ h. is_head_among (length (param_values tree)) (numbers n.around) h ≡ true) n.around
  heads_known = subst (λ k. AllByRecursion (λ h. is_head_among k (numbers n.around) h ≡ true) n.around) (sym as_many) good.heads

  guard_parts : (w : Work) → is_good_work (scope_of tree) good.loops w ≡ true → is_good_guard (scope_of tree) good.loops (guard_of w) ≡ true
  guard_parts (assign a) h = (and_parts (is_good_access (scope_of tree) good.loops a.target && is_good_expression (scope_of tree) good.loops a.value) (is_good_guard (scope_of tree) good.loops a.guard) h).1
  guard_parts (print p) h = refl

  guard_among : (g : Option Guard) → is_good_guard (scope_of tree) good.loops g ≡ true → is_good_guard (scope_of tree) (numbers n.around) g ≡ true
  guard_among None h = refl
  guard_among (Some g) h =
      let parts = and_parts (names_only (constant_count tree) good.loops g.left) (names_only (constant_count tree) good.loops g.right) h in
      and_from (names_only (constant_count tree) (numbers n.around) g.left) (names_only (constant_count tree) (numbers n.around) g.right)
      (form-among (constant_count tree) good.loops (numbers n.around) g.left good.among parts.0) (form-among (constant_count tree) good.loops (numbers n.around) g.right good.among parts.1)

  guard_good : is_good_guard (scope_of tree) (numbers n.around) (guard_of n.what) ≡ true
  guard_good = guard_among (guard_of n.what) (guard_parts n.what good.good)

  guard_holds : (w : Work) → is_executed w loops (param_values tree) ≡ true → holds (guard_of w) loops (param_values tree) ≡ true
  guard_holds (assign a) h = h
  guard_holds (print p) h = refl

  standing_met : (a : Access) → AllByRecursion (IsMet (param_values tree ++ laid loops n.around ns)) (standing tree (site_of n a))
  standing_met a =
      let params = param_values tree in
      let xs = params ++ laid loops n.around ns in
      let first = first_loop tree in
      let constants = constants-in-front params (laid loops n.around ns) in
      let C = constants_have 1 params in
      let L = loops_have first n.around first n.around in
      let G = guard_has first n.around (guard_of n.what) in
      let values_at = λ (k : ℕ) (d : ℤ) (lt : k < length params).
      let place : 1 + k - 1 ≡ k = omega arith in
      ap (λ j. get_or xs j (pos 0)) place ∙ get_or_append_left params (laid loops n.around ns) (pos 0) k lt ∙ get_or_default params k (pos 0) d lt in
      let c = constants_met xs 1 params values_at in
      let l = loops_met xs first loops n.around ns params are_laid constants first n.around ns are_laid heads_known trips in
      let known = subst (λ k. is_good_guard (record { constants = k; ranks = (scope_of tree).ranks }) (numbers n.around) (guard_of n.what) ≡ true) (sym as_many) guard_good in
      let g = guard_met xs first loops n.around ns params are_laid constants (scope_of tree).ranks (guard_of n.what) known (guard_holds n.what executed) in
      both_met xs (C ++ L) G (both_met xs C L c l) g

  standing_over : (a : Access) → list_all (is_over (unknowns tree (site_of n a))) (standing tree (site_of n a)) ≡ true
  standing_over a =
      let vars = unknowns tree (site_of n a) in
      let first = first_loop tree in
      let C = constants_have 1 (param_values tree) in
      let L = loops_have first n.around first n.around in
      let G = guard_has first n.around (guard_of n.what) in
      let over = is_over vars in
      let c = constants_have-over vars 1 (param_values tree) (omega arith) (omega (arith, as_many)) in
      let l = loops_have-over vars (constant_count tree) first n.around (omega arith) (omega arith) (omega arith) first n.around (omega arith) (omega arith) good.heads in
      let sides = λ (x : Guard) (e : guard_of n.what ≡ Some x). sym (ap (is_good_guard (scope_of tree) (numbers n.around)) e) ∙ guard_good in
      let g = guard-over vars (constant_count tree) first n.around (omega arith) (omega arith) (omega arith) (guard_of n.what) sides in
      list_all-append over (C ++ L) G ∙ and_from (list_all over (C ++ L)) (list_all over G) (list_all-append over C L ∙ and_from (list_all over C) (list_all over L) c l) g

  -- a subscript of the access past this bound, on this side
  solved : (a : Access) (sign : Sign) (f : Form) (most : ℤ) → names_only (constant_count tree) (numbers n.around) f ≡ true → signed sign (form_value f loops (param_values tree)) ≤ℤ most →
      IsWholeSolution (system_of (unknowns tree (site_of n a)) (standing tree (site_of n a) ++ at_most sign (first_loop tree) n.around f most ∷ [])) (param_values tree ++ laid loops n.around ns)
  solved a sign f most named past =
      let vars = unknowns tree (site_of n a) in
      let S = standing tree (site_of n a) in
      let xs = param_values tree ++ laid loops n.around ns in
      let last = at_most sign (first_loop tree) n.around f most in
      let known = ap (λ k. names_only k (numbers n.around) f) as_many ∙ named in
      let met = at_most_met xs (first_loop tree) loops n.around ns (param_values tree) are_laid (constants-in-front (param_values tree) (laid loops n.around ns)) sign f most known past in
      let over = at_most-over vars (constant_count tree) (first_loop tree) n.around (omega arith) (omega arith) (omega arith) sign f most named in
      solves vars (S ++ last ∷ []) xs (values_long a)
      (list_all-append (is_over vars) S (last ∷ []) ∙ and_from (list_all (is_over vars) S) (is_over vars last && true) (standing_over a) (and_from (is_over vars last) true over refl))
      (both_met xs S (last ∷ []) (standing_met a) (met, tt))

  not_below : (low v : ℤ) → int_le low v ≡ false → v ≤ℤ (low -ℤ pos 1)
  not_below low v h = grind (arith, ints, h)

  not_above : (high v : ℤ) → int_le v high ≡ false → neg_ℤ v ≤ℤ (neg_ℤ high -ℤ pos 1)
  not_above high v h = grind (arith, ints, h)

  known_form : (a : Access) (d : ℕ) → is_good_access (scope_of tree) good.loops a ≡ true → d < length a.subscripts → names_only (constant_count tree) (numbers n.around) (get_or a.subscripts d no_form) ≡ true
  known_form a d h lt =
      let forms = (and_parts _ (list_all (names_only (constant_count tree) good.loops) a.subscripts) h).1 in
      form-among (constant_count tree) good.loops (numbers n.around) (get_or a.subscripts d no_form) good.among (AllPass-from_list_all (names_only (constant_count tree) good.loops) a.subscripts forms d no_form lt)

  -- a certified subscript is within its bounds
  dimension_inside : (a : Access) (d : ℕ) → is_good_access (scope_of tree) good.loops a ≡ true → IsCertified tree (site_of n a) → d < length (bounds_of tree a.variable) → d < length a.subscripts →
      is_inside (get_or (bounds_of tree a.variable) d (pos 0, pos 0)) (form_value (get_or a.subscripts d no_form) loops (param_values tree)) ≡ true
  dimension_inside a d h certified lt lt' =
      let site = site_of n a in
      let b = get_or (bounds_of tree a.variable) d (pos 0, pos 0) in
      let f = get_or a.subscripts d no_form in
      let v = form_value f loops (param_values tree) in
      let named = known_form a d h lt' in
      let place : d + 1 - 1 ≡ d = omega arith in
      let proof = certified (d + 1) (omega arith) (omega (arith, lt)) in
      let S = standing tree site in
      let low_system : below tree site (d + 1) ≡ system_of (unknowns tree site) (S ++ at_most Plus (first_loop tree) n.around f (b.0 -ℤ pos 1) ∷ []) =
      ap (λ k. system_of (unknowns tree site) (S ++ at_most Plus (first_loop tree) n.around (get_or a.subscripts k no_form) ((get_or (bounds_of tree a.variable) k (pos 0, pos 0)).0 -ℤ pos 1) ∷ [])) place in
      let high_system : above tree site (d + 1) ≡ system_of (unknowns tree site) (S ++ at_most Minus (first_loop tree) n.around f (neg_ℤ b.1 -ℤ pos 1) ∷ []) =
      ap (λ k. system_of (unknowns tree site) (S ++ at_most Minus (first_loop tree) n.around (get_or a.subscripts k no_form) (neg_ℤ (get_or (bounds_of tree a.variable) k (pos 0, pos 0)).1 -ℤ pos 1) ∷ [])) place in
      let xs = param_values tree ++ laid loops n.around ns in
      let low_out = λ (e : int_le b.0 v ≡ false). good_excludes (below tree site (d + 1)) proof.0.0 xs proof.1.0 (subst (λ s. IsWholeSolution s xs) (sym low_system) (solved a Plus f (b.0 -ℤ pos 1) named (not_below b.0 v e))) in
      let high_out = λ (e : int_le v b.1 ≡ false). good_excludes (above tree site (d + 1)) proof.0.1 xs proof.1.1 (subst (λ s. IsWholeSolution s xs) (sym high_system) (solved a Minus f (neg_ℤ b.1 -ℤ pos 1) named (not_above b.1 v e))) in
      and_from (int_le b.0 v) (int_le v b.1) (so (int_le b.0 v) low_out) (so (int_le v b.1) high_out)
    where
      so : (b : Bool) → (b ≡ false → ⊥) → b ≡ true
      so true f = refl
      so false f = absurd (f refl)

inside-from : (bounds : List (ℤ × ℤ)) (fs : List Form) (loops params : List ℤ) → ((d : ℕ) → d < length bounds → d < length fs → is_inside (get_or bounds d (pos 0, pos 0)) (form_value (get_or fs d no_form) loops params) ≡ true) →
    are_inside bounds (map (λ f. form_value f loops params) fs) ≡ true
inside-from [] fs loops params h = refl
inside-from (b ∷ bounds) [] loops params h = refl
inside-from (b ∷ bounds) (f ∷ fs) loops params h =
    and_from (is_inside b (form_value f loops params)) (are_inside bounds (map (λ f. form_value f loops params) fs)) (h 0 (omega arith) (omega arith)) (inside-from bounds fs loops params (λ d lt lt'. h (suc d) (omega (arith, lt)) (omega (arith, lt'))))

pub accesses_good : (tree : Tree) (loops : List ℕ) (w : Work) → is_good_work (scope_of tree) loops w ≡ true → list_all (is_good_access (scope_of tree) loops) (accesses_of w) ≡ true
accesses_good tree loops (assign a) h =
    let scope = scope_of tree in
    let g = and_parts (is_good_access scope loops a.target && is_good_expression scope loops a.value) (is_good_guard scope loops a.guard) h in
    let p = and_parts (is_good_access scope loops a.target) (is_good_expression scope loops a.value) g.0 in
    both_good scope loops (loads_in a.value) (a.target ∷ []) (loads_good scope loops a.value p.1) (and_from (is_good_access scope loops a.target) true p.0 refl)
accesses_good tree loops (print p) h = items_loads_good (scope_of tree) loops p.items h

-- certified accesses are inside
pub certified_inside : (tree : Tree) (formed : IsWellFormed tree) (n : Nested) (good : IsGoodNested (scope_of tree) n) (loops : List ℤ) (ns : List ℕ) (trips : AreTrips (param_values tree) loops n.around ns) (executed : is_executed n.what loops (param_values tree) ≡ true) (xs : List Access) →
    list_all (is_good_access (scope_of tree) good.loops) xs ≡ true → AllByRecursion (IsCertified tree) (map (site_of n) xs) → list_all (is_access_inside tree loops) xs ≡ true
certified_inside tree formed n good loops ns trips executed [] h certified = refl
certified_inside tree formed n good loops ns trips executed (a ∷ xs) h certified =
    let parts = and_parts (is_good_access (scope_of tree) good.loops a) (list_all (is_good_access (scope_of tree) good.loops) xs) h in
    let here = inside-from (bounds_of tree a.variable) a.subscripts loops (param_values tree) (λ d lt lt'. dimension_inside tree formed n good loops ns trips executed a d parts.0 certified.0 lt lt') in
    and_from (is_access_inside tree loops a) (list_all (is_access_inside tree loops) xs) here (certified_inside tree formed n good loops ns trips executed xs parts.1 certified.1)

pub certified_work : (tree : Tree) (formed : IsWellFormed tree) (n : Nested) (good : IsGoodNested (scope_of tree) n) (loops : List ℤ) (ns : List ℕ) (trips : AreTrips (param_values tree) loops n.around ns) (executed : is_executed n.what loops (param_values tree) ≡ true) →
    AllByRecursion (IsCertified tree) (map (site_of n) (accesses_of n.what)) → list_all (is_access_inside tree loops) (accesses_of n.what) ≡ true
certified_work tree formed n good loops ns trips executed certified =
    certified_inside tree formed n good loops ns trips executed (accesses_of n.what) (accesses_good tree good.loops n.what good.good) certified

kept : (t : Bool) (a b : ℤ) → int_le a b ≡ t → (int_le a b ≡ false → ⊥) → a ≤ℤ b
kept true a b e f = grind (arith, ints, e)
kept false a b e f = absurd (f e)

-- one side alone, for an instance of the program
module _ (tree : Tree) (i : Instance) (n : Nested) (a : Access) (dimension : ℕ) (formed : IsWellFormed tree) (there : Contains (instances tree) i) (at : slice_get (nested_works tree) (i.statement - 1) ≡ Some n) (among : Contains (accesses_of i.what) a) (low : 1 ≤ dimension) (high : dimension ≤ length (bounds_of tree a.variable)) where
  nested : IsNestedInstance (param_values tree) (nested_works tree) i
  nested = all-contained (IsNestedInstance (param_values tree) (nested_works tree)) (instances tree) i (instance_nested tree formed) there

  this : nested.nested ≡ n
  this = let h = sym nested.at ∙ at in cc

  good : IsGoodNested (scope_of tree) n
  good = all-at (IsGoodNested (scope_of tree)) (nested_works tree) (i.statement - 1) n (works_good tree formed) at

  what : n.what ≡ i.what
  what = ap (λ (m : Nested). m.what) (sym this) ∙ nested.what

  trips : AreTrips (param_values tree) i.loops n.around nested.ns
  trips = subst (λ (m : Nested). AreTrips (param_values tree) i.loops m.around nested.ns) this nested.trips

  executed : is_executed n.what i.loops (param_values tree) ≡ true
  executed = ap (λ w. is_executed w i.loops (param_values tree)) what ∙ nested.executed

  access : is_good_access (scope_of tree) good.loops a ≡ true
  access = all-contained (λ x. is_good_access (scope_of tree) good.loops x ≡ true) (accesses_of i.what) a (each (accesses_of i.what) (ap (λ w. list_all (is_good_access (scope_of tree) good.loops) (accesses_of w)) (sym what) ∙ accesses_good tree good.loops n.what good.good)) among
    where
      each : (xs : List Access) → list_all (is_good_access (scope_of tree) good.loops) xs ≡ true → AllByRecursion (λ x. is_good_access (scope_of tree) good.loops x ≡ true) xs
      each [] h = tt
      each (x ∷ xs) h = let parts = and_parts (is_good_access (scope_of tree) good.loops x) (list_all (is_good_access (scope_of tree) good.loops) xs) h in (parts.0, each xs parts.1)

  named : names_only (constant_count tree) (numbers n.around) (get_or a.subscripts (dimension - 1) no_form) ≡ true
  named = known_form tree formed n good i.loops nested.ns trips executed a (dimension - 1) access (omega (arith, low, high, (good_access-there tree good.loops a access).as_many))

  pub low_kept : (c : Certificate) → IsGood (below tree (site_of n a) dimension) c → (bounds_in tree (site_of n a) dimension).0 ≤ℤ form_value (get_or a.subscripts (dimension - 1) no_form) i.loops (param_values tree)
  low_kept c is =
      let b = bounds_in tree (site_of n a) dimension in
      let v = form_value (get_or a.subscripts (dimension - 1) no_form) i.loops (param_values tree) in
      let out = λ (e : int_le b.0 v ≡ false). good_excludes (below tree (site_of n a) dimension) c (param_values tree ++ laid i.loops n.around nested.ns) is
      (solved tree formed n good i.loops nested.ns trips executed a Plus (get_or a.subscripts (dimension - 1) no_form) (b.0 -ℤ pos 1) named (not_below tree formed n good i.loops nested.ns trips executed b.0 v e)) in
      kept (int_le b.0 v) b.0 v refl out

  pub high_kept : (c : Certificate) → IsGood (above tree (site_of n a) dimension) c → form_value (get_or a.subscripts (dimension - 1) no_form) i.loops (param_values tree) ≤ℤ (bounds_in tree (site_of n a) dimension).1
  high_kept c is =
      let b = bounds_in tree (site_of n a) dimension in
      let v = form_value (get_or a.subscripts (dimension - 1) no_form) i.loops (param_values tree) in
      let out = λ (e : int_le v b.1 ≡ false). good_excludes (above tree (site_of n a) dimension) c (param_values tree ++ laid i.loops n.around nested.ns) is
      (solved tree formed n good i.loops nested.ns trips executed a Minus (get_or a.subscripts (dimension - 1) no_form) (neg_ℤ b.1 -ℤ pos 1) named (not_above tree formed n good i.loops nested.ns trips executed b.1 v e)) in
      kept (int_le v b.1) v b.1 refl out

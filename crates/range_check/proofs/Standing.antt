-- Systems row group by row group, and the pieces of work of the text by their places.
use Rattle.std.proofs.Common.{◌≡◌, ℕ, zero, suc, ◌+◌, ◌-◌, ◌<◌, ◌≤◌, ℤ, true, Some, None, List, [], ◌∷◌, ◌++◌, length, get_or, drop, map, refl, ap, sym, ◌∙◌, subst, arith}
use Rattle.std.specs.List.{AllByRecursion, AllZip, flat_map, list_all, slice_get}
use Rattle.std.proofs.lemmas.Bool.{and_from, and_parts}
use Rattle.std.proofs.lemmas.List.{drop_all, length-map, map-append}
use Rattle.list_lemmas.proofs.Gets.{get-front}
use Rattle.nest_tree.specs.declared.tree.Access.{Access}
use Rattle.nest_tree.specs.Form.{is_small}
use Rattle.nest_tree.specs.Tree.{Head, Tree, Work, param_values, work}
use Rattle.nest_tree.specs.View.{statement_of}
use Rattle.nest_tree.specs.WellFormed.{IsWellFormed, is_good_access, scope_of}
use Rattle.nest_model.specs.Ranges.{accesses_of}
use Rattle.nest_walk.specs.Places.{IsThere}
use Rattle.nest_walk.proofs.GoodAccesses.{good_access-there}
use Rattle.farkas_cert.specs.Inequalities.{Inequalities}
use Rattle.nest_rows.specs.declared.constraint.Constraint.{Constraint}
use Rattle.nest_rows.specs.declared.nested.Nested.{Nested as Held}
use Rattle.nest_rows.specs.Constraints.{row_of, system_of}
use Rattle.nest_rows.specs.Groups.{constants_have, guard_has, guard_of, loops_have}
use Rattle.nest_rows.specs.More.{HasMore}
use Rattle.nest_rows.specs.Nested.{Nested, nested_works}
use Rattle.nest_rows.specs.Views.{IsView, heads_of}
use Rattle.nest_rows.proofs.GoodNesting.{IsGoodNested, works_good}
use Rattle.nest_rows.proofs.Nesting.{all-at}
use Rattle.nest_rows.proofs.RowLists.{more-both}
use Rattle.range_check.specs.RangeSystems.{first_loop, standing}
use Rattle.range_check.specs.declared.accesses.Found.{Found}
use Rattle.range_check.specs.Seen.{accesses_seen}
use Rattle.range_check.specs.Sites.{site_of, sites, sites_of}
use Rattle.range_check.proofs.Solutions.{accesses_good}

pub standing_is : (tree : Tree) (n : Nested) (a : Access) (vars first : ℕ) (values : List ℤ) (heads : List Head) (s0 s1 s2 s3 : Inequalities) → s0 ≡ record { vars = vars; rows = [] } → HasMore (constants_have 1 values) s0 s1 →
    HasMore (loops_have first heads first heads) s1 s2 → HasMore (guard_has first heads (guard_of n.what)) s2 s3 → values ≡ param_values tree → first ≡ first_loop tree → heads ≡ n.around → s3 ≡ system_of vars (standing tree (site_of n a))
standing_is tree n a vars first values heads s0 s1 s2 s3 empty h1 h2 h3 given numbered around =
    let C = constants_have 1 values in
    let L = loops_have first heads first heads in
    let G = guard_has first heads (guard_of n.what) in
    let whole = more-both (C ++ L) G s0 s2 s3 (more-both C L s0 s1 s2 h1 h2) h3 in
    whole ∙ ap (λ (s : Inequalities). record { vars = s.vars; rows = s.rows ++ map (row_of s.vars) ((C ++ L) ++ G) }) empty
    ∙ ap (λ vs. system_of vars ((constants_have 1 vs ++ L) ++ G)) given
    ∙ ap (λ k. system_of vars ((constants_have 1 (param_values tree) ++ loops_have k heads k heads) ++ guard_has k heads (guard_of n.what))) numbered
    ∙ ap (λ hs. system_of vars ((constants_have 1 (param_values tree) ++ loops_have (first_loop tree) hs (first_loop tree) hs) ++ guard_has (first_loop tree) hs (guard_of n.what))) around

pub one_row_more : (vars : ℕ) (cs : List Constraint) (c : Constraint) (old new : Inequalities) → old ≡ system_of vars cs → HasMore (c ∷ []) old new → new ≡ system_of vars (cs ++ c ∷ [])
one_row_more vars cs c old new is more =
    more ∙ ap (λ (s : Inequalities). record { vars = s.vars; rows = s.rows ++ map (row_of s.vars) (c ∷ []) }) is ∙ ap (λ rs. record { vars = vars; rows = rs }) (sym (map-append (row_of vars) cs (c ∷ [])))

-- the piece of work at a place of a list that shows all
pub record ViewAt (all : List Nested) (k : ℕ) (held : Held) : Type 0 where
  pub nested : Nested
  pub at : slice_get all k ≡ Some nested
  pub view : IsView nested held
  pub rest : drop k all ≡ nested ∷ drop (k + 1) all

pub view_at : (all : List Nested) (works : List Held) (k : ℕ) (held : Held) → AllZip IsView all works → k < length works → held ≡ get_or works k held → ViewAt all k held
view_at [] [] k held views lt is = absurd (omega arith)
view_at [] (w ∷ works) k held views lt is = absurd views
view_at (n ∷ all) [] k held views lt is = absurd (omega arith)
view_at (n ∷ all) (w ∷ works) zero held views lt is = record { nested = n; at = refl; view = subst (IsView n) (sym is) views.0; rest = refl }
view_at (n ∷ all) (w ∷ works) (suc k) held views lt is =
    let h = view_at all works k held views.1 (omega (arith, lt)) is in
    let next : suc (k + 1) ≡ suc k + 1 = omega arith in
    record { nested = h.nested; at = h.at; view = h.view; rest = h.rest ∙ ap (λ m. h.nested ∷ drop m (n ∷ all)) next }

pub as_long : (all : List Nested) (works : List Held) → AllZip IsView all works → length all ≡ length works
as_long [] [] views = refl
as_long [] (w ∷ works) views = absurd views
as_long (n ∷ all) [] views = absurd views
as_long (n ∷ all) (w ∷ works) views = ap suc (as_long all works views.1)

-- what is known of it
pub good_at : (tree : Tree) → IsWellFormed tree → (k : ℕ) (n : Nested) → slice_get (nested_works tree) k ≡ Some n → IsGoodNested (scope_of tree) n
good_at tree formed k n at = all-at (IsGoodNested (scope_of tree)) (nested_works tree) k n (works_good tree formed) at

pub steps_small : (heads : List Head) → AllByRecursion (λ h. is_small h.step ≡ true) heads → list_all (λ (h : Head). is_small h.step) heads ≡ true
steps_small [] h = refl
steps_small (g ∷ heads) h = and_from (is_small g.step) (list_all (λ (h : Head). is_small h.step) heads) h.0 (steps_small heads h.1)

pub access_there : (tree : Tree) (n : Nested) → IsGoodNested (scope_of tree) n → (accesses : List Access) (k : ℕ) (a : Access) → accesses ≡ accesses_of n.what → k < length accesses → a ≡ get_or accesses k a → IsThere tree a
access_there tree n good accesses k a same lt is =
    good_access-there tree good.loops a (at accesses k lt is (ap (list_all (is_good_access (scope_of tree) good.loops)) same ∙ accesses_good tree good.loops n.what good.good))
  where
    at : (xs : List Access) (k : ℕ) → k < length xs → a ≡ get_or xs k a → list_all (is_good_access (scope_of tree) good.loops) xs ≡ true → is_good_access (scope_of tree) good.loops a ≡ true
    at [] k lt is h = absurd (omega arith)
    at (x ∷ xs) zero lt is h = ap (is_good_access (scope_of tree) good.loops) is ∙ (and_parts (is_good_access (scope_of tree) good.loops x) (list_all (is_good_access (scope_of tree) good.loops) xs) h).0
    at (x ∷ xs) (suc k) lt is h = at xs k (omega (arith, lt)) is (and_parts (is_good_access (scope_of tree) good.loops x) (list_all (is_good_access (scope_of tree) good.loops) xs) h).1

get-right : {X : Type 0} (xs ys : List X) (j : ℕ) → length xs ≤ j → slice_get (xs ++ ys) j ≡ slice_get ys (j - length xs)
get-right [] ys j le = let same : j ≡ j - 0 = omega arith in ap (slice_get ys) same
get-right (x ∷ xs) ys zero le = absurd (omega arith)
get-right (x ∷ xs) ys (suc j) le = let same : j - length xs ≡ suc j - length (x ∷ xs) = omega arith in get-right xs ys j (omega (arith, le)) ∙ ap (slice_get ys) same

get-site : (n : Nested) (xs : List Access) (k : ℕ) (a : Access) → k < length xs → a ≡ get_or xs k a → slice_get (map (site_of n) xs) k ≡ Some (site_of n a)
get-site n [] k a lt is = absurd (omega arith)
get-site n (x ∷ xs) zero a lt is = ap (λ y. Some (site_of n y)) (sym is)
get-site n (x ∷ xs) (suc k) a lt is = get-site n xs k a (omega (arith, lt)) is

pub site_here : (all : List Nested) (n : Nested) (k j : ℕ) (accesses : List Access) (a : Access) → drop k all ≡ n ∷ drop (k + 1) all → accesses ≡ accesses_of n.what → j < length accesses → a ≡ get_or accesses j a → slice_get (flat_map sites_of (drop k all)) j ≡ Some (site_of n a)
site_here all n k j accesses a rest same lt is =
    let short : j < length (map (site_of n) accesses) = omega (arith, lt, length-map accesses (site_of n)) in
    ap (λ ns. slice_get (flat_map sites_of ns) j) rest ∙ ap (λ xs. slice_get (map (site_of n) xs ++ flat_map sites_of (drop (k + 1) all)) j) (sym same)
    ∙ get-front (map (site_of n) accesses) (flat_map sites_of (drop (k + 1) all)) j short ∙ get-site n accesses j a lt is

pub site_later : (all : List Nested) (n : Nested) (k j : ℕ) (accesses : List Access) → drop k all ≡ n ∷ drop (k + 1) all → accesses ≡ accesses_of n.what → length accesses ≤ j → slice_get (flat_map sites_of (drop k all)) j ≡ slice_get (flat_map sites_of (drop (k + 1) all)) (j - length accesses)
site_later all n k j accesses rest same le =
    let long = length-map accesses (site_of n) in
    ap (λ ns. slice_get (flat_map sites_of ns) j) rest ∙ ap (λ xs. slice_get (map (site_of n) xs ++ flat_map sites_of (drop (k + 1) all)) j) (sym same)
    ∙ get-right (map (site_of n) accesses) (flat_map sites_of (drop (k + 1) all)) j (omega (arith, le, long)) ∙ ap (λ m. slice_get (flat_map sites_of (drop (k + 1) all)) (j - m)) long

-- an access that is found in the text
pub record FoundSite (tree : Tree) (number : ℕ) (held : Held) (a : Access) : Type 0 where
  pub nested : Nested
  pub view : IsView nested held
  pub good : IsGoodNested (scope_of tree) nested
  pub site : slice_get (sites tree) (number - 1) ≡ Some (site_of nested a)
  pub there : IsThere tree a
  pub steps : list_all (λ (h : Head). is_small h.step) (heads_of held.around.items) ≡ true

pub held_steps : (tree : Tree) (n : Nested) (held : Held) → IsGoodNested (scope_of tree) n → IsView n held → list_all (λ (h : Head). is_small h.step) (heads_of held.around.items) ≡ true
held_steps tree n held good view = ap (list_all (λ (h : Head). is_small h.step)) view.1 ∙ steps_small n.around good.steps

-- the place of an access in the list of those that are seen
pub seen_at : (found : List Found) (j : ℕ) (x : Found) → j < length found → x ≡ get_or found j x → x.access.now ≡ get_or (accesses_seen found) j x.access.now
seen_at [] j x lt is = absurd (omega arith)
seen_at (y ∷ found) zero x lt is = ap (λ (f : Found). f.access.now) is
seen_at (y ∷ found) (suc j) x lt is = seen_at found j x (omega (arith, lt)) is

pub found_site : (tree : Tree) → IsWellFormed tree → (works held_works : List Held) (k j number : ℕ) (held : Held) (found : List Found) (x : Found) → AllZip IsView (nested_works tree) works → held_works ≡ works → k < length held_works → held ≡ get_or held_works k held →
    ((w : Work) → statement_of held.item.now ≡ work w → accesses_seen found ≡ accesses_of w) → j < length found → x ≡ get_or found j x → slice_get (flat_map sites_of (drop k (nested_works tree))) j ≡ slice_get (sites tree) (number - 1) →
    FoundSite tree number held x.access.now
found_site tree formed works held_works k j number held found x views same lt is seen lt' is' left =
    let v = view_at (nested_works tree) held_works k held (subst (AllZip IsView (nested_works tree)) (sym same) views) lt is in
    let good = good_at tree formed k v.nested v.at in
    let accesses = accesses_seen found in
    let here = seen v.nested.what v.view.0 in
    let short : j < length accesses = omega (arith, lt', length-map found (λ (f : Found). f.access.now)) in
    let at = seen_at found j x lt' is' in
    record {
      nested = v.nested;
      view = v.view;
      good = good;
      site = sym left ∙ site_here (nested_works tree) v.nested k j accesses x.access.now v.rest here short at;
      there = access_there tree v.nested good accesses j x.access.now here short at;
      steps = held_steps tree v.nested held good v.view;
    }

pub later_site : (tree : Tree) (works held_works : List Held) (k j number : ℕ) (held : Held) (found : List Found) → AllZip IsView (nested_works tree) works → held_works ≡ works → k < length held_works → held ≡ get_or held_works k held →
    ((w : Work) → statement_of held.item.now ≡ work w → accesses_seen found ≡ accesses_of w) → length found ≤ j → slice_get (flat_map sites_of (drop k (nested_works tree))) j ≡ slice_get (sites tree) (number - 1) →
    slice_get (flat_map sites_of (drop (k + 1) (nested_works tree))) (j - length found) ≡ slice_get (sites tree) (number - 1)
later_site tree works held_works k j number held found views same lt is seen le left =
    let v = view_at (nested_works tree) held_works k held (subst (AllZip IsView (nested_works tree)) (sym same) views) lt is in
    let long = length-map found (λ (f : Found). f.access.now) in
    ap (λ m. slice_get (flat_map sites_of (drop (k + 1) (nested_works tree))) (j - m)) (sym long)
    ∙ sym (site_later (nested_works tree) v.nested k j (accesses_seen found) v.rest (seen v.nested.what v.view.0) (omega (arith, le, long))) ∙ left

no-some : {X : Type 0} (xs : List X) (k : ℕ) → k < length xs → None ≡ slice_get xs k → ⊥
no-some [] k lt h = absurd (omega arith)
no-some (x ∷ xs) zero lt h = cc
no-some (x ∷ xs) (suc k) lt h = no-some xs k (omega (arith, lt)) h

-- none is left behind the last
pub no_site : (tree : Tree) (works held_works : List Held) (k j number : ℕ) → AllZip IsView (nested_works tree) works → held_works ≡ works → length held_works ≤ k → 1 ≤ number → number ≤ length (sites tree) →
    slice_get (flat_map sites_of (drop k (nested_works tree))) j ≡ slice_get (sites tree) (number - 1) → ⊥
no_site tree works held_works k j number views same le low high left =
    let long : length (nested_works tree) ≤ k = omega (arith, le, as_long (nested_works tree) works views, ap (λ (ws : List Held). length ws) same) in
    no-some (sites tree) (number - 1) (omega (arith, low, high)) (sym (ap (λ ns. slice_get (flat_map sites_of ns) j) (drop_all k (nested_works tree) long)) ∙ left)

-- The anchors of static phases, one behind another.
use Rattle.std.proofs.Common.{◌≡◌, ℕ, zero, suc, ◌-◌, Bool, true, false, List, [], ◌∷◌, drop, Option, Some, None, if◌then◌else◌, refl, ap, ap₂, sym, ◌∙◌}
use Rattle.std.specs.Prelude.{slice_get}
use Rattle.std.specs.Option.{option_or}
use Rattle.nest_tree.specs.Tree.{Statement, continue, do_loop, work, Tree}
use Rattle.nest_tree.specs.View.{tree_of}
use Rattle.nest_walk.specs.Texts.{Placed}
use Rattle.owner_partition.specs.declared.cut.Mark.{Mark}
use Rattle.owner_partition.specs.declared.cut.Mark.TheVariants.{Outer, Doall, Sum, Single, Inner}
use Rattle.owner_partition.specs.Placement.{phase_ends}
use Rattle.sync_plan.specs.Fit.{has_print}
use Rattle.sync_plan.specs.Shape.{is_doall, is_sum_mark, mark_of, own_loops}
use Rattle.maker_anchors.specs.declared.scope.Scope.{Scope}
use Rattle.maker_anchors.specs.declared.scope.Sought.TheVariants.{Stored}
use Rattle.plan_shape.specs.Named.{with_own}
use Rattle.maker_anchors.specs.Anchors.{anchor_sought, anchors_from, first_found, first_processor, if_one_good, if_one_names, loaded_anchor, own_anchor, phase_anchor, placed_anchor, span_of, summed_anchor, value_anchor}
use Rattle.maker_anchors.specs.Scopes.{constants_at, found_anchor, good_element_anchor, loops_at, own_value, sought_in, sum_anchor}

-- a Doall loop's value is that of the phase's own loop
own_is : (scope : Scope) (marks : List Mark) (u : ℕ) (what : Statement) (own : Option ℕ) → own_loops marks what [] ≡ with_own own [] → own_value scope marks u own ≡ own_anchor (tree_of scope.program.now) marks scope.workers u what
own_is scope marks u (do_loop head body) own h = by (is_doall (mark_of marks head.number)) refl own h
  where
    by : (b : Bool) → is_doall (mark_of marks head.number) ≡ b → (o : Option ℕ) → (if is_doall (mark_of marks head.number) then head.number ∷ [] else []) ≡ with_own o [] →
        own_value scope marks u o ≡ (if is_doall (mark_of marks head.number) then Some (value_anchor scope.workers head.number (span_of head.number (phase_ends (tree_of scope.program.now) marks (u - 1)))) else None)
    by true e None k = absurd (let no : head.number ∷ [] ≡ [] = sym (ap (λ (t : Bool). if t then head.number ∷ [] else []) e) ∙ k in cc)
    by true e (Some n) k =
        let at : head.number ∷ [] ≡ n ∷ [] = sym (ap (λ (t : Bool). if t then head.number ∷ [] else []) e) ∙ k in
        let same : n ≡ head.number = cc in
        ap (λ m. Some (value_anchor scope.workers m (span_of m (phase_ends (tree_of scope.program.now) marks (u - 1))))) same
        ∙ sym (ap (λ t. if t then Some (value_anchor scope.workers head.number (span_of head.number (phase_ends (tree_of scope.program.now) marks (u - 1)))) else None) e)
    by false e None k = sym (ap (λ t. if t then Some (value_anchor scope.workers head.number (span_of head.number (phase_ends (tree_of scope.program.now) marks (u - 1)))) else None) e)
    by false e (Some n) k = absurd (let no : [] ≡ n ∷ [] = sym (ap (λ (t : Bool). if t then head.number ∷ [] else []) e) ∙ k in cc)
own_is scope marks u (work w) None h = refl
own_is scope marks u (work w) (Some n) h = absurd (cc)
own_is scope marks u (continue line) None h = refl
own_is scope marks u (continue line) (Some n) h = absurd (cc)

-- where no trips are dealt out none are added up
no_sum : (m : Mark) → is_doall m ≡ false → is_sum_mark m ≡ false
no_sum Outer h = refl
no_sum Doall h = refl
no_sum Sum h = absurd (let no : true ≡ false = h in cc)
no_sum Single h = refl
no_sum Inner h = refl

-- what is loaded of a Sum loop is that of the phase's own loop
sum_is : (scope : Scope) (marks : List Mark) (what : Statement) (own : Option ℕ) → own_loops marks what [] ≡ with_own own [] → sum_anchor scope marks what own ≡ summed_anchor marks (good_element_anchor scope) what
sum_is scope marks (do_loop head body) own h = by (is_doall (mark_of marks head.number)) refl own h
  where
    by : (b : Bool) → is_doall (mark_of marks head.number) ≡ b → (o : Option ℕ) → (if is_doall (mark_of marks head.number) then head.number ∷ [] else []) ≡ with_own o [] → sum_anchor scope marks (do_loop head body) o ≡ summed_anchor marks (good_element_anchor scope) (do_loop head body)
    by true e None k = absurd (let no : head.number ∷ [] ≡ [] = sym (ap (λ (t : Bool). if t then head.number ∷ [] else []) e) ∙ k in cc)
    by true e (Some n) k =
        let at : head.number ∷ [] ≡ n ∷ [] = sym (ap (λ (t : Bool). if t then head.number ∷ [] else []) e) ∙ k in
        let same : n ≡ head.number = cc in
        ap (λ m. sum_anchor scope marks (do_loop head body) (Some m)) same
    by false e None k = sym (ap (λ t. if t then loaded_anchor (λ a. if_one_names head.number (good_element_anchor scope a)) (do_loop head body) else None) (no_sum (mark_of marks head.number) e))
    by false e (Some n) k = absurd (let no : [] ≡ n ∷ [] = sym (ap (λ (t : Bool). if t then head.number ∷ [] else []) e) ∙ k in cc)
sum_is scope marks (work w) None h = refl
sum_is scope marks (work w) (Some n) h = absurd (cc)
sum_is scope marks (continue line) None h = refl
sum_is scope marks (continue line) (Some n) h = absurd (cc)

-- the anchor that is found is the one that is sought
pub found_is : (scope : Scope) (marks : List Mark) (u : ℕ) (what : Statement) → own_loops marks what [] ≡ with_own scope.own [] → found_anchor scope marks u what ≡ anchor_sought (tree_of scope.program.now) marks scope.workers u (loops_at scope) what
found_is scope marks u what own =
    ap₂ (λ s o. option_or (first_found (sought_in scope Stored) what) (option_or s (if_one_good (constants_at scope) (loops_at scope) o))) (sum_is scope marks what scope.own own) (own_is scope marks u what scope.own own)

-- it is the phase's
pub phase_is : (scope : Scope) (marks : List Mark) (u : ℕ) (what : Statement) (around : List ℕ) → own_loops marks what around ≡ loops_at scope → own_loops marks what [] ≡ with_own scope.own [] → has_print what ≡ false →
    phase_anchor (tree_of scope.program.now) marks scope.workers u (record { what = what; around = around }) ≡ placed_anchor (tree_of scope.program.now) marks scope.workers u (found_anchor scope marks u what)
phase_is scope marks u what around loops own prints =
    let tree = tree_of scope.program.now in
    let rest = λ (ls : List ℕ). placed_anchor tree marks scope.workers u (anchor_sought tree marks scope.workers u ls what) in
    ap (λ b. if b then first_processor else rest (own_loops marks what around)) prints ∙ ap rest loops
    ∙ ap (placed_anchor tree marks scope.workers u) (sym (found_is scope marks u what own))

-- one more
pub anchors_more : (tree : Tree) (marks : List Mark) (workers u : ℕ) (text : List Placed) (k : ℕ) (p : Placed) → slice_get text k ≡ Some p →
    anchors_from tree marks workers u (drop k text) ≡ phase_anchor tree marks workers u p ∷ anchors_from tree marks workers (suc u) (drop (suc k) text)
anchors_more tree marks workers u [] k p at = absurd (let no : None ≡ Some p = at in cc)
anchors_more tree marks workers u (q ∷ text) zero p at = let same : q ≡ p = cc in ap (λ x. phase_anchor tree marks workers u x ∷ anchors_from tree marks workers (suc u) text) same
anchors_more tree marks workers u (q ∷ text) (suc k) p at = anchors_more tree marks workers u text k p at

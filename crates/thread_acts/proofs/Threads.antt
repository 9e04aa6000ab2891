-- What the code of a program does on a processor is what the processor's acts do, where it is so phase by phase.
use Rattle.std.proofs.Common.{◌≡◌, ℕ, suc, ◌+◌, ◌-◌, ℤ, Bool, true, false, List, [], ◌∷◌, ◌++◌, length, if◌then◌else◌, ap, ap₂, sym, ◌∙◌, append_assoc, append-nil, length-append, arith, refl}
use Rattle.std.specs.Prelude.{slice_get}
use Rattle.std.specs.List.{AllByRecursion, flat_map}
use Rattle.nest_tree.specs.Tree.{Head, Statement, Statements, Tree, do_loop, work, continue, done, next, param_values}
use Rattle.nest_model.specs.Instances.{head_trips, no_values, with_loop, works_in}
use Rattle.nest_model.specs.Visits.{Visit, stops_in, visits_in, visits_of}
use Rattle.owner_partition.specs.Marks.{enters_outer}
use Rattle.owner_partition.specs.Phases.{phases}
use Rattle.sync_plan.specs.declared.plan.Plan.{Plan}
use Rattle.sync_plan.specs.Own.{own_of}
use Rattle.sync_plan.specs.Waits.{posts_at, waits_for}
use Rattle.spmd_model.specs.Deeds.{Deed, boundary_deeds, owned_by}
use Rattle.spmd_model.specs.MachineDeeds.{closing_deeds, deeds_by, own_deeds}
use Rattle.spmd_model.specs.Timelines.{counter}
use Rattle.spmd_model.specs.declared.style.Style.TheVariants.{Arrive}
use Rattle.thread_code.specs.Code.{Table, code_in, codes_in, codes_of, each, phase_at, share_by}
use Rattle.thread_acts.specs.ThreadDeeds.{Thread, code_deeds, front_of, in_order, node_deeds, nodes_deeds, share_deeds, thread_of}

module _ (table : Table) (tree : Tree) (plan : Plan) (p : ℕ) where
  abbrev t : Thread
  t = thread_of tree plan p

  abbrev enters : ℕ → Bool
  enters = enters_outer plan.cut.marks

  -- what a processor does in front of a phase, and in it
  abbrev front : ℕ → Visit → List Deed
  front e v = boundary_deeds counter e (posts_at tree plan p v.place v.loops) (waits_for tree plan p v.place v.loops)

  abbrev part : Visit → List Deed
  part v = flat_map (own_deeds tree (own_of tree plan v.place) p) (owned_by tree (slice_get plan.anchors (v.place - 1)) plan.workers p v) ++ closing_deeds tree plan p v

  -- so does the code
  pub record IsRight (v : Visit) : Type 0 where
    pub waits : (e : ℕ) → front_of t (slice_get plan.kinds (v.place - 1)) v.loops e ≡ front e v
    pub does : share_deeds t (share_by table plan (slice_get plan.anchors (v.place - 1)) v.what) v.loops ≡ part v

  -- in phases with so many in front of them
  abbrev all_deeds : ℕ → List Visit → List Deed
  all_deeds e [] = []
  all_deeds e (v ∷ vs) = (front e v ++ part v) ++ all_deeds (suc e) vs

  all_are : (e passed : ℕ) (vs : List Visit) → deeds_by Arrive tree plan p (suc e) passed vs ≡ all_deeds e vs
  all_are e passed [] = refl
  all_are e passed (v ∷ vs) =
      let number : suc e - 1 ≡ e = omega arith in
      ap (λ n. (front n v ++ part v) ++ deeds_by Arrive tree plan p (suc (suc e)) (passed + 0) vs) number ∙ ap (λ ds. (front e v ++ part v) ++ ds) (all_are (suc e) (passed + 0) vs)

  all_first : (xs ys : List Visit) → AllByRecursion IsRight (xs ++ ys) → AllByRecursion IsRight xs × AllByRecursion IsRight ys
  all_first [] ys h = (tt, h)
  all_first (x ∷ xs) ys h = let rest = all_first xs ys h.1 in ((h.0, rest.0), rest.1)

  all-append : (e : ℕ) (xs ys : List Visit) → all_deeds e xs ++ all_deeds (e + length xs) ys ≡ all_deeds e (xs ++ ys)
  all-append e [] ys = ap (λ n. all_deeds n ys) (omega arith)
  all-append e (x ∷ xs) ys =
      append_assoc (front e x ++ part x) (all_deeds (suc e) xs) (all_deeds (e + suc (length xs)) ys)
      ∙ ap (λ n. (front e x ++ part x) ++ (all_deeds (suc e) xs ++ all_deeds n ys)) (omega arith)
      ∙ ap (λ l. (front e x ++ part x) ++ l) (all-append (suc e) xs ys)

  abbrev told : ℕ → List Visit → List Deed × ℕ
  told e vs = (all_deeds e vs, e + length vs)

  joined : (e : ℕ) (xs ys : List Visit) → (all_deeds e xs ++ all_deeds (e + length xs) ys, e + length xs + length ys) ≡ told e (xs ++ ys)
  joined e xs ys = ap₂ (λ (a : List Deed) (n : ℕ). (a, n)) (all-append e xs ys) (omega (arith, length-append xs ys))

  nothing : (e : ℕ) → (let none : List Deed = [] in (none, e)) ≡ told e []
  nothing e = ap (λ (n : ℕ). let none : List Deed = [] in (none, n)) (omega arith)

  in_order_is : (f : ℤ → ℕ → List Deed × ℕ) (g : ℤ → List Visit) → ((v : ℤ) (e : ℕ) → AllByRecursion IsRight (g v) → f v e ≡ told e (g v)) → (vs : List ℤ) (e : ℕ) → AllByRecursion IsRight (flat_map g vs) → in_order f vs e ≡ told e (flat_map g vs)
  in_order_is f g same [] e all = nothing e
  in_order_is f g same (v ∷ vs) e all =
      let parts = all_first (g v) (flat_map g vs) all in
      ap (λ (h : List Deed × ℕ). (h.0 ++ (in_order f vs h.1).0, (in_order f vs h.1).1)) (same v e parts.0)
      ∙ ap (λ (l : List Deed × ℕ). (all_deeds e (g v) ++ l.0, l.1)) (in_order_is f g same vs (e + length (g v)) parts.1)
      ∙ joined e (g v) (flat_map g vs)

  phase_is : (s : Statement) (place first : ℕ) (loops : List ℤ) (e : ℕ) → let v : Visit = record { place = place; first = first; what = s; loops = loops } in IsRight v → node_deeds t (phase_at table plan s place) loops e ≡ told e (v ∷ [])
  phase_is s place first loops e right =
      let v : Visit = record { place = place; first = first; what = s; loops = loops } in
      let counted : suc e ≡ e + 1 = omega arith in
      ap₂ (λ (a : List Deed) (n : ℕ). (a, n)) (ap₂ (λ (a b : List Deed). a ++ b) (right.waits e) right.does ∙ sym (append-nil (front e v ++ part v))) counted

  loop_is : (b : Bool) (head : Head) (body : Statements) (place first : ℕ) (loops : List ℤ) (e : ℕ) →
      let inside : ℤ → List Visit = λ v. visits_in (param_values tree) enters body place first (with_loop loops head.number v) in
      let all : List Visit = if b then flat_map inside (head_trips (param_values tree) head loops) else record { place = place; first = first; what = do_loop head body; loops = loops } ∷ [] in
      ((v : ℤ) (n : ℕ) → AllByRecursion IsRight (inside v) → nodes_deeds t (codes_in table plan body place) (with_loop loops head.number v) n ≡ told n (inside v)) →
      AllByRecursion IsRight all →
      node_deeds t (if b then each head (codes_in table plan body place) else phase_at table plan (do_loop head body) place) loops e ≡ told e all
  loop_is true head body place first loops e same all =
      in_order_is (λ v. nodes_deeds t (codes_in table plan body place) (with_loop loops head.number v)) (λ v. visits_in (param_values tree) enters body place first (with_loop loops head.number v)) same (head_trips (param_values tree) head loops) e all
  loop_is false head body place first loops e same all = phase_is (do_loop head body) place first loops e all.0

  mutual
    code_is : (s : Statement) (place first : ℕ) (loops : List ℤ) (e : ℕ) → AllByRecursion IsRight (visits_of (param_values tree) enters s place first loops) → node_deeds t (code_in table plan s place) loops e ≡ told e (visits_of (param_values tree) enters s place first loops)
    code_is (do_loop head body) place first loops e all =
        loop_is (enters head.number) head body place first loops e (λ v n right. codes_are body place first (with_loop loops head.number v) n right) all
    code_is (work w) place first loops e all = phase_is (work w) place first loops e all.0
    code_is (continue line) place first loops e all = nothing e

    codes_are : (ss : Statements) (place first : ℕ) (loops : List ℤ) (e : ℕ) → AllByRecursion IsRight (visits_in (param_values tree) enters ss place first loops) → nodes_deeds t (codes_in table plan ss place) loops e ≡ told e (visits_in (param_values tree) enters ss place first loops)
    codes_are done place first loops e all = nothing e
    codes_are (next s rest) place first loops e all =
        let xs = visits_of (param_values tree) enters s place first loops in
        let ys = visits_in (param_values tree) enters rest (place + stops_in enters s) (first + works_in s) loops in
        let later = nodes_deeds t (codes_in table plan rest (place + stops_in enters s)) loops in
        let parts = all_first xs ys all in
        ap (λ (h : List Deed × ℕ). (h.0 ++ (later h.1).0, (later h.1).1)) (code_is s place first loops e parts.0)
        ∙ ap (λ (l : List Deed × ℕ). (all_deeds e xs ++ l.0, l.1)) (codes_are rest (place + stops_in enters s) (first + works_in s) loops (e + length xs) parts.1)
        ∙ joined e xs ys

  -- the deeds of the whole code are the processor's
  pub threads_are : AllByRecursion IsRight (phases tree plan.cut.marks) → code_deeds tree plan p (codes_of table tree plan) ≡ deeds_by Arrive tree plan p 1 0 (phases tree plan.cut.marks)
  threads_are all = ap (λ (x : List Deed × ℕ). x.0) (codes_are tree.items 1 1 (no_values tree) 0 all) ∙ sym (all_are 0 0 (phases tree plan.cut.marks))

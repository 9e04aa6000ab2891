-- A plan of barriers that fits and has no Doall loop is ordered.
use Rattle.std.proofs.Common.{◌≡◌, ◌≢◌, ◌==◌, ◌||◌, ◌&&◌, not, ℕ, zero, suc, ◌+◌, ◌-◌, ◌<◌, ◌≤◌, ℤ, pos, ◌+ℤ◌, ◌*ℤ◌, nat_le, nat_lt, Bool, true, false, true≢false, List, [], ◌∷◌, ◌++◌, length, map, get_or, Option, Some, None, if◌then◌else◌, refl, ap, sym, subst, ◌∙◌, inl, inr, arith}
use Rattle.std.specs.Prelude.{slice_get}
use Rattle.std.specs.List.{All, Contains, filter, list_all, list_any, range_with_len}
use Rattle.std.proofs.lemmas.Bool.{and_parts, cases_Bool, cases_eq, cases_lt, eqb-true, ltb-true}
use Rattle.std.proofs.lemmas.List.Elements.{All-cons, All-get_or, All-head, All-nil, All-tail, All-weaker}
use Rattle.std.proofs.lemmas.Option.{slice_get-get_or, slice_get_within}
use Rattle.list_lemmas.proofs.Gets.{get-front, get-behind}
use Rattle.list_lemmas.proofs.Each.{passes_at}
use Rattle.list_lemmas.proofs.Elements.{Contains-filter}
use Rattle.list_lemmas.proofs.Ranges.{range_there}
use Rattle.nest_tree.specs.Form.{Form, dot, form_value, is_form, is_small, numbered, rises_above}
use Rattle.nest_tree.specs.Layout.{count_of}
use Rattle.nest_tree.specs.Limits.{no_ends}
use Rattle.nest_tree.specs.Tree.{Head, Statement, Statements, do_loop, work, continue, Tree, param_values}
use Rattle.nest_tree.specs.WellFormed.{IsWellFormed, is_number_of, names_only, scope_of}
use Rattle.nest_model.specs.Instances.{Instance}
use Rattle.nest_model.specs.Visits.{Visit, stops_of}
use Rattle.nest_walk.specs.Texts.{Placed, placed}
use Rattle.own_scalars.specs.OwnScalars.{is_private}
use Rattle.owner_partition.specs.declared.anchor.Anchor.{Anchor}
use Rattle.owner_partition.specs.declared.cut.Mark.{Mark}
use Rattle.owner_partition.specs.Cuts.{privates_of}
use Rattle.owner_partition.specs.Marks.{enters_outer}
use Rattle.owner_partition.specs.Owners.{anchor_owner, dealt, owner_by}
use Rattle.owner_partition.specs.Phases.{Execution, executions, executions_from, visit_instances, phases}
use Rattle.owner_partition.specs.Placement.{ends_among}
use Rattle.owner_partition.proofs.Sites.{all_at}
use Rattle.sync_plan.specs.declared.plan.Kind.{Kind}
use Rattle.sync_plan.specs.declared.plan.Kind.TheVariants.{Barrier}
use Rattle.sync_plan.specs.declared.plan.Plan.{Plan}
use Rattle.sync_plan.specs.declared.plan.Version.{Version}
use Rattle.sync_plan.specs.Fit.{IsFit}
use Rattle.sync_plan.specs.Ordered.{AreChained, Hop, IsOrdered, awaited_in_front, awaited_in, owner_under}
use Rattle.sync_plan.specs.Shape.{are_good_privates, do_rise, has_good_privates, has_good_sums, has_places, has_privates, have_good_privates, is_doall, is_good_anchor, mark_of, marked, own_loops, static_phases}
use Rattle.sync_plan.specs.Waits.{awaited_behind, does_wait_at}
use Rattle.sync_plan.proofs.Fits.{FitParts, fit_parts}
use Rattle.sync_plan.proofs.FitOwners.{agree_in, good_each, owners_below}
use Rattle.sync_plan.proofs.OwnLoops.{no_scalars, nothing_in, own_among}
use Rattle.sync_plan.proofs.PhasePlaces.{IsThereFrom, all_there, visit_there}

-- ---- where an execution stands

-- it is an instance of a phase, by how many phases are in front of that
pub record IsOf (params : List ℤ) (e : ℕ) (vs : List Visit) (x : Execution) (n : ℕ) : Type 0 where
  pub phase : ℕ
  pub visit : Visit
  pub index : ℕ
  pub at : slice_get vs phase ≡ Some visit
  pub phase_is : x.phase ≡ e + phase
  pub place_is : x.place ≡ visit.place
  pub is : slice_get (visit_instances params visit) index ≡ Some x.instance

pub mapped : {X Y : Type 0} (f : X → Y) (xs : List X) (k : ℕ) (y : Y) → slice_get (map f xs) k ≡ Some y → (x : X) × (slice_get xs k ≡ Some x) × (f x ≡ y)
mapped f [] k y e = let clash : None ≡ Some y = e in absurd (cc)
mapped f (x ∷ xs) zero y e = let same : Some (f x) ≡ Some y = e in (x, refl, cc)
mapped f (x ∷ xs) (suc k) y e = mapped f xs k y e

execution_of : (params : List ℤ) (e : ℕ) (vs : List Visit) (x : Execution) (n : ℕ) → slice_get (executions_from params e vs) n ≡ Some x → IsOf params e vs x n
execution_of params e [] x n at = let clash : None ≡ Some x = at in absurd (cc)
execution_of params e (v ∷ vs) x n at =
    let is = visit_instances params v in
    let f : Instance → Execution = λ i. record { phase = e; place = v.place; instance = i } in
    let here = map f is in
    let later = executions_from params (suc e) vs in
    elim (cases_lt n (length here)) [
      | inl inside ↦
          let m = mapped f is n x (sym (get-front here later n inside) ∙ at) in
          record {
            phase = 0;
            visit = v;
            index = n;
            at = refl;
            phase_is = let p = ap (λ (y : Execution). y.phase) (sym m.2) in omega (arith, p);
            place_is = ap (λ (y : Execution). y.place) (sym m.2);
            is = m.1 ∙ ap Some (ap (λ (y : Execution). y.instance) m.2);
          }
      | inr past ↦
          let more : length here + (n - length here) ≡ n = omega (arith, past) in
          let rest = execution_of params (suc e) vs x (n - length here) (sym (ap (slice_get (here ++ later)) (sym more) ∙ get-behind here later (n - length here)) ∙ at) in
          record { phase = suc rest.phase; visit = rest.visit; index = rest.index; at = rest.at; phase_is = omega (arith, rest.phase_is); place_is = rest.place_is; is = rest.is }
    ]

-- no later execution is of an earlier phase
phases_rise : (params : List ℤ) (e : ℕ) (vs : List Visit) (x y : Execution) (j k : ℕ) → j < k → slice_get (executions_from params e vs) j ≡ Some x → slice_get (executions_from params e vs) k ≡ Some y → x.phase ≤ y.phase
phases_rise params e [] x y j k lt at at' = let clash : None ≡ Some x = at in absurd (cc)
phases_rise params e (v ∷ vs) x y j k lt at at' =
    let is = visit_instances params v in
    let f : Instance → Execution = λ i. record { phase = e; place = v.place; instance = i } in
    let here = map f is in
    let later = executions_from params (suc e) vs in
    let all = execution_of params e (v ∷ vs) y k at' in
    elim (cases_lt j (length here)) [
      | inl inside ↦ let m = mapped f is j x (sym (get-front here later j inside) ∙ at) in let p = ap (λ (z : Execution). z.phase) (sym m.2) in omega (arith, p, all.phase_is)
      | inr past ↦
          let more : length here + (j - length here) ≡ j = omega (arith, past) in
          let more' : length here + (k - length here) ≡ k = omega (arith, past, lt) in
          phases_rise params (suc e) vs x y (j - length here) (k - length here) (omega (arith, lt, past)) (sym (ap (slice_get (here ++ later)) (sym more) ∙ get-behind here later (j - length here)) ∙ at) (sym (ap (slice_get (here ++ later)) (sym more') ∙ get-behind here later (k - length here)) ∙ at')
    ]

-- ---- without a Doall loop the instances of a phase have one owner

-- numbers of a form's pairs rise above 0
pairs_above : (least : ℕ) (pairs : List (ℕ × ℤ)) → rises_above least pairs ≡ true → All (λ (p : ℕ × ℤ). least < p.0) pairs
pairs_above least [] h = All-nil (λ (p : ℕ × ℤ). least < p.0)
pairs_above least (p ∷ pairs) h =
    let last = and_parts (nat_lt least p.0 && _ && is_small p.1) (rises_above p.0 pairs) h in
    let first = and_parts (nat_lt least p.0 && _) (is_small p.1) last.0 in
    let lt = ltb-true least p.0 (and_parts (nat_lt least p.0) _ first.0).0 in
    All-cons (λ (q : ℕ × ℤ). least < q.0) p pairs lt (All-weaker (λ (q : ℕ × ℤ). p.0 < q.0) (λ (q : ℕ × ℤ). least < q.0) (λ q more. omega (arith, lt, more)) pairs (pairs_above p.0 pairs last.1))

-- loops by name among these have lower numbers
pairs_below : (n : ℕ) (around : List ℕ) (pairs : List (ℕ × ℤ)) → All (λ k. k < n) around → list_all (λ (p : ℕ × ℤ). list_any (λ l. l == p.0) around) pairs ≡ true → All (λ (p : ℕ × ℤ). p.0 < n) pairs
pairs_below n around [] low h = All-nil (λ (p : ℕ × ℤ). p.0 < n)
pairs_below n around (p ∷ pairs) low h =
    let parts = and_parts (list_any (λ l. l == p.0) around) (list_all (λ (q : ℕ × ℤ). list_any (λ l. l == q.0) around) pairs) h in
    All-cons (λ (q : ℕ × ℤ). q.0 < n) p pairs (named around low parts.0) (pairs_below n around pairs low parts.1)
  where
    named : (ks : List ℕ) → All (λ k. k < n) ks → list_any (λ l. l == p.0) ks ≡ true → p.0 < n
    named [] all h = absurd (true≢false (sym h))
    named (k ∷ ks) all h = elim (cases_Bool (k == p.0)) [
      | inl same ↦ let e = eqb-true k p.0 same in omega (arith, e, All-head (λ k. k < n) k ks all)
      | inr other ↦ named ks (All-tail (λ k. k < n) k ks all) (sym (ap (λ b. b || list_any (λ l. l == p.0) ks) other) ∙ h)
    ]

dot_same : (pairs : List (ℕ × ℤ)) (n : ℕ) (xs ys : List ℤ) → All (λ (p : ℕ × ℤ). 0 < p.0) pairs → All (λ (p : ℕ × ℤ). p.0 < n) pairs → ((k : ℕ) → k < n - 1 → get_or xs k (pos 0) ≡ get_or ys k (pos 0)) → dot pairs xs ≡ dot pairs ys
dot_same [] n xs ys low high agree = refl
dot_same (p ∷ pairs) n xs ys low high agree =
    let here = agree (p.0 - 1) (omega (arith, All-head (λ (q : ℕ × ℤ). 0 < q.0) p pairs low, All-head (λ (q : ℕ × ℤ). q.0 < n) p pairs high)) in
    ap (λ z. p.1 *ℤ z +ℤ dot pairs xs) here ∙ ap (λ z. p.1 *ℤ numbered ys p.0 +ℤ z) (dot_same pairs n xs ys (All-tail (λ (q : ℕ × ℤ). 0 < q.0) p pairs low) (All-tail (λ (q : ℕ × ℤ). q.0 < n) p pairs high) agree)

-- a form of the loops round a place
form_same : (constants n : ℕ) (around : List ℕ) (f : Form) (params xs ys : List ℤ) → All (λ k. k < n) around → names_only constants around f ≡ true → ((k : ℕ) → k < n - 1 → get_or xs k (pos 0) ≡ get_or ys k (pos 0)) → form_value f xs params ≡ form_value f ys params
form_same constants n around f params xs ys low named agree =
    let all = list_all (λ (p : ℕ × ℤ). list_any (λ l. l == p.0) around) f.loops in
    let last = and_parts (is_form f && all) (list_all (λ (p : ℕ × ℤ). is_number_of constants p.0) f.params) named in
    let first = and_parts (is_form f) all last.0 in
    let rising = (and_parts (is_small f.constant) (rises_above 0 f.loops) (and_parts (is_small f.constant && rises_above 0 f.loops) (rises_above 0 f.params) first.0).0).1 in
    ap (λ z. f.constant +ℤ z +ℤ dot f.params params) (dot_same f.loops n xs ys (pairs_above 0 f.loops rising) (pairs_below n around f.loops low first.1) agree)

none_doall : (marks : List Mark) (n : ℕ) → All (λ m. is_doall m ≡ false) marks → is_doall (mark_of marks n) ≡ false
none_doall marks n none = none_here (slice_get marks (n - 1)) refl
  where
    none_here : (o : Option Mark) → slice_get marks (n - 1) ≡ o → is_doall (mark_of marks n) ≡ false
    none_here None e = ap (λ o. is_doall (marked o)) e
    none_here (Some m) e = ap (λ o. is_doall (marked o)) e ∙ all_at (λ m. is_doall m ≡ false) marks (n - 1) m none e

no_doall : (marks : List Mark) (s : Statement) (around : List ℕ) → All (λ m. is_doall m ≡ false) marks → own_loops marks s around ≡ around
no_doall marks (do_loop head body) around none = ap (λ b. if b then head.number ∷ around else around) (none_doall marks head.number none)
no_doall marks (work w) around none = refl
no_doall marks (continue line) around none = refl

-- the owner of a phase's instances
phase_owner : Tree → Plan → Visit → Option Anchor → ℕ
phase_owner tree plan v o = owner_by o plan.workers v.loops (param_values tree)

one_owner : (tree : Tree) (plan : Plan) (v : Visit) → FitParts tree plan → All (λ m. is_doall m ≡ false) plan.cut.marks → IsThereFrom (param_values tree) (scope_of tree) 1 (stops_of (enters_outer plan.cut.marks) tree.items) (placed tree (enters_outer plan.cut.marks)) (ends_among (param_values tree) (enters_outer plan.cut.marks) no_ends tree.items) v →
    (o : Option Anchor) → slice_get plan.anchors (v.place - 1) ≡ o → All (λ (i : Instance). owner_by o plan.workers i.loops (param_values tree) ≡ owner_by o plan.workers v.loops (param_values tree)) (visit_instances (param_values tree) v)
one_owner tree plan v parts none f None at = All-weaker (λ (i : Instance). (k : ℕ) → k < f.there.number - 1 → get_or i.loops k (pos 0) ≡ get_or v.loops k (pos 0)) (λ (i : Instance). owner_by None plan.workers i.loops (param_values tree) ≡ owner_by None plan.workers v.loops (param_values tree)) (λ i agree. refl) (visit_instances (param_values tree) v) (agree_in (param_values tree) (scope_of tree) f.there.around f.there.number v.what v.first v.loops f.there.good f.there.low)
one_owner tree plan v parts none f (Some a) at =
    let t = f.there in
    let index : v.place - 1 ≡ f.k = omega (arith, f.place_is) in
    let anchor_at : slice_get plan.anchors f.k ≡ Some a = ap (slice_get plan.anchors) (sym index) ∙ at in
    let good = good_each (length tree.params) plan.cut.marks (static_phases tree plan.cut.marks) plan.anchors f.k (record { what = v.what; around = t.around }) a parts.good_anchors t.at anchor_at in
    let good' : is_good_anchor (length tree.params) t.around a ≡ true = sym (ap (λ l. is_good_anchor (length tree.params) l a) (no_doall plan.cut.marks v.what t.around none)) ∙ good in
    let names = (and_parts (names_only (length tree.params) t.around a.form) (has_places a.dist) good').0 in
    All-weaker (λ (i : Instance). (k : ℕ) → k < t.number - 1 → get_or i.loops k (pos 0) ≡ get_or v.loops k (pos 0)) (λ (i : Instance). anchor_owner a plan.workers i.loops (param_values tree) ≡ anchor_owner a plan.workers v.loops (param_values tree))
    (λ i agree. ap (λ z. count_of (dealt a.dist plan.workers z)) (form_same (length tree.params) t.number t.around a.form (param_values tree) i.loops v.loops t.below names agree)) (visit_instances (param_values tree) v)
    (agree_in (param_values tree) (scope_of tree) t.around t.number v.what v.first v.loops t.good t.low)

-- ---- a barrier is a hop between any two processors

pub in_filter : (test : ℕ → Bool) (a n q : ℕ) → a ≤ q → q < a + n → test q ≡ true → Contains (filter test (range_with_len a n)) q
in_filter test a n q low high h = Contains-filter test (range_with_len a n) q (range_there a n q low high) h

not_equal : (a b : ℕ) → a ≢ b → (a == b) ≡ false
not_equal a b ne = elim (cases_Bool (a == b)) [
  | inl same ↦ absurd (ne (eqb-true a b same))
  | inr other ↦ other
]

barriers_chain : (tree : Tree) (plan : Plan) → IsWellFormed tree → IsFit tree plan → All (λ k. k ≡ Barrier) plan.kinds → All (λ m. is_doall m ≡ false) plan.cut.marks → AreChained tree plan
barriers_chain tree plan formed fits barriers none j k x y lt at at' conflict apart =
    let params = param_values tree in
    let vs = phases tree plan.cut.marks in
    let parts = fit_parts tree plan fits in
    let xo = execution_of params 1 vs x j at in
    let yo = execution_of params 1 vs y k at' in
    let there = all_there tree (enters_outer plan.cut.marks) formed in
    let T = IsThereFrom params (scope_of tree) 1 (stops_of (enters_outer plan.cut.marks) tree.items) (placed tree (enters_outer plan.cut.marks)) (ends_among params (enters_outer plan.cut.marks) no_ends tree.items) in
    let fy = all_at T vs yo.phase yo.visit there yo.at in
    let rise = phases_rise params 1 vs x y j k lt at at' in
    let owners = owners_below tree plan formed fits in
    let below_x = all_at (λ (z : Execution). owner_under tree plan z < plan.workers) (executions tree plan.cut.marks) j x owners at in
    elim (cases_eq x.phase y.phase) [
      | inl same ↦
          let phase_same : xo.phase ≡ yo.phase = omega (arith, same, xo.phase_is, yo.phase_is) in
          let both : Some xo.visit ≡ Some yo.visit = sym xo.at ∙ ap (slice_get vs) phase_same ∙ yo.at in
          let visit_same : xo.visit ≡ yo.visit = cc in
          let v = yo.visit in
          let o = slice_get plan.anchors (v.place - 1) in
          let all = one_owner tree plan v parts none fy o refl in
          let own_x : owner_under tree plan x ≡ owner_by o plan.workers v.loops params =
          ap (λ p. owner_by (slice_get plan.anchors (p - 1)) plan.workers x.instance.loops params) (xo.place_is ∙ ap (λ (w : Visit). w.place) visit_same)
          ∙ all_at (λ (i : Instance). owner_by o plan.workers i.loops params ≡ owner_by o plan.workers v.loops params) (visit_instances params v) xo.index x.instance all (ap (λ w. slice_get (visit_instances params w) xo.index) (sym visit_same) ∙ xo.is) in
          let own_y : owner_under tree plan y ≡ owner_by o plan.workers v.loops params =
          ap (λ p. owner_by (slice_get plan.anchors (p - 1)) plan.workers y.instance.loops params) yo.place_is
          ∙ all_at (λ (i : Instance). owner_by o plan.workers i.loops params ≡ owner_by o plan.workers v.loops params) (visit_instances params v) yo.index y.instance all yo.is in
          absurd (apart (own_x ∙ sym own_y))
      | inr other ↦
          let p = owner_under tree plan y in
          let q = owner_under tree plan x in
          let hop : Hop = record { phase = y.phase; processor = p } in
          (hop ∷ [], (omega (arith, rise, other), awaited yo fy parts below_x, (refl, omega arith)))
    ]
  where
    awaited : (yo : IsOf (param_values tree) 1 (phases tree plan.cut.marks) y k) → IsThereFrom (param_values tree) (scope_of tree) 1 (stops_of (enters_outer plan.cut.marks) tree.items) (placed tree (enters_outer plan.cut.marks)) (ends_among (param_values tree) (enters_outer plan.cut.marks) no_ends tree.items) yo.visit →
        FitParts tree plan → owner_under tree plan x < plan.workers → Contains (awaited_in_front tree plan (owner_under tree plan y) y.phase) (owner_under tree plan x)
    awaited yo fy parts below =
        let v = yo.visit in
        let p = owner_under tree plan y in
        let q = owner_under tree plan x in
        let number : y.phase - 1 ≡ yo.phase = omega (arith, yo.phase_is) in
        let at_phase : slice_get (phases tree plan.cut.marks) (y.phase - 1) ≡ Some v = ap (slice_get (phases tree plan.cut.marks)) number ∙ yo.at in
        let index : v.place - 1 ≡ fy.k = omega (arith, fy.place_is) in
        let inside : v.place - 1 < length plan.kinds = omega (arith, index, parts.kinds, slice_get_within (static_phases tree plan.cut.marks) fy.k (record { what = v.what; around = fy.there.around }) fy.there.at) in
        let kind_at : slice_get plan.kinds (v.place - 1) ≡ Some Barrier = slice_get-get_or plan.kinds (v.place - 1) Barrier inside ∙ ap Some (All-get_or (λ (z : Kind). z ≡ Barrier) plan.kinds (v.place - 1) Barrier inside barriers) in
        let differ : does_wait_at Barrier 0 p q ≡ true = ap (λ b. not b && true) (not_equal p q (λ e. apart (sym e))) in
        subst (λ o. Contains (awaited_in tree plan p o) q) (sym at_phase) (subst (λ o. Contains (awaited_behind o plan.workers v.loops (param_values tree) p) q) (sym kind_at) (in_filter (does_wait_at Barrier 0 p) 0 plan.workers q (omega arith) (omega (arith, below)) differ))

-- ---- without a Doall loop nothing is private

no_privates : (version : Version) (mark : Mark) (body : Statements) (vs : List ℕ) → is_doall mark ≡ false → are_good_privates version mark body vs ≡ true → vs ≡ []
no_privates version mark body vs none good =
    no_scalars vs (by (length vs == 0) (is_doall mark) (has_privates version) (nat_le (length vs) 16) (do_rise 0 vs) (list_all (λ v. is_private v body) vs) none good)
  where
    by : (b dealt has few rise all : Bool) → dealt ≡ false → (b || (has && dealt && few && rise && all)) ≡ true → b ≡ true
    by true dealt has few rise all none e = refl
    by false dealt has few rise all none e =
        let a = and_parts (has && dealt && few && rise) all e in
        let b = and_parts (has && dealt && few) rise a.0 in
        let c = and_parts (has && dealt) few b.0 in
        absurd (true≢false (sym (and_parts has dealt c.0).1 ∙ none))

nothing_private : (tree : Tree) (plan : Plan) (k : ℕ) (v : Visit) (head : Head) (body : Statements) → IsWellFormed tree → IsFit tree plan → All (λ m. is_doall m ≡ false) plan.cut.marks → slice_get (phases tree plan.cut.marks) k ≡ Some v → v.what ≡ do_loop head body →
    privates_of plan.cut.privates head.number ≡ []
nothing_private tree plan k v head body formed fits none at what =
    let f = visit_there tree plan.cut.marks k v formed at in
    let parts = fit_parts tree plan fits in
    let all = own_among plan.version plan.cut (enters_outer plan.cut.marks) [] tree.items parts.good_sums parts.good_privates in
    let both = passes_at (λ (p : Placed). has_good_sums plan.version plan.cut.marks p.what && has_good_privates plan.version plan.cut p.what) (placed tree (enters_outer plan.cut.marks)) f.k (record { what = v.what; around = f.there.around }) all f.there.at in
    let good : has_good_privates plan.version plan.cut (do_loop head body) ≡ true = sym (ap (has_good_privates plan.version plan.cut) what) ∙ (and_parts (has_good_sums plan.version plan.cut.marks v.what) (has_good_privates plan.version plan.cut v.what) both).1 in
    let mark = mark_of plan.cut.marks head.number in
    let vs = privates_of plan.cut.privates head.number in
    no_privates plan.version mark body vs (none_doall plan.cut.marks head.number none) (and_parts (are_good_privates plan.version mark body vs) (have_good_privates plan.version plan.cut body) good).0

pub barriers_order : (tree : Tree) (plan : Plan) → IsWellFormed tree → IsFit tree plan → All (λ k. k ≡ Barrier) plan.kinds → All (λ m. is_doall m ≡ false) plan.cut.marks → IsOrdered tree plan
barriers_order tree plan formed fits barriers none = record {
  chained = barriers_chain tree plan formed fits barriers none;
  stored = λ k v head body x u at what among private. absurd (nothing_in u (subst (λ vs. Contains vs u) (nothing_private tree plan k v head body formed fits none at what) private));
}

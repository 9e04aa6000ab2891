-- Two executions of one phase that conflict have one owner, where no system of two trips has a whole solution.
use Rattle.std.proofs.Common.{◌≡◌, ℕ, suc, ◌+◌, ◌-◌, ◌<◌, ◌≤◌, ◌⊎◌, ◌&&◌, ◌||◌, not, nat_lt, unsigned_abs, ℤ, ◌+ℤ◌, Bool, true, false, true≢false, Some, None, List, [], ◌∷◌, ◌++◌, length, map, if◌then◌else◌, refl, ap, sym, ◌∙◌, subst, inl, inr, arith}
use Rattle.std.specs.List.{AllByRecursion, Contains, flat_map, slice_get}
use Rattle.std.proofs.lemmas.Bool.{and_parts, cases_Bool, cases_eq, ltb-true}
use Rattle.std.proofs.lemmas.List.Elements.{Contains-append_left}
use Rattle.list_lemmas.proofs.Elements.{contains_at, Contains-map, Contains-flat_map, Contains-filter}
use Rattle.nest_tree.specs.Form.{Form, form_value, is_small, numbered}
use Rattle.nest_tree.specs.Layout.{count_of}
use Rattle.nest_tree.specs.Tree.{Head, Statement, Statements, do_loop, work, continue, Tree, param_values}
use Rattle.nest_tree.specs.WellFormed.{IsWellFormed, is_good_statement, names_only, scope_of}
use Rattle.nest_tree.proofs.Good.{good_loop}
use Rattle.nest_model.specs.Instances.{Instance, no_values, trip_count}
use Rattle.nest_model.specs.Ranges.{IsInRange}
use Rattle.nest_model.specs.Visits.{Visit}
use Rattle.nest_rows.specs.Nested.{AreTrips, IsTrip}
use Rattle.nest_rows.proofs.Dots.{numbers}
use Rattle.nest_rows.proofs.GoodNesting.{form-among}
use Rattle.nest_rows.proofs.Nesting.{all-append}
use Rattle.farkas_cert.specs.Inequalities.{HasNoWholeSolution}
use Rattle.owner_partition.specs.declared.anchor.Anchor.{Anchor}
use Rattle.owner_partition.specs.Marks.{enters_outer}
use Rattle.owner_partition.specs.Owners.{anchor_owner, dealt}
use Rattle.owner_partition.specs.Phases.{visit_instances, phases}
use Rattle.sync_plan.specs.declared.plan.Plan.{Plan}
use Rattle.sync_plan.specs.Fit.{IsFit, is_dealt}
use Rattle.sync_plan.specs.Ordered.{AreChained, IsChain, owner_under}
use Rattle.comm_system.specs.Levels.{two_trips}
use Rattle.comm_system.specs.Meetings.{AreSame, IsEarlier, IsPast, values_of}
use Rattle.comm_system.specs.Obligations.{Task, anchor_at, paths_tasks, slot_signature, slot_tasks, slots_of, tasks_of, trips_task, trips_tasks}
use Rattle.comm_system.specs.Pairs.{Pair, pairs_within}
use Rattle.conflict_rules.specs.References.{StaticPhase, phases_of, references_of, variable_of}
use Rattle.conflict_rules.specs.Slots.{Slot}
use Rattle.comm_system.specs.Shown.{is_own_in, is_private_in, is_summed, shared_of}
use Rattle.comm_laws.proofs.Accesses.{IsExecutedAt, executed_at_station, pair_there, phase_there, point_at, station_known}
use Rattle.comm_laws.proofs.Certain.{valid-length}
use Rattle.comm_system.proofs.Contexts.{IsInFront, loop_number}
use Rattle.comm_laws.proofs.Different.{keeps}
use Rattle.comm_laws.proofs.Holders.{form_keeps}
use Rattle.comm_laws.proofs.LastTrips.{none_later}
use Rattle.comm_laws.proofs.Meets.{trips_meet}
use Rattle.comm_laws.proofs.Ordered.{Conflicting, anchor_there, conflict_so, meeting, owner_is, same_further}
use Rattle.comm_laws.proofs.Owners.{anchor_named, around_among, as_many, outer_named, own_heads, there, visit_at}
use Rattle.comm_system.proofs.Places.{InOrder, IsPlaced, StartsIn, in_order, instances_placed, kept_after}
use Rattle.comm_laws.proofs.SeenAccesses.{IsOwnLast, sum_seen}
use Rattle.comm_system.proofs.StationFacts.{Deepens, loops_after}
use Rattle.comm_system.proofs.StationOrder.{Comes, comes, comes_earlier}
use Rattle.comm_system.proofs.Stations.{Station, at_trip, stations_in}
use Rattle.comm_laws.proofs.Waiting.{conflicting, later_phase}

-- ---- the trips of a phase's own loop

abbrev first_trip : List ℕ → ℕ
first_trip [] = 0
first_trip (n ∷ ns) = n

trips_rise : (params L : List ℤ) (head : Head) (body : Statements) (hs : List Head) (ns : List ℕ) (u : ℕ) (gs : List Head) (ms : List ℕ) (w : ℕ) → StartsIn params L (do_loop head body) hs ns → StartsIn params L (do_loop head body) gs ms → comes hs ns u gs ms w ≡ true →
    (first_trip ns ≡ first_trip ms) ⊎ IsEarlier 0 ns ms
trips_rise params L head body [] ns u gs ms w a b c = absurd a
trips_rise params L head body (h ∷ hs) [] u gs ms w a b c = absurd a
trips_rise params L head body (h ∷ hs) (n ∷ ns) u [] ms w a b c = absurd b
trips_rise params L head body (h ∷ hs) (n ∷ ns) u (g ∷ gs) [] w a b c = absurd b
trips_rise params L head body (h ∷ hs) (n ∷ ns) u (g ∷ gs) (m ∷ ms) w a b c = elim (cases_eq n m) [
  | inl same ↦ inl same
  | inr ne ↦ inr (ltb-true n m (sym (comes_earlier h g hs gs n m ns ms u w (ap (λ (x : Head). x.number) (a.0 ∙ sym b.0)) ne) ∙ c))
]

started_value : (params L : List ℤ) (head : Head) (body : Statements) (hs : List Head) (ns : List ℕ) (low high : ℕ) → StartsIn params L (do_loop head body) hs ns → Deepens low high hs → 1 ≤ head.number →
    numbered (loops_after params L hs ns) head.number ≡ numbered (at_trip params head L (first_trip ns)) head.number
started_value params L head body [] ns low high a d some = absurd a
started_value params L head body (h ∷ hs) [] low high a d some = absurd a
started_value params L head body (h ∷ hs) (n ∷ ns) low high a d some =
    let deeper : Deepens (head.number + 1) high hs = subst (λ x. Deepens (x + 1) high hs) (ap (λ (x : Head). x.number) a.0) d.2 in
    ap (λ x. numbered (loops_after params (at_trip params x L n) hs ns) head.number) a.0 ∙ kept_after params (at_trip params head L n) hs ns head.number (head.number + 1) high some (omega arith) deeper

-- the trip of the first loop behind these
trips_behind : (params L : List ℤ) (hs gs : List Head) (ts ms : List ℕ) → length ts ≡ length hs → AreTrips params L (hs ++ gs) (ts ++ ms) → AreTrips params L gs ms
trips_behind params L [] gs [] ms long t = t
trips_behind params L [] gs (n ∷ ts) ms long t = absurd (omega (arith, long))
trips_behind params L (h ∷ hs) gs [] ms long t = absurd (omega (arith, long))
trips_behind params L (h ∷ hs) gs (n ∷ ts) ms long t = trips_behind params L hs gs ts ms (omega (arith, long)) t.1

own_trip : (params L M : List ℤ) (head : Head) (body : Statements) (hs : List Head) (ns : List ℕ) → StartsIn params M (do_loop head body) hs ns → AreTrips params L hs ns → IsTrip params L head (first_trip ns)
own_trip params L M head body [] ns a t = absurd a
own_trip params L M head body (h ∷ hs) [] a t = absurd a
own_trip params L M head body (h ∷ hs) (n ∷ ns) a t = subst (λ x. IsTrip params L x n) a.0 t.0

first_earlier : (ns ms : List ℕ) → IsEarlier 0 ns ms → first_trip ns < first_trip ms
first_earlier [] ms e = absurd e
first_earlier (n ∷ ns) [] e = absurd e
first_earlier (n ∷ ns) (m ∷ ms) e = e

earlier_behind : (ts ns ms : List ℕ) → IsEarlier 0 ns ms → IsEarlier (length ts) (ts ++ ns) (ts ++ ms)
earlier_behind [] ns ms e = e
earlier_behind (t ∷ ts) ns ms e = earlier_behind ts ns ms e

same_itself : (hs : List Head) (L : List ℤ) → AreSame (length hs) hs hs L L
same_itself [] L = tt
same_itself (h ∷ hs) L = (refl, same_itself hs L)

values_both : (hs : List Head) (I J L : List ℤ) → AllByRecursion (λ h. numbered I h.number ≡ numbered L h.number) hs → AllByRecursion (λ h. numbered J h.number ≡ numbered L h.number) hs → AllByRecursion (λ h. numbered I h.number ≡ numbered J h.number) hs
values_both [] I J L a b = tt
values_both (h ∷ hs) I J L a b = (a.0 ∙ sym b.0, values_both hs I J L a.1 b.1)

module _ (tree : Tree) (plan : Plan) (formed : IsWellFormed tree) (fits : IsFit tree plan) (none : (task : Task) → Contains (tasks_of tree plan) task → HasNoWholeSolution task.system) (e : ℕ) (s : Station) (at : slice_get (stations_in (param_values tree) (enters_outer plan.cut.marks) tree.items 1 1 (no_values tree)) e ≡ Some s)
    (i j : Instance) (p : IsPlaced (param_values tree) (scope_of tree) s.heads s.trips s.visit i) (q : IsPlaced (param_values tree) (scope_of tree) s.heads s.trips s.visit j) (rises : Comes p.inner q.inner) where
  abbrev phase : StaticPhase
  phase = record { what = s.visit.what; outer = s.heads }

  abbrev anchor : Anchor
  anchor = anchor_at plan s.visit.place

  abbrev Owner : Instance → ℕ
  Owner x = anchor_owner (anchor_at plan s.visit.place) plan.workers x.loops (param_values tree)

  outer_values : AllByRecursion (λ h. numbered i.loops h.number ≡ numbered j.loops h.number) s.heads
  outer_values = values_both s.heads i.loops j.loops s.visit.loops (keeps tree s.heads s.trips s.visit i p) (keeps tree s.heads s.trips s.visit j q)

  same_owner : (hs : List Head) → names_only (length (param_values tree)) (numbers hs) (anchor_at plan s.visit.place).form ≡ true → AllByRecursion (λ h. numbered i.loops h.number ≡ numbered j.loops h.number) hs →
      anchor_owner (anchor_at plan s.visit.place) plan.workers i.loops (param_values tree) ≡ anchor_owner (anchor_at plan s.visit.place) plan.workers j.loops (param_values tree)
  same_owner hs named values =
      let a = anchor_at plan s.visit.place in
      ap (λ w. count_of (dealt a.dist plan.workers w)) (form_keeps (length (param_values tree)) hs i.loops j.loops (param_values tree) a.form named values)

  -- where two trips of the phase's loop meet at a cell that all share
  two_trips_meet : is_dealt plan.cut.marks s.visit.what ≡ true → (cell : ℕ) (c : Conflicting tree plan.cut phase phase (s.heads ++ p.inner.heads) (s.heads ++ q.inner.heads) i j cell) → is_own_in plan.cut phase c.a ≡ false → IsEarlier 0 p.inner.trips q.inner.trips → ⊥
  two_trips_meet is cell c shared earlier =
      let params = param_values tree in
      let known = station_known tree plan.cut.marks formed e s at in
      let long = valid-length params (no_values tree) s.heads s.trips known.valid in
      let same = same_further (length s.heads) s.heads s.heads p.inner.heads q.inner.heads s.visit.loops s.visit.loops i.loops j.loops (same_itself s.heads s.visit.loops) (keeps tree s.heads s.trips s.visit i p) (keeps tree s.heads s.trips s.visit j q) in
      let early : IsEarlier (length s.heads) (s.trips ++ p.inner.trips) (s.trips ++ q.inner.trips) = subst (λ n. IsEarlier n (s.trips ++ p.inner.trips) (s.trips ++ q.inner.trips)) long (earlier_behind s.trips p.inner.trips q.inner.trips earlier) in
      let pair : Pair = record { first = c.a; second = c.b } in
      let X = point_at i (s.trips ++ p.inner.trips) c.first.touches.free in
      let Y = point_at j (s.trips ++ q.inner.trips) c.second.touches.free in
      let meet = meeting tree plan.cut phase phase (s.heads ++ p.inner.heads) (s.heads ++ q.inner.heads) i j cell c (s.trips ++ p.inner.trips) (s.trips ++ q.inner.trips) (two_trips (length s.heads)) (None, None) p.trips q.trips same (λ e. early) tt tt in
      let here = contains_at (phases_of tree plan.cut.marks) (s.visit.place - 1) phase (phase_there tree plan.cut.marks formed e s at) in
      let first = Contains-filter (λ r. not (is_own_in plan.cut phase r)) (references_of phase) c.a c.first.among (ap not shared) in
      let among : Contains (pairs_within plan.cut phase) pair = pair_there (shared_of plan.cut phase) (references_of phase) c.a c.b first c.second.among (conflict_so tree plan.cut phase phase (s.heads ++ p.inner.heads) (s.heads ++ q.inner.heads) i j cell c) in
      let solved = trips_meet tree plan phase pair X Y formed fits here among meet in
      let task = Contains-map (trips_task tree plan phase) (pairs_within plan.cut phase) pair among in
      let task' : Contains (trips_tasks tree plan phase) (trips_task tree plan phase pair) = subst (λ b. Contains (if b then map (trips_task tree plan phase) (pairs_within plan.cut phase) else []) (trips_task tree plan phase pair)) (sym is) task in
      let all = phases_of tree plan.cut.marks in
      let slots = flat_map (λ (slot : Slot). slot_tasks tree plan slot (slot_signature plan.version plan.kinds all slot)) (slots_of all) in
      let trips = flat_map (trips_tasks tree plan) all in
      let there = Contains-append_left (trips ++ slots) (flat_map (paths_tasks tree plan) all) (trips_task tree plan phase pair)
      (Contains-append_left trips slots (trips_task tree plan phase pair) (Contains-flat_map (trips_tasks tree plan) all phase (trips_task tree plan phase pair) here task')) in
      none (trips_task tree plan phase pair) there (values_of tree pair X Y []) solved

  -- no trip comes behind that of a private scalar's access
  none_behind : (head : Head) (body : Statements) → s.visit.what ≡ do_loop head body → IsOwnLast true (param_values tree) s.visit.what i.loops → IsEarlier 0 p.inner.trips q.inner.trips → ⊥
  none_behind head body what last earlier =
      let params = param_values tree in
      let known = station_known tree plan.cut.marks formed e s at in
      let long = valid-length params (no_values tree) s.heads s.trips known.valid in
      let f = there tree plan formed fits e s at in
      let good = good_loop (scope_of tree) f.there.around f.there.number head body (ap (is_good_statement (scope_of tree) f.there.around f.there.number) (sym what) ∙ f.there.good) in
      let bounds = and_parts (names_only (length tree.params) f.there.around head.m1 && names_only (length tree.params) f.there.around head.m2 && nat_lt 0 (unsigned_abs head.step)) (is_small head.step) good.bounds in
      let moves = and_parts (names_only (length tree.params) f.there.around head.m1 && names_only (length tree.params) f.there.around head.m2) (nat_lt 0 (unsigned_abs head.step)) bounds.0 in
      let ends = and_parts (names_only (length tree.params) f.there.around head.m1) (names_only (length tree.params) f.there.around head.m2) moves.0 in
      let same_value = λ (form : Form) (named : names_only (length tree.params) f.there.around form ≡ true).
      form_keeps (length params) s.heads i.loops j.loops params form
      (subst (λ n. names_only n (numbers s.heads) form ≡ true) (as_many tree plan formed fits e s at) (form-among (length tree.params) f.there.around (numbers s.heads) form (around_among tree plan formed fits e s at) named)) outer_values in
      let a : StartsIn params s.visit.loops (do_loop head body) p.inner.heads p.inner.trips = subst (λ w. StartsIn params s.visit.loops w p.inner.heads p.inner.trips) what p.starts_in in
      let b : StartsIn params s.visit.loops (do_loop head body) q.inner.heads q.inner.trips = subst (λ w. StartsIn params s.visit.loops w q.inner.heads q.inner.trips) what q.starts_in in
      let one = own_trip params i.loops s.visit.loops head body p.inner.heads p.inner.trips a (trips_behind params i.loops s.heads p.inner.heads s.trips p.inner.trips long p.trips) in
      let two = own_trip params j.loops s.visit.loops head body q.inner.heads q.inner.trips b (trips_behind params j.loops s.heads q.inner.heads s.trips q.inner.trips long q.trips) in
      let count : trip_count (form_value head.m1 j.loops params) (form_value head.m2 j.loops params) head.step ≡ trip_count (form_value head.m1 i.loops params) (form_value head.m2 i.loops params) head.step =
      ap (λ z. trip_count z (form_value head.m2 j.loops params) head.step) (sym (same_value head.m1 ends.0)) ∙ ap (λ z. trip_count (form_value head.m1 i.loops params) z head.step) (sym (same_value head.m2 ends.1)) in
      let past : IsPast head.step (numbered i.loops head.number +ℤ head.step) (form_value head.m2 i.loops params) = subst (λ w. IsOwnLast true params w i.loops) what last in
      none_later (form_value head.m1 i.loops params) (form_value head.m2 i.loops params) head.step (numbered i.loops head.number) (first_trip p.inner.trips) (first_trip q.inner.trips) (ltb-true 0 (unsigned_abs head.step) moves.1) past one.value (first_earlier p.inner.trips q.inner.trips earlier)
      (subst (λ n. first_trip q.inner.trips < n) count two.within)

  pub one_owner : (cell : ℕ) (c : Conflicting tree plan.cut (record { what = s.visit.what; outer = s.heads }) (record { what = s.visit.what; outer = s.heads }) (s.heads ++ p.inner.heads) (s.heads ++ q.inner.heads) i j cell) → (is_summed plan.cut s.visit.what (variable_of c.a.what) ≡ true → ⊥) →
      anchor_owner (anchor_at plan s.visit.place) plan.workers i.loops (param_values tree) ≡ anchor_owner (anchor_at plan s.visit.place) plan.workers j.loops (param_values tree)
  one_owner cell c unsummed = elim (cases_Bool (is_dealt plan.cut.marks s.visit.what)) [
    | inr still ↦ same_owner s.heads (outer_named tree plan formed fits e s at (anchor_at plan s.visit.place) (anchor_there tree plan formed fits e s at) still) outer_values
    | inl is ↦ by s.visit.what refl is
  ]
    where
      by : (what : Statement) → s.visit.what ≡ what → is_dealt plan.cut.marks s.visit.what ≡ true → anchor_owner (anchor_at plan s.visit.place) plan.workers i.loops (param_values tree) ≡ anchor_owner (anchor_at plan s.visit.place) plan.workers j.loops (param_values tree)
      by (work w) same is = absurd (true≢false (sym is ∙ ap (is_dealt plan.cut.marks) same))
      by (continue line) same is = absurd (true≢false (sym is ∙ ap (is_dealt plan.cut.marks) same))
      by (do_loop head body) same is =
          let params = param_values tree in
          let known = station_known tree plan.cut.marks formed e s at in
          let front : IsInFront params (scope_of tree) s.heads s.trips s.visit.loops known.own_number (do_loop head body) = subst (λ w. IsInFront params (scope_of tree) s.heads s.trips s.visit.loops known.own_number w) same known.context in
          let number = loop_number params (scope_of tree) s.heads s.trips s.visit.loops known.own_number head body front in
          let some : 1 ≤ head.number = omega (arith, number.0, number.1) in
          let a : StartsIn params s.visit.loops (do_loop head body) p.inner.heads p.inner.trips = subst (λ w. StartsIn params s.visit.loops w p.inner.heads p.inner.trips) same p.starts_in in
          let b : StartsIn params s.visit.loops (do_loop head body) q.inner.heads q.inner.trips = subst (λ w. StartsIn params s.visit.loops w q.inner.heads q.inner.trips) same q.starts_in in
          let named : names_only (length params) (numbers (s.heads ++ head ∷ [])) (anchor_at plan s.visit.place).form ≡ true =
          subst (λ w. names_only (length params) (numbers (own_heads s.heads w)) (anchor_at plan s.visit.place).form ≡ true) same (anchor_named tree plan formed fits e s at (anchor_at plan s.visit.place) (anchor_there tree plan formed fits e s at)) in
          let value_i = ap (λ l. numbered l head.number) p.loops_are ∙ started_value params s.visit.loops head body p.inner.heads p.inner.trips p.low p.high a p.deepens some in
          let value_j = ap (λ l. numbered l head.number) q.loops_are ∙ started_value params s.visit.loops head body q.inner.heads q.inner.trips q.low q.high b q.deepens some in
          choose head named value_i value_j (trips_rise params s.visit.loops head body p.inner.heads p.inner.trips p.inner.visit.place q.inner.heads q.inner.trips q.inner.visit.place a b rises) is
        where
          none_in : (what : Statement) → s.visit.what ≡ what → IsOwnLast true (param_values tree) s.visit.what i.loops → IsEarlier 0 p.inner.trips q.inner.trips → ⊥
          none_in (do_loop h b) same last earlier = none_behind h b same last earlier
          none_in (work w) same last earlier = absurd (subst (λ x. IsOwnLast true (param_values tree) x i.loops) same last)
          none_in (continue line) same last earlier = absurd (subst (λ x. IsOwnLast true (param_values tree) x i.loops) same last)

          neither_own : (b : Bool) → is_private_in plan.cut phase c.a ≡ false → (b ≡ true → ⊥) → (is_private_in plan.cut phase c.a || b) ≡ false
          neither_own true plain unsummed = absurd (unsummed refl)
          neither_own false plain unsummed = ap (λ x. x || false) plain

          choose : (head : Head) → names_only (length (param_values tree)) (numbers (s.heads ++ head ∷ [])) (anchor_at plan s.visit.place).form ≡ true → numbered i.loops head.number ≡ numbered (at_trip (param_values tree) head s.visit.loops (first_trip p.inner.trips)) head.number →
              numbered j.loops head.number ≡ numbered (at_trip (param_values tree) head s.visit.loops (first_trip q.inner.trips)) head.number → (first_trip p.inner.trips ≡ first_trip q.inner.trips) ⊎ IsEarlier 0 p.inner.trips q.inner.trips → is_dealt plan.cut.marks s.visit.what ≡ true →
              anchor_owner (anchor_at plan s.visit.place) plan.workers i.loops (param_values tree) ≡ anchor_owner (anchor_at plan s.visit.place) plan.workers j.loops (param_values tree)
          choose head named vi vj (inl equal) is =
              same_owner (s.heads ++ head ∷ []) named (all-append (λ h. numbered i.loops h.number ≡ numbered j.loops h.number) s.heads (head ∷ []) outer_values
              (vi ∙ ap (λ n. numbered (at_trip (param_values tree) head s.visit.loops n) head.number) equal ∙ sym vj, tt))
          choose head named vi vj (inr earlier) is = elim (cases_Bool (is_private_in plan.cut phase c.a)) [
            | inl private ↦ absurd (none_in s.visit.what refl (subst (λ b. IsOwnLast b (param_values tree) s.visit.what i.loops) private c.first_seen.own) earlier)
            | inr plain ↦ absurd (two_trips_meet is cell c (neither_own (is_summed plan.cut s.visit.what (variable_of c.a.what)) plain unsummed) earlier)
          ]

-- ---- chains lead between them

some_same : (v w : Visit) → Some v ≡ Some w → v ≡ w
some_same v w e = cc

pub obligations_chain : (tree : Tree) (plan : Plan) → IsWellFormed tree → IsInRange tree → IsFit tree plan → ((task : Task) → Contains (tasks_of tree plan) task → HasNoWholeSolution task.system) → AreChained tree plan
obligations_chain tree plan formed ranged fits none j k x y lt at at' seen apart =
    let params = param_values tree in
    let o = in_order params 1 (phases tree plan.cut.marks) x y j k lt at at' in
    let hx = executed_at_station tree plan.cut.marks formed ranged x j at o.first in
    let hy = executed_at_station tree plan.cut.marks formed ranged y k at' o.second in
    let phase_x : suc o.first.phase ≡ x.phase = omega (arith, o.first.phase_is) in
    let phase_y : suc o.second.phase ≡ y.phase = omega (arith, o.second.phase_is) in
    elim (cases_eq o.first.phase o.second.phase) [
      | inr ne ↦
          let chain = later_phase tree plan formed fits none x y o.first.phase o.second.phase hx hy (omega (arith, o.phases, ne)) seen apart in
          (chain.0, subst (λ e. IsChain tree plan (owner_under tree plan x) e chain.0 (owner_under tree plan y) y.phase) phase_x (subst (λ t. IsChain tree plan (owner_under tree plan x) (suc o.first.phase) chain.0 (owner_under tree plan y) t) phase_y chain.1))
      | inl same ↦ absurd (apart (together o hx hy same))
    ]
  where
    together : (o : InOrder (param_values tree) 1 (phases tree plan.cut.marks) x y) → IsExecutedAt tree plan.cut.marks x o.first.phase → IsExecutedAt tree plan.cut.marks y o.second.phase → o.first.phase ≡ o.second.phase → owner_under tree plan x ≡ owner_under tree plan y
    together o hx hy same =
        let params = param_values tree in
        let s = hx.station in
        let e = o.first.phase in
        let visit_x : s.visit ≡ o.first.visit = some_same s.visit o.first.visit (sym (visit_at tree plan formed fits e s hx.at) ∙ o.first.at) in
        let visit_y : s.visit ≡ o.second.visit = some_same s.visit o.second.visit (sym (visit_at tree plan formed fits e s hx.at) ∙ ap (slice_get (phases tree plan.cut.marks)) same ∙ o.second.at) in
        let known = station_known tree plan.cut.marks formed e s hx.at in
        let at_i : slice_get (visit_instances params s.visit) o.first.index ≡ Some x.instance = ap (λ v. slice_get (visit_instances params v) o.first.index) visit_x ∙ o.first.is in
        let at_j : slice_get (visit_instances params s.visit) o.second.index ≡ Some y.instance = ap (λ v. slice_get (visit_instances params v) o.second.index) visit_y ∙ o.second.is in
        let placed = instances_placed params (scope_of tree) s.heads s.trips s.visit known.own_number known.context x.instance y.instance o.first.index o.second.index (o.within_phase same) at_i at_j in
        let p = placed.0 in
        let q = placed.1.0 in
        let ix : IsExecutedAt tree plan.cut.marks x e = record { station = s; at = hx.at; place_is = hx.place_is; placed = p; inside = hx.inside } in
        let place_y : y.place ≡ s.visit.place = o.second.place_is ∙ ap (λ (v : Visit). v.place) (sym visit_y) in
        let iy : IsExecutedAt tree plan.cut.marks y e = record { station = s; at = hx.at; place_is = place_y; placed = q; inside = hy.inside } in
        let phase : StaticPhase = record { what = s.visit.what; outer = s.heads } in
        let c = conflicting tree plan formed fits x y e e ix iy seen in
        let phase_same : x.phase ≡ y.phase = omega (arith, o.first.phase_is, o.second.phase_is, same) in
        let unsummed = λ (summed : is_summed plan.cut s.visit.what (variable_of c.a.what) ≡ true). seen.apart (sum_seen tree plan formed fits x e ix seen.cell c.a c.first summed) phase_same in
        owner_is tree plan formed fits x e s hx.at hx.place_is ∙ one_owner tree plan formed fits none e s hx.at x.instance y.instance p q placed.1.1 seen.cell c unsummed ∙ sym (owner_is tree plan formed fits y e s hx.at place_y)

-- Of two executions that conflict, the owner of the second waits for that of the first, where no system has a whole solution.
use Rattle.std.proofs.Common.{◌≡◌, ℕ, suc, ◌+◌, ◌<◌, ◌⊎◌, ◌||◌, true, false, true≢false, Option, Some, List, [], ◌++◌, length, refl, ap, sym, ◌∙◌, subst, inl, inr, arith}
use Rattle.std.specs.List.{Contains}
use Rattle.std.proofs.Math.Bool.{or-true}
use Rattle.nest_tree.specs.Form.{form_value}
use Rattle.nest_tree.specs.Tree.{Head, Tree, param_values}
use Rattle.nest_tree.specs.WellFormed.{IsWellFormed, loops_of, names_only, scope_of}
use Rattle.nest_model.specs.Instances.{no_values}
use Rattle.nest_rows.proofs.Dots.{numbers}
use Rattle.farkas_cert.specs.Inequalities.{HasNoWholeSolution}
use Rattle.owner_partition.specs.Marks.{enters_outer}
use Rattle.owner_partition.specs.Phases.{Execution}
use Rattle.sync_plan.specs.declared.plan.Plan.{Plan}
use Rattle.sync_plan.specs.Conflicts.{ConflictUnder, seen_store}
use Rattle.sync_plan.specs.Fit.{IsFit}
use Rattle.sync_plan.specs.Ordered.{Hop, IsChain, owner_under}
use Rattle.conflict_rules.specs.Boundaries.{certain_boundaries, of_first, of_second}
use Rattle.comm_system.specs.Levels.{Order, common, levels, order_at}
use Rattle.comm_system.specs.Meetings.{AreSame, IsEarlier, IsHolder, Meet}
use Rattle.comm_system.specs.Obligations.{Task, anchor_at, tasks_of}
use Rattle.comm_system.specs.Pairs.{Pair}
use Rattle.conflict_rules.specs.References.{StaticPhase, phases_of}
use Rattle.comm_system.specs.Shown.{last_in}
use Rattle.comm_laws.proofs.Accesses.{IsExecutedAt, phase_there, point_at, station_known}
use Rattle.comm_laws.proofs.Certain.{AreTwo, heads_x, heads_y, long_x, long_y}
use Rattle.comm_laws.proofs.CertainLists.{AreCertain, carried_certain, plain_certain}
use Rattle.comm_system.proofs.Contexts.{at_first}
use Rattle.comm_laws.proofs.Different.{keeps, waited}
use Rattle.comm_system.proofs.KnownHeads.{heads_among}
use Rattle.comm_laws.proofs.Ordered.{Conflicting, anchor_there, earlier_further, meeting, meeting_pair, order_carried, owner_is, same_further}
use Rattle.comm_laws.proofs.Owners.{holder_of, owner_holds}
use Rattle.comm_laws.proofs.OwnersMet.{holds_below}
use Rattle.comm_laws.proofs.SeenAccesses.{seen_any, seen_stores}
use Rattle.comm_laws.proofs.Slots.{carried_level, plain_level, slot_there}
use Rattle.comm_system.proofs.StationFacts.{loops_after}
use Rattle.comm_system.proofs.StationOrder.{comes_at, rises_in}
use Rattle.comm_system.proofs.Stations.{stations_in, text_among}
use Rattle.comm_system.proofs.Timeline.{Agree, IsCarried, IsPlain, agree_values, split}

-- ---- the accesses of two instances that conflict

module _ (tree : Tree) (plan : Plan) (formed : IsWellFormed tree) (fits : IsFit tree plan) (x y : Execution) (ex ey : ℕ) (hx : IsExecutedAt tree plan.cut.marks x ex) (hy : IsExecutedAt tree plan.cut.marks y ey) where
  abbrev Both : ℕ → Type 0
  Both cell = Conflicting tree plan.cut (record { what = hx.station.visit.what; outer = hx.station.heads }) (record { what = hy.station.visit.what; outer = hy.station.heads }) (hx.station.heads ++ hx.placed.inner.heads) (hy.station.heads ++ hy.placed.inner.heads) x.instance y.instance cell

  pub conflicting : (c : ConflictUnder tree plan x y) →
      Conflicting tree plan.cut (record { what = hx.station.visit.what; outer = hx.station.heads }) (record { what = hy.station.visit.what; outer = hy.station.heads }) (hx.station.heads ++ hx.placed.inner.heads) (hy.station.heads ++ hy.placed.inner.heads) x.instance y.instance c.cell
  conflicting c = by c.stored
    where
      by : (seen_store tree plan x ≡ Some c.cell) ⊎ (seen_store tree plan y ≡ Some c.cell) → Both c.cell
      by (inl is) =
          let a = seen_stores tree plan formed fits x ex hx c.cell is in
          let b = seen_any tree plan formed fits y ey hy c.cell c.second in
          record { a = a.0; b = b.0; first = a.1; second = b.1; first_seen = a.2; second_seen = b.2; stored = ap (λ z. z || b.0.stores) a.3 }
      by (inr is) =
          let a = seen_any tree plan formed fits x ex hx c.cell c.first in
          let b = seen_stores tree plan formed fits y ey hy c.cell is in
          record { a = a.0; b = b.0; first = a.1; second = b.1; first_seen = a.2; second_seen = b.2; stored = ap (λ z. a.0.stores || z) b.3 ∙ or-true a.0.stores }

-- ---- in a later phase

module _ (tree : Tree) (plan : Plan) (formed : IsWellFormed tree) (fits : IsFit tree plan) (none : (task : Task) → Contains (tasks_of tree plan) task → HasNoWholeSolution task.system) where
  module _ (x y : Execution) (ex ey : ℕ) (hx : IsExecutedAt tree plan.cut.marks x ex) (hy : IsExecutedAt tree plan.cut.marks y ey) (less : ex < ey) (conflict : ConflictUnder tree plan x y) (apart : owner_under tree plan x ≡ owner_under tree plan y → ⊥) where
    two : AreTwo tree plan ex ey hx.station hy.station
    two = record { formed = formed; first = hx.at; second = hy.at }

    abbrev first_phase : StaticPhase
    first_phase = record { what = hx.station.visit.what; outer = hx.station.heads }

    abbrev second_phase : StaticPhase
    second_phase = record { what = hy.station.visit.what; outer = hy.station.heads }

    abbrev around_x : List Head
    around_x = hx.station.heads ++ hx.placed.inner.heads

    abbrev around_y : List Head
    around_y = hy.station.heads ++ hy.placed.inner.heads

    both : Conflicting tree plan.cut first_phase second_phase around_x around_y x.instance y.instance conflict.cell
    both = conflicting tree plan formed fits x y ex ey hx hy conflict

    -- at a level at which the certain boundaries are known
    at_level : (level : ℕ) → AreCertain tree plan ex ey hx.station hy.station two (certain_boundaries (text_among (enters_outer plan.cut.marks) tree.items) hx.station.heads hy.station.heads hx.station.visit.place hy.station.visit.place level) →
        Contains (levels (common hx.station.heads hy.station.heads) hx.station.visit.place hy.station.visit.place) level → (order : Order) → order ≡ order_at (common hx.station.heads hy.station.heads) level →
        Agree order.equal hx.station.heads hx.station.trips hy.station.heads hy.station.trips → (order.earlier ≡ true → IsEarlier order.equal hx.station.trips hy.station.trips) →
        (hops : List Hop) × IsChain tree plan (owner_under tree plan x) (suc ex) hops (owner_under tree plan y) (suc ey)
    at_level level certain among order is agree earlier =
        let params = param_values tree in
        let sx = hx.station in
        let sy = hy.station in
        let px = hx.placed in
        let py = hy.placed in
        let kx = station_known tree plan.cut.marks formed ex sx hx.at in
        let ky = station_known tree plan.cut.marks formed ey sy hy.at in
        let c = both in
        let same0 = agree_values params (no_values tree) order.equal 1 (1 + loops_of tree.items) sx.heads sx.trips sy.heads sy.trips agree kx.deepens ky.deepens (omega arith) in
        let same1 : AreSame order.equal sx.heads sy.heads sx.visit.loops sy.visit.loops =
        subst (λ l. AreSame order.equal sx.heads sy.heads l sy.visit.loops) (sym kx.loops_are) (subst (λ m. AreSame order.equal sx.heads sy.heads (loops_after params (no_values tree) sx.heads sx.trips) m) (sym ky.loops_are) same0) in
        let same2 = same_further order.equal sx.heads sy.heads px.inner.heads py.inner.heads sx.visit.loops sy.visit.loops x.instance.loops y.instance.loops same1 (keeps tree sx.heads sx.trips sx.visit x.instance px) (keeps tree sy.heads sy.trips sy.visit y.instance py) in
        let early = λ (e : order.earlier ≡ true). earlier_further order.equal sx.trips sy.trips px.inner.trips py.inner.trips (earlier e) in
        let X = point_at x.instance (sx.trips ++ px.inner.trips) c.first.touches.free in
        let Y = point_at y.instance (sy.trips ++ py.inner.trips) c.second.touches.free in
        let pair : Pair = record { first = c.a; second = c.b } in
        let lasts : Option ℕ × Option ℕ = (last_in plan.cut first_phase c.a, last_in plan.cut second_phase c.b) in
        let meet0 = meeting tree plan.cut first_phase second_phase around_x around_y x.instance y.instance conflict.cell c (sx.trips ++ px.inner.trips) (sy.trips ++ py.inner.trips) order lasts px.trips py.trips same2 early c.first_seen.last c.second_seen.last in
        let meet1 : Meet tree (order_at (common sx.heads sy.heads) level) lasts pair X Y = subst (λ o. Meet tree o lasts pair X Y) is meet0 in
        let ax = anchor_at plan sx.visit.place in
        let ay = anchor_at plan sy.visit.place in
        let ox = owner_holds tree plan formed fits ex sx hx.at x.instance px ax (anchor_there tree plan formed fits ex sx hx.at) in
        let oy = owner_holds tree plan formed fits ey sy hy.at y.instance py ay (anchor_there tree plan formed fits ey sy hy.at) in
        let first = holder_of ax.dist plan.workers (form_value ax.form x.instance.loops params) in
        let second = holder_of ay.dist plan.workers (form_value ay.form y.instance.loops params) in
        let is_first : IsHolder tree plan.workers pair X Y (ax, of_first) first = record { named = subst (λ hs. names_only (length params) (numbers hs) ax.form ≡ true) (sym c.first.around_is) ox.0; holds = ox.1 } in
        let is_second : IsHolder tree plan.workers pair X Y (ay, of_second) second = record { named = subst (λ hs. names_only (length params) (numbers hs) ay.form ≡ true) (sym c.second.around_is) oy.0; holds = oy.1 } in
        let own_x = owner_is tree plan formed fits x ex sx hx.at hx.place_is in
        let own_y = owner_is tree plan formed fits y ey sy hy.at hy.place_is in
        let slot_in = slot_there (phases_of tree plan.cut.marks) sx.visit.place first_phase sy.visit.place second_phase level kx.low ky.low (phase_there tree plan.cut.marks formed ex sx hx.at) (phase_there tree plan.cut.marks formed ey sy hy.at) among in
        let chain = waited tree plan ex ey sx sy two fits x.instance y.instance px py pair X Y c.first.around_is c.second.around_is refl refl level (omega (arith, less)) certain slot_in (meeting_pair tree plan.cut first_phase second_phase around_x around_y x.instance y.instance conflict.cell c) meet1 first second is_first is_second
        (holds_below ax.dist plan.workers (form_value ax.form x.instance.loops params) first ox.1) (holds_below ay.dist plan.workers (form_value ay.form y.instance.loops params) second oy.1) (λ e. apart (own_x ∙ sym e ∙ sym own_y)) none in
        (chain.0, subst (λ q. IsChain tree plan q (suc ex) chain.0 (owner_under tree plan y) (suc ey)) (sym own_x) (subst (λ p. IsChain tree plan first.owner (suc ex) chain.0 p (suc ey)) (sym own_y) chain.1))

    pub later_phase : (hops : List Hop) × IsChain tree plan (owner_under tree plan x) (suc ex) hops (owner_under tree plan y) (suc ey)
    later_phase =
        let sx = hx.station in
        let sy = hy.station in
        let rises = rises_in (param_values tree) (scope_of tree) (enters_outer plan.cut.marks) [] [] (no_values tree) 1 1 1 tree.items (at_first tree formed) in
        let comes_so = comes_at (stations_in (param_values tree) (enters_outer plan.cut.marks) tree.items 1 1 (no_values tree)) ex ey sx sy rises less hx.at hy.at in
        by (split (heads_among tree.items) 1 sx.heads sx.trips sx.visit.place sy.heads sy.trips sy.visit.place (heads_x tree plan ex ey sx sy two) (heads_y tree plan ex ey sx sy two) (long_x tree plan ex ey sx sy two) (long_y tree plan ex ey sx sy two) comes_so)
      where
        by : IsCarried hx.station.heads hx.station.trips hy.station.heads hy.station.trips ⊎ IsPlain hx.station.heads hx.station.trips hx.station.visit.place hy.station.heads hy.station.trips hy.station.visit.place →
            (hops : List Hop) × IsChain tree plan (owner_under tree plan x) (suc ex) hops (owner_under tree plan y) (suc ey)
        by (inl c) =
            at_level (suc c.outside) (carried_certain tree plan ex ey hx.station hy.station two (omega (arith, less)) c.outside c.agree c.earlier c.less) (carried_level (common hx.station.heads hy.station.heads) hx.station.visit.place hy.station.visit.place c.outside c.less)
            (record { equal = c.outside; earlier = true }) (sym (order_carried (common hx.station.heads hy.station.heads) c.outside)) c.agree (λ e. c.earlier)
        by (inr p) =
            at_level 0 (plain_certain tree plan ex ey hx.station hy.station two (omega (arith, less)) p.agree) (plain_level (common hx.station.heads hy.station.heads) hx.station.visit.place hy.station.visit.place p.text)
            (record { equal = common hx.station.heads hy.station.heads; earlier = false }) refl p.agree (λ e. absurd (true≢false (sym e)))

-- Where each system of a plan that fits has no whole solution, the plan is ordered.
use Rattle.std.proofs.Common.{◌≡◌, ℕ, zero, suc, ◌-◌, ◌<◌, ◌==◌, ◌||◌, ℤ, pos, Bool, true, false, Option, Some, None, List, [], ◌∷◌, ◌++◌, length, if◌then◌else◌, refl, ap, sym, ◌∙◌, subst, arith}
use Rattle.std.specs.List.{AllByRecursion, Contains, slice_get}
use Rattle.std.proofs.lemmas.Bool.{and_from}
use Rattle.std.proofs.lemmas.Option.{slice_get_within}
use Rattle.nest_tree.specs.Form.{numbered}
use Rattle.nest_tree.specs.Tree.{Head, Tree, param_values}
use Rattle.nest_tree.specs.WellFormed.{IsWellFormed}
use Rattle.nest_model.specs.Instances.{Instance, no_values}
use Rattle.nest_rows.specs.Nested.{AreTrips}
use Rattle.owner_partition.specs.declared.anchor.Anchor.{Anchor}
use Rattle.owner_partition.specs.declared.anchor.Dist.TheVariants.{Cyclic}
use Rattle.owner_partition.specs.Cuts.{Cutting}
use Rattle.owner_partition.specs.Marks.{enters_outer}
use Rattle.owner_partition.specs.Owners.{anchor_owner, owner_by}
use Rattle.owner_partition.specs.Phases.{Execution}
use Rattle.sync_plan.specs.declared.plan.Plan.{Plan}
use Rattle.sync_plan.specs.Fit.{IsFit}
use Rattle.sync_plan.specs.Ordered.{owner_under}
use Rattle.sync_plan.specs.Shape.{static_phases}
use Rattle.sync_plan.proofs.Fits.{fit_parts}
use Rattle.comm_system.specs.Levels.{Order, order_at}
use Rattle.comm_system.specs.Meetings.{AreSame, IsEarlier, IsEarlierWhere, IsInLastTripWhere, Meet}
use Rattle.comm_system.specs.Obligations.{anchor_at}
use Rattle.conflict_rules.specs.Conflicts.{conflict}
use Rattle.comm_system.specs.Pairs.{pairs_of}
use Rattle.conflict_rules.specs.References.{Reference, StaticPhase, variable_of}
use Rattle.comm_system.specs.Shown.{shown_of}
use Rattle.comm_laws.proofs.Accesses.{IsAccessAt, elements_same, pair_there, point_at}
use Rattle.comm_system.proofs.Lists.{some_there}
use Rattle.comm_laws.proofs.Owners.{index_is, there}
use Rattle.comm_laws.proofs.SeenAccesses.{IsSeen}
use Rattle.comm_system.proofs.StationOrder.{differ_test, equal_test}
use Rattle.comm_system.proofs.Stations.{Station, stations_in}

-- ---- further loops

pub same_further : (k : ℕ) (hs gs more others : List Head) (L M I J : List ℤ) → AreSame k hs gs L M → AllByRecursion (λ h. numbered I h.number ≡ numbered L h.number) hs → AllByRecursion (λ h. numbered J h.number ≡ numbered M h.number) gs → AreSame k (hs ++ more) (gs ++ others) I J
same_further zero hs gs more others L M I J same a b = tt
same_further (suc k) [] gs more others L M I J same a b = absurd same
same_further (suc k) (h ∷ hs) [] more others L M I J same a b = absurd same
same_further (suc k) (h ∷ hs) (g ∷ gs) more others L M I J same a b = (a.0 ∙ same.0 ∙ sym b.0, same_further k hs gs more others L M I J same.1 a.1 b.1)

pub earlier_further : (k : ℕ) (ns ms more others : List ℕ) → IsEarlier k ns ms → IsEarlier k (ns ++ more) (ms ++ others)
earlier_further k [] ms more others e = absurd e
earlier_further k (n ∷ ns) [] more others e = absurd e
earlier_further zero (n ∷ ns) (m ∷ ms) more others e = e
earlier_further (suc k) (n ∷ ns) (m ∷ ms) more others e = earlier_further k ns ms more others e

pub order_carried : (loops k : ℕ) → order_at loops (suc k) ≡ record { equal = k; earlier = true }
order_carried loops k =
    let back : suc k - 1 ≡ k = omega arith in
    ap (λ b. if b then record { equal = loops; earlier = false } else record { equal = suc k - 1; earlier = true }) (differ_test (suc k) 0 (λ e. omega (arith, e))) ∙ ap (λ n. record { equal = n; earlier = true }) back

-- the anchor of a phase
abbrev first_or : Option Anchor → Anchor
first_or (Some a) = a
first_or None = record { form = record { constant = pos 0; loops = []; params = [] }; dist = Cyclic }

module _ (tree : Tree) (plan : Plan) (formed : IsWellFormed tree) (fits : IsFit tree plan) where
  pub anchor_there : (e : ℕ) (s : Station) → slice_get (stations_in (param_values tree) (enters_outer plan.cut.marks) tree.items 1 1 (no_values tree)) e ≡ Some s → slice_get plan.anchors (s.visit.place - 1) ≡ Some (anchor_at plan s.visit.place)
  anchor_there e s at =
      let parts = fit_parts tree plan fits in
      let f = there tree plan formed fits e s at in
      let inside : s.visit.place - 1 < length plan.anchors = omega (arith, index_is tree plan formed fits e s at, parts.anchors, slice_get_within (static_phases tree plan.cut.marks) f.k (record { what = s.visit.what; around = f.there.around }) f.there.at) in
      let found = some_there plan.anchors (s.visit.place - 1) inside in
      found.1 ∙ ap Some (sym (ap first_or found.1))

  -- the owner of an execution
  pub owner_is : (x : Execution) (e : ℕ) (s : Station) → slice_get (stations_in (param_values tree) (enters_outer plan.cut.marks) tree.items 1 1 (no_values tree)) e ≡ Some s → x.place ≡ s.visit.place →
      owner_under tree plan x ≡ anchor_owner (anchor_at plan s.visit.place) plan.workers x.instance.loops (param_values tree)
  owner_is x e s at place =
      ap (λ n. owner_by (slice_get plan.anchors (n - 1)) plan.workers x.instance.loops (param_values tree)) place ∙ ap (λ o. owner_by o plan.workers x.instance.loops (param_values tree)) (anchor_there e s at)

-- ---- two accesses that conflict

pub record Conflicting (tree : Tree) (cut : Cutting) (s t : StaticPhase) (around around' : List Head) (i j : Instance) (cell : ℕ) : Type 0 where
  pub a : Reference
  pub b : Reference
  pub first : IsAccessAt tree s around i cell a
  pub second : IsAccessAt tree t around' j cell b
  pub first_seen : IsSeen tree cut s around i a
  pub second_seen : IsSeen tree cut t around' j b
  pub stored : (a.stores || b.stores) ≡ true

pub conflict_so : (tree : Tree) (cut : Cutting) (s t : StaticPhase) (around around' : List Head) (i j : Instance) (cell : ℕ) (c : Conflicting tree cut s t around around' i j cell) → conflict c.a c.b ≡ true
conflict_so tree cut s t around around' i j cell c =
    let same = (elements_same tree i.loops j.loops cell c.a.what c.b.what [] [] c.first.touches c.second.touches).0 in
    and_from (variable_of c.a.what == variable_of c.b.what) (c.a.stores || c.b.stores) (equal_test (variable_of c.a.what) (variable_of c.b.what) same) c.stored

pub meeting_pair : (tree : Tree) (cut : Cutting) (s t : StaticPhase) (around around' : List Head) (i j : Instance) (cell : ℕ) (c : Conflicting tree cut s t around around' i j cell) → Contains (pairs_of cut s t) (record { first = c.a; second = c.b })
meeting_pair tree cut s t around around' i j cell c = pair_there (shown_of cut s) (shown_of cut t) c.a c.b c.first_seen.shown c.second_seen.shown (conflict_so tree cut s t around around' i j cell c)

pub meeting : (tree : Tree) (cut : Cutting) (s t : StaticPhase) (around around' : List Head) (i j : Instance) (cell : ℕ) (c : Conflicting tree cut s t around around' i j cell) (ns ms : List ℕ) (order : Order) (lasts : Option ℕ × Option ℕ) → AreTrips (param_values tree) i.loops around ns → AreTrips (param_values tree) j.loops around' ms →
    AreSame order.equal around around' i.loops j.loops → (order.earlier ≡ true → IsEarlier order.equal ns ms) → IsInLastTripWhere lasts.0 (param_values tree) i.loops around → IsInLastTripWhere lasts.1 (param_values tree) j.loops around' →
    Meet tree order lasts (record { first = c.a; second = c.b }) (point_at i ns c.first.touches.free) (point_at j ms c.second.touches.free)
meeting tree cut s t around around' i j cell c ns ms order lasts trips trips' same earlier last last' = record {
  first = record { trips = subst (λ hs. AreTrips (param_values tree) i.loops hs ns) (sym c.first.around_is) trips; executed = c.first.executed; free = c.first.touches.within };
  second = record { trips = subst (λ hs. AreTrips (param_values tree) j.loops hs ms) (sym c.second.around_is) trips'; executed = c.second.executed; free = c.second.touches.within };
  first_last = subst (λ hs. IsInLastTripWhere lasts.0 (param_values tree) i.loops hs) (sym c.first.around_is) last;
  second_last = subst (λ hs. IsInLastTripWhere lasts.1 (param_values tree) j.loops hs) (sym c.second.around_is) last';
  element = (elements_same tree i.loops j.loops cell c.a.what c.b.what ns ms c.first.touches c.second.touches).1;
  same = subst (λ hs. AreSame order.equal hs c.b.around i.loops j.loops) (sym c.first.around_is) (subst (λ gs. AreSame order.equal around gs i.loops j.loops) (sym c.second.around_is) same);
  earlier = by order.earlier earlier;
}
  where
    by : (b : Bool) → (b ≡ true → IsEarlier order.equal ns ms) → IsEarlierWhere b order.equal ns ms
    by true f = f refl
    by false f = tt

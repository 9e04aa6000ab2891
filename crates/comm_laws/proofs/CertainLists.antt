-- The certain boundaries of a slot as hops.
use Rattle.std.proofs.Common.{◌≡◌, ℕ, suc, ◌-◌, ◌<◌, ◌≤◌, Bool, true, Some, List, ◌++◌, length, refl, ap, sym, subst}
use Rattle.std.specs.Prelude.{sum_by}
use Rattle.std.specs.List.{AllByRecursion, slice_get}
use Rattle.nest_tree.specs.Tree.{Head, Tree}
use Rattle.nest_rows.proofs.Nesting.{all-append, all-weaker}
use Rattle.owner_partition.specs.Marks.{enters_outer}
use Rattle.sync_plan.specs.declared.plan.Plan.{Plan}
use Rattle.conflict_rules.specs.Boundaries.{Boundary, Side, boundaries_where, certain_boundaries, is_before_second, is_behind_first, is_prefix, of_first, of_second}
use Rattle.comm_system.specs.Levels.{common}
use Rattle.comm_system.specs.Meetings.{IsEarlier}
use Rattle.conflict_rules.specs.References.{StaticPhase}
use Rattle.comm_system.specs.Signatures.{kind_at, left_waits, right_waits}
use Rattle.comm_laws.proofs.Between.{IsMerged, IsWhere, merged-sum, merged_known, merged_where, outer_in, pairs_append, pairs_rising, side_heads, side_test, where_known}
use Rattle.comm_laws.proofs.Certain.{AreTwo, IsBeside, IsCarriedBeside, IsPlainBeside, IsSided, across, carried_first, carried_second, first_sided, heads_x, heads_y, hops_of, known_at, one_side_before, outer, plain_apart, plain_before, plain_first, plain_second, plain_sided, second_sided, trips}
use Rattle.comm_laws.proofs.Chains.{AreHops, kind_of}
use Rattle.comm_system.proofs.KnownHeads.{IsKnown, heads_among}
use Rattle.comm_system.proofs.StationOrder.{comes}
use Rattle.comm_system.proofs.Stations.{Station, text_among}
use Rattle.comm_system.proofs.Timeline.{Agree, IsFrontOf, prefix_front_of}

-- boundaries, each between the two, and hops that wait for as many neighbours
pub record AreCertain (tree : Tree) (plan : Plan) (ex ey : ℕ) (sx sy : Station) (two : AreTwo tree plan ex ey sx sy) (us : List Boundary) : Type 0 where
  pub sided : AllByRecursion (IsSided tree plan ex ey sx sy two) us
  pub hops : List Boundary
  pub are : AreHops tree plan (suc ex) (suc ey) hops
  pub left : sum_by (λ u. left_waits (kind_at plan.kinds u)) us ≡ sum_by (λ u. left_waits (kind_at plan.kinds u)) hops
  pub right : sum_by (λ u. right_waits (kind_at plan.kinds u)) us ≡ sum_by (λ u. right_waits (kind_at plan.kinds u)) hops

module _ (tree : Tree) (plan : Plan) (ex ey : ℕ) (sx sy : Station) (two : AreTwo tree plan ex ey sx sy) (le : ex ≤ ey) where
  abbrev T : List StaticPhase
  T = text_among (enters_outer plan.cut.marks) tree.items

  -- a boundary in front of a phase whose loops are the first of those on its side
  beside_of : (b : Boundary) (p : StaticPhase) (side : Side) → b.side ≡ side → 1 ≤ b.phase → slice_get (text_among (enters_outer plan.cut.marks) tree.items) (b.phase - 1) ≡ Some p → is_prefix p.outer (side_heads sx.heads sy.heads side) ≡ true → IsBeside tree plan ex ey sx sy two b
  beside_of b p side is low at prefix =
      let known = known_at tree plan ex ey sx sy two (b.phase - 1) p at in
      let front : IsFrontOf p.outer (side_heads sx.heads sy.heads side) = prefix_front_of (heads_among tree.items) 1 p.outer (side_heads sx.heads sy.heads side) known (on side) prefix in
      let same : p.outer ≡ outer tree plan ex ey sx sy two b = sym (ap outer_in at) in
      record { phase = p; at = at; low = low; front = subst (λ hs. IsFrontOf hs (side_heads sx.heads sy.heads b.side)) same (subst (λ s. IsFrontOf p.outer (side_heads sx.heads sy.heads s)) (sym is) front) }
    where
      on : (side : Side) → AllByRecursion (IsKnown (heads_among tree.items) 1) (side_heads sx.heads sy.heads side)
      on of_first = heads_x tree plan ex ey sx sy two
      on of_second = heads_y tree plan ex ey sx sy two

  deep_of : (b : Boundary) (p : StaticPhase) (k : ℕ) → slice_get (text_among (enters_outer plan.cut.marks) tree.items) (b.phase - 1) ≡ Some p → k < length p.outer → k < length (outer tree plan ex ey sx sy two b)
  deep_of b p k at deep = subst (λ hs. k < length hs) (sym (ap outer_in at)) deep

  -- ---- at level 0

  module _ (agree : Agree (common sx.heads sy.heads) sx.heads sx.trips sy.heads sy.trips) where
    abbrev F : ℕ → List Head → Bool
    F = is_behind_first sx.heads sx.visit.place sy.visit.place 0

    abbrev G : ℕ → List Head → Bool
    G = is_before_second sx.heads sy.heads sx.visit.place sy.visit.place 0

    plain_merged : (b : Boundary) → IsMerged (is_behind_first sx.heads sx.visit.place sy.visit.place 0) (is_before_second sx.heads sy.heads sx.visit.place sy.visit.place 0) 1 (text_among (enters_outer plan.cut.marks) tree.items) b →
        IsPlainBeside tree plan ex ey sx sy two agree b
    plain_merged b h = by b.side refl h.passes
      where
        by : (side : Side) → b.side ≡ side → side_test (is_behind_first sx.heads sx.visit.place sy.visit.place 0) (is_before_second sx.heads sy.heads sx.visit.place sy.visit.place 0) side b.phase h.phase.outer ≡ true → IsPlainBeside tree plan ex ey sx sy two agree b
        by of_first e p =
            let f = plain_first sx.heads sx.visit.place sy.visit.place b.phase h.phase.outer p in
            record { beside = beside_of b h.phase of_first e h.low h.at f.2; above = f.0; until = f.1 }
        by of_second e p =
            let g = plain_second sx.heads sy.heads sx.visit.place sy.visit.place b.phase h.phase.outer p in
            record { beside = beside_of b h.phase of_second e h.low h.at g.2; above = g.0; until = g.1 }

    first_where : (b : Boundary) → IsWhere (is_behind_first sx.heads sx.visit.place sy.visit.place 0) of_first 1 (text_among (enters_outer plan.cut.marks) tree.items) b → IsSided tree plan ex ey sx sy two b
    first_where b h =
        let f = plain_first sx.heads sx.visit.place sy.visit.place b.phase h.phase.outer h.passes in
        plain_sided tree plan ex ey sx sy two agree b (record { beside = beside_of b h.phase of_first h.side_is h.low h.at f.2; above = f.0; until = f.1 })

    second_where : (b : Boundary) → IsWhere (is_before_second sx.heads sy.heads sx.visit.place sy.visit.place 0) of_second 1 (text_among (enters_outer plan.cut.marks) tree.items) b → IsSided tree plan ex ey sx sy two b
    second_where b h =
        let g = plain_second sx.heads sy.heads sx.visit.place sy.visit.place b.phase h.phase.outer h.passes in
        plain_sided tree plan ex ey sx sy two agree b (record { beside = beside_of b h.phase of_second h.side_is h.low h.at g.2; above = g.0; until = g.1 })

    pub plain_certain : AreCertain tree plan ex ey sx sy two (certain_boundaries (text_among (enters_outer plan.cut.marks) tree.items) sx.heads sy.heads sx.visit.place sy.visit.place 0)
    plain_certain =
        let f = is_behind_first sx.heads sx.visit.place sy.visit.place 0 in
        let g = is_before_second sx.heads sy.heads sx.visit.place sy.visit.place 0 in
        let A = boundaries_where f of_first 1 (text_among (enters_outer plan.cut.marks) tree.items) in
        let B = boundaries_where g of_second 1 (text_among (enters_outer plan.cut.marks) tree.items) in
        let M = merged_where f g 1 (text_among (enters_outer plan.cut.marks) tree.items) in
        let P = IsPlainBeside tree plan ex ey sx sy two agree in
        let Q = IsSided tree plan ex ey sx sy two in
        let a = where_known f of_first 1 (text_among (enters_outer plan.cut.marks) tree.items) in
        let b = where_known g of_second 1 (text_among (enters_outer plan.cut.marks) tree.items) in
        let m = merged_known f g 1 (text_among (enters_outer plan.cut.marks) tree.items) in
        let plain = all-weaker (IsMerged f g 1 (text_among (enters_outer plan.cut.marks) tree.items)) P M plain_merged m.0 in
        let apart = λ (n : ℕ) (hs : List Head) (h : f n hs ≡ true). plain_apart sx.heads sy.heads sx.visit.place sy.visit.place n hs h in
        record {
          sided = all-append Q A B (all-weaker (IsWhere f of_first 1 (text_among (enters_outer plan.cut.marks) tree.items)) Q A first_where a.0) (all-weaker (IsWhere g of_second 1 (text_among (enters_outer plan.cut.marks) tree.items)) Q B second_where b.0);
          hops = M;
          are = hops_of tree plan ex ey sx sy two M le (all-weaker P Q M (plain_sided tree plan ex ey sx sy two agree) plain)
              (pairs_rising (λ b c. comes (outer tree plan ex ey sx sy two b) (trips tree plan ex ey sx sy two b) b.phase (outer tree plan ex ey sx sy two c) (trips tree plan ex ey sx sy two c) c.phase ≡ true) P 1 M (plain_before tree plan ex ey sx sy two agree) plain m.1);
          left = merged-sum (λ n. left_waits (kind_of (slice_get plan.kinds (n - 1)))) f g 1 (text_among (enters_outer plan.cut.marks) tree.items) apart;
          right = merged-sum (λ n. right_waits (kind_of (slice_get plan.kinds (n - 1)))) f g 1 (text_among (enters_outer plan.cut.marks) tree.items) apart;
        }

  -- ---- where a loop is at an earlier trip

  module _ (k : ℕ) (agree : Agree k sx.heads sx.trips sy.heads sy.trips) (earlier : IsEarlier k sx.trips sy.trips) (less : k < common sx.heads sy.heads) where
    pub carried_certain : AreCertain tree plan ex ey sx sy two (certain_boundaries (text_among (enters_outer plan.cut.marks) tree.items) sx.heads sy.heads sx.visit.place sy.visit.place (suc k))
    carried_certain =
        let f = is_behind_first sx.heads sx.visit.place sy.visit.place (suc k) in
        let g = is_before_second sx.heads sy.heads sx.visit.place sy.visit.place (suc k) in
        let text = text_among (enters_outer plan.cut.marks) tree.items in
        let A = boundaries_where f of_first 1 text in
        let B = boundaries_where g of_second 1 text in
        let C = IsCarriedBeside tree plan ex ey sx sy two k agree earlier less of_first in
        let D = IsCarriedBeside tree plan ex ey sx sy two k agree earlier less of_second in
        let Q = IsSided tree plan ex ey sx sy two in
        let R = λ (b c : Boundary). comes (outer tree plan ex ey sx sy two b) (trips tree plan ex ey sx sy two b) b.phase (outer tree plan ex ey sx sy two c) (trips tree plan ex ey sx sy two c) c.phase ≡ true in
        let a = where_known f of_first 1 text in
        let b = where_known g of_second 1 text in
        let ca = all-weaker (IsWhere f of_first 1 text) C A first_beside a.0 in
        let cb = all-weaker (IsWhere g of_second 1 text) D B second_beside b.0 in
        let sided = all-append Q A B (all-weaker (IsWhere f of_first 1 text) Q A (λ c h. first_sided tree plan ex ey sx sy two k agree earlier less c (first_beside c h) (carried_first sx.heads sx.visit.place sy.visit.place k c.phase h.phase.outer h.passes).0) a.0)
        (all-weaker (IsWhere g of_second 1 text) Q B (λ c h. second_sided tree plan ex ey sx sy two k agree earlier less c (second_beside c h) (carried_second sx.heads sy.heads sx.visit.place sy.visit.place k c.phase h.phase.outer h.passes).0) b.0) in
        record {
          sided = sided;
          hops = A ++ B;
          are = hops_of tree plan ex ey sx sy two (A ++ B) le sided
              (pairs_append R C D A B (across tree plan ex ey sx sy two k agree earlier less) ca cb (one_side_before tree plan ex ey sx sy two k agree earlier less of_first 1 A ca a.1) (one_side_before tree plan ex ey sx sy two k agree earlier less of_second 1 B cb b.1));
          left = refl;
          right = refl;
        }
      where
        first_beside : (b : Boundary) → IsWhere (is_behind_first sx.heads sx.visit.place sy.visit.place (suc k)) of_first 1 (text_among (enters_outer plan.cut.marks) tree.items) b → IsCarriedBeside tree plan ex ey sx sy two k agree earlier less of_first b
        first_beside b h =
            let f = carried_first sx.heads sx.visit.place sy.visit.place k b.phase h.phase.outer h.passes in
            record { beside = beside_of b h.phase of_first h.side_is h.low h.at f.2; side_is = h.side_is; deep = deep_of b h.phase k h.at f.1 }

        second_beside : (b : Boundary) → IsWhere (is_before_second sx.heads sy.heads sx.visit.place sy.visit.place (suc k)) of_second 1 (text_among (enters_outer plan.cut.marks) tree.items) b → IsCarriedBeside tree plan ex ey sx sy two k agree earlier less of_second b
        second_beside b h =
            let f = carried_second sx.heads sy.heads sx.visit.place sy.visit.place k b.phase h.phase.outer h.passes in
            record { beside = beside_of b h.phase of_second h.side_is h.low h.at f.2; side_is = h.side_is; deep = deep_of b h.phase k h.at f.1 }

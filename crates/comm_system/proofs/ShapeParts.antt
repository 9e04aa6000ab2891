-- What a plan of a fitting shape has: few workers, as many anchors and kinds as phases, blocks with places, and good conditions.
use Rattle.std.proofs.Common.{◌≡◌, ℕ, ◌≤◌, ◌==◌, nat_le, ◌&&◌, true, false, Option, Some, None, List, [], ◌∷◌, length, refl, arith}
use Rattle.std.specs.List.{list_all}
use Rattle.std.specs.Option.{option_map_or}
use Rattle.std.proofs.lemmas.Bool.{and_from, and_parts, eqb-true, leb-true}
use Rattle.nest_tree.specs.Tree.{Tree}
use Rattle.nest_tree.specs.WellFormed.{loops_of, names_only}
use Rattle.nest_walk.specs.Texts.{Placed}
use Rattle.owner_partition.specs.declared.anchor.Anchor.{Anchor}
use Rattle.owner_partition.specs.declared.cut.Mark.{Mark}
use Rattle.sync_plan.specs.declared.plan.Kind.{Kind}
use Rattle.sync_plan.specs.declared.plan.Plan.{Plan}
use Rattle.sync_plan.specs.Kinds.{anchor_in}
use Rattle.sync_plan.specs.Shape.{are_good_anchors, are_good_conditions, are_good_kinds, are_marked_well, has_places, is_good_anchor, is_good_kind, own_loops, static_phases, wrong_field}
use Rattle.comm_system.specs.Signatures.{has_places_in}
use Rattle.sync_plan.proofs.Fits.{field_right}

pub record IsShaped (tree : Tree) (plan : Plan) : Type 0 where
  pub some : 1 ≤ plan.workers
  pub workers : plan.workers ≤ 64
  pub many_anchors : length plan.anchors ≡ length (static_phases tree plan.cut.marks)
  pub many_kinds : length plan.kinds ≡ length (static_phases tree plan.cut.marks)
  pub good_anchors : are_good_anchors (length tree.params) plan.cut.marks (static_phases tree plan.cut.marks) plan.anchors ≡ true
  pub good_kinds : are_good_kinds (length tree.params) (static_phases tree plan.cut.marks) plan.kinds ≡ true
  pub anchors : list_all (λ (a : Anchor). has_places a.dist) plan.anchors ≡ true
  pub kinds : list_all has_places_in plan.kinds ≡ true
  pub conditions : are_good_conditions (length tree.params) plan.version plan.conditions ≡ true

kind_places : (constants : ℕ) (loops : List ℕ) (k : Kind) → is_good_kind constants loops k ≡ true → has_places_in k ≡ true
kind_places constants loops k good = by (anchor_in k) good
  where
    by : (o : Option Anchor) → option_map_or (is_good_anchor constants loops) o true ≡ true → option_map_or (λ (a : Anchor). has_places a.dist) o true ≡ true
    by None good = refl
    by (Some a) good = (and_parts (names_only constants loops a.form) (has_places a.dist) good).1

all_anchors : (constants : ℕ) (marks : List Mark) (text : List Placed) (anchors : List Anchor) → length anchors ≡ length text → are_good_anchors constants marks text anchors ≡ true → list_all (λ (a : Anchor). has_places a.dist) anchors ≡ true
all_anchors constants marks text [] many good = refl
all_anchors constants marks [] (a ∷ anchors) many good = absurd (omega (arith, many))
all_anchors constants marks (s ∷ text) (a ∷ anchors) many good =
    let parts = and_parts (is_good_anchor constants (own_loops marks s.what s.around) a) (are_good_anchors constants marks text anchors) good in
    and_from (has_places a.dist) (list_all (λ (a : Anchor). has_places a.dist) anchors) (and_parts (names_only constants (own_loops marks s.what s.around) a.form) (has_places a.dist) parts.0).1
    (all_anchors constants marks text anchors (omega (arith, many)) parts.1)

all_kinds : (constants : ℕ) (text : List Placed) (kinds : List Kind) → length kinds ≡ length text → are_good_kinds constants text kinds ≡ true → list_all has_places_in kinds ≡ true
all_kinds constants text [] many good = refl
all_kinds constants [] (k ∷ kinds) many good = absurd (omega (arith, many))
all_kinds constants (s ∷ text) (k ∷ kinds) many good =
    let parts = and_parts (is_good_kind constants s.around k) (are_good_kinds constants text kinds) good in
    and_from (has_places_in k) (list_all has_places_in kinds) (kind_places constants s.around k parts.0) (all_kinds constants text kinds (omega (arith, many)) parts.1)

pub shaped : (tree : Tree) (plan : Plan) → wrong_field tree plan ≡ None → IsShaped tree plan
shaped tree plan none =
    let text = static_phases tree plan.cut.marks in
    let constants = length tree.params in
    let workers = field_right (nat_le 1 plan.workers && nat_le plan.workers 64) 1 _ none in
    let marks = field_right (length plan.cut.marks == loops_of tree.items) 2 _ workers.1 in
    let marked = field_right (are_marked_well plan.cut.marks false tree.items) 3 _ marks.1 in
    let counts = field_right (length plan.anchors == length text && length plan.kinds == length text) 4 _ marked.1 in
    let anchors = field_right (are_good_anchors constants plan.cut.marks text plan.anchors) 5 _ counts.1 in
    let kinds = field_right (are_good_kinds constants text plan.kinds) 6 _ anchors.1 in
    let conditions = field_right (are_good_conditions constants plan.version plan.conditions) 8 _ kinds.1 in
    let range = and_parts (nat_le 1 plan.workers) (nat_le plan.workers 64) workers.0 in
    let many = and_parts (length plan.anchors == length text) (length plan.kinds == length text) counts.0 in
    let many_anchors = eqb-true (length plan.anchors) (length text) many.0 in
    let many_kinds = eqb-true (length plan.kinds) (length text) many.1 in
    record {
      some = leb-true 1 plan.workers range.0;
      workers = leb-true plan.workers 64 range.1;
      many_anchors = many_anchors;
      many_kinds = many_kinds;
      good_anchors = anchors.0;
      good_kinds = kinds.0;
      anchors = all_anchors constants plan.cut.marks text plan.anchors many_anchors anchors.0;
      kinds = all_kinds constants text plan.kinds many_kinds kinds.0;
      conditions = conditions.0;
    }

-- What a plan of a fitting shape names is the program's.
use Rattle.std.proofs.Common.{◌≡◌, ℕ, true, List, [], ◌∷◌, ◌++◌, length, Option, Some, None, refl, ap, ◌∙◌, arith}
use Rattle.std.specs.List.{list_all}
use Rattle.std.specs.Option.{option_map_or, option_or}
use Rattle.std.proofs.lemmas.Bool.{and_from, and_parts}
use Rattle.nest_tree.specs.Form.{is_given}
use Rattle.nest_tree.specs.Tree.{Tree}
use Rattle.nest_tree.specs.WellFormed.{IsWellFormed, loops_of, names_only}
use Rattle.nest_tree.proofs.Good.{form-given}
use Rattle.nest_walk.specs.Texts.{Placed}
use Rattle.owner_partition.specs.declared.anchor.Anchor.{Anchor}
use Rattle.owner_partition.specs.declared.cut.Mark.{Mark}
use Rattle.owner_partition.specs.declared.placement.Placement.{Placement}
use Rattle.owner_partition.specs.Placement.{misplaced, unplaced}
use Rattle.sync_plan.specs.declared.plan.Conditions.{Conditions}
use Rattle.sync_plan.specs.declared.plan.Conditions.TheVariants.{Values, Rows}
use Rattle.sync_plan.specs.declared.plan.Kind.{Kind}
use Rattle.sync_plan.specs.declared.plan.Plan.{Plan}
use Rattle.sync_plan.specs.declared.plan.Version.{Version}
use Rattle.sync_plan.specs.declared.plan.Version.TheVariants.{Three}
use Rattle.sync_plan.proofs.NamedLoops.{are_numbers, around_within, is_within, own_within, text_within, up_to}
use Rattle.sync_plan.specs.Kinds.{anchor_in}
use Rattle.sync_plan.specs.Shape.{are_good_anchors, are_good_conditions, are_good_kinds, has_places, has_rows, is_good_anchor, is_good_kind, is_good_row, own_loops, static_phases, wrong_field}
use Rattle.plan_checker.specs.Named.{are_given_anchors, are_given_kinds, is_given_kind}
use Rattle.comm_system.proofs.ShapeParts.{shaped}

anchors_given : (n constants : ℕ) (marks : List Mark) (text : List Placed) (anchors : List Anchor) → list_all (is_within n) text ≡ true → are_good_anchors constants marks text anchors ≡ true → length anchors ≡ length text → are_given_anchors n constants anchors ≡ true
anchors_given n constants marks [] [] within good long = refl
anchors_given n constants marks [] (a ∷ anchors) within good long = absurd (omega (arith, long))
anchors_given n constants marks (s ∷ text) [] within good long = refl
anchors_given n constants marks (s ∷ text) (a ∷ anchors) within good long =
    let w = and_parts (is_within n s) (list_all (is_within n) text) within in
    let g = and_parts (is_good_anchor constants (own_loops marks s.what s.around) a) (are_good_anchors constants marks text anchors) good in
    let named = and_parts (names_only constants (own_loops marks s.what s.around) a.form) (has_places a.dist) g.0 in
    and_from _ _ (form-given n constants (own_loops marks s.what s.around) a.form (up_to n (own_loops marks s.what s.around) (own_within n marks s.what s.around w.0)) named.0) (anchors_given n constants marks text anchors w.1 g.1 (omega (arith, long)))

one_given : (n constants : ℕ) (around : List ℕ) (k : Kind) → are_numbers n around ≡ true → is_good_kind constants around k ≡ true → is_given_kind n constants k ≡ true
one_given n constants around k within good = by (anchor_in k) good
  where
    by : (o : Option Anchor) → option_map_or (is_good_anchor constants around) o true ≡ true → option_map_or (λ (a : Anchor). is_given a.form n constants) o true ≡ true
    by None good = refl
    by (Some a) good = form-given n constants around a.form (up_to n around within) (and_parts (names_only constants around a.form) (has_places a.dist) good).0

kinds_given : (n constants : ℕ) (text : List Placed) (kinds : List Kind) → list_all (is_within n) text ≡ true → are_good_kinds constants text kinds ≡ true → length kinds ≡ length text → are_given_kinds n constants kinds ≡ true
kinds_given n constants [] [] within good long = refl
kinds_given n constants [] (k ∷ kinds) within good long = absurd (omega (arith, long))
kinds_given n constants (s ∷ text) [] within good long = refl
kinds_given n constants (s ∷ text) (k ∷ kinds) within good long =
    let w = and_parts (is_within n s) (list_all (is_within n) text) within in
    let g = and_parts (is_good_kind constants s.around k) (are_good_kinds constants text kinds) good in
    and_from _ _ (one_given n constants s.around k (around_within n s.what s.around w.0) g.0) (kinds_given n constants text kinds w.1 g.1 (omega (arith, long)))

-- rows that stand where they may are good in a version that has them
conditions_three : (constants : ℕ) (version : Version) (conditions : Conditions) → are_good_conditions constants version conditions ≡ true → are_good_conditions constants Three conditions ≡ true
conditions_three constants version Values good = refl
conditions_three constants version (Rows rows) good = (and_parts (has_rows version) (list_all (is_good_row constants) rows) good).1

-- what a plan of a fitting shape has
pub record ShapeParts (tree : Tree) (plan : Plan) : Type 0 where
  pub anchors : length plan.anchors ≡ length (static_phases tree plan.cut.marks)
  pub kinds : length plan.kinds ≡ length (static_phases tree plan.cut.marks)
  pub given_anchors : are_given_anchors (loops_of tree.items) (length tree.params) plan.anchors ≡ true
  pub given_kinds : are_given_kinds (loops_of tree.items) (length tree.params) plan.kinds ≡ true
  pub conditions : are_good_conditions (length tree.params) Three plan.conditions ≡ true

pub shape_parts : (tree : Tree) (plan : Plan) → IsWellFormed tree → wrong_field tree plan ≡ None → ShapeParts tree plan
shape_parts tree plan formed none =
    let text = static_phases tree plan.cut.marks in
    let n = loops_of tree.items in
    let constants = length tree.params in
    let fits = shaped tree plan none in
    let within = text_within tree plan.cut.marks formed in
    record {
      anchors = fits.many_anchors;
      kinds = fits.many_kinds;
      given_anchors = anchors_given n constants plan.cut.marks text plan.anchors within fits.good_anchors fits.many_anchors;
      given_kinds = kinds_given n constants text plan.kinds within fits.good_kinds fits.many_kinds;
      conditions = conditions_three constants plan.version plan.conditions fits.conditions;
    }

-- the anchors of phases stand in front of those of kinds
pub unplaced-append : (tree : Tree) (marks : List Mark) (workers : ℕ) (xs ys : List (ℕ × Anchor)) → unplaced tree marks workers (xs ++ ys) ≡ option_or (unplaced tree marks workers xs) (unplaced tree marks workers ys)
unplaced-append tree marks workers [] ys = refl
unplaced-append tree marks workers ((phase, a) ∷ xs) ys =
    ap (option_or (misplaced tree marks workers phase a)) (unplaced-append tree marks workers xs ys) ∙ by (misplaced tree marks workers phase a) (unplaced tree marks workers xs) (unplaced tree marks workers ys)
  where
    by : (x y z : Option Placement) → option_or x (option_or y z) ≡ option_or (option_or x y) z
    by None y z = refl
    by (Some p) y z = refl

-- What a plan that fits a well-formed program has.
use Rattle.std.proofs.Common.{◌≡◌, ℕ, zero, suc, ◌≤◌, Bool, true, false, ◌&&◌, ◌==◌, not, nat_le, List, [], ◌∷◌, length, Option, Some, None, IsTrue, refl, sym, ap, ◌∙◌, arith}
use Rattle.std.specs.Prelude.{if◌then◌else◌, slice_get}
use Rattle.std.specs.List.{list_all}
use Rattle.std.specs.Option.{option_map_or}
use Rattle.std.proofs.lemmas.Bool.{and_parts, eqb-true, leb-true}
use Rattle.nest_tree.specs.Form.{is_given}
use Rattle.nest_tree.specs.Tree.{Tree}
use Rattle.nest_tree.specs.WellFormed.{IsWellFormed, loops_of, names_only}
use Rattle.nest_tree.proofs.Good.{form-given}
use Rattle.nest_tree.proofs.FirstLimits.{neither}
use Rattle.nest_walk.specs.Texts.{Placed}
use Rattle.owner_partition.specs.declared.anchor.Anchor.{Anchor}
use Rattle.sync_plan.specs.declared.plan.Kind.{Kind}
use Rattle.sync_plan.specs.declared.plan.Plan.{Plan}
use Rattle.owner_partition.specs.Placement.{unplaced}
use Rattle.sync_plan.specs.Fit.{IsFit, Misfit, shape, placement, print_place, as_misfit, misplaced_print, placed_anchors}
use Rattle.sync_plan.specs.Kinds.{anchor_in}
use Rattle.sync_plan.proofs.NamedLoops.{around_within, is_within, text_within, up_to}
use Rattle.sync_plan.specs.Shape.{are_good_anchors, are_good_conditions, are_good_kinds, are_marked_well, has_places, have_good_privates, have_good_sums, is_good_anchor, is_good_kind, is_privately_good, static_phases, wrong_field}

-- the loops round a place have numbers up to this one
abbrev all_within : ℕ → List ℕ → Bool
all_within n around = list_all (λ l. nat_le l n) around

-- a field that isn't wrong
pub field_right : (b : Bool) (n : ℕ) (rest : Option ℕ) → (if not b then Some n else rest) ≡ None → (b ≡ true) × (rest ≡ None)
field_right true n rest e = (refl, e)
field_right false n rest e = absurd (cc)

pub record FitParts (tree : Tree) (plan : Plan) : Type 0 where
  pub some : 1 ≤ plan.workers
  pub few : plan.workers ≤ 64
  pub marks : length plan.cut.marks ≡ loops_of tree.items
  pub anchors : length plan.anchors ≡ length (static_phases tree plan.cut.marks)
  pub kinds : length plan.kinds ≡ length (static_phases tree plan.cut.marks)
  pub good_kinds : are_good_kinds (length tree.params) (static_phases tree plan.cut.marks) plan.kinds ≡ true
  pub good_anchors : are_good_anchors (length tree.params) plan.cut.marks (static_phases tree plan.cut.marks) plan.anchors ≡ true
  pub placed : unplaced tree plan.cut.marks plan.workers (placed_anchors plan) ≡ None
  pub good_sums : have_good_sums plan.version plan.cut.marks tree.items ≡ true
  pub privates : length plan.cut.privates ≡ loops_of tree.items
  pub good_privates : have_good_privates plan.version plan.cut tree.items ≡ true
  pub prints : misplaced_print 1 plan.cut.marks (static_phases tree plan.cut.marks) plan.anchors ≡ None

pub nothing_misfits : {A : Type 0} (why : A → Misfit) (found : Option A) → as_misfit why found ≡ None → found ≡ None
nothing_misfits why None e = refl
nothing_misfits why (Some a) e = absurd (cc)

pub fit_parts : (tree : Tree) (plan : Plan) → IsFit tree plan → FitParts tree plan
fit_parts tree plan fits =
    let text = static_phases tree plan.cut.marks in
    let constants = length tree.params in
    let first = neither (as_misfit shape (wrong_field tree plan)) _ fits in
    let second = neither (as_misfit placement (unplaced tree plan.cut.marks plan.workers (placed_anchors plan))) _ first.1 in
    let third = neither (as_misfit print_place (misplaced_print 1 plan.cut.marks text plan.anchors)) _ second.1 in
    let none = nothing_misfits shape (wrong_field tree plan) first.0 in
    let workers = field_right (nat_le 1 plan.workers && nat_le plan.workers 64) 1 _ none in
    let marks = field_right (length plan.cut.marks == loops_of tree.items) 2 _ workers.1 in
    let marked = field_right (are_marked_well plan.cut.marks false tree.items) 3 _ marks.1 in
    let counts = field_right (length plan.anchors == length text && length plan.kinds == length text) 4 _ marked.1 in
    let anchors = field_right (are_good_anchors constants plan.cut.marks text plan.anchors) 5 _ counts.1 in
    let kinds = field_right (are_good_kinds constants text plan.kinds) 6 _ anchors.1 in
    let conditions = field_right (are_good_conditions constants plan.version plan.conditions) 8 _ kinds.1 in
    let sums = field_right (have_good_sums plan.version plan.cut.marks tree.items) 9 _ conditions.1 in
    let privates = field_right (is_privately_good plan.version plan.cut tree.items) 10 _ sums.1 in
    let lists = and_parts (length plan.cut.privates == loops_of tree.items) (have_good_privates plan.version plan.cut tree.items) privates.0 in
    let range = and_parts (nat_le 1 plan.workers) (nat_le plan.workers 64) workers.0 in
    record {
      some = leb-true 1 plan.workers range.0;
      few = leb-true plan.workers 64 range.1;
      marks = eqb-true (length plan.cut.marks) (loops_of tree.items) marks.0;
      anchors = eqb-true (length plan.anchors) (length text) (and_parts (length plan.anchors == length text) (length plan.kinds == length text) counts.0).0;
      kinds = eqb-true (length plan.kinds) (length text) (and_parts (length plan.anchors == length text) (length plan.kinds == length text) counts.0).1;
      good_kinds = kinds.0;
      good_anchors = anchors.0;
      placed = nothing_misfits placement (unplaced tree plan.cut.marks plan.workers (placed_anchors plan)) second.0;
      good_sums = sums.0;
      privates = eqb-true (length plan.cut.privates) (loops_of tree.items) lists.0;
      good_privates = lists.1;
      prints = nothing_misfits print_place (misplaced_print 1 plan.cut.marks text plan.anchors) third.0;
    }

-- a kind of the list names only loops and named constants that are there
pub record IsGivenKind (loops constants : ℕ) (kind : Kind) : Type 0 where
  pub around : List ℕ
  pub within : all_within loops around ≡ true
  pub good : is_good_kind constants around kind ≡ true

kind_given : (n constants : ℕ) (text : List Placed) (kinds : List Kind) (i : ℕ) (kind : Kind) → list_all (is_within n) text ≡ true → are_good_kinds constants text kinds ≡ true → length kinds ≡ length text → slice_get kinds i ≡ Some kind → IsGivenKind n constants kind
kind_given n constants text [] i kind within good long at = absurd (let no : None ≡ Some kind = at in cc)
kind_given n constants [] (k ∷ kinds) i kind within good long at = absurd (omega (arith, long))
kind_given n constants (s ∷ text) (k ∷ kinds) zero kind within good long at = record {
  around = s.around;
  within = up_to n s.around (around_within n s.what s.around (and_parts (is_within n s) (list_all (is_within n) text) within).0);
  good = (let same : k ≡ kind = cc in ap (is_good_kind constants s.around) (sym same) ∙ (and_parts (is_good_kind constants s.around k) (are_good_kinds constants text kinds) good).0);
}
kind_given n constants (s ∷ text) (k ∷ kinds) (suc i) kind within good long at =
    kind_given n constants text kinds i kind (and_parts (is_within n s) (list_all (is_within n) text) within).1 (and_parts (is_good_kind constants s.around k) (are_good_kinds constants text kinds) good).1 (omega (arith, long)) at

pub record IsGivenAnchor (loops constants : ℕ) (a : Anchor) : Type 0 where
  pub given : IsTrue (is_given a.form loops constants)
  pub places : IsTrue (has_places a.dist)

-- the anchor of the kind with this place, from 0
pub producer_given : (tree : Tree) (plan : Plan) (i : ℕ) (kind : Kind) (a : Anchor) → IsWellFormed tree → IsFit tree plan → slice_get plan.kinds i ≡ Some kind → anchor_in kind ≡ Some a → IsGivenAnchor (loops_of tree.items) (length tree.params) a
producer_given tree plan i kind a formed fits at is =
    let n = loops_of tree.items in
    let constants = length tree.params in
    let parts = fit_parts tree plan fits in
    let given = kind_given n constants (static_phases tree plan.cut.marks) plan.kinds i kind (text_within tree plan.cut.marks formed) parts.good_kinds parts.kinds at in
    let good : is_good_anchor constants given.around a ≡ true = sym (ap (λ o. option_map_or (is_good_anchor constants given.around) o true) is) ∙ given.good in
    let named = and_parts (names_only constants given.around a.form) (has_places a.dist) good in
    record { given = form-given n constants given.around a.form given.within named.0; places = named.1 }

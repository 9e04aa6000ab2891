-- A good anchor that is put in turn where its blocks would be left is good, and leaves none.
use Rattle.std.proofs.Common.{◌≡◌, ℕ, ◌-◌, ℤ, true, false, List, length, Option, Some, None, if◌then◌else◌, refl, subst}
use Rattle.std.specs.Option.{option_map}
use Rattle.std.proofs.lemmas.Bool.{and_from, and_parts}
use Rattle.nest_tree.specs.declared.tree.Access.{Access}
use Rattle.nest_tree.specs.Form.{Form}
use Rattle.nest_tree.specs.Tree.{Tree, param_values}
use Rattle.nest_tree.specs.WellFormed.{names_only}
use Rattle.owner_partition.specs.declared.anchor.Anchor.{Anchor}
use Rattle.owner_partition.specs.declared.anchor.Dist.TheVariants.{Cyclic}
use Rattle.owner_partition.specs.declared.cut.Mark.{Mark}
use Rattle.owner_partition.specs.declared.placement.Placement.{Placement}
use Rattle.owner_partition.specs.Placement.{misplaced, misplaced_at, names_empty, phase_ends}
use Rattle.sync_plan.specs.Shape.{has_places, is_good_anchor}
use Rattle.maker_anchors.specs.Anchors.{element_anchor, element_owner, if_one_good, unless_misplaced}
use Rattle.maker_anchors.proofs.Found.{if_good_good}

module _ (tree : Tree) (marks : List Mark) (workers u : ℕ) where
  -- places in turn have no end
  pub turned : (f : Form) (o : Option (List (ℤ × ℤ))) → misplaced_at (param_values tree) workers u (record { form = f; dist = Cyclic }) o ≡ None
  turned f None = refl
  turned f (Some ends) = elim (names_empty ends f.loops) as (λ b. ◌≡◌ {A = Option Placement} (if b then None else None) None) [ true ↦ refl | false ↦ refl ]

  -- good for these loops, and within its blocks
  pub record IsKept (loops : List ℕ) (a : Anchor) : Type 0 where
    pub good : is_good_anchor (length tree.params) loops a ≡ true
    pub placed : misplaced tree marks workers u a ≡ None

  pub kept_placed : (loops : List ℕ) (a : Anchor) (o : Option Placement) → misplaced tree marks workers u a ≡ o → is_good_anchor (length tree.params) loops a ≡ true → IsKept loops (unless_misplaced o a)
  kept_placed loops a None e good = record { good = good; placed = e }
  kept_placed loops a (Some why) e good =
      let named = names_only (length tree.params) loops a.form in
      record { good = and_from named true (and_parts named (has_places a.dist) good).0 refl; placed = turned a.form (phase_ends tree marks (u - 1)) }

  -- the owner of an element is so
  pub owner_kept : (loops : List ℕ) (x : Access) (a : Anchor) → element_owner tree marks workers u loops x ≡ Some a → IsKept loops a
  owner_kept loops x a e = by (if_one_good (length tree.params) loops (element_anchor tree workers x)) refl e
    where
      by : (o : Option Anchor) → if_one_good (length tree.params) loops (element_anchor tree workers x) ≡ o → option_map (λ b. unless_misplaced (misplaced tree marks workers u b) b) o ≡ Some a → IsKept loops a
      by None is e = absurd (cc)
      by (Some b) is e =
          let same : unless_misplaced (misplaced tree marks workers u b) b ≡ a = cc in
          subst (IsKept loops) same (kept_placed loops b (misplaced tree marks workers u b) refl (if_good_good (length tree.params) loops (element_anchor tree workers x) b is))

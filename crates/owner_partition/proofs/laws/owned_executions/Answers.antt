use Rattle.std.proofs.Common.{◌≡◌, ◌==◌, ◌-◌, ℕ, Bool, true, false, List, [], ◌∷◌, map, Option, Some, if◌then◌else◌, refl, ap, ◌∙◌}
use Rattle.std.specs.List.{filter, slice_get}
use Rattle.nest_tree.specs.Tree.{Tree, param_values}
use Rattle.nest_model.specs.Instances.{Instance}
use Rattle.owner_partition.specs.Owners.{anchor_owner, owner_by, owner_of}
use Rattle.owner_partition.specs.Phases.{Execution, visit_instances}
use Rattle.owner_partition.specs.declared.anchor.Anchor.{Anchor}
use Rattle.owner_partition.proofs.laws.owned_executions.Goals as goal

module _ (tree : Tree) (anchors : List Anchor) (workers p e place : ℕ) (a : Anchor) (at : slice_get anchors (place - 1) ≡ Some a) where
  abbrev in_phase : Instance → Execution
  in_phase i = record { phase = e; place = place; instance = i }

  abbrev owned : Instance → Bool
  owned i = anchor_owner a workers i.loops (param_values tree) == p

  same : (i : Instance) → (owner_of tree anchors workers (in_phase i) == p) ≡ owned i
  same i = ap (λ (o : Option Anchor). owner_by o workers i.loops (param_values tree) == p) at

  all_same : (is : List Instance) → filter (λ (x : Execution). owner_of tree anchors workers x == p) (map in_phase is) ≡ map in_phase (filter owned is)
  all_same [] = refl
  all_same (i ∷ is) =
      let later = filter (λ (x : Execution). owner_of tree anchors workers x == p) (map in_phase is) in
      ap (λ b. if b then in_phase i ∷ later else later) (same i) ∙ ap (λ xs. if owned i then in_phase i ∷ xs else xs) (all_same is)
      ∙ (elim (owned i) as (λ b. (if b then in_phase i ∷ map in_phase (filter owned is) else map in_phase (filter owned is)) ≡ map in_phase (if b then i ∷ filter owned is else filter owned is)) [ true ↦ refl | false ↦ refl ])

pub returns : goal.returns
returns c = λ tree anchors workers p e v a at. all_same tree anchors workers p e v.place a at (visit_instances (param_values tree) v)

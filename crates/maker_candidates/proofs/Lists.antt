-- The candidates phase by phase.
use Rattle.std.proofs.Common.{◌≡◌, ℕ, zero, suc, ◌+◌, List, [], ◌∷◌, length, Some, None, refl, ap, ◌∙◌, arith}
use Rattle.std.specs.Prelude.{slice_get}
use Rattle.nest_tree.specs.Tree.{Tree}
use Rattle.owner_partition.specs.declared.anchor.Anchor.{Anchor}
use Rattle.owner_partition.specs.declared.cut.Mark.{Mark}
use Rattle.conflict_rules.specs.References.{StaticPhase}
use Rattle.maker_candidates.specs.Candidates.{candidates_at, candidates_from}

module _ (tree : Tree) (marks : List Mark) (workers : ℕ) (anchors : List Anchor) (phases : List StaticPhase) where
  -- a list for each phase
  pub candidates_long : (u : ℕ) (ts : List StaticPhase) → length (candidates_from tree marks workers anchors phases u ts) ≡ length ts
  candidates_long u [] = refl
  candidates_long u (t ∷ ts) = ap suc (candidates_long (suc u) ts)

  -- the list of the phase at a place
  pub candidates_get : (u : ℕ) (ts : List StaticPhase) (k : ℕ) (t : StaticPhase) → slice_get ts k ≡ Some t → slice_get (candidates_from tree marks workers anchors phases u ts) k ≡ Some (candidates_at tree marks workers anchors phases (u + k) t)
  candidates_get u [] k t at = absurd (let no : None ≡ Some t = at in cc)
  candidates_get u (s ∷ ts) zero t at =
      let same : s ≡ t = cc in
      let here : u ≡ u + 0 = omega arith in
      ap (λ x. Some (candidates_at tree marks workers anchors phases u x)) same ∙ ap (λ n. Some (candidates_at tree marks workers anchors phases n t)) here
  candidates_get u (s ∷ ts) (suc k) t at =
      let next : suc u + k ≡ u + suc k = omega arith in
      candidates_get (suc u) ts k t at ∙ ap (λ n. Some (candidates_at tree marks workers anchors phases n t)) next

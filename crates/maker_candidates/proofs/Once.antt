-- Anchors that are gathered, each once.
use Rattle.std.proofs.Common.{◌≡◌, ℕ, zero, suc, ◌+◌, ◌<◌, ℤ, true, false, List, [], ◌∷◌, ◌++◌, drop, length, map, get_or, Some, None, if◌then◌else◌, refl, ap, ap₂, sym, ◌∙◌}
use Rattle.std.specs.Prelude.{slice_get}
use Rattle.std.specs.List.{AllByRecursion, list_any}
use Rattle.std.proofs.lemmas.List.{at_drop_more}
use Rattle.owner_partition.specs.declared.anchor.Anchor.{Anchor}
use Rattle.conflict_rules.specs.References.{StaticPhase}
use Rattle.comm_system.specs.PhaseViews.{phase_seen}
use Rattle.comm_system.specs.declared.phase.Phase.{Phase}
use Rattle.nest_rows.proofs.Nesting.{all-append}
use Rattle.plan_shape.proofs.Texts.{from_place, past_end}
use Rattle.maker_candidates.specs.Candidates.{can_produce, each_once, once_more, phase_owners}
use Rattle.maker_candidates.specs.Same.{says_same}

module _ (values : List ℤ) (workers : ℕ) where
  more-all : (P : Anchor → Type 0) (seen : List Anchor) (a : Anchor) → AllByRecursion P seen → P a → AllByRecursion P (once_more values workers seen a)
  more-all P seen a all here =
      elim (list_any (says_same values workers a) seen) as (λ b. AllByRecursion P (if b then seen else seen ++ a ∷ [])) [ true ↦ all | false ↦ all-append P seen (a ∷ []) all (here, tt) ]

  -- all have what those before them and they themselves have
  pub once_all : (P : Anchor → Type 0) (seen anchors : List Anchor) → AllByRecursion P seen → AllByRecursion P anchors → AllByRecursion P (each_once values workers seen anchors)
  once_all P seen [] before all = before
  once_all P seen (a ∷ rest) before all = once_all P (once_more values workers seen a) rest (more-all P seen a before all.0) all.1

module _ (values : List ℤ) (workers : ℕ) (t : StaticPhase) where
  no-owners : (phases : List StaticPhase) → phase_owners t phases [] ≡ []
  no-owners [] = refl
  no-owners (s ∷ phases) = refl

  -- one phase more
  pub owner_yes : (seen : List Anchor) (phases : List Phase) (anchors : List Anchor) (i : ℕ) (p : Phase) (a : Anchor) → i < length phases → p ≡ get_or phases i p → slice_get anchors i ≡ Some a → can_produce (phase_seen p) a t ≡ true →
      each_once values workers seen (phase_owners t (map phase_seen (drop i phases)) (drop i anchors)) ≡ each_once values workers (once_more values workers seen a) (phase_owners t (map phase_seen (drop (i + 1) phases)) (drop (i + 1) anchors))
  owner_yes seen phases anchors i p a lt is at can =
      let later = phase_owners t (map phase_seen (drop (i + 1) phases)) (drop (i + 1) anchors) in
      let front = at_drop_more (map phase_seen) phases i p lt ∙ ap (λ q. phase_seen q ∷ map phase_seen (drop (i + 1) phases)) (sym is) in
      ap₂ (λ ps xs. each_once values workers seen (phase_owners t ps xs)) front (from_place anchors i a at) ∙ ap (λ b. each_once values workers seen (if b then a ∷ later else later)) can

  pub owner_no : (seen : List Anchor) (phases : List Phase) (anchors : List Anchor) (i : ℕ) (p : Phase) (a : Anchor) → i < length phases → p ≡ get_or phases i p → slice_get anchors i ≡ Some a → can_produce (phase_seen p) a t ≡ false →
      each_once values workers seen (phase_owners t (map phase_seen (drop i phases)) (drop i anchors)) ≡ each_once values workers seen (phase_owners t (map phase_seen (drop (i + 1) phases)) (drop (i + 1) anchors))
  owner_no seen phases anchors i p a lt is at can =
      let later = phase_owners t (map phase_seen (drop (i + 1) phases)) (drop (i + 1) anchors) in
      let front = at_drop_more (map phase_seen) phases i p lt ∙ ap (λ q. phase_seen q ∷ map phase_seen (drop (i + 1) phases)) (sym is) in
      ap₂ (λ ps xs. each_once values workers seen (phase_owners t ps xs)) front (from_place anchors i a at) ∙ ap (λ b. each_once values workers seen (if b then a ∷ later else later)) can

  pub owners_end : (seen : List Anchor) (phases : List StaticPhase) (anchors : List Anchor) (i : ℕ) → slice_get anchors i ≡ None → each_once values workers seen (phase_owners t phases (drop i anchors)) ≡ seen
  owners_end seen phases anchors i at = ap (λ xs. each_once values workers seen (phase_owners t phases xs)) (past_end anchors i at) ∙ ap (each_once values workers seen) (no-owners phases)

  -- each is that of a phase that can produce
  pub owners_all : (P : Anchor → Type 0) (phases : List StaticPhase) (anchors : List Anchor) →
      ((j : ℕ) (s : StaticPhase) (a : Anchor) → slice_get phases j ≡ Some s → slice_get anchors j ≡ Some a → can_produce s a t ≡ true → P a) → AllByRecursion P (phase_owners t phases anchors)
  owners_all P [] anchors each = tt
  owners_all P (s ∷ phases) [] each = tt
  owners_all P (s ∷ phases) (a ∷ anchors) each =
      let later = owners_all P phases anchors (λ j s' a' at at'. each (suc j) s' a' at at') in
      elim (can_produce s a t) as (λ b. can_produce s a t ≡ b → AllByRecursion P (if b then a ∷ phase_owners t phases anchors else phase_owners t phases anchors)) [
        | true ↦ λ e. (each zero s a refl refl e, later)
        | false ↦ λ e. later
      ] refl

-- Anchors that are good at their phases, keep within their blocks, and name processor 0 where there is a PRINT: those of a made plan are so.
use Rattle.std.proofs.Common.{◌≡◌, ℕ, zero, suc, ◌-◌, ◌≤◌, Bool, true, false, ◌&&◌, ◌||◌, not, List, [], ◌∷◌, ◌++◌, length, Option, Some, None, if◌then◌else◌, refl, ap, sym, ◌∙◌, subst}
use Rattle.std.specs.Prelude.{replicate}
use Rattle.std.specs.List.{list_all}
use Rattle.std.specs.Option.{option_or}
use Rattle.std.proofs.lemmas.Bool.{and_from, and_parts}
use Rattle.std.proofs.lemmas.List.{append-nil, length-replicate}
use Rattle.nest_tree.specs.Prints.{has_print}
use Rattle.nest_tree.specs.Tree.{Tree}
use Rattle.nest_walk.specs.Texts.{Placed}
use Rattle.owner_partition.specs.declared.anchor.Anchor.{Anchor}
use Rattle.owner_partition.specs.declared.cut.Mark.{Mark}
use Rattle.owner_partition.specs.Cuts.{Cutting}
use Rattle.owner_partition.specs.Marks.{is_dealt}
use Rattle.owner_partition.specs.Placement.{misplaced, phase_ends, unplaced}
use Rattle.sync_plan.specs.Barriers.{barrier_plan}
use Rattle.sync_plan.specs.declared.plan.Kind.TheVariants.{Barrier}
use Rattle.sync_plan.specs.Fit.{IsFit, is_zero_form, kind_anchors, misplaced_print, numbered_anchors}
use Rattle.sync_plan.specs.Shape.{are_good_anchors, are_good_kinds, is_good_anchor, own_loops, static_phases}
use Rattle.maker_anchors.specs.Anchors.{anchor_sought, anchors_from, first_processor, phase_anchor, placed_anchor}
use Rattle.plan_maker.proofs.CutFits.{IsFittingCut, is_silent}
use Rattle.plan_maker.proofs.FitParts.{fits_by_parts}
use Rattle.maker_anchors.proofs.Found.{sought_good}
use Rattle.maker_anchors.proofs.Kept.{IsKept, kept_placed, turned}

-- an anchor of the static phase with this number
pub record IsFineAnchor (tree : Tree) (marks : List Mark) (workers u : ℕ) (s : Placed) (a : Anchor) : Type 0 where
  pub good : is_good_anchor (length tree.params) (own_loops marks s.what s.around) a ≡ true
  pub placed : misplaced tree marks workers u a ≡ None
  pub first : has_print s.what ≡ true → is_zero_form a.form ≡ true

module _ (tree : Tree) (marks : List Mark) (workers : ℕ) where
  -- one for each of these static phases, of which the first has this number
  abbrev pub AreFineAnchors : ℕ → List Placed → List Anchor → Type 0
  AreFineAnchors u [] [] = Unit {0}
  AreFineAnchors u [] (a ∷ anchors) = ⊥
  AreFineAnchors u (s ∷ text) [] = ⊥
  AreFineAnchors u (s ∷ text) (a ∷ anchors) = IsFineAnchor tree marks workers u s a × AreFineAnchors (suc u) text anchors

  fine-long : (u : ℕ) (text : List Placed) (anchors : List Anchor) → AreFineAnchors u text anchors → length anchors ≡ length text
  fine-long u [] [] h = refl
  fine-long u [] (a ∷ anchors) h = absurd h
  fine-long u (s ∷ text) [] h = absurd h
  fine-long u (s ∷ text) (a ∷ anchors) h = ap suc (fine-long (suc u) text anchors h.1)

  fine-good : (u : ℕ) (text : List Placed) (anchors : List Anchor) → AreFineAnchors u text anchors → are_good_anchors (length tree.params) marks text anchors ≡ true
  fine-good u [] anchors h = refl
  fine-good u (s ∷ text) [] h = refl
  fine-good u (s ∷ text) (a ∷ anchors) h =
      and_from (is_good_anchor (length tree.params) (own_loops marks s.what s.around) a) (are_good_anchors (length tree.params) marks text anchors) h.0.good (fine-good (suc u) text anchors h.1)

  fine-placed : (u : ℕ) (text : List Placed) (anchors : List Anchor) → AreFineAnchors u text anchors → unplaced tree marks workers (numbered_anchors u anchors) ≡ None
  fine-placed u [] [] h = refl
  fine-placed u [] (a ∷ anchors) h = absurd h
  fine-placed u (s ∷ text) [] h = refl
  fine-placed u (s ∷ text) (a ∷ anchors) h = ap (λ o. option_or o (unplaced tree marks workers (numbered_anchors (suc u) anchors))) h.0.placed ∙ fine-placed (suc u) text anchors h.1

  silent-or-first : (prints dealt fixed : Bool) → not (prints && dealt) ≡ true → (prints ≡ true → fixed ≡ true) → (prints && (dealt || not fixed)) ≡ false
  silent-or-first false dealt fixed h first = refl
  silent-or-first true true fixed h first = absurd (let no : false ≡ true = h in cc)
  silent-or-first true false fixed h first = ap not (first refl)

  fine-prints : (u : ℕ) (text : List Placed) (anchors : List Anchor) → list_all (is_silent marks) text ≡ true → AreFineAnchors u text anchors → misplaced_print u marks text anchors ≡ None
  fine-prints u [] anchors silent h = refl
  fine-prints u (s ∷ text) [] silent h = refl
  fine-prints u (s ∷ text) (a ∷ anchors) silent h =
      let parts = and_parts (is_silent marks s) (list_all (is_silent marks) text) silent in
      ap (λ b. if b then Some u else misplaced_print (suc u) marks text anchors) (silent-or-first (has_print s.what) (is_dealt marks s.what) (is_zero_form a.form) parts.0 h.0.first) ∙ fine-prints (suc u) text anchors parts.1 h.1

  -- ---- processor 0

  first-fine : (u : ℕ) (s : Placed) → IsFineAnchor tree marks workers u s first_processor
  first-fine u s = record { good = refl; placed = turned tree marks workers u first_processor.form (phase_ends tree marks (u - 1)); first = λ prints. refl }

  pub first-all : (u : ℕ) (text : List Placed) → AreFineAnchors u text (replicate (length text) first_processor)
  first-all u [] = tt
  first-all u (s ∷ text) = (first-fine u s, first-all (suc u) text)

  -- ---- those of a made plan

  placed-fine : (u : ℕ) (loops : List ℕ) (o : Option Anchor) → ((a : Anchor) → o ≡ Some a → is_good_anchor (length tree.params) loops a ≡ true) → IsKept tree marks workers u loops (placed_anchor tree marks workers u o)
  placed-fine u loops None good = record { good = refl; placed = turned tree marks workers u first_processor.form (phase_ends tree marks (u - 1)) }
  placed-fine u loops (Some a) good = kept_placed tree marks workers u loops a (misplaced tree marks workers u a) refl (good a refl)

  abbrev allowed : Placed → List ℕ
  allowed s = own_loops marks s.what s.around

  abbrev sought : ℕ → Placed → Option Anchor
  sought u s = anchor_sought tree marks workers u (allowed s) s.what

  phase-fine : (u : ℕ) (s : Placed) → IsFineAnchor tree marks workers u s (phase_anchor tree marks workers u s)
  phase-fine u s = by (has_print s.what) refl
    where
      by : (b : Bool) → has_print s.what ≡ b → IsFineAnchor tree marks workers u s (phase_anchor tree marks workers u s)
      by true e = subst (IsFineAnchor tree marks workers u s) (sym (ap (λ b. if b then first_processor else placed_anchor tree marks workers u (sought u s)) e)) (first-fine u s)
      by false e =
          let fine = placed-fine u (allowed s) (sought u s) (sought_good tree marks workers u (allowed s) s.what) in
          subst (IsFineAnchor tree marks workers u s) (sym (ap (λ b. if b then first_processor else placed_anchor tree marks workers u (sought u s)) e))
          (record { good = fine.good; placed = fine.placed; first = λ prints. absurd (let no : false ≡ true = sym e ∙ prints in cc) })

  pub made-all : (u : ℕ) (text : List Placed) → AreFineAnchors u text (anchors_from tree marks workers u text)
  made-all u [] = tt
  made-all u (s ∷ text) = (phase-fine u s, made-all (suc u) text)

-- ---- a plan with such anchors and a barrier in front of each phase fits

barrier-anchors : (n k : ℕ) → kind_anchors n (replicate k Barrier) ≡ []
barrier-anchors n zero = refl
barrier-anchors n (suc k) = barrier-anchors (suc n) k

barrier-kinds : (constants : ℕ) (text : List Placed) (k : ℕ) → are_good_kinds constants text (replicate k Barrier) ≡ true
barrier-kinds constants [] k = refl
barrier-kinds constants (s ∷ text) zero = refl
barrier-kinds constants (s ∷ text) (suc k) = barrier-kinds constants text k

pub barrier_fits : (tree : Tree) (cut : Cutting) (anchors : List Anchor) (workers : ℕ) → IsFittingCut tree cut → AreFineAnchors tree cut.marks workers 1 (static_phases tree cut.marks) anchors → 1 ≤ workers → workers ≤ 64 → IsFit tree (barrier_plan cut anchors workers [])
barrier_fits tree cut anchors workers c fine some few =
    let text = static_phases tree cut.marks in
    let plan = barrier_plan cut anchors workers [] in
    let long = fine-long tree cut.marks workers 1 text anchors fine in
    let none = ap (λ us. unplaced tree cut.marks workers (numbered_anchors 1 anchors ++ us)) (barrier-anchors 1 (length anchors)) ∙ ap (unplaced tree cut.marks workers) (append-nil (numbered_anchors 1 anchors)) ∙ fine-placed tree cut.marks workers 1 text anchors fine in
    fits_by_parts tree plan (record {
      some = some;
      few = few;
      marks = c.marks;
      anchors = long;
      kinds = length-replicate (length anchors) Barrier ∙ long;
      good_kinds = barrier-kinds (length tree.params) text (length anchors);
      good_anchors = fine-good tree cut.marks workers 1 text anchors fine;
      placed = none;
      good_sums = c.fine.sums;
      privates = c.privates;
      good_privates = c.fine.privates;
      prints = fine-prints tree cut.marks workers 1 text anchors c.prints fine;
    }) c.fine.marked refl

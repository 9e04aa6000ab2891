-- Anchors that are gone through beside the static phases of a text, in search of a PRINT.
use Rattle.std.proofs.Common.{◌≡◌, ℕ, suc, ◌+◌, ◌<◌, ◌≤◌, Bool, not, ◌&&◌, ◌||◌, if◌then◌else◌, List, [], ◌∷◌, drop, get_or, length, Some, None, refl, ap, ◌∙◌, arith}
use Rattle.std.specs.Prelude.{slice_get}
use Rattle.nest_walk.specs.Texts.{Placed}
use Rattle.owner_partition.specs.declared.anchor.Anchor.{Anchor}
use Rattle.owner_partition.specs.declared.cut.Mark.{Mark}
use Rattle.plan_shape.proofs.Texts.{from_item, from_place, no_more, past_end}
use Rattle.sync_plan.specs.Fit.{has_print, is_dealt, is_zero_form, misplaced_print}

-- a phase with a PRINT that is a Doall loop or has another form than the constant 0
abbrev pub is_misplaced : List Mark → Placed → Anchor → Bool
is_misplaced marks s a = has_print s.what && (is_dealt marks s.what || not (is_zero_form a.form))

pub prints-step : (n : ℕ) (marks : List Mark) (text : List Placed) (anchors : List Anchor) (i : ℕ) (s : Placed) (a : Anchor) → slice_get text i ≡ Some s → i < length anchors → a ≡ get_or anchors i a →
    misplaced_print n marks (drop i text) (drop i anchors) ≡ (if is_misplaced marks s a then Some n else misplaced_print (n + 1) marks (drop (i + 1) text) (drop (i + 1) anchors))
prints-step n marks text anchors i s a at lt is =
    let next : suc n ≡ n + 1 = omega arith in
    ap (λ t. misplaced_print n marks t (drop i anchors)) (from_place text i s at) ∙ ap (misplaced_print n marks (s ∷ drop (i + 1) text)) (from_item anchors i a lt is)
    ∙ ap (λ m. if is_misplaced marks s a then Some n else misplaced_print m marks (drop (i + 1) text) (drop (i + 1) anchors)) next

pub prints-past : (n : ℕ) (marks : List Mark) (text : List Placed) (anchors : List Anchor) (i : ℕ) → slice_get text i ≡ None → misplaced_print n marks (drop i text) (drop i anchors) ≡ None
prints-past n marks text anchors i at = ap (λ t. misplaced_print n marks t (drop i anchors)) (past_end text i at)

pub prints-end : (n : ℕ) (marks : List Mark) (text : List Placed) (anchors : List Anchor) (i : ℕ) → length anchors ≤ i → misplaced_print n marks (drop i text) (drop i anchors) ≡ None
prints-end n marks text anchors i h = ap (misplaced_print n marks (drop i text)) (no_more anchors i h) ∙ none (drop i text)
  where
    none : (t : List Placed) → misplaced_print n marks t [] ≡ None
    none [] = refl
    none (s ∷ t) = refl

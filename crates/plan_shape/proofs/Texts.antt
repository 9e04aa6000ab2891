-- Lists that are gone through beside the static phases of a text.
use Rattle.std.proofs.Common.{◌≡◌, ℕ, zero, suc, ◌+◌, ◌<◌, ◌≤◌, true, ◌&&◌, List, [], ◌∷◌, drop, get_or, length, Some, None, add-one, refl, ap, sym, ◌∙◌, arith}
use Rattle.std.specs.Prelude.{slice_get}
use Rattle.std.proofs.Math.Seq.{drop-cons}
use Rattle.nest_walk.specs.Texts.{Placed}
use Rattle.owner_partition.specs.declared.anchor.Anchor.{Anchor}
use Rattle.owner_partition.specs.declared.cut.Mark.{Mark}
use Rattle.sync_plan.specs.declared.plan.Kind.{Kind}
use Rattle.sync_plan.specs.Shape.{are_good_anchors, are_good_kinds, is_good_anchor, is_good_kind, own_loops}

pub from_place : {X : Type 0} (xs : List X) (i : ℕ) (x : X) → slice_get xs i ≡ Some x → drop i xs ≡ x ∷ drop (i + 1) xs
from_place [] i x at = let clash : None ≡ Some x = at in absurd (cc)
from_place (y ∷ xs) zero x at = let same : Some y ≡ Some x = at in let is : y ≡ x = cc in ap (λ z. z ∷ xs) is
from_place (y ∷ xs) (suc i) x at = let next : suc (i + 1) ≡ suc i + 1 = omega arith in from_place xs i x at ∙ ap (λ k. x ∷ drop k (y ∷ xs)) next

pub past_end : {X : Type 0} (xs : List X) (i : ℕ) → slice_get xs i ≡ None → drop i xs ≡ []
past_end [] zero at = refl
past_end [] (suc i) at = refl
past_end (x ∷ xs) zero at = let clash : Some x ≡ None = at in absurd (cc)
past_end (x ∷ xs) (suc i) at = past_end xs i at

pub from_item : {X : Type 0} (xs : List X) (i : ℕ) (x : X) → i < length xs → x ≡ get_or xs i x → drop i xs ≡ x ∷ drop (i + 1) xs
from_item xs i x lt is = rw (add-one, drop-cons xs i x lt) (ap (λ y. y ∷ drop (suc i) xs) (sym is))

pub no_more : {X : Type 0} (xs : List X) (i : ℕ) → length xs ≤ i → drop i xs ≡ []
no_more [] zero h = refl
no_more [] (suc i) h = refl
no_more (x ∷ xs) zero h = absurd (omega (arith, h))
no_more (x ∷ xs) (suc i) h = no_more xs i (omega (arith, h))

-- ---- anchors

pub anchors-step : (constants : ℕ) (marks : List Mark) (text : List Placed) (anchors : List Anchor) (i : ℕ) (s : Placed) (a : Anchor) → slice_get text i ≡ Some s → i < length anchors → a ≡ get_or anchors i a →
    are_good_anchors constants marks (drop i text) (drop i anchors) ≡ (is_good_anchor constants (own_loops marks s.what s.around) a && are_good_anchors constants marks (drop (i + 1) text) (drop (i + 1) anchors))
anchors-step constants marks text anchors i s a at lt is =
    ap (λ t. are_good_anchors constants marks t (drop i anchors)) (from_place text i s at) ∙ ap (are_good_anchors constants marks (s ∷ drop (i + 1) text)) (from_item anchors i a lt is)

pub anchors-past : (constants : ℕ) (marks : List Mark) (text : List Placed) (anchors : List Anchor) (i : ℕ) → slice_get text i ≡ None → are_good_anchors constants marks (drop i text) (drop i anchors) ≡ true
anchors-past constants marks text anchors i at = ap (λ t. are_good_anchors constants marks t (drop i anchors)) (past_end text i at)

pub anchors-end : (constants : ℕ) (marks : List Mark) (text : List Placed) (anchors : List Anchor) (i : ℕ) → length anchors ≤ i → are_good_anchors constants marks (drop i text) (drop i anchors) ≡ true
anchors-end constants marks text anchors i h = ap (are_good_anchors constants marks (drop i text)) (no_more anchors i h) ∙ none (drop i text)
  where
    none : (t : List Placed) → are_good_anchors constants marks t [] ≡ true
    none [] = refl
    none (s ∷ t) = refl

-- ---- kinds

pub kinds-step : (constants : ℕ) (text : List Placed) (kinds : List Kind) (i : ℕ) (s : Placed) (k : Kind) → slice_get text i ≡ Some s → i < length kinds → k ≡ get_or kinds i k →
    are_good_kinds constants (drop i text) (drop i kinds) ≡ (is_good_kind constants s.around k && are_good_kinds constants (drop (i + 1) text) (drop (i + 1) kinds))
kinds-step constants text kinds i s k at lt is =
    ap (λ t. are_good_kinds constants t (drop i kinds)) (from_place text i s at) ∙ ap (are_good_kinds constants (s ∷ drop (i + 1) text)) (from_item kinds i k lt is)

pub kinds-past : (constants : ℕ) (text : List Placed) (kinds : List Kind) (i : ℕ) → slice_get text i ≡ None → are_good_kinds constants (drop i text) (drop i kinds) ≡ true
kinds-past constants text kinds i at = ap (λ t. are_good_kinds constants t (drop i kinds)) (past_end text i at)

pub kinds-end : (constants : ℕ) (text : List Placed) (kinds : List Kind) (i : ℕ) → length kinds ≤ i → are_good_kinds constants (drop i text) (drop i kinds) ≡ true
kinds-end constants text kinds i h = ap (are_good_kinds constants (drop i text)) (no_more kinds i h) ∙ none (drop i text)
  where
    none : (t : List Placed) → are_good_kinds constants t [] ≡ true
    none [] = refl
    none (s ∷ t) = refl

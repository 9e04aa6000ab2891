-- The loops that a cursor is in, after a write.
use Rattle.std.proofs.Common.{◌≡◌, ℕ, zero, suc, ◌<◌, ◌≤◌, List, [], ◌∷◌, ◌++◌, map, length, set, Some, refl, ap, ◌∙◌, arith}
use Rattle.std.specs.List.{slice_get}
use Rattle.std.specs.Option.{option_to_list}
use Rattle.nest_walk.specs.Frames.{level_of, levels_to}
use Rattle.nest_walk.specs.declared.frame.Frame.{Frame}

slice_get-set_same : (frames : List Frame) (k : ℕ) (f : Frame) → k < length frames → slice_get (set frames k f) k ≡ Some f
slice_get-set_same [] k f h = absurd (omega arith)
slice_get-set_same (g ∷ frames) zero f h = refl
slice_get-set_same (g ∷ frames) (suc k) f h = slice_get-set_same frames k f (omega arith)

slice_get-set_other : (frames : List Frame) (i k : ℕ) (f : Frame) → i < k → slice_get (set frames k f) i ≡ slice_get frames i
slice_get-set_other [] i k f h = refl
slice_get-set_other (g ∷ frames) i zero f h = absurd (omega arith)
slice_get-set_other (g ∷ frames) zero (suc k) f h = refl
slice_get-set_other (g ∷ frames) (suc i) (suc k) f h = slice_get-set_other frames i k f (omega arith)

levels_to-set : (frames : List Frame) (j k : ℕ) (f : Frame) → j ≤ k → levels_to (set frames k f) j ≡ levels_to frames j
levels_to-set frames zero k f h = refl
levels_to-set frames (suc j) k f h =
    let lt : j < k = omega arith in
    let le : j ≤ k = omega arith in
    ap (λ o. map level_of (option_to_list o) ++ levels_to (set frames k f) j) (slice_get-set_other frames j k f lt)
    ∙ ap (λ xs. map level_of (option_to_list (slice_get frames j)) ++ xs) (levels_to-set frames j k f le)

-- the frame at the last depth
pub levels_to-at : (frames : List Frame) (k : ℕ) (f : Frame) → slice_get frames k ≡ Some f → levels_to frames (suc k) ≡ level_of f ∷ levels_to frames k
levels_to-at frames k f at = ap (λ o. map level_of (option_to_list o) ++ levels_to frames k) at

pub levels_to-put : (frames : List Frame) (k : ℕ) (f : Frame) → k < length frames → levels_to (set frames k f) (suc k) ≡ level_of f ∷ levels_to frames k
levels_to-put frames k f h =
    levels_to-at (set frames k f) k f (slice_get-set_same frames k f h) ∙ ap (λ xs. level_of f ∷ xs) (levels_to-set frames k k f (omega arith))

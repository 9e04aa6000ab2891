-- All workers, and how far the main seat has come with each.
use Rattle.std.proofs.Common.{◌≡◌, ◌≢◌, ℕ, ◌+◌, ◌<◌, List, [], ◌∷◌, ◌++◌, get_or, length, length-append, Some, refl, ◌∙◌, ap, subst, arith}
use Rattle.std.specs.Prelude.{slice_get}
use Rattle.std.proofs.lemmas.List.{get_or_append_left, get_or_at}
use Rattle.std.proofs.lemmas.Option.{slice_get_within}
use Rattle.shared_words.specs.Calls.{with_stage}
use Rattle.shared_words.specs.Homes.{Home, MainView, protocol_at}
use Rattle.shared_words.specs.declared.roles.Stage.{Stage}
use Rattle.shared_words.proofs.Stages.{stage_here, stage_set}
use Rattle.spmd_workers.specs.Places.{printed_behind}
use Rattle.spmd_workers.specs.Workers.{IsOver, IsWorkerOf, WorkerView}

-- one stage is set, and the others stay
pub stage_new : (v w : MainView) (p : ℕ) (old new : Stage) → w ≡ with_stage p new v → slice_get v.stages p ≡ Some old → slice_get w.stages p ≡ Some new
stage_new v w p old new is there = ap (λ (u : MainView). slice_get u.stages p) is ∙ stage_here v.stages p new (slice_get_within v.stages p old there)

pub stage_old : (v w : MainView) (p q : ℕ) (new : Stage) → w ≡ with_stage p new v → q ≢ p → slice_get w.stages q ≡ slice_get v.stages q
stage_old v w p q new is other = ap (λ (u : MainView). slice_get u.stages q) is ∙ stage_set v.stages p q new other

-- what holds of each of these, where the last is taken away
module _ {X : Type 0} (P : ℕ → X → Type 0) (xs front : List X) (x : X) (is : xs ≡ front ++ x ∷ []) (all : (q : ℕ) (d : X) → q < length xs → P q (get_or xs q d)) where
  longer : length xs ≡ length front + 1
  longer = ap (λ (l : List X). length l) is ∙ length-append front (x ∷ [])

  pub popped_all : (q : ℕ) (d : X) → q < length front → P q (get_or front q d)
  popped_all q d lt = subst (P q) (ap (λ l. get_or l q d) is ∙ get_or_append_left front (x ∷ []) d q lt) (all q d (omega (arith, lt, longer)))

  pub popped_last : P (length front) x
  popped_last = subst (P (length front)) (ap (λ l. get_or l (length front) x) is ∙ get_or_at front x [] x (length front) refl) (all (length front) x (omega (arith, longer)))

-- a worker that is over has printed all lines of its processor
pub all_printed : (h : Home) (p : ℕ) (w : WorkerView) → IsWorkerOf h p w → IsOver w → w.output ≡ (protocol_at h).printed_at p (length ((protocol_at h).acts p))
all_printed h p w its over = over.printed ∙ ap (printed_behind w.seat) over.ended ∙ (λ i. (protocol_at (its.home i)).printed_at (its.processor i) (length ((protocol_at (its.home i)).acts (its.processor i))))

-- Shared cells as those of a state of the machine, act by act.
use Rattle.std.proofs.Common.{◌≡◌, ℕ, ◌+◌, ◌-◌, ◌<◌, ℤ, pos, true, true≢false, ◌≤◌, List, ◌++◌, length, replicate, Some, refl, ap, sym, subst, ◌∙◌, ⊎_elim, arith}
use Rattle.std.specs.Prelude.{slice_set}
use Rattle.std.proofs.lemmas.Bool.{cases_lt, leb-true}
use Rattle.std.proofs.lemmas.List.{get_or_append_left, length-replicate, replicate-append-replicate, length-set, set_past, set-append_left, set-append_right}
use Rattle.nest_model.specs.Memory.{cell_value}
use Rattle.spmd_model.specs.Cells.{plus}
use Rattle.spmd_model.specs.Timelines.{Machine}
use Rattle.spmd_model.specs.Acts.{Act, post, await, load, store, add, print, act_at, acts_of}
use Rattle.spmd_model.specs.Ordered.{IsOrderedMachine, IsSound}
use Rattle.spmd_model.specs.Shared.{AreLawful}
use Rattle.spmd_model.specs.Lawful.{IsLawful, Moves}
use Rattle.spmd_model.specs.Reached.{IsPossibleAt, memory_by, state_at}
use Rattle.spmd_model.specs.Sequential.{stored_at}
use Rattle.spmd_model.specs.States.{State, first_state}
use Rattle.spmd_model.specs.Runs.{stepped}
use Rattle.spmd_model.proofs.ActLaws as law
use Rattle.spmd_model.proofs.StateAt.{first_at, stays_lawful, steps_to}
use Rattle.spmd_model.specs.Protocols.{is_passed}
use Rattle.spmd_model.specs.Viewed.{AreIn}

-- an act leaves the shared cells in front of the own ones
split_by : (cells own : List ℤ) (v : ℤ) (a : Act) → (after : List ℤ) × (memory_by (cells ++ own) v a ≡ memory_by cells v a ++ after)
split_by cells own v (post w n) = (own, refl)
split_by cells own v (await w q n) = (own, refl)
split_by cells own v (load t c) = (own, refl)
split_by cells own v (store t c) = ⊎_elim
    (λ lt. (own, set-append_left cells own c v lt))
    (λ past. (slice_set own (c - length cells) v, set-append_right cells own (length cells) c v refl past ∙ ap (λ l. l ++ slice_set own (c - length cells) v) (sym (set_past cells c v past)))) (cases_lt c (length cells))
split_by cells own v (add t c) = ⊎_elim
    (λ lt. (own, ap (λ y. slice_set (cells ++ own) c (plus y v)) (get_or_append_left cells own (pos 0) c lt) ∙ set-append_left cells own c (plus (cell_value cells c) v) lt))
    (λ past. let w = plus (cell_value (cells ++ own) c) v in (slice_set own (c - length cells) w, set-append_right cells own (length cells) c w refl past ∙ ap (λ l. l ++ slice_set own (c - length cells) w) (sym (set_past cells c (plus (cell_value cells c) v) past)))) (cases_lt c (length cells))
split_by cells own v (print t) = (own, refl)

size_by : (cells : List ℤ) (v : ℤ) (a : Act) → length (memory_by cells v a) ≡ length cells
size_by cells v (post w n) = refl
size_by cells v (await w q n) = refl
size_by cells v (load t c) = refl
size_by cells v (store t c) = length-set cells c v
size_by cells v (add t c) = length-set cells c (plus (cell_value cells c) v)
size_by cells v (print t) = refl

-- an act that nobody else sees leaves them
pub passed_leaves : (cells : List ℤ) (v : ℤ) (a : Act) → is_passed (length cells) a ≡ true → memory_by cells v a ≡ cells
passed_leaves cells v (post w n) passed = refl
passed_leaves cells v (await w q n) passed = refl
passed_leaves cells v (load t c) passed = refl
passed_leaves cells v (store t c) passed = set_past cells c v (leb-true (length cells) c passed)
passed_leaves cells v (add t c) passed = absurd (true≢false (sym passed))
passed_leaves cells v (print t) passed = refl

-- of a machine whose processors share so many cells
module _ (m : Machine) (shared : ℕ) where
  pub first_of_state : IsSound m → shared ≤ m.cells → AreIn m shared (replicate shared (pos 0)) (λ p. 0) (first_state m)
  first_of_state sound le =
      let zeros : List ℤ = replicate (m.cells - shared) (pos 0) in
      let all : shared + (m.cells - shared) ≡ m.cells = omega (arith, le) in
      let whole : replicate m.cells (pos 0) ≡ replicate shared (pos 0) ++ zeros = ap (λ n. replicate n (pos 0)) (sym all) ∙ sym (replicate-append-replicate shared (m.cells - shared) (pos 0)) in
      record {
        own = zeros;
        count = length-replicate shared (pos 0);
        lawful = subst (λ x. IsLawful m x (λ p. 0)) whole (law.first m (λ p. 0) sound (λ p lt. refl));
        is = first_at m ∙ ap (λ x. state_at m x (λ p. 0)) whole;
      }

  pub lawful_of_state : (cells : List ℤ) (at : ℕ → ℕ) (s : State) → AreIn m shared cells at s → AreLawful m shared cells at
  lawful_of_state cells at s shows = record { count = shows.count; own = shows.own; lawful = shows.lawful }

  pub state_of_lawful : (cells : List ℤ) (at : ℕ → ℕ) → AreLawful m shared cells at → (s : State) × AreIn m shared cells at s
  state_of_lawful cells at l = (state_at m (cells ++ l.own) at, record { own = l.own; count = l.count; lawful = l.lawful; is = refl })

  pub step_of_state : (cells : List ℤ) (at after : ℕ → ℕ) (p : ℕ) (a : Act) (s : State) → IsSound m → IsOrderedMachine m → p < m.workers → AreIn m shared cells at s → act_at m p (at p) ≡ Some a → IsPossibleAt (acts_of m) at a → Moves at after p (at p + 1) →
      AreIn m shared (memory_by cells (stored_at m p (at p)) a) after (stepped m s p)
  step_of_state cells at after p a s sound ordered lt shows e possible moves =
      let memory = cells ++ shows.own in
      let v = stored_at m p (at p) in
      let split = split_by cells shows.own v a in
      record {
        own = split.0;
        count = size_by cells v a ∙ shows.count;
        lawful = subst (λ x. IsLawful m x after) split.1 (stays_lawful m memory at after p lt moves sound ordered shows.lawful a e possible);
        is = ap (λ x. stepped m x p) shows.is ∙ steps_to m memory at after p lt moves sound ordered shows.lawful a e possible ∙ ap (λ x. state_at m x after) split.1;
      }

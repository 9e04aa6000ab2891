-- A machine whose processor does the acts on its own cells that stand next.
use Rattle.std.proofs.Common.{◌≡◌, ℕ, ◌<◌, nat_lt, Bool, true, false, true≢false, fold, length, refl, sym, ◌∙◌, ap, arith}
use Rattle.spmd_model.specs.Quiet.{first_turn, past_quiet, quiet_next, turned}
use Rattle.spmd_model.specs.States.{first_state}
use Rattle.spmd_model.specs.Runs.{stepped}
use Rattle.spmd_machine.specs.Machines.{GoesQuietly, IsSameMachine, StepsTo, model_of, shared_in, shown}
use Rattle.spmd_machine.specs.Promises.{one_round}
use Rattle.spmd_machine.specs.declared.answer.StepAnswer.{StepAnswer}
use Rattle.spmd_machine.specs.declared.parts.Parts.{Parts}
use Rattle.spmd_machine.proofs.Ready.{along_shared, model_is, same_then, shared_is, shown_count, steps_from}
use Rattle.spmd_machine.proofs.Settles.{quiet_falls, quiet_goes, quiet_none}

pub same_self : (m : Parts) → IsSameMachine m m
same_self m = record { program = refl; plan = refl; style = refl; count = refl }

-- ---- the act that comes next, done where this says so

pub acted : (m n : Parts) (p : ℕ) (b : Bool) → b ≡ true → GoesQuietly m n p b → (said : StepAnswer) × StepsTo m n p said
acted m n p true is goes = goes
acted m n p false is goes = absurd (true≢false (sym is))

pub stayed : (m n : Parts) (p : ℕ) (b : Bool) → b ≡ false → GoesQuietly m n p b → shown n ≡ shown m
stayed m n p true is goes = absurd (true≢false is)
stayed m n p false is goes = goes

-- the same behind a look
pub goes_from : (m n o : Parts) (p : ℕ) (b : Bool) → IsSameMachine m n → shown n ≡ shown m → GoesQuietly n o p b → GoesQuietly m o p b
goes_from m n o p true same state goes = (goes.0, steps_from m n o p goes.0 same state goes.1)
goes_from m n o p false same state goes = goes ∙ state

-- one of them is done, behind a look at it
module _ (first m n o : Parts) (p : ℕ) (said : StepAnswer) (before : IsSameMachine first m) (lt : p < length m.processors.items) (looked : IsSameMachine m n) (same : shown n ≡ shown m) (step : StepsTo n o p said) (some : nat_lt 0 (quiet_next (model_of m) (shared_in m) (shown m) p) ≡ true) where
  step_here : StepsTo m o p said
  step_here = steps_from m n o p said looked same step

  inside : p < length (shown m).positions
  inside = omega (arith, lt, shown_count m)

  some_here : nat_lt 0 (quiet_next (model_of first) (shared_in first) (shown m) p) ≡ true
  some_here = along_shared (λ d shared. nat_lt 0 (quiet_next d shared (shown m) p) ≡ true) first m before some

  step_is : shown o ≡ stepped (model_of first) (shown m) p
  step_is = along_shared (λ d shared. shown o ≡ stepped d (shown m) p) first m before step_here.state

  pub still_same : IsSameMachine first o
  still_same = same_then first m o before step_here.same

  pub still_past : past_quiet (model_of first) (shared_in first) (shown m) p ≡ past_quiet (model_of first) (shared_in first) (shown first) p → past_quiet (model_of first) (shared_in first) (shown o) p ≡ past_quiet (model_of first) (shared_in first) (shown first) p
  still_past h = ap (λ s. past_quiet (model_of first) (shared_in first) s p) step_is ∙ quiet_goes (model_of first) (shared_in first) (shown m) p inside some_here ∙ h

  pub fewer_left : quiet_next (model_of o) (shared_in o) (shown o) p < quiet_next (model_of m) (shared_in m) (shown m) p
  fewer_left =
      let falls = quiet_falls (model_of m) (shared_in m) (shown m) p inside some in
      let here : quiet_next (model_of m) (shared_in m) (shown o) p < quiet_next (model_of m) (shared_in m) (shown m) p = omega (arith, falls, ap (λ s. quiet_next (model_of m) (shared_in m) s p) step_here.state) in
      along_back here
    where
      along_back : quiet_next (model_of m) (shared_in m) (shown o) p < quiet_next (model_of m) (shared_in m) (shown m) p → quiet_next (model_of o) (shared_in o) (shown o) p < quiet_next (model_of m) (shared_in m) (shown m) p
      along_back h = omega (arith, h, same_left)
        where
          same_left : quiet_next (model_of m) (shared_in m) (shown o) p ≡ quiet_next (model_of o) (shared_in o) (shown o) p
          same_left = along_shared (λ d shared. quiet_next d shared (shown o) p ≡ quiet_next (model_of o) (shared_in o) (shown o) p) m o step_here.same refl

-- none stands next
pub settled_is : (first m n : Parts) (p : ℕ) → IsSameMachine first m → p < length m.processors.items → shown n ≡ shown m → nat_lt 0 (quiet_next (model_of m) (shared_in m) (shown m) p) ≡ false →
    past_quiet (model_of first) (shared_in first) (shown m) p ≡ past_quiet (model_of first) (shared_in first) (shown first) p → shown n ≡ past_quiet (model_of first) (shared_in first) (shown first) p
settled_is first m n p before lt same none h =
    let none_here = along_shared (λ d shared. nat_lt 0 (quiet_next d shared (shown m) p) ≡ false) first m before none in
    same ∙ sym (quiet_none (model_of first) (shared_in first) (shown m) p (omega (arith, lt, shown_count m)) none_here) ∙ h

-- a turn: an act, and then those
pub turn_is : (m n o : Parts) (p : ℕ) (said : StepAnswer) → StepsTo m n p said → IsSameMachine n o → shown o ≡ past_quiet (model_of n) (shared_in n) (shown n) p → shown o ≡ turned (model_of m) (shared_in m) (shown m) p
turn_is m n o p said step same is =
    along_shared (λ d shared. shown o ≡ past_quiet d shared (shown n) p) m n step.same is ∙ ap (λ s. past_quiet (model_of m) (shared_in m) s p) step.state

-- all processors settle at the first state
pub settled_first : (m n : Parts) → shown m ≡ first_state (model_of m) → IsSameMachine m n → shown n ≡ fold (past_quiet (model_of m) (shared_in m)) (shown m) (one_round (model_of m)) → shown n ≡ first_turn (model_of n) (shared_in n)
settled_first m n first same state =
    let here : shown n ≡ first_turn (model_of m) (shared_in m) = state ∙ ap (λ s. fold (past_quiet (model_of m) (shared_in m)) s (one_round (model_of m))) first in
    here ∙ sym (ap (λ d. first_turn d (shared_in n)) (model_is m n same) ∙ ap (first_turn (model_of m)) (shared_is m n same))

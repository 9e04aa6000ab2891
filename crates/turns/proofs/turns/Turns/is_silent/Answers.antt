use Rattle.std.proofs.Common.{◌≡◌, ◌∷◌, ◌⊎◌, ℕ, Bool, true, false, true≢false, [], Option, Some, None, MatchOption, is_some, inl, inr, sym, subst, ◌∙◌, arith}
use Rattle.std.specs.Prelude.{slice_set}
use Rattle.turns.specs.CounterTurns.{boundary_at}
use Rattle.turns.specs.CountersLeft.{IsCounterNext, counters_boundary, counters_plan, counters_tree}
use Rattle.turns.specs.declared.counters.CounterNext.{CounterNext}
use Rattle.turns.specs.declared.counters.CounterNext.TheVariants.{Post, Await}
use Rattle.turns.specs.Turns.{is_signalled, places_pending}
use Rattle.turns.specs.TurnsLeft.{IsOpen, in_rounds, pends, IsSilentTurn, turns_plan, turns_tree}
use Rattle.turns.specs.declared.turns.Turns.{Turns}
use Rattle.turns.proofs.turns.Turns.is_silent.Goals.{then-self-via-then-self, then-self-via-else-self+then-is_some}
use Rattle.turns.proofs.turns.Turns.is_silent.Goals as goal

pends_some : (c : Turns) (n : CounterNext) (o : Option ℕ) → c.step ≡ c.steps → MatchOption o (places_pending c.pending ≡ []) (λ k. places_pending c.pending ≡ k ∷ places_pending (slice_set c.pending k false)) → is_some o ≡ true → IsOpen c n
pends_some c n None rounds first h = absurd (true≢false (sym h))
pends_some c n (Some k) rounds first h = pends rounds k (places_pending (slice_set c.pending k false)) first

none_pends : (c : Turns) (o : Option ℕ) → MatchOption o (places_pending c.pending ≡ []) (λ k. places_pending c.pending ≡ k ∷ places_pending (slice_set c.pending k false)) → is_some o ≡ false → places_pending c.pending ≡ []
none_pends c None first h = first
none_pends c (Some k) first h = absurd (true≢false h)

silent_counter : (c : Turns) (n : CounterNext) (r : Bool) → IsCounterNext c.counters n → ((number : ℕ) → counters_boundary c.counters ≡ boundary_at (counters_tree c.counters) (counters_plan c.counters) number → r ≡ is_signalled c.style (turns_tree c) (turns_plan c) number) →
    ((x : ℕ) × (n ≡ Post x)) ⊎ ((x : ℕ) × (y : ℕ) × (n ≡ Await x y)) → r ≡ true → IsSilentTurn c n
silent_counter c n r next is (inl (x, e)) h = let at = subst (IsCounterNext c.counters) e next in subst (IsSilentTurn c) (sym e) (sym (is x at.2) ∙ h)
silent_counter c n r next is (inr (x, y, e)) h = let at = subst (IsCounterNext c.counters) e next in subst (IsSilentTurn c) (sym e) (sym (is y at.2) ∙ h)

pub returns-then-self-clause-open : goal.returns-then-self-clause-open
returns-then-self-clause-open c = λ _.
    let s = c.args.self.now in
    elim c.then-self.branch [
      | then-self-via-then-self w ↦ in_rounds w.if-self.true
      | then-self-via-else-self+then-is_some w ↦ pends_some s c.args.next w.first_to_close.result (omega (arith, c.requires.sound.within, w.if-self.false)) w.first_to_close.ensures.first (sym w.is_some.ensures ∙ w.if-is_some.true)
    ]

pub returns-in-Post-clause-silent : goal.returns-in-Post-clause-silent
returns-in-Post-clause-silent c = λ h.
    let s = c.args.self.now in
    record {
      rounds = omega (arith, c.requires.sound.within, c.if-self.false);
      none = none_pends s c.first_to_close.result c.first_to_close.ensures.first (sym c.is_some.ensures ∙ c.if-is_some.false);
      turn = silent_counter s c.args.next c.is_signalled.result c.requires.looked.next c.is_signalled.ensures c.in-Post.is h;
    }

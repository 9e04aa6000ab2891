use Rattle.std.proofs.Common.{◌≡◌, ℕ, ap, ◌∙◌, inl, inr}
use Rattle.turns.specs.CounterTurns.{boundary_at}
use Rattle.turns.specs.CountersLeft.{counters_boundary, counters_plan, counters_tree}
use Rattle.turns.specs.TurnsLeft.{IsAtCounter, turns_tree}
use Rattle.turns.specs.declared.turns.Turns.{Turns}
use Rattle.turns.proofs.turns.Turns.boundary.Goals as goal

passed_there : (c : Turns) (number : ℕ) → IsAtCounter c number → counters_boundary c.counters ≡ boundary_at (counters_tree c.counters) (counters_plan c.counters) number
passed_there c number (inl next) = next.1.shows.next.2
passed_there c number (inr (on, next)) = next.1.shows.next.2

pub returns : goal.returns
returns c = λ number next.
    let s = c.args.self.now in
    c.boundary.ensures ∙ passed_there s number next ∙ ap (λ t. boundary_at t (counters_plan s.counters) number) c.requires.same_tree ∙ ap (λ p. boundary_at (turns_tree s) p number) c.requires.same_plan

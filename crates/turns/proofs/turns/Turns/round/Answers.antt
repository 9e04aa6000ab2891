use Rattle.std.proofs.Common.{◌≡◌, ◌%◌, ◌+◌, ◌/◌, ◌∷◌, ap, sym, ◌∙◌, arith}
use Rattle.spmd_model.specs.Timelines.{signal}
use Rattle.turns.specs.Turns.{sets, waits}
use Rattle.turns.specs.TurnsLeft.{turns_left, turns_plan, turns_processor}
use Rattle.turns.proofs.Shown.{await_turn, round_passed, signal_turn}
use Rattle.turns.proofs.turns.Turns.round.Goals as goal

pub returns-then-self-eq0-clause-next : goal.returns-then-self-eq0-clause-next
returns-then-self-eq0-clause-next c =
    let s = c.args.self.now in
    let even : s.step % 2 ≡ 0 = omega (arith, c.if-self-eq0.true) in
    let later = turns_left (record s { step = s.step + 1 }) in
    ((later, round_passed s c.requires.some ∙ ap (λ t. t ∷ later) (signal_turn (turns_plan s).workers (turns_processor s) s.first s.step even) ∙ ap (λ n. sets signal (s.first + n) ∷ later) (sym c.from.ensures)), c.requires.some)

pub returns-else-self-eq0-clause-next : goal.returns-else-self-eq0-clause-next
returns-else-self-eq0-clause-next c =
    let s = c.args.self.now in
    let odd : s.step % 2 ≡ 1 = omega (arith, c.if-self-eq0.false) in
    let later = turns_left (record s { step = s.step + 1 }) in (
      (
        later,
        round_passed s c.requires.some ∙ ap (λ t. t ∷ later) (await_turn (turns_plan s).workers (turns_processor s) s.first s.step odd) ∙ ap (λ q. waits signal q (s.first + s.step / 2) ∷ later) (sym c.awaited_in_round.ensures.awaited)
            ∙ ap (λ n. waits signal c.awaited_in_round.result (s.first + n) ∷ later) (sym c.from.ensures),
      ),
      c.requires.some,
    )

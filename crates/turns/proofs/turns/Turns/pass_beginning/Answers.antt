use Rattle.std.proofs.Common.{◌≡◌, ◌∷◌, ◌+◌, ◌-◌, ◌*◌, ◌≤◌, suc, ℕ, Bool, true, false, true≢false, length, if◌then◌else◌, ap, sym, subst, ◌∙◌, arith}
use Rattle.std.specs.Int.{from_bool}
use Rattle.std.proofs.Math.Nat.{mul-le-mul}
use Rattle.nest_tree.specs.Limits.{most_work}
use Rattle.sync_plan.specs.Own.{own_loop}
use Rattle.own_cells.specs.OwnCells.{AreFew}
use Rattle.turns.specs.CounterTurns.{begins}
use Rattle.turns.specs.CountersLeft.{counters_left}
use Rattle.turns.proofs.CounterLists.{some_turn}
use Rattle.turns.specs.Turns.{has_signals, has_signals_at, place_of}
use Rattle.turns.specs.TurnsLeft.{turns_plan, turns_tree}
use Rattle.turns.proofs.Beginnings.{phase_begun}
use Rattle.turns.proofs.KnownOwn.{few_own, signals_at}
use Rattle.spmd_model.proofs.RoundCounts.{few_rounds}
use Rattle.turns.proofs.Steps.{begin_passed, begun_here, none_among}
use Rattle.turns.proofs.turns.Turns.pass_beginning.Goals.{then-by_signals, else-by_signals}
use Rattle.turns.proofs.turns.Turns.pass_beginning.Goals as goal

one_bit : (b : Bool) → from_bool b ≤ 1
one_bit true = omega arith
one_bit false = omega arith

with_bit : (b : Bool) (n : ℕ) → n + from_bool b ≡ (if b then suc n else n)
with_bit true n = omega arith
with_bit false n = omega arith

pub place-place-requires-clause-some : goal.place-place-requires-clause-some
place-place-requires-clause-some c =
    let b = c.requires.begins in
    some_turn c.args.self.now.counters (begins b.phase) b.rest b.begins_next b.end

pub place-place-requires-clause-next : goal.place-place-requires-clause-next
place-place-requires-clause-next c =
    let b = c.requires.begins in (b.phase, b.rest, b.begins_next)

-- the phase that begins, by the place of its static phase
pub own_at-own-requires-clause-few : goal.own_at-own-requires-clause-few
own_at-own-requires-clause-few c =
    let s = c.args.self.now in
    let sound = c.requires.sound in
    let b = c.requires.begins in
    let (v, at, place_is) = begun_here s sound c.place-place.result b.phase (c.place-place.ensures b.phase b.rest b.begins_next) in
    subst (λ k. AreFew (turns_tree s) (own_loop (turns_tree s) (turns_plan s) k)) (sym place_is) (few_own (turns_tree s) (turns_plan s) (b.phase - 1) v sound.formed sound.fits at)

pub overflow_mul-self : goal.overflow_mul-self
overflow_mul-self c =
    let s = c.args.self.now in
    let few = few_rounds (turns_plan s).workers in
    let half : c.from.result ≤ 6 = omega (arith, few, c.requires.sound.all_steps, c.from.ensures) in
    let barriers = c.requires.sound.few_barriers c.requires.watched in
    let low : s.barriers ≤ most_work = omega (arith, barriers) in
    let product : s.barriers * c.from.result ≤ most_work * 6 = mul-le-mul low half in
    omega (arith, product)

pub overflow_add-self : goal.overflow_add-self
overflow_add-self c =
    let s = c.args.self.now in
    let few = few_rounds (turns_plan s).workers in
    let half : c.from.result ≤ 6 = omega (arith, few, c.requires.sound.all_steps, c.from.ensures) in
    let barriers = c.requires.sound.few_barriers c.requires.watched in
    let low : s.barriers ≤ most_work = omega (arith, barriers) in
    let product : s.barriers * c.from.result ≤ most_work * 6 = mul-le-mul low half in
    omega (arith, product)

module _ (c : goal.After-self-6-1) where
  step_is : c.if-by_signals.self ≡ (if c.has_signals-by_signals.result then 0 else c.args.self.now.steps)
  step_is = elim c.if-by_signals.branch [
    | then-by_signals w ↦ w.self-is ∙ sym (ap (λ b. if b then 0 else c.args.self.now.steps) w.if-by_signals.true)
    | else-by_signals w ↦ w.self-is ∙ sym (ap (λ b. if b then 0 else c.args.self.now.steps) w.if-by_signals.false)
  ]

  begins_is : counters_left c.args.self.now.counters ≡ begins c.requires.begins.phase ∷ counters_left c.pass.new.self
  begins_is =
      let both : begins c.requires.begins.phase ∷ c.requires.begins.rest ≡ c.pass.ensures.passed.0 ∷ counters_left c.pass.new.self = sym c.requires.begins.begins_next ∙ c.pass.ensures.passed.1 in
      let same : c.requires.begins.rest ≡ counters_left c.pass.new.self = cc in
      c.requires.begins.begins_next ∙ ap (λ r. begins c.requires.begins.phase ∷ r) same

pub returns-clause-sound : goal.returns-clause-sound
returns-clause-sound c =
    let s = c.args.self.now in
    let sound = c.requires.sound in
    let b = c.requires.begins in
    let barriers = sound.few_barriers c.requires.watched in
    let (v, at, place_is) = begun_here s sound c.place-place.result b.phase (c.place-place.ensures b.phase b.rest b.begins_next) in
    let one_less = ap length (phase_begun (counters_left s.counters) b.rest (counters_left c.pass.new.self) b.phase c.pass.ensures.passed.0 b.begins_next c.pass.ensures.passed.1) in
    let few = few_rounds (turns_plan s).workers in
    let half : c.from.result ≤ 6 = omega (arith, few, sound.all_steps, c.from.ensures) in
    let low : s.barriers ≤ most_work = omega (arith, barriers) in
    let product : s.barriers * c.from.result ≤ most_work * 6 = mul-le-mul low half in
    let step = step_is c in
    record {
      formed = sound.formed;
      fits = sound.fits;
      worker = sound.worker;
      few_cells = sound.few_cells;
      sound = c.pass.ensures.sound;
      same_tree = c.pass.ensures.program ∙ sound.same_tree;
      same_plan = c.pass.ensures.plan ∙ sound.same_plan;
      same_processor = c.pass.ensures.processor ∙ sound.same_processor;
      has = sound.has;
      watched = sound.watched;
      own = record {
        few = subst (λ k. AreFew (turns_tree s) (own_loop (turns_tree s) (turns_plan s) k)) (sym place_is) (few_own (turns_tree s) (turns_plan s) (b.phase - 1) v sound.formed sound.fits at);
        cells = c.own_at-own.ensures.cells;
        loop = c.own_at-own.ensures.nest;
        among = λ k at. none_among k at;
      };
      all_steps = sound.all_steps;
      within = low_step c.has_signals-by_signals.result s.steps c.if-by_signals.self step;
      first_low = omega (arith, product);
      few_barriers = λ w. let bit = one_bit c.has_signals-by_signals.result in omega (arith, barriers, one_less, c.from-2.ensures, bit);
      unwatched = λ w. absurd (true≢false (sym c.requires.watched ∙ w));
      arrives = λ w.
          let off : c.has_signals-by_signals.result ≡ false = c.has_signals-by_signals.ensures ∙ ap (λ t. has_signals_at t (turns_plan s) c.place-place.result) w in
          step ∙ ap (λ b. if b then 0 else s.steps) off;
    }
  where
    low_step : (b : Bool) (steps step : ℕ) → step ≡ (if b then 0 else steps) → step ≤ steps
    low_step true steps step is = omega (arith, is)
    low_step false steps step is = omega (arith, is)

pub returns-clause-left : goal.returns-clause-left
returns-clause-left c =
    let s = c.args.self.now in
    let sound = c.requires.sound in
    let plan = turns_plan s in
    let b = c.requires.begins in
    let (v, at, place_is) = begun_here s sound c.place-place.result b.phase (c.place-place.ensures b.phase b.rest b.begins_next) in
    let place = ap place_of at ∙ sym place_is in
    let signals = ap (has_signals s.style plan) at ∙ signals_at s.style plan v ∙ ap (has_signals_at s.style plan) (sym place_is) ∙ sym c.has_signals-by_signals.ensures in
    begin_passed s c.pass.new.self b.phase c.place-place.result (s.barriers * c.from.result + 1) c.if-by_signals.self (s.barriers + c.from-2.result) c.has_signals-by_signals.result b.rounds b.none (begins_is c) (sym sound.watched ∙ c.requires.watched)
    sound.all_steps place signals (ap (λ k. s.barriers * k + 1) c.from.ensures) (step_is c) (ap (λ k. s.barriers + k) c.from-2.ensures ∙ with_bit c.has_signals-by_signals.result s.barriers)

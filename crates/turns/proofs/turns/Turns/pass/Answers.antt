use Rattle.std.proofs.Common.{◌≡◌, ◌<◌, ◌⊎◌, ◌+◌, ◌∷◌, ℕ, false, inl, inr, refl, sym, subst, arith}
use Rattle.std.specs.Prelude.{slice_set}
use Rattle.turns.specs.CounterTurns.{CounterTurn}
use Rattle.turns.specs.CountersLeft.{counters_left}
use Rattle.turns.specs.Turns.{closes, is_signalled, round_turn}
use Rattle.turns.specs.TurnsLeft.{IsBeforeCounter, IsCounterOf, IsNext, PassesPlainly, turns_plan, turns_processor, turns_tree}
use Rattle.turns.specs.declared.turns.Next.{Next}
use Rattle.turns.specs.declared.turns.Next.TheVariants.{Post, Await, Signal, AwaitSignal}
use Rattle.turns.specs.declared.turns.Turns.{Turns}
use Rattle.turns.proofs.Shown.{closed_sound, round_passed, stepped_sound}
use Rattle.turns.proofs.Steps.{closing_passed}
use Rattle.turns.proofs.turns.Turns.pass.Goals as goal

before : (c : Turns) (n : Next) → IsNext c n → ((x : ℕ) × (n ≡ Post x)) ⊎ ((x : ℕ) × (y : ℕ) × (n ≡ Await x y)) → (b : IsBeforeCounter c) × (is_signalled c.style (turns_tree c) (turns_plan c) b.number ≡ false)
before c n next (inl (x, e)) =
    let k = (subst (IsNext c) e next).1 in
    (record { rounds = k.shows.rounds; none = k.none; end = k.shows.end; number = x; counter = subst (λ ts. IsCounterOf ts x) (sym k.shows.next.1) refl }, k.by_counters)
before c n next (inr (x, y, e)) =
    let k = (subst (IsNext c) e next).1 in
    (record { rounds = k.shows.rounds; none = k.none; end = k.shows.end; number = y; counter = subst (λ ts. IsCounterOf ts y) (sym k.shows.next.1) refl }, k.by_counters)

in_round : (c : Turns) (n : Next) → IsNext c n → ((x : ℕ) × (n ≡ Signal x)) ⊎ ((x : ℕ) × (y : ℕ) × (n ≡ AwaitSignal x y)) → c.step < c.steps
in_round c n next (inl (x, e)) = (subst (IsNext c) e next).1
in_round c n next (inr (x, y, e)) = (subst (IsNext c) e next).1

pub pass_counters-requires-clause-next : goal.pass_counters-requires-clause-next
pass_counters-requires-clause-next c = (before c.args.self.now c.args.next c.requires.next c.in-Post.is).0

pub returns-in-Signal-clause-sound : goal.returns-in-Signal-clause-sound
returns-in-Signal-clause-sound c = stepped_sound c.args.self.now c.requires.sound (in_round c.args.self.now c.args.next c.requires.next c.in-Signal.is)

pub returns-in-Signal-clause-passed : goal.returns-in-Signal-clause-passed
returns-in-Signal-clause-passed c =
    let s = c.args.self.now in
    (round_turn (turns_plan s).workers (turns_processor s) s.first s.step, round_passed s (in_round s c.args.next c.requires.next c.in-Signal.is))

pub returns-in-Close-clause-sound : goal.returns-in-Close-clause-sound
returns-in-Close-clause-sound c =
    let s = c.args.self.now in
    closed_sound s c.in-Close.place c.requires.sound (omega arith) (subst (IsNext s) c.in-Close.is c.requires.next).1

pub returns-in-Close-clause-passed : goal.returns-in-Close-clause-passed
returns-in-Close-clause-passed c =
    let s = c.args.self.now in
    (closes s.place c.in-Close.place, closing_passed s c.in-Close.place (subst (IsNext s) c.in-Close.is c.requires.next).1)

pub returns-in-Post-clause-passed : goal.returns-in-Post-clause-passed
returns-in-Post-clause-passed c =
    let b = before c.args.self.now c.args.next c.requires.next c.in-Post.is in
    c.pass_counters.ensures.passed b.0.number b.0.counter b.1

-- ---- what goes of the counter turns

plain_counters : (c new : Turns) (n : Next) → ((x : ℕ) × (n ≡ Post x)) ⊎ ((x : ℕ) × (y : ℕ) × (n ≡ Await x y)) → (t : CounterTurn) × (counters_left c.counters ≡ t ∷ counters_left new.counters) → PassesPlainly c new n
plain_counters c new n (inl (x, e)) went = subst (PassesPlainly c new) (sym e) went
plain_counters c new n (inr (x, y, e)) went = subst (PassesPlainly c new) (sym e) went

plain_round : (c new : Turns) (n : Next) → ((x : ℕ) × (n ≡ Signal x)) ⊎ ((x : ℕ) × (y : ℕ) × (n ≡ AwaitSignal x y)) → counters_left new.counters ≡ counters_left c.counters → PassesPlainly c new n
plain_round c new n (inl (x, e)) same = subst (PassesPlainly c new) (sym e) same
plain_round c new n (inr (x, y, e)) same = subst (PassesPlainly c new) (sym e) same

pub returns-in-Post-clause-plain : goal.returns-in-Post-clause-plain
returns-in-Post-clause-plain c = plain_counters c.args.self.now c.pass_counters.new.self c.args.next c.in-Post.is c.pass_counters.ensures.plain

pub returns-in-Signal-clause-plain : goal.returns-in-Signal-clause-plain
returns-in-Signal-clause-plain c =
    let s = c.args.self.now in plain_round s (record s { step = s.step + 1 }) c.args.next c.in-Signal.is refl

pub returns-in-Close-clause-plain : goal.returns-in-Close-clause-plain
returns-in-Close-clause-plain c =
    let s = c.args.self.now in subst (PassesPlainly s (record s { pending = slice_set s.pending c.in-Close.place false })) (sym c.in-Close.is) refl

pub returns-in-Work-clause-plain : goal.returns-in-Work-clause-plain
returns-in-Work-clause-plain c = subst (PassesPlainly c.args.self.now c.leave.new.self) (sym c.in-Work.is) c.leave.ensures.plain

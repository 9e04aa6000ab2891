use Rattle.std.proofs.Common.{◌∷◌, refl, inr}
use Rattle.turns.specs.CountersLeft.{counters_left}
use Rattle.turns.proofs.Beginnings.{awaits_begun}
use Rattle.turns.proofs.Calls.{awaits_left, awaits_of, awaits_sound, counter_stands}
use Rattle.turns.proofs.turns.Turns.pass_awaits.Goals as goal

pub pass_awaits-requires-clause-some : goal.pass_awaits-requires-clause-some
pass_awaits-requires-clause-some c = (counter_stands c.args.self.now c.requires.next.1 (inr (c.requires.next.0, c.requires.next.2))).1

pub pass_awaits-requires-clause-next : goal.pass_awaits-requires-clause-next
pass_awaits-requires-clause-next c = (c.requires.next.0, c.requires.next.1, c.requires.next.2.1.shows.next)

pub returns-clause-sound : goal.returns-clause-sound
returns-clause-sound c =
    let e = c.pass_awaits.ensures in
    awaits_sound c.args.self.now c.pass_awaits.new.self e.passed.0 e.passed.1 c.requires.sound e.sound e.program e.plan e.processor e.passed.2

pub returns-clause-passed : goal.returns-clause-passed
returns-clause-passed c =
    let (on, wanted, next) = c.requires.next in
    let a = awaits_of c.args.self.now c.pass_awaits.new.self on wanted next c.pass_awaits.ensures.passed c.pass_awaits.ensures.phase in
    (wanted, a.first ∷ a.others, awaits_left c.args.self.now c.pass_awaits.new.self on wanted next.1 a)

pub returns-clause-phase : goal.returns-clause-phase
returns-clause-phase c = λ on wanted next.
    let a = awaits_of c.args.self.now c.pass_awaits.new.self on wanted next c.pass_awaits.ensures.passed c.pass_awaits.ensures.phase in
    record { rounds = next.1.shows.rounds; none = refl; rest = a.rest; is = a.begins_next }

pub returns-clause-begins : goal.returns-clause-begins
returns-clause-begins c =
    let e = c.pass_awaits.ensures in
    awaits_begun e.passed.0 e.passed.1 (counters_left c.args.self.now.counters) (counters_left c.pass_awaits.new.self) e.passed.2

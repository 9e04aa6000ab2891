use Rattle.std.proofs.Common.{length, [], ◌∷◌, ◌++◌, if◌then◌else◌, refl, ap, sym, ◌∙◌, arith}
use Rattle.turns.specs.CountersLeft.{counters_left}
use Rattle.turns.specs.Turns.{none_pending}
use Rattle.turns.specs.TurnsLeft.{turns_left}
use Rattle.turns.proofs.Beginnings.{counter_begun}
use Rattle.turns.proofs.Steps.{counter_passed, moved, none_among}
use Rattle.turns.proofs.turns.Turns.pass_counters.Goals as goal

pub returns-clause-sound : goal.returns-clause-sound
returns-clause-sound c =
    let s = c.args.self.now in
    let n = c.requires.next in
    let passed = c.pass.ensures.passed in
    let same = ap length (counter_begun (counters_left s.counters) (counters_left c.pass.new.self) n.number passed.0 n.counter passed.1) in
    moved s c.pass.new.self none_pending c.requires.sound c.pass.ensures.sound c.pass.ensures.program c.pass.ensures.plan c.pass.ensures.processor (λ k is. none_among k is)
    (λ w. let few = c.requires.sound.few_barriers w in omega (arith, same, few)) (λ w. refl)

pub returns-clause-silent : goal.returns-clause-silent
returns-clause-silent c = λ number of is.
    let s = c.args.self.now in
    let n = c.requires.next in
    let p = counter_passed s c.pass.new.self n.rounds n.none (counters_left s.counters) number c.pass.ensures.passed.0 refl of c.pass.ensures.passed.1 in
    sym (p.1 ∙ ap (λ b. (if b then [] else p.0 ∷ []) ++ turns_left (record s { counters = c.pass.new.self; pending = none_pending })) is)

pub returns-clause-passed : goal.returns-clause-passed
returns-clause-passed c = λ number of is.
    let s = c.args.self.now in
    let n = c.requires.next in
    let p = counter_passed s c.pass.new.self n.rounds n.none (counters_left s.counters) number c.pass.ensures.passed.0 refl of c.pass.ensures.passed.1 in
    (p.0, p.1 ∙ ap (λ b. (if b then [] else p.0 ∷ []) ++ turns_left (record s { counters = c.pass.new.self; pending = none_pending })) is)

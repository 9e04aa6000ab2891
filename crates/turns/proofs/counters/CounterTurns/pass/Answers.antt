use Rattle.std.proofs.Common.{◌||◌, ◌==◌, not, false, suc, ◌<◌, List, ◌∷◌, ◌++◌, map, None, sym, ◌∙◌, ap, arith}
use Rattle.sync_plan.specs.ProcessorSets.{members}
use Rattle.nest_walk.specs.InstancesLeft.{instances_left}
use Rattle.owner_partition.specs.PhasesLeft.{phases_left, phases_passed}
use Rattle.turns.specs.CounterTurns.{CounterTurn, begins, posts, works, boundary_turns, counter_turns}
use Rattle.turns.specs.CountersLeft.{begun_by, come_of, counters_plan, counters_rounds, counters_tree}
use Rattle.turns.specs.declared.counters.CounterTurns.{CounterTurns}
use Rattle.turns.proofs.CounterLists.{await_first, begin_first, come_is, no_boundary, no_front, none_is, some_is, some_word, sound_less, work_first}
use Rattle.turns.proofs.counters.CounterTurns.pass.Goals as goal

-- what stands behind the instance that has come, and behind the boundary
abbrev later : CounterTurns → List CounterTurn
later c = map works (instances_left c.own) ++ counter_turns (counters_tree c) (counters_plan c) c.processor (suc (phases_passed c.phases)) (phases_left c.phases)

abbrev come : CounterTurns → List CounterTurn
come c = map works (come_of (counters_tree c) (counters_rounds c) c.come) ++ later c

abbrev behind : CounterTurns → List CounterTurn
behind c = begun_by c.begins ++ come c

pub returns-then-self-clause-passed : goal.returns-then-self-clause-passed
returns-then-self-clause-passed c =
    let t = c.args.self.now in
    (posts t.number, ap (λ b. boundary_turns t.number b (members t.awaits) ++ behind t) c.if-self.true)

pub returns-then-self-ne0-clause-passed : goal.returns-then-self-ne0-clause-passed
returns-then-self-ne0-clause-passed c =
    let t = c.args.self.now in
    let some : 0 < t.awaits = omega (arith, c.if-self-ne0.true) in
    (_, await_first t.number t.awaits t.posts (behind t) c.if-self.false some (omega arith))

pub returns-then-is_some-clause-passed : goal.returns-then-is_some-clause-passed
returns-then-is_some-clause-passed c =
    let t = c.args.self.now in
    let (e, is) = some_is t.begins (sym c.is_some.ensures ∙ c.if-is_some.true) in
    (begins e, begin_first t.number t.awaits e t.posts t.begins (come t) c.if-self.false c.if-self-ne0.false is ∙ ap (λ l. begins e ∷ (l ++ come t)) (sym (no_boundary t.number t.awaits t.posts c.if-self.false c.if-self-ne0.false)))

pub returns-else-is_some-clause-passed : goal.returns-else-is_some-clause-passed
returns-else-is_some-clause-passed c =
    let t = c.args.self.now in
    let none = none_is t.begins (sym c.is_some.ensures ∙ c.if-is_some.false) in
    let (i, is) = work_first t.number t.awaits t.posts t.begins (counters_tree t) (counters_rounds t) t.come (later t) c.if-self.false c.if-self-ne0.false none (come_is t.posts t.awaits t.begins t.come c.if-self.false c.if-self-ne0.false none c.requires.some) c.requires.sound.one in
    (works i, is)

pub returns-then-self-clause-sound : goal.returns-then-self-clause-sound
returns-then-self-clause-sound c =
    let t = c.args.self.now in
    let here = ap (λ b. b || not (t.awaits == 0)) c.if-self.true in
    sound_less t c.requires.sound false t.awaits t.begins t.come (λ h. ((c.requires.sound.boundary here).phase, here)) c.requires.sound.begun c.requires.sound.one

pub returns-then-self-ne0-clause-sound : goal.returns-then-self-ne0-clause-sound
returns-then-self-ne0-clause-sound c =
    let t = c.args.self.now in
    let here = some_word t.posts t.awaits (omega (arith, c.if-self-ne0.true)) in
    sound_less t c.requires.sound t.posts _ t.begins t.come (λ h. ((c.requires.sound.boundary here).phase, here)) c.requires.sound.begun c.requires.sound.one

pub returns-then-is_some-clause-sound : goal.returns-then-is_some-clause-sound
returns-then-is_some-clause-sound c =
    let t = c.args.self.now in
    sound_less t c.requires.sound t.posts t.awaits None t.come (λ h. absurd (no_front t.posts t.awaits c.if-self.false c.if-self-ne0.false h)) tt c.requires.sound.one

pub returns-else-is_some-clause-sound : goal.returns-else-is_some-clause-sound
returns-else-is_some-clause-sound c =
    let t = c.args.self.now in
    sound_less t c.requires.sound t.posts t.awaits t.begins None (λ h. absurd (no_front t.posts t.awaits c.if-self.false c.if-self-ne0.false h)) c.requires.sound.begun tt

use Rattle.std.proofs.Common.{suc, List, ◌∷◌, ◌++◌, map, refl, sym, ap, ◌∙◌}
use Rattle.nest_walk.specs.InstancesLeft.{instances_left}
use Rattle.owner_partition.specs.PhasesLeft.{phases_left, phases_passed}
use Rattle.sync_plan.specs.ProcessorSets.{members}
use Rattle.turns.specs.CounterTurns.{CounterTurn, awaits, begins, boundary_turns, counter_turns, works}
use Rattle.turns.specs.CountersLeft.{begun_by, come_of, counters_plan, counters_rounds, counters_tree}
use Rattle.turns.specs.declared.counters.CounterTurns.{CounterTurns}
use Rattle.turns.proofs.CounterLists.{await_stands, begin_first, no_boundary, same_number, some_word}
use Rattle.turns.proofs.counters.CounterTurns.pass_awaits.Goals as goal

-- what stands behind the beginning of the phase
abbrev come : CounterTurns → List CounterTurn
come c = map works (come_of (counters_tree c) (counters_rounds c) c.come) ++ (map works (instances_left c.own) ++ counter_turns (counters_tree c) (counters_plan c) c.processor (suc (phases_passed c.phases)) (phases_left c.phases))

abbrev behind : CounterTurns → List CounterTurn
behind c = begun_by c.begins ++ come c

pub returns-clause-passed : goal.returns-clause-passed
returns-clause-passed c =
    let t = c.args.self.now in
    let (on, wanted, next) = c.requires.next in
    let stands = await_stands t on wanted next.0 c.requires.sound c.requires.some next.1 in
    let none = no_boundary t.number 0 t.posts stands.0 refl in (
      t.number,
      members t.awaits,
      ap (λ b. boundary_turns t.number b (members t.awaits) ++ behind t) stands.0 ∙ ap (λ l. map (λ q. awaits q t.number) (members t.awaits) ++ (l ++ behind t)) (sym none),
    )

pub returns-clause-phase : goal.returns-clause-phase
returns-clause-phase c = λ on wanted next.
    let t = c.args.self.now in
    let stands = await_stands t on wanted next.0 c.requires.sound c.requires.some next.1 in
    let phase = (c.requires.sound.boundary (some_word t.posts t.awaits stands.1)).phase in
    let here = ap (λ b. boundary_turns t.number b (members t.awaits) ++ behind t) stands.0 ∙ ap (λ o. map (λ q. awaits q t.number) (members t.awaits) ++ (begun_by o ++ come t)) phase in
    let same = same_number t.number on wanted (suc t.number) (members t.awaits) (come t) next.0 (sym here ∙ next.1) in
    (come t, begin_first t.number 0 (suc t.number) t.posts t.begins (come t) stands.0 refl phase ∙ ap (λ n. begins (suc n) ∷ come t) (sym same))

use Rattle.std.proofs.Common.{◌||◌, ◌==◌, not, suc, ◌^◌, ◌<◌, List, ◌++◌, map, ap, subst, ◌∙◌, arith}
use Rattle.sync_plan.specs.ProcessorSets.{members}
use Rattle.sync_plan.proofs.ProcessorSets.{members_first}
use Rattle.nest_walk.specs.InstancesLeft.{instances_left}
use Rattle.owner_partition.specs.PhasesLeft.{phases_left, phases_passed}
use Rattle.turns.specs.CounterTurns.{CounterTurn, awaits, works, boundary_turns, counter_turns}
use Rattle.turns.specs.CountersLeft.{IsOne, begun_by, come_of, counters_plan, counters_rounds, counters_tree}
use Rattle.turns.specs.declared.counters.CounterTurns.{CounterTurns}
use Rattle.turns.proofs.CounterLists.{begin_first, no_boundary, some_word}
use Rattle.turns.proofs.counters.CounterTurns.next.Goals as goal

-- what stands behind the boundary
abbrev come : CounterTurns → List CounterTurn
come c = map works (come_of (counters_tree c) (counters_rounds c) c.come) ++ (map works (instances_left c.own) ++ counter_turns (counters_tree c) (counters_plan c) c.processor (suc (phases_passed c.phases)) (phases_left c.phases))

abbrev behind : CounterTurns → List CounterTurn
behind c = begun_by c.begins ++ come c

pub returns-then-self : goal.returns-then-self
returns-then-self c =
    let t = c.args.self.now in
    (map (λ q. awaits q t.number) (members t.awaits) ++ behind t, ap (λ b. boundary_turns t.number b (members t.awaits) ++ behind t) c.if-self.true, (c.requires.sound.boundary (ap (λ b. b || not (t.awaits == 0)) c.if-self.true)).passed)

pub returns-then-self-ne0 : goal.returns-then-self-ne0
returns-then-self-ne0 c =
    let t = c.args.self.now in
    let some : 0 < t.awaits = omega (arith, c.if-self-ne0.true) in
    let small : t.awaits < 2 ^ 64 = omega arith in
    (_, ap (λ b. boundary_turns t.number b (members t.awaits) ++ behind t) c.if-self.false ∙ ap (λ ms. map (λ q. awaits q t.number) ms ++ behind t) (members_first t.awaits some small), (c.requires.sound.boundary (some_word t.posts t.awaits some)).passed)

pub returns-in-Some : goal.returns-in-Some
returns-in-Some c =
    let t = c.args.self.now in
    (come t, begin_first t.number t.awaits c.in-Some.phase t.posts t.begins (come t) c.if-self.false c.if-self-ne0.false c.in-Some.is)

pub returns-in-Some-come : goal.returns-in-Some-come
returns-in-Some-come c =
    let t = c.args.self.now in
    let one = subst (IsOne (counters_tree t) (counters_rounds t)) c.in-Some-come.is c.requires.sound.one in
    let later = map works (instances_left t.own) ++ counter_turns (counters_tree t) (counters_plan t) t.processor (suc (phases_passed t.phases)) (phases_left t.phases) in (
      one,
      later,
      ap (λ l. l ++ behind t) (no_boundary t.number t.awaits t.posts c.if-self.false c.if-self-ne0.false)
          ∙ ap (λ b. begun_by b ++ come t) c.in_default.is
          ∙ ap (λ o. map works (come_of (counters_tree t) (counters_rounds t) o) ++ later) c.in-Some-come.is
          ∙ ap (λ is. map works is ++ later) one.is,
    )

use Rattle.std.proofs.Common.{◌≡◌, ◌++◌, ◌∷◌, [], List, is_some, map, ap, suc, sym, subst, ◌∙◌}
use Rattle.std.specs.Option.{MatchOption}
use Rattle.nest_tree.specs.Tree.{param_values}
use Rattle.nest_model.specs.Instances.{Instance}
use Rattle.nest_model.specs.Visits.{instances_at}
use Rattle.nest_walk.specs.Cursors.{visit_at}
use Rattle.nest_walk.specs.InstancesLeft.{instances_left, instances_rounds, instances_tree}
use Rattle.nest_walk.specs.declared.cursor.Stop.{Stop}
use Rattle.nest_walk.specs.declared.instances.Instances.{Instances}
use Rattle.owner_partition.specs.PhasesLeft.{phases_left, phases_passed}
use Rattle.sync_plan.specs.ProcessorSets.{members}
use Rattle.turns.specs.CounterTurns.{CounterTurn, boundary_turns, counter_turns, works}
use Rattle.turns.specs.CountersLeft.{begun_by, come_of, counters_plan, counters_rounds, counters_tree}
use Rattle.turns.proofs.CounterLists.{bare_parts, none_is}
use Rattle.turns.proofs.counters.CounterTurns.advance.Goals as goal

-- a stop is of the first of the instances that were left
abbrev comes_first : Instances → Instances → Stop → Type 0
comes_first old new s = (i : Instance) × (instances_at (param_values (instances_tree new)) (visit_at (instances_tree new) (instances_rounds new) s) ≡ i ∷ []) × (instances_left old ≡ i ∷ instances_left new)

pub returns-else-is_some-clause-left : goal.returns-else-is_some-clause-left
returns-else-is_some-clause-left c =
    let t = c.args.self.now in
    let tree = counters_tree t in
    let new = c.next-self.new.self in
    let bare = bare_parts t.posts t.awaits (is_some t.begins) (is_some t.come) c.requires.bare in
    let none = none_is c.next-self.result (sym c.is_some.ensures ∙ c.if-is_some.false) in
    let later = counter_turns tree (counters_plan t) t.processor (suc (phases_passed t.phases)) (phases_left t.phases) in
    let front : List CounterTurn → List CounterTurn = λ xs. boundary_turns t.number t.posts (members t.awaits) ++ (begun_by t.begins ++ xs) in
    let come : come_of tree (instances_rounds new) c.next-self.result ≡ come_of tree (counters_rounds t) t.come =
    ap (come_of tree (instances_rounds new)) none ∙ sym (ap (come_of tree (counters_rounds t)) (none_is t.come bare.none_come)) in
    let own : instances_left new ≡ instances_left t.own =
    subst (λ o. MatchOption o (instances_left new ≡ []) (λ s. Unit {0})) none c.next-self.ensures.end ∙ sym (subst (λ o. MatchOption o (instances_left t.own ≡ []) (comes_first t.own new)) none c.next-self.ensures.instance) in
    c.enter.ensures.left ∙ ap (λ xs. front (map works xs ++ (map works (instances_left new) ++ later))) come
    ∙ ap (λ xs. front (map works (come_of tree (counters_rounds t) t.come) ++ (map works xs ++ later))) own

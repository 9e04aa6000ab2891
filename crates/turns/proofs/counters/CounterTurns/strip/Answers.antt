use Rattle.std.proofs.Common.{◌≡◌, suc, is_some, List, [], ◌++◌, map, Option, Some, None, sym, subst, ◌∙◌}
use Rattle.std.specs.Option.{MatchOption}
use Rattle.nest_model.specs.Instances.{Instance}
use Rattle.nest_walk.specs.InstancesLeft.{instances_left, instances_rounds}
use Rattle.nest_walk.specs.Strips.{strip_left}
use Rattle.nest_walk.specs.declared.strip.Strip.{Strip}
use Rattle.owner_partition.specs.PhasesLeft.{phases_left, phases_passed}
use Rattle.turns.specs.CounterTurns.{CounterTurn, counter_turns, works}
use Rattle.turns.specs.CountersLeft.{counters_plan, counters_rounds, counters_tree}
use Rattle.turns.specs.CountersLeft.{IsOne}
use Rattle.turns.proofs.CounterLists.{bare_parts, none_is, strip_turns}
use Rattle.turns.proofs.counters.CounterTurns.strip.Goals as goal

of_strip : (o : Option Strip) (old own : List Instance) (before : List CounterTurn) (after : List CounterTurn) → ((front : List Instance) → old ≡ front ++ own → before ≡ map works front ++ after) → MatchOption o (own ≡ old) (λ s. old ≡ strip_left s ++ own) →
    MatchOption o (after ≡ before) (λ s. before ≡ map works (strip_left s) ++ after)
of_strip None old own before after along h = sym (along [] (sym h))
of_strip (Some s) old own before after along h = along (strip_left s) h

pub returns-clause-left : goal.returns-clause-left
returns-clause-left c =
    let t = c.args.self.now in
    let new = c.strip.new.self in
    let bare = bare_parts t.posts t.awaits (is_some t.begins) (is_some t.come) (sym c.is_at_turn.ensures ∙ c.if-is_at_turn.false) in
    of_strip c.strip.result (instances_left t.own) (instances_left new) _ _
    (λ front is. strip_turns (counters_tree t) t.number t.awaits t.posts t.begins t.come bare (counter_turns (counters_tree t) (counters_plan t) t.processor (suc (phases_passed t.phases)) (phases_left t.phases)) (counters_rounds t) (instances_rounds new) (instances_left t.own) front (instances_left new) is)
    c.strip.ensures.instances

pub returns-clause-sound : goal.returns-clause-sound
returns-clause-sound c =
    let t = c.args.self.now in
    let old = c.requires in
    let bare = bare_parts t.posts t.awaits (is_some t.begins) (is_some t.come) (sym c.is_at_turn.ensures ∙ c.if-is_at_turn.false) in
    record {
      formed = old.formed;
      fits = old.fits;
      worker = old.worker;
      walked = old.walked;
      owned = c.strip.ensures.program ∙ old.owned;
      entered = old.entered;
      behind = old.behind;
      boundary = λ some. let front = old.boundary some in record { passed = front.passed; phase = front.phase };
      begun = old.begun;
      one = subst (IsOne (counters_tree t) (instances_rounds c.strip.new.self)) (sym (none_is t.come bare.none_come)) tt;
    }

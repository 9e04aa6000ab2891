use Rattle.std.proofs.Common.{◌≡◌, ◌<◌, ◌^◌, pos, ◌∷◌, ◌+◌, ap, sym, subst, ◌∙◌, rules, arith}
use Rattle.nest_tree.specs.Tree.{do_loop, done}
use Rattle.nest_tree.specs.View.{statement_of, statements_from, tree_of}
use Rattle.nest_model.specs.Instances.{works_of}
use Rattle.nest_model.specs.Visits.{every}
use Rattle.nest_walk.specs.Cursors.{left_of}
use Rattle.nest_walk.specs.Frames.{head_of, levels_to}
use Rattle.nest_walk.specs.InText.{AreInText}
use Rattle.nest_walk.specs.Places.{numbers_of}
use Rattle.nest_walk.specs.RoundsOf.{rounds_of}
use Rattle.nest_walk.specs.Texts.{StandFrom, placed_in, works}
use Rattle.nest_walk.specs.TripsLeft.{trips_left}
use Rattle.nest_walk.specs.Walks.{Level, Stretch, is_sound, left}
use Rattle.nest_walk.proofs.Alone.{Reached, ended_round, levels_round, reached, trips_left_is, trips_room, trips_sound, trips_text, whole_walk}
use Rattle.nest_walk.proofs.CursorMoves.{put_level}
use Rattle.nest_walk.proofs.Trees.{statement_of-Loop}
use Rattle.nest_walk.proofs.cursor.Cursor.restart_trips.Goals as goal
use Rattle.nest_walk.proofs.cursor.Cursor.restart_trips.Goals.{Start, After-push}

-- the loop as a statement
loop_is : (c : Start) → statement_of c.args.stop.item.now ≡ do_loop (head_of c.args.nest.now) (statements_from c.args.nest.now.items.items)
loop_is c = ap statement_of c.requires.nest ∙ statement_of-Loop c.args.nest.now

loop_reached : (c : Start) → Reached (tree_of c.args.self.now.program.now) (rounds_of c.args.path.now) (do_loop (head_of c.args.nest.now) (statements_from c.args.nest.now.items.items)) c.args.stop.first
loop_reached c =
    subst (λ s. Reached (tree_of c.args.self.now.program.now) (rounds_of c.args.path.now) s c.args.stop.first) (loop_is c) (reached (tree_of c.args.self.now.program.now) (rounds_of c.args.path.now) c.args.stop c.requires.reached)

loop_text : (c : Start) → StandFrom (works (tree_of c.args.self.now.program.now)) c.args.stop.first (placed_in every (numbers_of (rounds_of c.args.path.now)) (do_loop (head_of c.args.nest.now) (statements_from c.args.nest.now.items.items)))
loop_text c = subst (λ s. StandFrom (works (tree_of c.args.self.now.program.now)) c.args.stop.first (placed_in every (numbers_of (rounds_of c.args.path.now)) s)) (loop_is c) c.requires.text

pub work_count-requires : goal.work_count-requires
work_count-requires c =
    let few = (loop_reached (goal.at.work_count-requires c).Start).few in
    rw c.deref.ensures.value (omega (arith, few))

pub overflow_add-end : goal.overflow_add-end
overflow_add-end c =
    let few = (loop_reached (goal.at.overflow_add-end c).Start).few in
    let works = c.work_count.ensures ∙ ap (λ items. works_of (statements_from items)) c.deref.ensures.value in
    let sum : c.args.stop.first + c.work_count.result < 2 ^ 32 = omega (arith, few, works) in
    search rules

pub end-requires : goal.end-requires
end-requires c = c.depth-depth.ensures.within

pub put-requires : goal.put-requires
put-requires c =
    let k = (goal.at.put-requires c).Start in
    omega (arith, c.depth-depth.ensures.count, trips_room (tree_of c.args.self.now.program.now) (rounds_of c.args.path.now) _ _ c.args.stop.first (loop_reached k) (loop_text k) (trips_left c.args.trips) c.requires.trips)

pub push-requires : goal.push-requires
push-requires c =
    let k = (goal.at.push-requires c).Start in
    trips_room (tree_of c.args.self.now.program.now) (rounds_of c.args.path.now) _ _ c.args.stop.first (loop_reached k) (loop_text k) (trips_left c.args.trips) c.requires.trips

-- how the loop's body ends
end_is : (c : After-push) → c.args.stop.first + c.work_count.result ≡ c.args.stop.first + works_of (statements_from c.args.nest.now.items.items)
end_is c = ap (λ n. c.args.stop.first + n) (c.work_count.ensures ∙ ap (λ items. works_of (statements_from items)) c.deref.ensures.value)

-- the loops that the cursor is in
levels_are : (c : After-push) →
    let nest = c.args.nest.now in
    let first = c.args.stop.first in
    levels_to c.put.new.self.all c.push.new.self.depth
    ≡ record { body = record { statements = statements_from nest.items.items; place = first; first = first }; later = trips_left c.args.trips; behind = done } ∷ ended_round (rounds_of c.args.path.now) (first + c.work_count.result)
levels_are c =
    let nest = c.args.nest.now in
    let first = c.args.stop.first in
    let end = first + c.work_count.result in
    put_level c.args.path.now c.push.new.self (record { number = nest.number; value = pos 0 }) c.end.new.self.all c.put.new.self.all c.depth-depth.result _ _ (ended_round (rounds_of c.args.path.now) end) c.depth-depth.ensures.count c.push.ensures
    c.put.ensures.all c.put.ensures.room (ap (λ items. record { body = record { statements = statements_from items; place = first; first = first }; later = trips_left c.args.trips; behind = done }) c.deref-2.ensures.value)
    (levels_round c.args.path.now c.end.new.self.all c.depth-depth.result end c.depth-depth.ensures.count c.end.ensures)

pub invariant_of-self : goal.invariant_of-self
invariant_of-self c =
    let k = (goal.at.invariant_of-self c).Start in
    let tree = tree_of c.args.self.now.program.now in
    let rounds = rounds_of c.args.path.now in
    let first = c.args.stop.first in
    let end = first + c.work_count.result in
    let body = statements_from c.args.nest.now.items.items in
    let later = trips_left c.args.trips in
    let inner : Level = record { body = record { statements = body; place = first; first = first }; later = later; behind = done } in
    let ends : Stretch = record { statements = done; place = end; first = end } in
    let pushed = (goal.at.invariant_of-self c).After-push in
    let levels = levels_are pushed in record {
      sound = ap (λ rs. is_sound (whole_walk tree) rs (levels_to c.put.new.self.all c.push.new.self.depth) ends) c.push.ensures
          ∙ ap (λ ls. is_sound (whole_walk tree) (record { number = c.args.nest.now.number; value = pos 0 } ∷ rounds) ls ends) levels
          ∙ trips_sound tree rounds (head_of c.args.nest.now) body first (loop_reached k) (loop_text k) later c.requires.trips end (end_is pushed);
      texts = subst (λ rs. AreInText tree (whole_walk tree) rs (levels_to c.put.new.self.all c.push.new.self.depth) ends) (sym c.push.ensures)
          (subst (λ ls. AreInText tree (whole_walk tree) (record { number = c.args.nest.now.number; value = pos 0 } ∷ rounds) ls ends) (sym levels)
          (trips_text tree rounds (head_of c.args.nest.now) body first (loop_reached k) (loop_text k) later c.requires.trips end (end_is pushed)));
    }

pub returns-clause-visits : goal.returns-clause-visits
unfolding left_of
returns-clause-visits c =
    let k = (goal.at.returns-clause-visits c).Start in
    let tree = tree_of c.args.self.now.program.now in
    let rounds = rounds_of c.args.path.now in
    let first = c.args.stop.first in
    let end = first + c.work_count.result in
    let body = statements_from c.args.nest.now.items.items in
    let later = trips_left c.args.trips in
    let ends : Stretch = record { statements = done; place = end; first = end } in
    ap (λ rs. left (whole_walk tree) rs (levels_to c.put.new.self.all c.push.new.self.depth) ends) c.push.ensures
    ∙ ap (λ ls. left (whole_walk tree) (record { number = c.args.nest.now.number; value = pos 0 } ∷ rounds) ls ends) (levels_are ((goal.at.returns-clause-visits c).After-push))
    ∙ trips_left_is tree rounds (head_of c.args.nest.now) body first (loop_reached k) (loop_text k) later c.requires.trips end

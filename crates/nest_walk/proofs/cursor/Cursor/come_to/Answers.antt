use Rattle.std.proofs.Common.{◌≡◌, ◌∷◌, ◌++◌, [], ℤ, List, ap, sym, ◌∙◌, arith, if◌then◌else◌}
use Rattle.std.specs.List.{flat_map}
use Rattle.nest_tree.specs.Tree.{do_loop}
use Rattle.nest_tree.specs.View.{statement_of, statements_from}
use Rattle.nest_model.specs.Instances.{head_trips, with_loop, works_in, works_of}
use Rattle.nest_model.specs.Visits.{Visit, stops_in, stops_of, visits_in, visits_of}
use Rattle.nest_walk.specs.Cursors.{left_of, moves_to_go}
use Rattle.nest_walk.specs.Frames.{head_of}
use Rattle.nest_walk.specs.Paths.{by_number}
use Rattle.nest_walk.specs.RoundsOf.{rounds_of}
use Rattle.nest_walk.proofs.CursorMoves.{head_there, numbers_there, passes, walk_of}
use Rattle.nest_walk.proofs.Trees.{statement_of-Loop}
use Rattle.nest_walk.proofs.cursor.Cursor.come_to.Goals as goal
use Rattle.nest_walk.proofs.cursor.Cursor.come_to.Goals.{Start}

pub of_nest-trips-requires-clause-numbered : goal.of_nest-trips-requires-clause-numbered
of_nest-trips-requires-clause-numbered c = numbers_there c.args.self.now

pub of_nest-trips-requires-clause-head : goal.of_nest-trips-requires-clause-head
of_nest-trips-requires-clause-head c = head_there c.args.self.now c.args.nest.now c.args.behind.now (c.requires.rest ∙ ap (λ i. i ∷ c.args.behind.now) c.requires.nest)

-- how many stops and pieces of work there are in the loop
stops_are : (c : Start) → stops_of (walk_of c.args.self.now).enters (statements_from c.args.nest.now.items.items) ≡ stops_in (walk_of c.args.self.now).enters (statement_of c.args.item.now)
stops_are c =
    let old = c.args.self.now in
    let body = statements_from c.args.nest.now.items.items in
    sym (ap (λ i. stops_in (walk_of old).enters (statement_of i)) c.requires.nest ∙ ap (stops_in (walk_of old).enters) (statement_of-Loop c.args.nest.now)
    ∙ ap (λ b. if b then stops_of (walk_of old).enters body else 1) c.requires.entered)

works_are : (c : Start) → works_of (statements_from c.args.nest.now.items.items) ≡ works_in (statement_of c.args.item.now)
works_are c = sym (ap (λ i. works_in (statement_of i)) c.requires.nest ∙ ap works_in (statement_of-Loop c.args.nest.now))

pub stop_count-stops-requires : goal.stop_count-stops-requires
stop_count-stops-requires c =
    let k = (goal.at.stop_count-stops-requires c).Start in
    let p = passes c.args.self.now c.args.item.now c.args.behind.now c.requires.rest in
    rw c.deref.ensures.value (omega (arith, p.place, stops_are k))

pub work_count-works-requires : goal.work_count-works-requires
work_count-works-requires c =
    let k = (goal.at.work_count-works-requires c).Start in
    let p = passes c.args.self.now c.args.item.now c.args.behind.now c.requires.rest in
    rw c.deref-then-is_empty.ensures.value (omega (arith, p.work, works_are k))

pub advance-requires-clause-stops : goal.advance-requires-clause-stops
advance-requires-clause-stops c =
    let k = (goal.at.advance-requires-clause-stops c).Start in
    c.stop_count-stops.ensures ∙ ap (λ xs. stops_of (walk_of c.args.self.now).enters (statements_from xs)) c.deref.ensures.value ∙ stops_are k

pub advance-requires-clause-works : goal.advance-requires-clause-works
advance-requires-clause-works c =
    let k = (goal.at.advance-requires-clause-works c).Start in
    c.work_count-works.ensures ∙ ap (λ xs. works_of (statements_from xs)) c.deref-then-is_empty.ensures.value ∙ works_are k

pub enter-requires-clause-trips : goal.enter-requires-clause-trips
enter-requires-clause-trips c = c.of_nest-trips.ensures

-- a loop without trips has no stop
pub returns-then-is_empty-clause-left : goal.returns-then-is_empty-clause-left
unfolding left_of
returns-then-is_empty-clause-left c =
    let old = c.args.self.now in
    let nest = c.args.nest.now in
    let loops = by_number (walk_of old).loops (rounds_of old.path) in
    let none = sym c.of_nest-trips.ensures ∙ c.is_empty.ensures.0 c.if-is_empty.true in
    let place = c.advance.result.place in
    let first = c.advance.result.first in
    let trip : ℤ → List Visit = λ v. visits_in (walk_of old).params (walk_of old).enters (statements_from nest.items.items) place first (with_loop loops nest.number v) in
    let stop : List Visit = record { place = place; first = first; what = do_loop (head_of nest) (statements_from nest.items.items); loops = loops } ∷ [] in
    let visited : visits_of (walk_of old).params (walk_of old).enters (statement_of c.advance.result.item.now) place first loops ≡ [] =
    ap (λ i. visits_of (walk_of old).params (walk_of old).enters (statement_of i) place first loops) (c.advance.ensures.item ∙ c.requires.nest)
    ∙ ap (λ s. visits_of (walk_of old).params (walk_of old).enters s place first loops) (statement_of-Loop nest)
    ∙ ap (λ b. if b then flat_map trip (head_trips (walk_of old).params (head_of nest) loops) else stop) c.requires.entered ∙ ap (flat_map trip) none in
    sym (c.advance.ensures.left ∙ ap (λ xs. xs ++ left_of c.advance.new.self) visited)

pub returns-then-is_empty-clause-moved : goal.returns-then-is_empty-clause-moved
unfolding moves_to_go
returns-then-is_empty-clause-moved c = c.advance.ensures.moved

pub returns-else-is_empty-clause-left : goal.returns-else-is_empty-clause-left
unfolding left_of
returns-else-is_empty-clause-left c = c.enter.ensures.left

pub returns-else-is_empty-clause-moved : goal.returns-else-is_empty-clause-moved
unfolding moves_to_go
returns-else-is_empty-clause-moved c = c.enter.ensures.moved

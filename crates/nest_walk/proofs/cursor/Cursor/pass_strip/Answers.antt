use Rattle.std.proofs.Common.{◌∷◌, ◌++◌, ◌+◌, ◌^◌, ◌<◌, ℕ, ℤ, pos, List, [], ap, sym, subst, ◌∙◌, if◌then◌else◌}
use Rattle.std.specs.List.{flat_map, list_all}
use Rattle.nest_tree.specs.Form.{is_small}
use Rattle.nest_tree.specs.Tree.{do_loop, param_values}
use Rattle.nest_tree.specs.View.{statement_of, statements_from, tree_of}
use Rattle.nest_model.specs.Instances.{head_trips, with_loop, works_in, works_of}
use Rattle.nest_model.specs.Visits.{Visit, every, stops_in, stops_of, visits_in, visits_of}
use Rattle.nest_walk.specs.Cursors.{left_of, loops_in}
use Rattle.nest_walk.specs.Frames.{head_of}
use Rattle.nest_walk.specs.Places.{numbers_of}
use Rattle.nest_walk.specs.RoundsOf.{rounds_of}
use Rattle.nest_walk.specs.Texts.{StandFrom, placed_in, works}
use Rattle.nest_walk.specs.TripsLeft.{trips_left}
use Rattle.nest_walk.specs.declared.cursor.Stop.{Stop}
use Rattle.nest_walk.proofs.Alone.{reached}
use Rattle.nest_walk.proofs.CursorMoves.{head_there, loop_known, numbers_there, walk_of}
use Rattle.nest_walk.proofs.Strips.{body_is, one_stop, one_work, strip_there, strip_visited}
use Rattle.nest_walk.proofs.Trees.{statement_of-Loop}
use Rattle.nest_walk.proofs.cursor.Cursor.pass_strip.Goals as goal

pub of_nest-trips-requires-clause-numbered : goal.of_nest-trips-requires-clause-numbered
of_nest-trips-requires-clause-numbered c = numbers_there c.args.self.now

pub of_nest-trips-requires-clause-head : goal.of_nest-trips-requires-clause-head
of_nest-trips-requires-clause-head c = head_there c.args.self.now c.args.nest.now c.args.behind.now (c.requires.rest ∙ ap (λ i. i ∷ c.args.behind.now) c.requires.nest)

pub push-requires : goal.push-requires
push-requires c = (loop_known c.args.self.now c.args.nest.now c.args.behind.now (c.requires.rest ∙ ap (λ i. i ∷ c.args.behind.now) c.requires.nest)).room

pub advance-place-requires-clause-stops : goal.advance-place-requires-clause-stops
advance-place-requires-clause-stops c =
    let enters = (walk_of c.args.self.now).enters in
    let nest = c.args.nest.now in
    let only = c.requires.only in
    sym (ap (λ i. stops_in enters (statement_of i)) c.requires.nest ∙ ap (stops_in enters) (statement_of-Loop nest)
    ∙ ap (λ b. if b then stops_of enters (statements_from nest.items.items) else 1) c.requires.entered
    ∙ ap (stops_of enters) (body_is nest.items.items c.args.only.now only.0 only.1 only.2 only.3 only.4 only.5) ∙ one_stop enters only.0 only.1 only.2 only.3)

pub advance-place-requires-clause-works : goal.advance-place-requires-clause-works
advance-place-requires-clause-works c =
    let nest = c.args.nest.now in
    let only = c.requires.only in
    sym (ap (λ i. works_in (statement_of i)) c.requires.nest ∙ ap works_in (statement_of-Loop nest)
    ∙ ap works_of (body_is nest.items.items c.args.only.now only.0 only.1 only.2 only.3 only.4 only.5) ∙ one_work only.0 only.1 only.2 only.3)

pub invariant_of-result : goal.invariant_of-result
invariant_of-result c =
    let old = c.args.self.now in
    let tree = tree_of old.program.now in
    let nest = c.args.nest.now in
    let only = c.requires.only in
    let stop = c.advance-place.result in
    let rounds = rounds_of old.path in
    let s : Stop = record { item = c.args.only; place = stop.place; first = stop.first } in
    let known = loop_known old nest c.args.behind.now (c.requires.rest ∙ ap (λ i. i ∷ c.args.behind.now) c.requires.nest) in
    let body = body_is nest.items.items c.args.only.now only.0 only.1 only.2 only.3 only.4 only.5 in
    let is = ap statement_of (c.advance-place.ensures.item ∙ c.requires.nest) ∙ statement_of-Loop nest in
    let count = ap works_in is ∙ ap works_of body ∙ one_work only.0 only.1 only.2 only.3 in
    let few : stop.first + 1 < 2 ^ 32 = subst (λ (n : ℕ). stop.first + n < 2 ^ 32) count (reached tree rounds stop c.advance-place.ensures.reached).few in
    let text = subst (λ x. StandFrom (works tree) stop.first (placed_in every (numbers_of rounds) x)) is c.advance-place.ensures.text.works in
    let at = strip_there tree rounds nest.number s only.0 only.1 only.2 only.3 only.4 (pos 0) (rounds_of c.push.new.self) (statements_from nest.items.items) c.push.ensures body known.number (numbers_there old) few text in
    record { plain = at.plain; inside = at.inside; small = ap (list_all is_small) c.of_nest-trips.ensures ∙ known.small; reached = at.reached; text = at.text }

pub returns-clause-left : goal.returns-clause-left
returns-clause-left c =
    let old = c.args.self.now in
    let tree = tree_of old.program.now in
    let params = param_values tree in
    let enters = (walk_of old).enters in
    let nest = c.args.nest.now in
    let only = c.requires.only in
    let stop = c.advance-place.result in
    let rounds = rounds_of old.path in
    let loops = loops_in tree rounds in
    let s : Stop = record { item = c.args.only; place = stop.place; first = stop.first } in
    let statements = statements_from nest.items.items in
    let body = body_is nest.items.items c.args.only.now only.0 only.1 only.2 only.3 only.4 only.5 in
    let is = ap statement_of (c.advance-place.ensures.item ∙ c.requires.nest) ∙ statement_of-Loop nest in
    let trip : ℤ → List Visit = λ v. visits_in params enters statements stop.place stop.first (with_loop loops nest.number v) in
    let whole : List Visit = record { place = stop.place; first = stop.first; what = do_loop (head_of nest) statements; loops = loops } ∷ [] in
    let visited = ap (λ x. visits_of params enters x stop.place stop.first loops) is ∙ ap (λ b. if b then flat_map trip (head_trips params (head_of nest) loops) else whole) c.requires.entered
    ∙ ap (flat_map trip) (sym c.of_nest-trips.ensures)
    ∙ strip_visited tree rounds nest.number s only.0 only.1 only.2 only.3 only.4 enters (pos 0) (rounds_of c.push.new.self) statements (trips_left c.of_nest-trips.result) c.push.ensures body in
    c.advance-place.ensures.left ∙ ap (λ xs. xs ++ left_of c.advance-place.new.self) visited

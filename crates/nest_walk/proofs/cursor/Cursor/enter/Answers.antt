use Rattle.std.proofs.Common.{◌≡◌, ◌∷◌, ap, sym, ◌∙◌, refl, rules, arith, w64, FitsSigned}
use Rattle.std.specs.List.{list_all}
use Rattle.std.proofs.lemmas.Int.{to_z-of_z}
use Rattle.nest_tree.specs.Form.{is_small}
use Rattle.nest_tree.specs.View.{statements_from, tree_of}
use Rattle.nest_walk.specs.Cursors.{left_of, moves_to_go}
use Rattle.nest_walk.specs.Frames.{levels_to, stretch_of}
use Rattle.nest_walk.specs.RoundsOf.{rounds_of}
use Rattle.nest_walk.specs.TripsLeft.{trips_left}
use Rattle.nest_walk.specs.Paths.{Round}
use Rattle.nest_walk.specs.Walks.{Stretch, Level}
use Rattle.nest_walk.specs.declared.frame.Frame.{Frame}
use Rattle.nest_walk.proofs.CursorMoves.{KeptBy, enters, levels_of, loop_known, put_level}
use Rattle.nest_walk.proofs.cursor.Cursor.enter.Goals as goal
use Rattle.nest_walk.proofs.cursor.Cursor.enter.Goals.{After-push}

pub take-value-requires-clause-small : goal.take-value-requires-clause-small
take-value-requires-clause-small c =
    let f = loop_known c.args.self.now c.args.nest.now c.args.behind.now c.requires.rest in
    ap (list_all is_small) c.requires.trips ∙ f.small

pub put-requires : goal.put-requires
put-requires c =
    let f = loop_known c.args.self.now c.args.nest.now c.args.behind.now c.requires.rest in
    omega (arith, c.depth-depth.ensures.count, f.room)

pub push-requires : goal.push-requires
push-requires c = (loop_known c.args.self.now c.args.nest.now c.args.behind.now c.requires.rest).room

kept : (c : After-push) →
    KeptBy c.args.self.now (rounds_of c.push.new.self) (levels_to c.put.new.self.all c.push.new.self.depth)
    (stretch_of (record { items = c.deref.result; place = c.args.self.now.rest.place; first = c.args.self.now.rest.first }))
kept c =
    let old = c.args.self.now in
    let nest = c.args.nest.now in
    let depth = c.depth-depth.result in
    let fits : FitsSigned w64 c.take-value.result = search rules in
    let frame : Frame = record { body = record { items = c.deref.result; place = old.rest.place; first = old.rest.first }; later = c.take-value.new.self; behind = c.args.behind } in
    let inner : Round = record { number = nest.number; value = c.take-value.result } in
    let pushed : rounds_of c.push.new.self ≡ inner ∷ rounds_of old.path =
    c.push.ensures ∙ ap (λ v. record { number = nest.number; value = v } ∷ rounds_of old.path) (to_z-of_z w64 c.take-value.result fits) in
    let body : Stretch = record { statements = statements_from nest.items.items; place = old.rest.place; first = old.rest.first } in
    let same : stretch_of frame.body ≡ body = ap (λ items. record { statements = statements_from items; place = old.rest.place; first = old.rest.first }) c.deref.ensures.value in
    let level : Level = record { body = body; later = trips_left c.take-value.new.self; behind = statements_from c.args.behind.now } in
    let levels : levels_to c.put.new.self.all c.push.new.self.depth ≡ level ∷ levels_of old =
    put_level old.path c.push.new.self inner old.frames.all c.put.new.self.all depth frame level (levels_of old) c.depth-depth.ensures.count pushed c.put.ensures.all c.put.ensures.room
    (ap (λ b. record { body = b; later = trips_left c.take-value.new.self; behind = statements_from c.args.behind.now }) same) refl in
    enters old nest c.args.behind.now c.take-value.result (trips_left c.take-value.new.self) c.requires.rest c.requires.entered (sym c.requires.trips ∙ c.take-value.ensures)
    (rounds_of c.push.new.self) (levels_to c.put.new.self.all c.push.new.self.depth) (stretch_of frame.body) pushed levels same

pub invariant_of-self : goal.invariant_of-self
invariant_of-self c = record { sound = (kept c).sound; texts = (kept c).texts (tree_of c.args.self.now.program.now) c.args.self.now.texts }

pub returns-clause-left : goal.returns-clause-left
unfolding left_of
returns-clause-left c = (kept (goal.at.returns-clause-left c).After-push).left_is

pub returns-clause-moved : goal.returns-clause-moved
unfolding moves_to_go
returns-clause-moved c = (kept (goal.at.returns-clause-moved c).After-push).moves_are

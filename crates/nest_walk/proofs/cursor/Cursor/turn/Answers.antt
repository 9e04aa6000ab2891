use Rattle.std.proofs.Common.{◌≡◌, ◌-◌, ◌∷◌, [], ap, sym, ◌∙◌, true, suc, rules, w64, FitsSigned, refl}
use Rattle.std.specs.List.{list_all}
use Rattle.std.proofs.lemmas.Int.{to_z-of_z}
use Rattle.std.proofs.lemmas.List.{nil_from_length}
use Rattle.nest_tree.specs.Form.{is_small}
use Rattle.nest_tree.specs.View.{statements_from, tree_of}
use Rattle.nest_walk.specs.Cursors.{left_of, moves_to_go}
use Rattle.nest_walk.specs.Frames.{level_of, levels_to, stretch_of}
use Rattle.nest_walk.specs.Paths.{Round}
use Rattle.nest_walk.specs.RoundsOf.{rounds_of}
use Rattle.nest_walk.specs.TripsLeft.{trips_left}
use Rattle.nest_walk.specs.Walks.{left}
use Rattle.nest_walk.specs.declared.frame.Frame.{Frame}
use Rattle.nest_walk.proofs.CursorMoves.{KeptBy, comes_again, comes_out, depth_is, depth_of, inner_sound, innermost, levels_of, outer_rounds, rounds_are, walk_of}
use Rattle.nest_walk.proofs.Levels.{levels_to-put}
use Rattle.nest_walk.proofs.PathLists.{rounds_to-length}
use Rattle.nest_walk.proofs.WalkMoves.{inside, all_small}
use Rattle.nest_walk.proofs.cursor.Cursor.turn.Goals as goal
use Rattle.nest_walk.proofs.cursor.Cursor.turn.Goals.{After-at-frame, After-pop, After-self-else-is_empty-1}

pub returns-then-depth-eq0-clause-end : goal.returns-then-depth-eq0-clause-end
unfolding left_of
returns-then-depth-eq0-clause-end c = λ h.
    let old = c.args.self.now in
    let none : rounds_of old.path ≡ [] = nil_from_length (rounds_of old.path) (sym c.depth-depth.ensures.count ∙ c.if-depth-eq0.true) in
    ap (λ rounds. left (walk_of old) rounds (levels_of old) (stretch_of old.rest)) none
    ∙ ap (λ items. left (walk_of old) [] (levels_of old) (record { statements = statements_from items; place = old.rest.place; first = old.rest.first })) c.requires

-- out of the loop
out : (c : After-pop) →
    KeptBy c.args.self.now (rounds_of c.pop.new.self) (levels_to c.args.self.now.frames.all c.pop.new.self.depth)
    (stretch_of (record { items = c.at-frame.result.behind; place = c.args.self.now.rest.place; first = c.args.self.now.rest.first }))
out c =
    let old = c.args.self.now in
    let depth = c.depth-depth.result in
    let deep = depth_is old.path depth c.depth-depth.ensures.count c.if-depth-eq0.false in
    let popped = c.pop.ensures (innermost old.path depth) (outer_rounds old.path depth) (rounds_are old.path depth deep) in
    let outer = depth_of c.pop.new.self (outer_rounds old.path depth) (depth - 1) popped (rounds_to-length old.path.numbers old.path.values (depth - 1)) in
    comes_out old depth c.at-frame.result deep c.at-frame.ensures c.requires (c.is_empty.ensures.0 c.if-is_empty.true)
    (rounds_of c.pop.new.self) (levels_to old.frames.all c.pop.new.self.depth) popped (ap (levels_to old.frames.all) outer)

pub invariant_of-self : goal.invariant_of-self
invariant_of-self c = record { sound = (out c).sound; texts = (out c).texts (tree_of c.args.self.now.program.now) c.args.self.now.texts }

pub returns-then-is_empty-clause-kept : goal.returns-then-is_empty-clause-kept
unfolding left_of
returns-then-is_empty-clause-kept c = (out (goal.at.returns-then-is_empty-clause-kept c).After-pop).left_is

pub returns-then-is_empty-clause-moved : goal.returns-then-is_empty-clause-moved
unfolding moves_to_go
returns-then-is_empty-clause-moved c = λ h. (out (goal.at.returns-then-is_empty-clause-moved c).After-pop).moves_are

-- the later trips are small
small : (c : After-at-frame) → list_all is_small (trips_left c.at-frame.result.later) ≡ true
small c =
    let old = c.args.self.now in
    let depth = c.depth-depth.result in
    let deep = depth_is old.path depth c.depth-depth.ensures.count c.if-depth-eq0.false in
    let i = inside (walk_of old) (innermost old.path depth) (outer_rounds old.path depth) (level_of c.at-frame.result) (levels_to old.frames.all (depth - 1)) (stretch_of old.rest)
    (inner_sound old depth c.at-frame.result deep c.at-frame.ensures c.requires) in
    all_small (walk_of old) (outer_rounds old.path depth) (innermost old.path depth).number (level_of c.at-frame.result).body.statements (trips_left c.at-frame.result.later) i.later

pub take-requires-clause-small : goal.take-requires-clause-small
take-requires-clause-small c = small (goal.at.take-requires-clause-small c).After-at-frame

-- the next trip
next : (c : After-self-else-is_empty-1) →
    KeptBy c.args.self.now (rounds_of c.set.new.self) (levels_to c.put_later.new.self.all c.set.new.self.depth) (stretch_of c.at-frame.result.body)
next c =
    let old = c.args.self.now in
    let depth = c.depth-depth.result in
    let f = c.at-frame.result in
    let fits : FitsSigned w64 c.take.result = search rules in
    let deep = depth_is old.path depth c.depth-depth.ensures.count c.if-depth-eq0.false in
    let inner : Round = record { number = (innermost old.path depth).number; value = c.take.result } in
    let pushed : rounds_of c.set.new.self ≡ inner ∷ outer_rounds old.path depth =
    c.set.ensures (innermost old.path depth) (outer_rounds old.path depth) (rounds_are old.path depth deep)
    ∙ ap (λ v. record { number = (innermost old.path depth).number; value = v } ∷ outer_rounds old.path depth) (to_z-of_z w64 c.take.result fits) in
    let count = ap suc (rounds_to-length old.path.numbers old.path.values (depth - 1)) in
    let same = depth_of c.set.new.self (inner ∷ outer_rounds old.path depth) (suc (depth - 1)) pushed count in
    let frame : Frame = record { body = f.body; later = c.take.new.self; behind = f.behind } in
    let levels = ap (levels_to c.put_later.new.self.all) same ∙ ap (λ all. levels_to all (suc (depth - 1))) (c.put_later.ensures.all f c.at-frame.ensures) ∙ levels_to-put old.frames.all (depth - 1) frame c.put_later.ensures.room in
    comes_again old depth f deep c.at-frame.ensures c.requires c.take.result (trips_left c.take.new.self) c.take.ensures
    (rounds_of c.set.new.self) (levels_to c.put_later.new.self.all c.set.new.self.depth) (stretch_of f.body) pushed levels refl

pub invariant_of-self-else-is_empty : goal.invariant_of-self-else-is_empty
invariant_of-self-else-is_empty c = record { sound = (next c).sound; texts = (next c).texts (tree_of c.args.self.now.program.now) c.args.self.now.texts }

pub returns-else-is_empty-clause-kept : goal.returns-else-is_empty-clause-kept
unfolding left_of
returns-else-is_empty-clause-kept c = (next (goal.at.returns-else-is_empty-clause-kept c).After-self-else-is_empty-1).left_is

pub returns-else-is_empty-clause-moved : goal.returns-else-is_empty-clause-moved
unfolding moves_to_go
returns-else-is_empty-clause-moved c = λ h. (next (goal.at.returns-else-is_empty-clause-moved c).After-self-else-is_empty-1).moves_are

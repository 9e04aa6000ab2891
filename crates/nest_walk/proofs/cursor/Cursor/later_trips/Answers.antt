use Rattle.std.proofs.Common.{◌∷◌, ◌++◌, ◌+◌, ◌-◌, ◌^◌, ◌<◌, ℕ, suc, ap, subst, ◌∙◌}
use Rattle.nest_tree.specs.View.{statements_from, tree_of}
use Rattle.nest_model.specs.Instances.{works_of}
use Rattle.nest_walk.specs.Cursors.{left_of}
use Rattle.nest_walk.specs.Frames.{level_of, levels_to, stretch_of}
use Rattle.nest_walk.specs.RoundsOf.{rounds_of}
use Rattle.nest_walk.specs.Walks.{left}
use Rattle.nest_walk.specs.TripsLeft.{trips_left}
use Rattle.nest_walk.specs.declared.cursor.Stop.{Stop}
use Rattle.nest_walk.specs.declared.frame.Frame.{Frame}
use Rattle.nest_walk.proofs.CursorMoves.{body_there, depth_is, innermost, levels_of, outer_rounds, rounds_are, shortens, walk_of}
use Rattle.nest_walk.proofs.Levels.{levels_to-put}
use Rattle.nest_walk.proofs.Strips.{body_is, one_work, strip_there, strip_visited}
use Rattle.nest_walk.proofs.WalkMoves.{Shortened, later_visits}
use Rattle.nest_walk.proofs.cursor.Cursor.later_trips.Goals as goal
use Rattle.nest_walk.proofs.cursor.Cursor.later_trips.Goals.{After-put_later}

-- the cursor without the later trips
short : (c : After-put_later) →
    Shortened (walk_of c.args.self.now) (rounds_of c.args.self.now.path) (levels_of c.args.self.now) (stretch_of c.args.self.now.rest)
    (later_visits (walk_of c.args.self.now) (innermost c.args.self.now.path c.depth-depth.result) (outer_rounds c.args.self.now.path c.depth-depth.result) (level_of c.at.result))
    (levels_to c.put_later.new.self.all c.args.self.now.path.depth)
short c =
    let old = c.args.self.now in
    let depth = c.depth-depth.result in
    let f = c.at.result in
    let deep = depth_is old.path depth c.depth-depth.ensures.count c.if-depth-eq0.false in
    let frame : Frame = record { body = f.body; later = c.new.result; behind = f.behind } in
    let levels = ap (levels_to c.put_later.new.self.all) deep ∙ ap (λ all. levels_to all (suc (depth - 1))) (c.put_later.ensures.all f c.at.ensures) ∙ levels_to-put old.frames.all (depth - 1) frame c.put_later.ensures.room
    ∙ ap (λ vs. record { body = (level_of f).body; later = vs; behind = (level_of f).behind } ∷ levels_to old.frames.all (depth - 1)) c.new.ensures in
    shortens old depth f deep c.at.ensures c.requires (levels_to c.put_later.new.self.all old.path.depth) levels

pub invariant_of-self : goal.invariant_of-self
invariant_of-self c = let k = (goal.at.invariant_of-self c).After-put_later in record { sound = (short k).sound; texts = (short k).texts (tree_of c.args.self.now.program.now) c.args.self.now.texts }

pub invariant_of-strip : goal.invariant_of-strip
invariant_of-strip c =
    let old = c.args.self.now in
    let tree = tree_of old.program.now in
    let depth = c.depth-depth.result in
    let f = c.at.result in
    let inner = innermost old.path depth in
    let outer = outer_rounds old.path depth in
    let deep = depth_is old.path depth c.depth-depth.ensures.count c.if-depth-eq0.false in
    let known = body_there old depth f deep c.at.ensures c.requires in
    let only = c.in_ok-item.ensures in
    let item = c.in_ok-item.item in
    let items = f.body.items.now in
    let s : Stop = record { item = item; place = f.body.place; first = f.body.first } in
    let body = body_is items item.now only.0 only.1 only.2 only.3 only.4 only.5 in
    let few : f.body.first + 1 < 2 ^ 32 = subst (λ (n : ℕ). f.body.first + n < 2 ^ 32) (ap works_of body ∙ one_work only.0 only.1 only.2 only.3) known.few in
    let at = strip_there tree outer inner.number s only.0 only.1 only.2 only.3 only.4 inner.value (rounds_of old.path) (statements_from items) (rounds_are old.path depth deep) body known.number known.numbers few known.text in
    record { plain = at.plain; inside = at.inside; small = known.small; reached = at.reached; text = at.text }

pub returns-clause-left : goal.returns-clause-left
unfolding left_of
returns-clause-left c =
    let k = (goal.at.returns-clause-left c).After-put_later in
    let old = c.args.self.now in
    let tree = tree_of old.program.now in
    let depth = c.depth-depth.result in
    let f = c.at.result in
    let inner = innermost old.path depth in
    let outer = outer_rounds old.path depth in
    let deep = depth_is old.path depth c.depth-depth.ensures.count c.if-depth-eq0.false in
    let only = c.in_ok-item.ensures in
    let item = c.in_ok-item.item in
    let items = f.body.items.now in
    let s : Stop = record { item = item; place = f.body.place; first = f.body.first } in
    let body = body_is items item.now only.0 only.1 only.2 only.3 only.4 only.5 in
    let new = left (walk_of old) (rounds_of old.path) (levels_to c.put_later.new.self.all old.path.depth) (stretch_of old.rest) in
    (short k).left_is
    ∙ ap (λ xs. xs ++ new) (strip_visited tree outer inner.number s only.0 only.1 only.2 only.3 only.4 (walk_of old).enters inner.value (rounds_of old.path) (statements_from items) (trips_left f.later) (rounds_are old.path depth deep) body)

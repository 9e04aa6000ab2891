use Rattle.std.proofs.Common.{◌+◌, ◌^◌, ◌++◌, ap, subst, sym, ◌∙◌, arith}
use Rattle.std.proofs.lemmas.Bool.{and_from, lt-ltb}
use Rattle.nest_tree.specs.View.{statement_of, tree_of}
use Rattle.nest_model.specs.Instances.{works_in}
use Rattle.nest_model.specs.Visits.{visits_of}
use Rattle.nest_walk.specs.Cursors.{left_of, moves_to_go}
use Rattle.nest_walk.specs.Frames.{stretch_of}
use Rattle.nest_walk.specs.InText.{AreInText}
use Rattle.nest_walk.specs.Moves.{moves_left}
use Rattle.nest_walk.specs.Paths.{by_number}
use Rattle.nest_walk.specs.RoundsOf.{rounds_of}
use Rattle.nest_walk.specs.Walks.{is_sound, left}
use Rattle.nest_walk.proofs.CursorMoves.{after_is, walk_of, levels_of, passes}
use Rattle.nest_walk.proofs.WalkMoves.{are_numbered, moves_some}
use Rattle.nest_walk.proofs.cursor.Cursor.advance.Goals as goal

pub invariant_of-self : goal.invariant_of-self
invariant_of-self c =
    let old = c.args.self.now in
    let p = passes old c.args.item.now c.args.behind.now c.requires.rest in
    let same = after_is old c.args.item.now c.args.behind.now c.args.stops c.args.works c.requires.stops c.requires.works in record {
      sound = ap (is_sound (walk_of old) (rounds_of old.path) (levels_of old)) (sym same) ∙ p.sound;
      texts = subst (AreInText (tree_of old.program.now) (walk_of old) (rounds_of old.path) (levels_of old)) same (p.texts (tree_of old.program.now) old.texts);
    }

pub returns-clause-left : goal.returns-clause-left
unfolding left_of
returns-clause-left c =
    let old = c.args.self.now in
    let p = passes old c.args.item.now c.args.behind.now c.requires.rest in
    let same = after_is old c.args.item.now c.args.behind.now c.args.stops c.args.works c.requires.stops c.requires.works in
    p.left_is ∙ ap (λ s. visits_of (walk_of old).params (walk_of old).enters (statement_of c.args.item.now) old.rest.place old.rest.first (by_number (walk_of old).loops (rounds_of old.path)) ++ left (walk_of old) (rounds_of old.path) (levels_of old) s) same

pub returns-clause-moved : goal.returns-clause-moved
unfolding moves_to_go
returns-clause-moved c =
    let old = c.args.self.now in
    let p = passes old c.args.item.now c.args.behind.now c.requires.rest in
    let same = after_is old c.args.item.now c.args.behind.now c.args.stops c.args.works c.requires.stops c.requires.works in
    let moves = ap (λ s. moves_left (walk_of old) (rounds_of old.path) (levels_of old) s) same in
    omega (arith, p.moves_are, moves, moves_some (walk_of old).params (walk_of old).enters (statement_of c.args.item.now) (by_number (walk_of old).loops (rounds_of old.path)))

pub returns-clause-reached : goal.returns-clause-reached
returns-clause-reached c =
    let old = c.args.self.now in
    let p = passes old c.args.item.now c.args.behind.now c.requires.rest in
    and_from _ _ (and_from _ _ (are_numbered (walk_of old) (rounds_of old.path) (levels_of old) (stretch_of old.rest) old.sound) p.walkable)
    (lt-ltb (old.rest.first + works_in (statement_of c.args.item.now)) (2 ^ 32) p.work)

pub returns-clause-text : goal.returns-clause-text
returns-clause-text c =
    let old = c.args.self.now in
    (passes old c.args.item.now c.args.behind.now c.requires.rest).placed (tree_of old.program.now) old.texts

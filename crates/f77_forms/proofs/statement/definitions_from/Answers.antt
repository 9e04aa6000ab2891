use Rattle.std.proofs.Common.{◌<◌, ◌≤◌, length, map, arith}
use Rattle.std.proofs.lemmas.List.{map_push}
use Rattle.std.proofs.lemmas.Result.{err_from_is_err_and}
use Rattle.std.specs.Vec.Iter.{into_iter_items}
use Rattle.f77_forms.specs.View.{definition_of}
use Rattle.f77_forms.specs.State.{piece_of}
use Rattle.f77_forms.specs.Statements.{listed, definition_next}
use Rattle.f77_forms.proofs.Listed.{definition-shorter, listed-goes, listed-stops, listed-ends, some_left, none_left, fewer_left}
use Rattle.f77_forms.proofs.statement.definitions_from.Goals as goal

pub returns-in_err-definition : goal.returns-in_err-definition
returns-in_err-definition c =
    let some : 0 < length (into_iter_items c.loop-pieces.pieces) = omega arith in
    let p = err_from_is_err_and c.from_residual.result c.from_residual.ensures.1 in
    rw (p.1, p.2) (listed-stops c.in_err-definition.field-0.0 definition_next (listed definition_next (map piece_of (into_iter_items c.args.pieces))) (map definition_of c.loop-pieces.definitions.items) (map piece_of (into_iter_items c.loop-pieces.pieces)) (some_left (into_iter_items c.loop-pieces.pieces) some) c.in_err-definition.ensures c.loop-pieces.invariant)

pub loop-pieces-smaller : goal.loop-pieces-smaller
loop-pieces-smaller c = fewer_left (into_iter_items c.definition_next.new.pieces) (into_iter_items c.loop-pieces.pieces) (definition-shorter (map piece_of (into_iter_items c.loop-pieces.pieces)) (definition_of c.in_ok-definition.definition, map piece_of (into_iter_items c.definition_next.new.pieces)) c.in_ok-definition.ensures)

pub loop-pieces-preserved : goal.loop-pieces-preserved
loop-pieces-preserved c =
    let some : 0 < length (into_iter_items c.loop-pieces.pieces) = omega arith in
    let goes = listed-goes definition_next (listed definition_next (map piece_of (into_iter_items c.args.pieces))) (map definition_of c.loop-pieces.definitions.items) (map piece_of (into_iter_items c.loop-pieces.pieces)) (definition_of c.in_ok-definition.definition, map piece_of (into_iter_items c.definition_next.new.pieces)) (some_left (into_iter_items c.loop-pieces.pieces) some) (definition-shorter (map piece_of (into_iter_items c.loop-pieces.pieces)) (definition_of c.in_ok-definition.definition, map piece_of (into_iter_items c.definition_next.new.pieces)) c.in_ok-definition.ensures) c.in_ok-definition.ensures c.loop-pieces.invariant in
    rw (c.in_ok-push.ensures.items, map_push definition_of c.loop-pieces.definitions.items c.in_ok-definition.definition) goes

pub returns : goal.returns
returns c =
    let none : length (into_iter_items c.loop-pieces.pieces) ≤ 0 = omega arith in
    listed-ends definition_next (listed definition_next (map piece_of (into_iter_items c.args.pieces))) (map definition_of c.loop-pieces.definitions.items) (map piece_of (into_iter_items c.loop-pieces.pieces)) (none_left (into_iter_items c.loop-pieces.pieces) none) c.loop-pieces.invariant

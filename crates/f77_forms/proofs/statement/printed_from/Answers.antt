use Rattle.std.proofs.Common.{◌<◌, ◌≤◌, length, map, arith}
use Rattle.std.proofs.lemmas.List.{map_push}
use Rattle.std.proofs.lemmas.Result.{err_from_is_err_and}
use Rattle.std.specs.Vec.Iter.{into_iter_items}
use Rattle.f77_forms.specs.View.{printed_of}
use Rattle.f77_forms.specs.State.{piece_of}
use Rattle.f77_forms.specs.Statements.{listed, printed_next}
use Rattle.f77_forms.proofs.Listed.{printed-shorter, listed-goes, listed-stops, listed-ends, some_left, none_left, fewer_left}
use Rattle.f77_forms.proofs.statement.printed_from.Goals as goal

pub returns-in_err-item : goal.returns-in_err-item
returns-in_err-item c =
    let some : 0 < length (into_iter_items c.loop-pieces.pieces) = omega arith in
    let p = err_from_is_err_and c.from_residual.result c.from_residual.ensures.1 in
    rw (p.1, p.2) (listed-stops c.in_err-item.field-0.0 printed_next (listed printed_next (map piece_of (into_iter_items c.args.pieces))) (map printed_of c.loop-pieces.items.items) (map piece_of (into_iter_items c.loop-pieces.pieces)) (some_left (into_iter_items c.loop-pieces.pieces) some) c.in_err-item.ensures c.loop-pieces.invariant)

pub loop-pieces-smaller : goal.loop-pieces-smaller
loop-pieces-smaller c = fewer_left (into_iter_items c.printed_next.new.pieces) (into_iter_items c.loop-pieces.pieces) (printed-shorter (map piece_of (into_iter_items c.loop-pieces.pieces)) (printed_of c.in_ok-item.item, map piece_of (into_iter_items c.printed_next.new.pieces)) c.in_ok-item.ensures)

pub loop-pieces-preserved : goal.loop-pieces-preserved
loop-pieces-preserved c =
    let some : 0 < length (into_iter_items c.loop-pieces.pieces) = omega arith in
    let goes = listed-goes printed_next (listed printed_next (map piece_of (into_iter_items c.args.pieces))) (map printed_of c.loop-pieces.items.items) (map piece_of (into_iter_items c.loop-pieces.pieces)) (printed_of c.in_ok-item.item, map piece_of (into_iter_items c.printed_next.new.pieces)) (some_left (into_iter_items c.loop-pieces.pieces) some) (printed-shorter (map piece_of (into_iter_items c.loop-pieces.pieces)) (printed_of c.in_ok-item.item, map piece_of (into_iter_items c.printed_next.new.pieces)) c.in_ok-item.ensures) c.in_ok-item.ensures c.loop-pieces.invariant in
    rw (c.in_ok-push.ensures.items, map_push printed_of c.loop-pieces.items.items c.in_ok-item.item) goes

pub returns : goal.returns
returns c =
    let none : length (into_iter_items c.loop-pieces.pieces) ≤ 0 = omega arith in
    listed-ends printed_next (listed printed_next (map piece_of (into_iter_items c.args.pieces))) (map printed_of c.loop-pieces.items.items) (map piece_of (into_iter_items c.loop-pieces.pieces)) (none_left (into_iter_items c.loop-pieces.pieces) none) c.loop-pieces.invariant

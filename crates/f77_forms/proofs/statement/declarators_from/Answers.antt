use Rattle.std.proofs.Common.{◌<◌, ◌≤◌, length, map, arith}
use Rattle.std.proofs.lemmas.List.{map_push}
use Rattle.std.proofs.lemmas.Result.{err_from_is_err_and}
use Rattle.std.specs.Vec.Iter.{into_iter_items}
use Rattle.f77_forms.specs.View.{declarator_of}
use Rattle.f77_forms.specs.State.{piece_of}
use Rattle.f77_forms.specs.Statements.{listed, declarator_next}
use Rattle.f77_forms.proofs.Listed.{declarator-shorter, listed-goes, listed-stops, listed-ends, some_left, none_left, fewer_left}
use Rattle.f77_forms.proofs.statement.declarators_from.Goals as goal

pub returns-in_err-declarator : goal.returns-in_err-declarator
returns-in_err-declarator c =
    let some : 0 < length (into_iter_items c.loop-alloc.pieces) = omega arith in
    let p = err_from_is_err_and c.from_residual.result c.from_residual.ensures.1 in
    rw (p.1, p.2) (listed-stops c.in_err-declarator.field-0.0 (declarator_next c.args.bounded) (listed (declarator_next c.args.bounded) (map piece_of (into_iter_items c.args.pieces))) (map declarator_of c.loop-alloc.declarators.items) (map piece_of (into_iter_items c.loop-alloc.pieces)) (some_left (into_iter_items c.loop-alloc.pieces) some) c.in_err-declarator.ensures c.loop-alloc.invariant)

pub loop-alloc-smaller : goal.loop-alloc-smaller
loop-alloc-smaller c = fewer_left (into_iter_items c.declarator_next.new.pieces) (into_iter_items c.loop-alloc.pieces) (declarator-shorter c.args.bounded (map piece_of (into_iter_items c.loop-alloc.pieces)) (declarator_of c.in_ok-declarator.declarator, map piece_of (into_iter_items c.declarator_next.new.pieces)) c.in_ok-declarator.ensures)

pub loop-alloc-preserved : goal.loop-alloc-preserved
loop-alloc-preserved c =
    let some : 0 < length (into_iter_items c.loop-alloc.pieces) = omega arith in
    let goes = listed-goes (declarator_next c.args.bounded) (listed (declarator_next c.args.bounded) (map piece_of (into_iter_items c.args.pieces))) (map declarator_of c.loop-alloc.declarators.items) (map piece_of (into_iter_items c.loop-alloc.pieces)) (declarator_of c.in_ok-declarator.declarator, map piece_of (into_iter_items c.declarator_next.new.pieces)) (some_left (into_iter_items c.loop-alloc.pieces) some) (declarator-shorter c.args.bounded (map piece_of (into_iter_items c.loop-alloc.pieces)) (declarator_of c.in_ok-declarator.declarator, map piece_of (into_iter_items c.declarator_next.new.pieces)) c.in_ok-declarator.ensures) c.in_ok-declarator.ensures c.loop-alloc.invariant in
    rw (c.in_ok-push.ensures.items, map_push declarator_of c.loop-alloc.declarators.items c.in_ok-declarator.declarator) goes

pub returns : goal.returns
returns c =
    let none : length (into_iter_items c.loop-alloc.pieces) ≤ 0 = omega arith in
    listed-ends (declarator_next c.args.bounded) (listed (declarator_next c.args.bounded) (map piece_of (into_iter_items c.args.pieces))) (map declarator_of c.loop-alloc.declarators.items) (map piece_of (into_iter_items c.loop-alloc.pieces)) (none_left (into_iter_items c.loop-alloc.pieces) none) c.loop-alloc.invariant

use Rattle.std.proofs.Common.{◌≡◌, ◌+◌, ◌++◌, ◌∷◌, [], drop, map, ap, ◌∙◌}
use Rattle.std.proofs.lemmas.List.{map-append}
use Rattle.comm_system.specs.PieceViews.{direction_seen, piece_in, piece_seen, sides_seen}
use Rattle.comm_system.proofs.RowSteps.{left_more, list_more}
use Rattle.comm_system.proofs.pieces.push_pieces.Goals as goal

pub loop-one-preserved : goal.loop-one-preserved
loop-one-preserved c =
    let sides = c.args.sides.now in
    let k = c.loop-one.one-index in
    let one = c.one-item.result in
    let with = piece_in (direction_seen c.args.range) in
    let seen : sides_seen c.in_ok-producers.producers ≡ sides_seen one = ap (map direction_seen) (c.in_ok-producers.ensures.items ∙ c.as_slice.ensures.value) in
    list_more (map piece_seen c.args.all.now.items ++ map with (map sides_seen sides)) (map piece_seen c.loop-one.all.items) (map piece_seen c.push.new.self.items) (map with (map sides_seen (drop k sides))) (map with (map sides_seen (drop (k + 1) sides))) (with (sides_seen one))
    c.loop-one.invariant
    (ap (map with) (left_more sides_seen sides k one c.loop-one-test.true c.one-item.is))
    (ap (map piece_seen) c.in_ok-push.ensures.items ∙ map-append piece_seen c.loop-one.all.items _ ∙ ap (λ ds. map piece_seen c.loop-one.all.items ++ with ds ∷ []) seen)

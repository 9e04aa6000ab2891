use Rattle.std.proofs.Common.{◌≡◌, ◌+◌, ◌++◌, ◌∷◌, [], List, drop, map, ap, ◌∙◌}
use Rattle.std.proofs.lemmas.List.{map-append}
use Rattle.comm_system.specs.OwnerRows.{Direction}
use Rattle.comm_system.specs.PieceViews.{direction_seen, sides_seen}
use Rattle.comm_system.proofs.RowSteps.{left_more, list_more}
use Rattle.comm_system.proofs.pieces.push_with.Goals as goal

pub loop-one-preserved : goal.loop-one-preserved
loop-one-preserved c =
    let all = c.args.all.now in
    let k = c.loop-one.one-index in
    let one = c.one-item.result in
    let side = direction_seen c.args.side in
    let with = λ (ds : List Direction). side ∷ ds in
    let seen : sides_seen c.in_ok-with_front.field-0 ≡ side ∷ sides_seen one = ap (map direction_seen) (c.in_ok-with_front.ensures ∙ ap (λ ds. c.args.side ∷ ds) c.as_slice.ensures.value) in
    list_more (map sides_seen c.args.more.now.items ++ map with (map sides_seen all)) (map sides_seen c.loop-one.more.items) (map sides_seen c.push.new.self.items) (map with (map sides_seen (drop k all))) (map with (map sides_seen (drop (k + 1) all))) (side ∷ sides_seen one)
    c.loop-one.invariant
    (ap (map with) (left_more sides_seen all k one c.loop-one-test.true c.one-item.is))
    (ap (map sides_seen) c.in_ok-push.ensures.items ∙ map-append sides_seen c.loop-one.more.items _ ∙ ap (λ ds. map sides_seen c.loop-one.more.items ++ ds ∷ []) seen)

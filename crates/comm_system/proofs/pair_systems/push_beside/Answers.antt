use Rattle.std.proofs.Common.{◌+◌, ◌++◌, ◌∷◌, [], drop, get_or, map, negsuc, ap, sym, ◌∙◌}
use Rattle.comm_system.specs.OwnerRows.{beside}
use Rattle.comm_system.specs.PairRows.{apart}
use Rattle.comm_system.specs.PieceViews.{direction_seen}
use Rattle.comm_system.proofs.Growings.{apart-named, behind-more, behind-none, has-at, has-grown}
use Rattle.comm_system.proofs.SystemParts.{beside_more}
use Rattle.comm_system.proofs.pair_systems.push_beside.Goals as goal

pub loop-index-init : goal.loop-index-init
loop-index-init c = behind-none (beside c.args.q c.args.others.now (map direction_seen c.args.sides.now)) c.args.system.now

pub push-requires-clause-named : goal.push-requires-clause-named
push-requires-clause-named c =
    let os = c.args.others.now in
    let q = c.args.q in
    let k = c.loop-index.index in
    let g = c.loop-index.system in
    let h = c.loop-index.invariant in
    let first = has-grown (q ∷ []) h.done c.args.system.now g h.has c.requires.first in
    let others = has-grown os h.done c.args.system.now g h.has c.requires.others in
    apart-named g c.in_ok-row.row c.sign.result q (get_or os k 0) _ c.in_ok-row.ensures.is first (has-at os k g c.loop-index-test.true others)

pub loop-index-preserved : goal.loop-index-preserved
loop-index-preserved c =
    let os = c.args.others.now in
    let sides = c.args.sides.now in
    let q = c.args.q in
    let k = c.loop-index.index in
    let o = get_or os k 0 in
    let row = c.in_ok-row.row in
    let rest = beside q (drop (k + 1) os) (map direction_seen (drop (k + 1) sides)) in
    behind-more (beside q os (map direction_seen sides)) c.args.system.now c.loop-index.system c.push.new.self (beside q (drop k os) (map direction_seen (drop k sides))) (row ∷ []) rest c.loop-index.invariant
    (beside_more q os sides k 0 _ c.loop-index-test.true c.if-index-sides.false ∙ ap (λ r. (r ∷ []) ++ rest) (sym (c.in_ok-row.ensures.is ∙ ap (λ sign. apart sign q o (negsuc 0)) c.sign.ensures)))
    c.in_ok-push.ensures.ok

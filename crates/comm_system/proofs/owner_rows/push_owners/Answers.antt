use Rattle.std.proofs.Common.{◌≡◌, ◌+◌, ◌++◌, ◌∷◌, map, drop, ap, ◌∙◌, sym, arith}
use Rattle.nest_rows.proofs.RowLists.{left-more}
use Rattle.comm_system.specs.OwnerRows.{owner_has, owner_numbers, owner_unknowns, owners_have}
use Rattle.comm_system.specs.OwnerViews.{placed_seen}
use Rattle.comm_system.proofs.RowSteps.{list_more, numbers_more, owners_more, unknowns_more}
use Rattle.comm_system.proofs.owner_rows.push_owners.Goals as goal

pub loop-one-preserved : goal.loop-one-preserved
loop-one-preserved c =
    let placed = c.args.placed.now in
    let k = c.loop-one.one-index in
    let p = c.one-item.result in
    let q = c.loop-one.q in
    let rest = map placed_seen (drop (k + 1) placed) in
    let next : q + owner_unknowns p.anchor.now.dist ≡ q + c.owner_unknowns-q.result = ap (λ n. q + n) (sym c.owner_unknowns-q.ensures.is) in
    let more = unknowns_more placed k p c.loop-one-test.true c.one-item.is in
    record {
      rows = left-more (owners_have c.args.workers c.args.first (map placed_seen placed)) c.args.system.now c.loop-one.system c.push_owner.new.system (owners_have c.args.workers q (map placed_seen (drop k placed))) (owner_has c.args.workers q (placed_seen p)) (owners_have c.args.workers (q + c.owner_unknowns-q.result) rest) c.loop-one.invariant.rows
          (owners_more c.args.workers q placed k p c.loop-one-test.true c.one-item.is ∙ ap (λ n. owner_has c.args.workers q (placed_seen p) ++ owners_have c.args.workers n rest) next) c.in_ok-push_owner.ensures;
      numbers = list_more (owner_numbers c.args.first (map placed_seen placed)) c.loop-one.numbers.items c.push.new.self.items (owner_numbers q (map placed_seen (drop k placed))) (owner_numbers (q + c.owner_unknowns-q.result) rest) q c.loop-one.invariant.numbers
          (numbers_more q placed k p c.loop-one-test.true c.one-item.is ∙ ap (λ n. q ∷ owner_numbers n rest) next) c.in_ok-push.ensures.items;
      room = omega (arith, more, next, c.loop-one.invariant.room);
    }

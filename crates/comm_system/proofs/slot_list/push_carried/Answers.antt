use Rattle.std.proofs.Common.{◌+◌, ◌++◌, ◌∷◌, [], append_assoc, map, ap, sym, ◌∙◌, arith}
use Rattle.std.specs.List.{range_with_len}
use Rattle.std.proofs.lemmas.List.{map-append}
use Rattle.std.proofs.lemmas.List.FromFn.{map-range_with_len_more}
use Rattle.comm_system.specs.SlotViews.{at_level, slot_seen}
use Rattle.comm_system.proofs.slot_list.push_carried.Goals as goal

pub loop-index-preserved : goal.loop-index-preserved
loop-index-preserved c =
    let k = c.loop-index.index in
    let at = at_level (slot_seen c.args.slot) in
    let start = map slot_seen c.args.found.now.items in
    ap (map slot_seen) c.in_ok-push.ensures.items ∙ map-append slot_seen c.loop-index.found.items _
    ∙ ap (λ xs. xs ++ at (k + 1) ∷ []) c.loop-index.invariant ∙ append_assoc start (map at (range_with_len 1 k)) (at (k + 1) ∷ [])
    ∙ ap (λ xs. start ++ xs) (sym (map-range_with_len_more at 1 k (k + 1) (omega arith)))

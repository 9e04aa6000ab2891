use Rattle.std.proofs.Common.{◌+◌, ◌||◌, drop, map, ap, sym, ◌∙◌}
use Rattle.std.specs.List.{flat_map, list_any}
use Rattle.std.proofs.lemmas.List.Folds.{list_any-append}
use Rattle.nest_tree.specs.Loads.{loads_in_item}
use Rattle.nest_tree.specs.View.{printed_of}
use Rattle.nest_tree.proofs.Rows.{printed_more}
use Rattle.own_scalars.specs.OwnScalars.{is_of}
use Rattle.own_scalars.proofs.works.one_item_loads.Goals as goal

pub returns-then-item_loads : goal.returns-then-item_loads
returns-then-item_loads c =
    let p = is_of c.args.scalar in
    let item = c.item-item.result in
    let behind = flat_map loads_in_item (map printed_of (drop (c.loop-item.item-index + 1) c.args.items.now)) in
    let more = ap (list_any p) (printed_more c.args.items.now c.loop-item.item-index item c.loop-item-test.true c.item-item.is) ∙ list_any-append p (loads_in_item (printed_of item)) behind in
    sym (sym c.loop-item.invariant ∙ more ∙ ap (λ b. b || list_any p behind) (sym c.item_loads.ensures ∙ c.if-item_loads.true))

pub loop-item-preserved : goal.loop-item-preserved
loop-item-preserved c =
    let p = is_of c.args.scalar in
    let item = c.item-item.result in
    let behind = flat_map loads_in_item (map printed_of (drop (c.loop-item.item-index + 1) c.args.items.now)) in
    let more = ap (list_any p) (printed_more c.args.items.now c.loop-item.item-index item c.loop-item-test.true c.item-item.is) ∙ list_any-append p (loads_in_item (printed_of item)) behind in
    sym (more ∙ ap (λ b. b || list_any p behind) (sym c.item_loads.ensures ∙ c.if-item_loads.false)) ∙ c.loop-item.invariant

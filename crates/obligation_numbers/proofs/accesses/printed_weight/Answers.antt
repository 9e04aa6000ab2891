use Rattle.std.proofs.Common.{map, false, arith}
use Rattle.std.specs.Prelude.{sum_by}
use Rattle.std.specs.List.{flat_map}
use Rattle.std.proofs.lemmas.List.{at_drop_all}
use Rattle.nest_tree.specs.View.{printed_of}
use Rattle.nest_walk.specs.Tables.{Loaded, loaded_in_item}
use Rattle.comm_system.specs.References.{variable_of}
use Rattle.obligation_numbers.proofs.Walked.{printed_next}
use Rattle.obligation_numbers.proofs.accesses.printed_weight.Goals as goal

pub loop-item-preserved : goal.loop-item-preserved
loop-item-preserved g c =
    let f = λ (x : Loaded). g.W.AccessWeight.weight c.args.weight.now (variable_of x) false in
    let more = printed_next f c.args.items.now c.loop-item.item-index c.item-item.result c.loop-item-test.true c.item-item.is in
    (omega (arith, c.saturating_add-total.ensures), omega (arith, more, c.loop-item.invariant.1, c.item_weight.ensures, c.saturating_add-total.ensures))

pub returns : goal.returns
returns g c =
    let f = λ (x : Loaded). g.W.AccessWeight.weight c.args.weight.now (variable_of x) false in
    let none = at_drop_all (λ xs. sum_by f (flat_map loaded_in_item (map printed_of xs))) c.args.items.now c.loop-item.item-index c.loop-item-test.false in
    omega (arith, none, c.loop-item.invariant.0, c.loop-item.invariant.1)

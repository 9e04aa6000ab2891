use Rattle.std.proofs.Common.{◌≡◌, ◌+◌, length, drop, map, Err, ap, sym, ◌∙◌, rules}
use Rattle.std.specs.List.{flat_map}
use Rattle.std.specs.Option.{option_or}
use Rattle.std.specs.Result.{result_err}
use Rattle.nest_tree.specs.declared.tree.Parameter.{Parameter}
use Rattle.nest_tree.specs.Given.{are_loads_given}
use Rattle.nest_tree.specs.Limits.{wide_loads}
use Rattle.nest_tree.specs.Loads.{loads_in_item}
use Rattle.nest_tree.specs.View.{printed_of}
use Rattle.nest_tree.proofs.Rows.{printed_more}
use Rattle.nest_tree.proofs.Wide.{wide_loads-append, loads_given-append, first_refused}
use Rattle.nest_tree.proofs.limits.check_printed.Goals as goal

pub check_item-requires : goal.check_item-requires
check_item-requires c =
    let given = are_loads_given (length c.args.ends.now) (length c.args.constants.now) in
    let here = loads_in_item (printed_of c.item-item.result) in
    let rest = flat_map loads_in_item (map printed_of (drop (c.loop-item.item-index + 1) c.args.items.now)) in
    let more = printed_more c.args.items.now c.loop-item.item-index c.item-item.result c.loop-item-test.true c.item-item.is in
    (loads_given-append (length c.args.ends.now) (length c.args.constants.now) here rest (sym (ap given more) ∙ c.loop-item.invariant.given)).0

pub returns-in_err-check_item : goal.returns-in_err-check_item
returns-in_err-check_item c =
    let wide = wide_loads (map (λ (p : Parameter). p.value) c.args.constants.now) c.args.ends.now in
    let here = loads_in_item (printed_of c.item-item.result) in
    let rest = flat_map loads_in_item (map printed_of (drop (c.loop-item.item-index + 1) c.args.items.now)) in
    let more = printed_more c.args.items.now c.loop-item.item-index c.item-item.result c.loop-item-test.true c.item-item.is in
    let split = sym c.loop-item.invariant.wide ∙ ap wide more ∙ wide_loads-append _ c.args.ends.now here rest in
    let same : c.from_residual.result ≡ Err c.in_err-check_item.field-0.0 = search rules in
    ap result_err same ∙ first_refused c.in_err-check_item.field-0.0 _ (wide rest) _ c.in_err-check_item.ensures split

pub loop-item-preserved : goal.loop-item-preserved
loop-item-preserved c =
    let wide = wide_loads (map (λ (p : Parameter). p.value) c.args.constants.now) c.args.ends.now in
    let given = are_loads_given (length c.args.ends.now) (length c.args.constants.now) in
    let here = loads_in_item (printed_of c.item-item.result) in
    let rest = flat_map loads_in_item (map printed_of (drop (c.loop-item.item-index + 1) c.args.items.now)) in
    let more = printed_more c.args.items.now c.loop-item.item-index c.item-item.result c.loop-item-test.true c.item-item.is in
    let split = sym c.loop-item.invariant.wide ∙ ap wide more ∙ wide_loads-append _ c.args.ends.now here rest in
    record {
      given = (loads_given-append (length c.args.ends.now) (length c.args.constants.now) here rest (sym (ap given more) ∙ c.loop-item.invariant.given)).1;
      wide = sym (split ∙ ap (λ o. option_or o (wide rest)) (sym c.in_ok-check_item.ensures));
    }

use Rattle.std.proofs.Common.{◌≡◌, ◌+◌, drop, map, Err, ap, sym, ◌∙◌, rules}
use Rattle.std.specs.List.{flat_map}
use Rattle.std.specs.Option.{option_or}
use Rattle.std.specs.Result.{result_err}
use Rattle.nest_tree.specs.Loads.{loads_in_item}
use Rattle.nest_tree.specs.View.{printed_of, tree_of}
use Rattle.nest_tree.proofs.Rows.{printed_more}
use Rattle.nest_tree.proofs.Wide.{first_refused}
use Rattle.nest_walk.specs.Cursors.{loops_in}
use Rattle.nest_walk.specs.Places.{numbers_of}
use Rattle.nest_walk.specs.RoundsOf.{rounds_of}
use Rattle.range_check.specs.Outside.{accesses_outside, are_sound_accesses}
use Rattle.range_check.proofs.Lists.{outside-append, sound-append}
use Rattle.range_check.proofs.check.check_items.Goals as goal

pub check_item-requires-clause-sound : goal.check_item-requires-clause-sound
check_item-requires-clause-sound c =
    let tree = tree_of c.args.program.now in
    let around = numbers_of (rounds_of c.args.path.now) in
    let loops = loops_in tree (rounds_of c.args.path.now) in
    let here = loads_in_item (printed_of c.item-item.result) in
    let rest = flat_map loads_in_item (map printed_of (drop (c.loop-item.item-index + 1) c.args.items.now)) in
    let more = printed_more c.args.items.now c.loop-item.item-index c.item-item.result c.loop-item-test.true c.item-item.is in
    let sound = sound-append tree around loops here rest (sym (ap (are_sound_accesses tree around loops) more) ∙ c.loop-item.invariant.sound) in
    sound.0

pub returns-in_err-check_item : goal.returns-in_err-check_item
returns-in_err-check_item c =
    let tree = tree_of c.args.program.now in
    let loops = loops_in tree (rounds_of c.args.path.now) in
    let out = accesses_outside tree loops c.args.line in
    let here = loads_in_item (printed_of c.item-item.result) in
    let rest = flat_map loads_in_item (map printed_of (drop (c.loop-item.item-index + 1) c.args.items.now)) in
    let more = printed_more c.args.items.now c.loop-item.item-index c.item-item.result c.loop-item-test.true c.item-item.is in
    let split = sym c.loop-item.invariant.first ∙ ap out more ∙ outside-append tree loops c.args.line here rest in
    let same : c.from_residual.result ≡ Err c.in_err-check_item.field-0.0 = search rules in
    ap result_err same ∙ first_refused c.in_err-check_item.field-0.0 _ (out rest) _ c.in_err-check_item.ensures split

pub loop-item-preserved : goal.loop-item-preserved
loop-item-preserved c =
    let tree = tree_of c.args.program.now in
    let around = numbers_of (rounds_of c.args.path.now) in
    let loops = loops_in tree (rounds_of c.args.path.now) in
    let out = accesses_outside tree loops c.args.line in
    let here = loads_in_item (printed_of c.item-item.result) in
    let rest = flat_map loads_in_item (map printed_of (drop (c.loop-item.item-index + 1) c.args.items.now)) in
    let more = printed_more c.args.items.now c.loop-item.item-index c.item-item.result c.loop-item-test.true c.item-item.is in
    let split = sym c.loop-item.invariant.first ∙ ap out more ∙ outside-append tree loops c.args.line here rest in
    let sound = sound-append tree around loops here rest (sym (ap (are_sound_accesses tree around loops) more) ∙ c.loop-item.invariant.sound) in
    record {
      sound = sound.1;
      first = sym (split ∙ ap (λ o. option_or o (out rest)) (sym c.in_ok-check_item.ensures));
    }

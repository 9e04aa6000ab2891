use Rattle.std.proofs.Common.{map, ap, sym, ◌∙◌, arith}
use Rattle.std.proofs.Math.ListN.{get_or-map}
use Rattle.std.proofs.lemmas.List.{length-map}
use Rattle.f77_forms.specs.View.{printed_of}
use Rattle.f77_program.specs.Reaches.{reach_of}
use Rattle.f77_source.specs.Items.{item_subscripts}
use Rattle.f77_source.proofs.Formed.{reach_parts}
use Rattle.f77_source.proofs.item.printed_in.Goals as goal

pub printed_item-requires-clause-affine : goal.printed_item-requires-clause-affine
printed_item-requires-clause-affine c =
    let s = c.args.known.now in
    let items = c.args.printed.now in
    let i = c.loop-item.item-index in
    let item = c.item-item.result in
    ap (λ x. reach_of s (item_subscripts s x)) (ap printed_of c.item-item.is ∙ sym (get_or-map printed_of items i item))
    ∙ reach_parts s (item_subscripts s) (map printed_of items) i (printed_of item) (omega (arith, length-map items printed_of)) c.requires.affine

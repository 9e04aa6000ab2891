use Rattle.std.proofs.Common.{◌≡◌, ap, ◌∙◌, arith}
use Rattle.std.proofs.lemmas.Int.{ints}
use mir.Syntax.{w128}
use mir.Val.{to_z, of_z}
use Rattle.nest_tree.specs.WellFormed.{is_value}
use Rattle.maker_anchors.proofs.Counts.{value_64}
use Rattle.maker_anchors.proofs.places.extent_between.Goals as goal

pub unreachable-requires : goal.unreachable-requires
unreachable-requires c =
    let low : to_z w128 (of_z w128 c.from.result) ≡ c.args.low = omega (arith, ints, c.from.ensures) in
    let high : to_z w128 (of_z w128 c.from-2.result) ≡ c.args.high = omega (arith, ints, c.from-2.ensures) in
    let found = c.in-None.ensures.near (ap is_value low ∙ value_64 c.args.low c.ranges.low) (ap is_value high ∙ value_64 c.args.high c.ranges.high) in
    cc

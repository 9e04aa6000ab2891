use Rattle.std.proofs.Common.{arith}
use Rattle.std.proofs.lemmas.Int.{ints}
use Rattle.nest_tree.proofs.Places.{good_dimension, extent-is}
use Rattle.nest_tree.proofs.layout.extent.Goals as goal

pub overflow_cast-result : goal.overflow_cast-result
overflow_cast-result c =
    let d = good_dimension c.args.bounds c.requires in
    (omega (arith, ints, d.low, d.high, d.ordered), omega (arith, ints, d.low, d.high, d.ordered))

pub returns-clause-extent : goal.returns-clause-extent
returns-clause-extent c =
    let d = good_dimension c.args.bounds c.requires in
    omega (arith, ints, d.low, d.high, d.ordered, extent-is c.args.bounds d)

use Rattle.std.proofs.Common.{arith, ◌-ℤ◌}
use Rattle.std.proofs.lemmas.Int.{ints}
use Rattle.nest_tree.proofs.Places.{good_dimension, inside-ends, count_of-some, extent-is}
use Rattle.nest_tree.proofs.layout.offset.Goals as goal

pub overflow_cast-result : goal.overflow_cast-result
overflow_cast-result c =
    let d = good_dimension c.args.bounds c.requires.good in
    let i = inside-ends c.args.bounds c.args.subscript c.requires.inside in
    (omega (arith, ints, d.low, d.high, i.0, i.1), omega (arith, ints, d.low, d.high, i.0, i.1))

pub returns-clause-offset : goal.returns-clause-offset
returns-clause-offset c =
    let d = good_dimension c.args.bounds c.requires.good in
    let i = inside-ends c.args.bounds c.args.subscript c.requires.inside in
    omega (arith, ints, d.low, d.high, i.0, i.1, count_of-some (c.args.subscript -ℤ c.args.bounds.0) (omega (arith, ints, i.0)))

pub returns-clause-below : goal.returns-clause-below
returns-clause-below c =
    let d = good_dimension c.args.bounds c.requires.good in
    let i = inside-ends c.args.bounds c.args.subscript c.requires.inside in
    omega (arith, ints, d.low, d.high, i.0, i.1, extent-is c.args.bounds d)

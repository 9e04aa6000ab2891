use Rattle.std.proofs.Common.{arith, ap}
use Rattle.std.proofs.Common.{length}
use Rattle.f77_source.proofs.Variables.{bounds-good}
use Rattle.f77_source.proofs.variable.dimensions.Goals as goal

pub overflow_cast-result : goal.overflow_cast-result
overflow_cast-result c =
    let good = bounds-good c.args.known.now.arrays c.args.name.now c.requires.arrays in
    omega (arith, good.1, ap length c.bounds.ensures)

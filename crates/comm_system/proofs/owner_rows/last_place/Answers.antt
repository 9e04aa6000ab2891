use Rattle.std.proofs.Common.{arith}
use Rattle.std.proofs.lemmas.Bool.{le-leb}
use Rattle.std.proofs.lemmas.Int.{ints}
use Rattle.comm_system.proofs.owner_rows.last_place.Goals as goal

pub returns-clause-value : goal.returns-clause-value
returns-clause-value c = omega (arith, ints)

pub returns-clause-narrow : goal.returns-clause-narrow
returns-clause-narrow c = le-leb _ _ (omega (arith, ints))

use Rattle.std.proofs.Common.{arith}
use Rattle.std.proofs.lemmas.Bool.{le-leb}
use Rattle.std.proofs.lemmas.Int.{ints}
use Rattle.nest_systems.proofs.groups.less_both.Goals as goal

pub returns-in-Plus-clause-value : goal.returns-in-Plus-clause-value
returns-in-Plus-clause-value c = rw c.in-Plus.is (omega (arith, ints))

pub returns-in-Plus-clause-narrow : goal.returns-in-Plus-clause-narrow
returns-in-Plus-clause-narrow c = le-leb _ _ (omega (arith, ints))

pub returns-in-Minus-clause-value : goal.returns-in-Minus-clause-value
returns-in-Minus-clause-value c = rw c.in-Minus.is (omega (arith, ints))

pub returns-in-Minus-clause-narrow : goal.returns-in-Minus-clause-narrow
returns-in-Minus-clause-narrow c = le-leb _ _ (omega (arith, ints))

use Rattle.std.proofs.Common.{rules}
use Rattle.std.proofs.lemmas.Int.{wraps}
use Rattle.nest_tree.proofs.arithmetic.negated.Goals as goal

pub returns : goal.returns
returns c = search (rules, wraps)
